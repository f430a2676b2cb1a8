-- Repeated reads: what one more event does to the record.
use Rattle.std.proofs.Common.{◌≡◌, ℕ, zero, suc, Bool, true, false, cond, List, ◌∷◌, Option, Some, None, refl, ap, ◌∙◌, arith}
use Rattle.std.specs.Prelude.{◌&&◌, not, nat_lt}
use Rattle.std.proofs.lemmas.Bool.{lt-ltb}
use Rattle.event_words.specs.declared.event.Event.{Event}
use Rattle.event_words.specs.declared.record.LoggedEvent.{LoggedEvent}
use Rattle.event_words.specs.Events.{same_event}
use Rattle.event_words.specs.Records.{polls, hits}
use Rattle.event_words.proofs.SameEvents.{same_event_self}

-- What up to n reads more give, after reads that all missed.
abbrev pub polls_left : ℕ → Event → ℕ → ℕ → List LoggedEvent → Option (Bool × List LoggedEvent)
polls_left zero e mask value xs = Some (false, xs)
polls_left (suc n) e mask value xs = polls (suc n) e mask value xs

abbrev polled_on : Bool → Bool → ℕ → Event → ℕ → ℕ → List LoggedEvent → Option (Bool × List LoggedEvent)
polled_on same hit n e mask value xs = cond (not same) None (cond (not hit && nat_lt 0 n) (polls n e mask value xs) (Some (hit, xs)))

missed_by : (n : ℕ) (e : Event) (mask value : ℕ) (xs : List LoggedEvent) → polled_on true false n e mask value xs ≡ polls_left n e mask value xs
missed_by zero e mask value xs = refl
missed_by (suc n) e mask value xs = ap (λ (t : Bool). cond t (polls (suc n) e mask value xs) (Some (false, xs))) (lt-ltb 0 (suc n) (omega arith))

-- one more that missed
pub polls-missed : (n : ℕ) (e : Event) (mask value : ℕ) (x : LoggedEvent) (xs : List LoggedEvent) → x.event ≡ e → hits mask value x.reply ≡ false → polls_left (suc n) e mask value (x ∷ xs) ≡ polls_left n e mask value xs
polls-missed n e mask value x xs is h =
    ap (λ (s : Bool). polled_on s (hits mask value x.reply) n e mask value xs) (ap (same_event e) is ∙ same_event_self e)
    ∙ ap (λ (t : Bool). polled_on true t n e mask value xs) h ∙ missed_by n e mask value xs

-- the last, which hit
pub polls-hit : (n : ℕ) (e : Event) (mask value : ℕ) (x : LoggedEvent) (xs : List LoggedEvent) → x.event ≡ e → hits mask value x.reply ≡ true → polls_left (suc n) e mask value (x ∷ xs) ≡ Some (true, xs)
polls-hit n e mask value x xs is h =
    ap (λ (s : Bool). polled_on s (hits mask value x.reply) n e mask value xs) (ap (same_event e) is ∙ same_event_self e)
    ∙ ap (λ (t : Bool). polled_on true t n e mask value xs) h
