-- Repeated judgements: what one more event does to the record.
use Rattle.std.proofs.Common.{◌≡◌, ℕ, zero, suc, ◌≤◌, Bool, true, false, cond, List, ◌∷◌, Option, Some, None, ap, ◌∙◌, refl, arith}
use Rattle.std.specs.Prelude.{◌&&◌, not, nat_lt}
use Rattle.std.proofs.lemmas.Bool.{lt-ltb}
use Rattle.event_words.specs.declared.event.Event.{Event}
use Rattle.event_words.specs.declared.reply.Reply.{Reply}
use Rattle.event_words.specs.declared.reply.Reply.TheVariants as replies
use Rattle.event_words.specs.declared.record.LoggedEvent.{LoggedEvent}
use Rattle.event_words.specs.Events.{same_event}
use Rattle.event_words.specs.Records.{take_event, judgements, is_held}
use Rattle.event_words.proofs.SameEvents.{same_event_self}

pub take_event-cons : (e : Event) (x : LoggedEvent) (xs : List LoggedEvent) → x.event ≡ e → take_event e (x ∷ xs) ≡ Some (x, xs)
take_event-cons e x xs is = ap (λ (t : Bool). cond t (Some (x, xs)) None) (ap (same_event e) is ∙ same_event_self e)

-- What up to n judgements more give, after judgements that all replied Held.
abbrev pub judgements_left : ℕ → Event → List LoggedEvent → Option (Reply × List LoggedEvent)
judgements_left zero e xs = Some (replies.Held, xs)
judgements_left (suc n) e xs = judgements (suc n) e xs

abbrev judged_on : Bool → Bool → ℕ → Event → LoggedEvent → List LoggedEvent → Option (Reply × List LoggedEvent)
judged_on same held n e x xs = cond (not same) None (cond (held && nat_lt 0 n) (judgements n e xs) (Some (x.reply, xs)))

held_by : (n : ℕ) (e : Event) (x : LoggedEvent) (xs : List LoggedEvent) → x.reply ≡ replies.Held → judged_on true true n e x xs ≡ judgements_left n e xs
held_by zero e x xs h = ap (λ (r : Reply). Some (r, xs)) h
held_by (suc n) e x xs h = ap (λ (t : Bool). cond t (judgements (suc n) e xs) (Some (x.reply, xs))) (lt-ltb 0 (suc n) (omega arith))

-- one more that replied Held
pub judgements-held : (n : ℕ) (e : Event) (x : LoggedEvent) (xs : List LoggedEvent) → x.event ≡ e → x.reply ≡ replies.Held → judgements_left (suc n) e (x ∷ xs) ≡ judgements_left n e xs
judgements-held n e x xs is h =
    ap (λ (s : Bool). judged_on s (is_held x.reply) n e x xs) (ap (same_event e) is ∙ same_event_self e)
    ∙ ap (λ (r : Reply). judged_on true (is_held r) n e x xs) h ∙ held_by n e x xs h

-- the last, which didn't reply Held
pub judgements-last : (n : ℕ) (e : Event) (x : LoggedEvent) (xs : List LoggedEvent) → x.event ≡ e → is_held x.reply ≡ false → judgements_left (suc n) e (x ∷ xs) ≡ Some (x.reply, xs)
judgements-last n e x xs is h =
    ap (λ (s : Bool). judged_on s (is_held x.reply) n e x xs) (ap (same_event e) is ∙ same_event_self e)
    ∙ ap (λ (t : Bool). judged_on true t n e x xs) h

pub some_judgements : (max : ℕ) (e : Event) (xs : List LoggedEvent) → 1 ≤ max → judgements max e xs ≡ judgements_left max e xs
some_judgements zero e xs h = absurd (omega arith)
some_judgements (suc n) e xs h = refl
