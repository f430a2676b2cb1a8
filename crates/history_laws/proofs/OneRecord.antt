-- What one caller alone makes of its section is determined, event by event.
use Rattle.std.proofs.Common.{◌≡◌, ℕ, suc, List, [], ◌∷◌, Option, Some, None, map, refl, sym, ap, subst, ◌∙◌}
use Rattle.event_words.specs.declared.event.Event.{Event}
use Rattle.event_words.specs.declared.reply.Reply.{Reply}
use Rattle.event_words.specs.declared.record.LoggedEvent.{LoggedEvent}
use Rattle.event_words.specs.declared.record.SectionEnd.{SectionEnd}
use Rattle.event_words.specs.declared.section.Command.{Command}
use Rattle.event_words.specs.Word.{word_of}
use Rattle.event_words.specs.Records.{OpenSlot, end_of_commands}
use Rattle.event_words.proofs.ExpectedEvents.{Expected, Ends, Never, Next, end_of, none_some, next_is, expected, expected_is}

module _ {S : Type 0} (after : S → ℕ → ℕ → S) (reply : S → ℕ → ℕ → Reply) where
  abbrev entry : ℕ → S → Event → LoggedEvent
  entry k s e = record { place = k; event = e; reply = reply s k (word_of e) }

  -- events from a place on, each with its place and reply
  abbrev pub entries : ℕ → S → List Event → List LoggedEvent
  entries k s [] = []
  entries k s (e ∷ es) = entry k s e ∷ entries (suc k) (after s k (word_of e)) es

  abbrev pub Same : List Event → List Event → Type 0
  Same v w = map word_of v ≡ map word_of w

  more_same : (x y : Event) (v w : List Event) → word_of x ≡ word_of y → Same v w → Same (x ∷ v) (y ∷ w)
  more_same x y v w e h = cc

  -- The event that comes next is expected by what came before it, so two lists go on alike.
  both_expected : (p : Expected) (k : ℕ) (s : S) (v w : List Event) (a b : SectionEnd)
      → end_of p (entries k s v) ≡ Some a → end_of p (entries k s w) ≡ Some b → Same v w
  both_expected (Ends end) k s [] [] a b h g = refl
  both_expected (Ends end) k s [] (y ∷ w) a b h g = none_some b g
  both_expected (Ends end) k s (x ∷ v) w a b h g = none_some a h
  both_expected Never k s v w a b h g = none_some a h
  both_expected (Next e go) k s [] w a b h g = none_some a h
  both_expected (Next e go) k s (x ∷ v) [] a b h g = none_some b g
  both_expected (Next e go) k s (x ∷ v) (y ∷ w) a b h g =
      let p = next_is e go (entry k s x) (entries (suc k) (after s k (word_of x)) v) a h in
      let q = next_is e go (entry k s y) (entries (suc k) (after s k (word_of y)) w) b g in
      let same : y ≡ x = q.0 ∙ sym p.0 in
      let aligned = subst (λ z. end_of (go (entry k s z)) (entries (suc k) (after s k (word_of z)) w) ≡ Some b) same q.1 in
      more_same x y v w (ap word_of (sym same)) (both_expected (go (entry k s x)) (suc k) (after s k (word_of x)) v w a b p.1 aligned)

  pub section_same : (caller : ℕ) (cs : List Command) (slots : List (Option OpenSlot)) (k : ℕ) (s : S) (v w : List Event) (a b : SectionEnd)
      → end_of_commands caller cs slots (entries k s v) ≡ Some a → end_of_commands caller cs slots (entries k s w) ≡ Some b → Same v w
  section_same caller cs slots k s v w a b h g =
      both_expected (expected caller cs slots) k s v w a b (sym (expected_is caller cs slots (entries k s v)) ∙ h)
      (sym (expected_is caller cs slots (entries k s w)) ∙ g)
