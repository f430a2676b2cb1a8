-- Whether an event is a caller's own, and what it is to the events of the caller.
use Rattle.std.proofs.Common.{◌≡◌, ℕ, ◌<◌, true, false, List, ◌∷◌, refl, arith}
use Rattle.std.proofs.lemmas.Bool.Decides.{nat_tests}
use Rattle.event_words.specs.declared.record.LoggedEvent.{LoggedEvent}
use Rattle.event_words.specs.Events.{caller_of}
use Rattle.event_words.specs.Records.{events_by, is_by}

pub own : (i : ℕ) (x : LoggedEvent) (left : List LoggedEvent) → is_by i x ≡ true → events_by i (x ∷ left) ≡ x ∷ events_by i left
own i x left h = rw h refl

pub foreign : (i : ℕ) (x : LoggedEvent) (left : List LoggedEvent) → is_by i x ≡ false → events_by i (x ∷ left) ≡ events_by i left
foreign i x left h = rw h refl

pub is_own : (i : ℕ) (x : LoggedEvent) → caller_of x.event ≡ i → is_by i x ≡ true
is_own i x h = grind (arith, nat_tests)

pub is_below : (i : ℕ) (x : LoggedEvent) → caller_of x.event < i → is_by i x ≡ false
is_below i x h = grind (arith, nat_tests)

pub is_above : (i : ℕ) (x : LoggedEvent) → i < caller_of x.event → is_by i x ≡ false
is_above i x h = grind (arith, nat_tests)
