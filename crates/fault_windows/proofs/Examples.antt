-- Histories whose readings show late violations.
use Rattle.std.proofs.Common.{◌≡◌, ℕ, List, [], ◌∷◌, ◌++◌, Some, None, refl, true, false}
use Rattle.event_words.specs.declared.shape.Shape.{Shape}
use Rattle.event_words.specs.declared.access.Access.{Access}
use Rattle.event_words.specs.declared.access.Kind.{Kind}
use Rattle.event_words.specs.declared.access.Kind.TheVariants.{Read, Write}
use Rattle.event_words.specs.declared.event.Event.{Event}
use Rattle.event_words.specs.declared.event.Event.TheVariants.{RegWrite, RegRead, Submit, Judge, Aim, Wide}
use Rattle.unit_core.specs.Histories.{History}
use Rattle.fault_windows.specs.LateViolations.{is_late}
use Rattle.fault_windows.specs.Windows.{window_bits, pending_after, pending_at, turn_at, shown_at}

abbrev pub small : Shape
small = record { rrids = 4; domains = 3; entries = 8; mdcfg = 0; k = 0; srcmd = 0; sps = false; queue = 1; transl = None }

abbrev pub byte_at : ℕ → Kind → ℕ → Access
byte_at rrid kind addr = record { rrid = rrid; kind = kind; addr = addr; len = 1 }

-- Domain 0 has all entries, requester 3 is in it, and checking is on.
abbrev pub opening : List Event
opening = RegWrite 0 0 0x200 8 ∷ RegWrite 0 0 0x418 2 ∷ RegWrite 0 0 2 1 ∷ []

abbrev of_events : List Event → History
of_events es = record { shapes = small ∷ []; events = es }

-- ---- two violations of one requester, of which the second is late

abbrev twice : History
twice = of_events (opening ++ Submit 0 0 (byte_at 3 Read 0x10) ∷ Judge 0 0 3 ∷ Submit 0 0 (byte_at 3 Write 0x20) ∷ Judge 0 0 5 ∷ RegRead 0 0 29 ∷ RegRead 0 0 29 ∷ [])

first_in_time : is_late twice 0 3 4 ≡ false
first_in_time = refl

second_late : is_late twice 0 3 6 ≡ true
second_late = refl

shown_once : shown_at twice 0 7 ≡ Some (record { unit = 0; window = 0; bits = 8 })
unfolding pending_after window_bits
shown_once = refl

then_none : shown_at twice 0 8 ≡ None
unfolding pending_after window_bits
then_none = refl

none_left : pending_at twice 0 9 ≡ []
unfolding pending_after window_bits
none_left = refl

-- ---- an unknown requester counts too, and the windows are taken in turn

abbrev turns : History
turns = of_events (opening ++ Submit 0 0 (byte_at 40 Read 0) ∷ Judge 0 0 3 ∷ Submit 0 0 (byte_at 40 Read 0) ∷ Judge 0 0 5 ∷ Submit 0 0 (byte_at 3 Read 0) ∷ Judge 0 0 7 ∷ RegRead 0 0 29 ∷ RegRead 0 0 29 ∷ RegRead 0 0 29 ∷ [])

both_pending : pending_at turns 0 9 ≡ 3 ∷ 40 ∷ []
unfolding pending_after window_bits
both_pending = refl

window_0 : shown_at turns 0 9 ≡ Some (record { unit = 0; window = 0; bits = 0x8 })
unfolding pending_after window_bits
window_0 = refl

window_2 : shown_at turns 0 10 ≡ Some (record { unit = 0; window = 2; bits = 0x100 })
unfolding pending_after window_bits
window_2 = refl

nothing : shown_at turns 0 11 ≡ None
unfolding pending_after window_bits
nothing = refl

turn_goes_on : turn_at turns 0 12 ≡ 3
unfolding pending_after window_bits
turn_goes_on = refl

all_shown : pending_at turns 0 12 ≡ []
unfolding pending_after window_bits
all_shown = refl

-- ---- a wide access is that of its caller's aim

abbrev widely : History
widely = of_events (opening ++ Submit 0 0 (byte_at 3 Read 0x10) ∷ Judge 0 0 3 ∷ Aim 0 0x20 ∷ Wide 0 0 3 Write 1 ∷ Judge 0 0 6 ∷ RegRead 0 0 29 ∷ [])

wide_late : is_late widely 0 3 7 ≡ true
wide_late = refl

wide_shown : shown_at widely 0 8 ≡ Some (record { unit = 0; window = 0; bits = 8 })
unfolding pending_after window_bits
wide_shown = refl

-- ---- All are stalled, one submission is queued, and the others are refused as violations.

abbrev refused : History
refused = of_events (opening ++ RegWrite 0 0 24 8 ∷ RegWrite 0 0 12 1 ∷ Submit 0 0 (byte_at 3 Read 0x10) ∷ Submit 0 0 (byte_at 3 Read 0x10) ∷ Submit 0 0 (byte_at 2 Read 0x10) ∷ Submit 0 0 (byte_at 3 Read 0x10) ∷ RegWrite 0 0 25 1 ∷ Submit 0 0 (byte_at 3 Read 0x10) ∷ RegRead 0 0 29 ∷ [])

first_refused : is_late refused 0 3 6 ≡ false
first_refused = refl

last_refused : is_late refused 0 3 8 ≡ true
last_refused = refl

record_cleared : is_late refused 0 3 10 ≡ false
record_cleared = refl

refused_pending : pending_at refused 0 11 ≡ 2 ∷ 3 ∷ []
unfolding pending_after window_bits
refused_pending = refl
