-- What the holder of a seat at the table knows, and how it changes.
use Rattle.std.specs.Prelude.{◌≡◌, ℕ, ◌+◌, ◌<◌, ◌≤◌, true, false, List, [], ◌∷◌, ◌++◌, length}
use Rattle.shared_log.specs.declared.seat_view.SeatView.{SeatView}
use Rattle.shared_log.specs.Words.{words_by, AllEventWords}

-- the first view of all
abbrev pub opening_view : ℕ → ℕ → SeatView
opening_view callers budget =
    record { live = true; number = 0; callers = callers; budget = budget; log = []; made = 1; joined = [] }

-- a view that knows one word more
abbrev pub with_word : SeatView → ℕ → SeatView
with_word v w = record v { log = v.log ++ w ∷ [] }

-- the first caller's view when one more caller was made, and the new caller's view
abbrev pub with_caller : SeatView → SeatView
with_caller v = record v { made = v.made + 1 }

abbrev pub new_caller : SeatView → SeatView
new_caller v =
    record { live = true; number = v.made; callers = v.callers; budget = v.budget; log = v.log; made = 0; joined = [] }

-- the first caller's view with these logs of joined callers
abbrev pub with_joined : SeatView → List (List ℕ) → SeatView
with_joined v logs = record v { joined = logs }

-- the first caller's view when another caller was joined, and what is left of that one's view
abbrev pub with_joined_log : SeatView → SeatView → SeatView
with_joined_log v u = with_joined v (v.joined ++ u.log ∷ [])

abbrev pub spent_view : SeatView
spent_view = record { live = false; number = 0; callers = 0; budget = 0; log = []; made = 0; joined = [] }

-- What holds of a live view by itself. Numbers that no caller has yet are borne by no word.
pub record IsSeatView (v : SeatView) : Type 0 where
  pub number : v.number < v.callers
  pub events : AllEventWords v.log
  pub within : (c : ℕ) → length (words_by c v.log) ≤ v.budget
  pub above : (c : ℕ) → v.callers ≤ c → words_by c v.log ≡ []
  pub later : v.number ≡ 0 → (c : ℕ) → v.made ≤ c → words_by c v.log ≡ []
