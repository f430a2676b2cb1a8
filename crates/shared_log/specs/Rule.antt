-- The rule of the table: its words are one log of events and then zeros, each live seat knows a
-- beginning of the log that has all words of its own number, and the first caller's seat is live.
use Rattle.std.specs.Prelude.{◌≡◌, ℕ, suc, ◌+◌, ◌*◌, ◌<◌, ◌≤◌, true, List, [], ◌++◌, length, replicate}
use mathlib.Core.Option.{Option, none, some}
use lib.ListN.{get_elem?}
use Rattle.shared_log.specs.declared.seat_view.SeatView.{SeatView}
use Rattle.shared_log.specs.Words.{words_by, AllEventWords, BeginsWithLog}

-- The seat with the number id is a live caller's. `seat` gives each live caller's seat.
pub record IsCallerSeat (callers budget : ℕ) (log : List ℕ) (seat : ℕ → Option ℕ) (made : ℕ) (joined : List (List ℕ)) (id : ℕ) (v : SeatView) : Type 0 where
  pub callers_is : v.callers ≡ callers
  pub budget_is : v.budget ≡ budget
  pub seat_is : seat v.number ≡ some id
  pub has : BeginsWithLog v.number log v.log
  pub first : v.number ≡ 0 → (v.made ≡ made) × (v.joined ≡ joined)

-- Seat 0 is the first caller's: it has number 0, and it stays live while the table is open.
pub record HasLiveFirst (views : List SeatView) : Type 0 where
  pub view : SeatView
  pub seat : get_elem? views 0 ≡ some view
  pub live : view.live ≡ true
  pub number : view.number ≡ 0

-- `made` callers were made so far. `joined` has the logs of the callers 1, 2 and so on that were joined.
pub record IsSharedLog (callers budget : ℕ) (words : List ℕ) (views : List SeatView) : Type 0 where
  pub log : List ℕ
  pub empty_words : ℕ
  pub seat : ℕ → Option ℕ
  pub made : ℕ
  pub joined : List (List ℕ)
  pub words_are : words ≡ log ++ replicate empty_words 0
  pub word_count : length log + empty_words ≡ callers * budget
  pub events : AllEventWords log
  pub few : made ≤ callers
  pub within : (c : ℕ) → length (words_by c log) ≤ budget
  pub unmade : (c : ℕ) → made ≤ c → (words_by c log ≡ []) × (seat c ≡ none)
  pub done : (c : ℕ) (l : List ℕ) → get_elem? joined c ≡ some l → (suc c < made) × (seat (suc c) ≡ none) × BeginsWithLog (suc c) log l
  pub seated : (id : ℕ) (v : SeatView) → get_elem? views id ≡ some v → v.live ≡ true → IsCallerSeat callers budget log seat made joined id v
  pub first : HasLiveFirst views
