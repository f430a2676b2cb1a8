-- What the steps on the table's words tell.
use Rattle.std.specs.Prelude.{◌≡◌, ◌≢◌, ℕ, slice_index}
use Rattle.atomic_table.specs.Table.{Step, Me}
use Rattle.event_words.specs.Runs.{caller_of_word}
use Rattle.shared_log.specs.declared.seat_view.SeatView.{SeatView}
use Rattle.shared_log.specs.SeatViews.{IsSeatView, with_word}

-- An exchange of the next word, from 0 to this word: where it found 0, the view knows the own word
-- more, and else the word of another caller that it found.
pub record AfterExchange (word : ℕ) (v : SeatView) (found : ℕ) (v' : SeatView) : Type 0 where
  pub valid : IsSeatView v'
  pub won : found ≡ 0 → v' ≡ with_word v word
  pub lost : found ≢ 0 → (v' ≡ with_word v found) × (caller_of_word found ≢ v.number)

abbrev SeatState : Type 0
SeatState = Me (Unit {0}) SeatView

abbrev pub Exchanges : Step (Unit {0}) → SeatState → ℕ → SeatState → Type 0
Exchanges st me found me' = (me'.1 ≡ me.1) × AfterExchange st.second me.0 found me'.0

-- a word of the own log is found again
abbrev pub ReadsBack : Step (Unit {0}) → SeatState → ℕ → SeatState → Type 0
ReadsBack st me found me' = (me' ≡ me) × (found ≡ slice_index me.0.log st.word)
