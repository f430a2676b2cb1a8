-- What the units told of a history: the reply to each word, and their error registers after the last.
use Rattle.std.specs.Prelude.{◌≡◌, ℕ, suc, List, [], ◌∷◌, length}
use Rattle.event_words.specs.declared.record.LoggedEvent.{LoggedEvent}
use Rattle.event_words.specs.declared.reply.Reply.{Reply}
use Rattle.event_words.specs.declared.shape.Shape.{Shape}
use Rattle.event_words.specs.Runs.{logged_first}
use Rattle.event_words.specs.Word.{event_of_word}
use Rattle.unit_core.specs.Units.{FabricState}
use Rattle.unit_core.specs.Fabrics.{state_after_word, reply_to_word}
use Rattle.unit_core.specs.Histories.{logged_in, units_after}
use Rattle.unit_core.specs.Reports.{unit_lines}
use Rattle.script_player.specs.declared.told.Told.{Told}

-- the replies to the words, of which the first stands at the place k
abbrev pub replies_from : ℕ → FabricState → List ℕ → List Reply
replies_from k s [] = []
replies_from k s (w ∷ ws) = reply_to_word s k w ∷ replies_from (suc k) (state_after_word s k w) ws

-- the events of the words with these replies, a reply a word
abbrev pub logged_with : ℕ → List ℕ → List Reply → List LoggedEvent
logged_with k (w ∷ ws) (r ∷ rs) = logged_first k r (event_of_word w) (logged_with (suc k) ws rs)
logged_with k _ _ = []

pub record IsToldOf (told : Told) (shapes : List Shape) (words : List ℕ) : Type 0 where
  pub count : length told.replies.items ≡ length words
  pub events : logged_with 0 words told.replies.items ≡ logged_in shapes words
  pub units : told.errors.items ≡ unit_lines 0 (units_after shapes words)
