-- Event words and the events that they are.
use Rattle.std.proofs.Common.{◌≡◌, ◌∙◌, ℕ, Some, ap}
use Rattle.event_words.specs.declared.event.Event.{Event}
use Rattle.event_words.specs.Word.{word_of, event_of_word}
use Rattle.event_words.specs.Valid.{IsValidEvent}
use Rattle.event_words.specs.Runs.{IsEventWord}
use Rattle.event_words.proofs.Runs.{event_of_word-word_of}

-- a word and its event
pub record HasEvent (word : ℕ) : Type 0 where
  pub event : Event
  pub valid : IsValidEvent event
  pub is : word ≡ word_of event
  pub back : event_of_word word ≡ Some event

pub word_event : (word : ℕ) → IsEventWord word → HasEvent word
unfolding IsEventWord
word_event word h = record { event = h.0; valid = h.1; is = h.2; back = ap event_of_word h.2 ∙ event_of_word-word_of h.0 h.1 }
