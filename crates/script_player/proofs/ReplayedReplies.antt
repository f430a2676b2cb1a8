-- The replies of a replay are those of the history, one a word.
use Rattle.std.proofs.Common.{◌≡◌, ℕ, suc, List, [], ◌∷◌, length, refl, ap}
use Rattle.event_words.specs.Word.{event_of_word}
use Rattle.event_words.specs.Runs.{logged_first, logged_from}
use Rattle.unit_core.specs.Units.{FabricState}
use Rattle.unit_core.specs.Fabrics.{state_after_word, reply_to_word}
use Rattle.script_player.specs.ToldHistories.{replies_from, logged_with}

pub as_many_replies : (k : ℕ) (s : FabricState) (words : List ℕ) → length (replies_from k s words) ≡ length words
as_many_replies k s [] = refl
as_many_replies k s (w ∷ ws) = ap suc (as_many_replies (suc k) (state_after_word s k w) ws)

pub logged_replies : (k : ℕ) (s : FabricState) (words : List ℕ) → logged_with k words (replies_from k s words) ≡ logged_from state_after_word reply_to_word k s words
logged_replies k s [] = refl
logged_replies k s (w ∷ ws) = ap (λ xs. logged_first k (reply_to_word s k w) (event_of_word w) xs) (logged_replies (suc k) (state_after_word s k w) ws)
