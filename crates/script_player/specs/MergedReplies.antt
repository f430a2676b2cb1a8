-- The replies to a history's words, made of those that each caller kept.
use Rattle.std.specs.Prelude.{◌≡◌, ◌⊎◌, ℕ, ◌<◌, ◌==◌, if◌then◌else◌, List, [], ◌∷◌, Option, Some, None, length, take, slice_get}
use Rattle.std.specs.Global.{Vec}
use Rattle.event_words.specs.declared.reply.Reply.{Reply}
use Rattle.event_words.specs.declared.shape.Shape.{Shape}
use Rattle.event_words.specs.Runs.{caller_of_word}
use Rattle.script_player.specs.declared.told.Seen.{Seen}
use Rattle.script_player.specs.ToldHistories.{IsToldOf}

-- the replies to the words of caller c, where there is a reply a word
abbrev pub replies_by : ℕ → List ℕ → List Reply → List Reply
replies_by c (w ∷ ws) (r ∷ rs) = if caller_of_word w == c then r ∷ replies_by c ws rs else replies_by c ws rs
replies_by c _ _ = []

-- the list of caller c, empty where it kept none
abbrev pub list_of : List (Option (Vec Reply)) → ℕ → List Reply
list_of kept c = items_in (slice_get kept c)
  where
    items_in : Option (Option (Vec Reply)) → List Reply
    items_in None = []
    items_in (Some None) = []
    items_in (Some (Some list)) = list.items

-- xs are the first of ys, however many
abbrev pub AreFirstOf : List Reply → List Reply → Type 0
AreFirstOf xs ys = (n : ℕ) × (xs ≡ take n ys)

-- There is a reply a word, and the words of each caller have the first replies of its list, in their order.
pub record IsMerged (kept : List (Option (Vec Reply))) (words : List ℕ) (replies : List Reply) : Type 0 where
  pub count : length replies ≡ length words
  pub each : (c : ℕ) → c < 32 → AreFirstOf (replies_by c words replies) (list_of kept c)

-- One caller alone has a reply a word: the first, whose list this is.
pub record IsListOfAll (kept : List (Option (Vec Reply))) (words : List ℕ) (replies : List Reply) : Type 0 where
  pub first : replies ≡ list_of kept 0
  pub count : length replies ≡ length words

-- Replies to words, by what their callers kept.
abbrev pub AreRepliesTo : List (Option (Vec Reply)) → List ℕ → List Reply → Type 0
AreRepliesTo kept words replies = IsListOfAll kept words replies ⊎ IsMerged kept words replies

-- What is told of a history by such replies and the errors that were seen, where all its events were seen.
abbrev pub IsToldBy : List Shape → List ℕ → List (Option (Vec Reply)) → Seen → Type 0
IsToldBy shapes history kept seen =
    (replies : Vec Reply) → AreRepliesTo kept history replies.items → seen.events ≡ length history → IsToldOf (record { replies = replies; errors = seen.errors }) shapes history
