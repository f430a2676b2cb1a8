-- A judgement of a ticket by its caller replies Held or a verdict, where none before it gave a verdict.
use Rattle.std.proofs.Common.{◌≡◌, ℕ, suc, zero, ◌<◌, List, [], ◌∷◌, ◌++◌, Some, None, length, refl, sym, ap, ◌∙◌, subst, arith, ⊎_elim, ◌⊎◌, inl, inr}
use Rattle.std.specs.Prelude.{slice_get}
use Rattle.std.specs.List.{AllByRecursion}
use Rattle.std.proofs.lemmas.Bool.{cases_eq}
use Rattle.std.proofs.lemmas.Option.{slice_get-get_or}
use Rattle.std.proofs.lemmas.List.{take-append-le}
use Rattle.event_words.specs.declared.shape.Shape.{Shape}
use Rattle.event_words.specs.declared.access.Access.{Access}
use Rattle.event_words.specs.declared.reply.Reply.{Reply}
use Rattle.event_words.specs.declared.reply.Reply.TheVariants as replies
use Rattle.event_words.specs.declared.reply.Verdict.{Verdict}
use Rattle.event_words.specs.declared.record.LoggedEvent.{LoggedEvent}
use Rattle.event_words.specs.Runs.{IsEventWord, run}
use Rattle.unit_core.specs.Units.{fabric_at_reset}
use Rattle.unit_core.specs.Fabrics.{state_after_word, reply_to_word}
use Rattle.unit_core.specs.Histories.{History, event_at, reply_at, history_of}
use Rattle.history_laws.specs.Tickets.{IsTaken, IsOwnJudgement, IsOwnVerdict}
use Rattle.history_laws.proofs.TicketLaw.{ticket_at, reply_once}
use Rattle.history_laws.proofs.Accepted.{Submits}
use Rattle.history_laws.proofs.WordHistories.{word_at_place, event_at_words, reply_at_words}

-- the reply of a judgement that finds its submission
abbrev pub IsJudged : Reply → Type 0
IsJudged r = (r ≡ replies.Held) ⊎ ((v : Verdict) × (r ≡ replies.Verdict v))

held_unless : (h : History) (u c p k : ℕ) (a : Access) (r : Reply) → IsTaken h u c p a → IsOwnJudgement h u c p k
    → ((j : ℕ) → j < k → IsOwnVerdict h u c p j → ⊥) → reply_at h k ≡ Some r → ((v : Verdict) → r ≡ replies.Verdict v → ⊥)
    → r ≡ replies.Held
held_unless h u c p k a r taken own fresh is other =
    let held = (ticket_at h u c p k a taken own.later).held own (λ closed. ⊎_elim
    (λ (e : closed.place ≡ k). other closed.verdict (reply_once h k _ _ is (subst (λ j. reply_at h j ≡ Some (replies.Verdict closed.verdict)) e closed.reply)))
    (λ (ne : closed.place ≡ k → ⊥). fresh closed.place (omega (arith, closed.before, ne)) (record { own = closed.own; verdict = closed.verdict; reply = closed.reply }))
    (cases_eq closed.place k)) in
    reply_once h k _ _ is held

-- In a history: no own judgement before it replied a verdict.
pub judged_open : (h : History) (u c p k : ℕ) (a : Access) (r : Reply) → IsTaken h u c p a → IsOwnJudgement h u c p k
    → ((j : ℕ) → j < k → IsOwnVerdict h u c p j → ⊥) → reply_at h k ≡ Some r → IsJudged r
judged_open h u c p k a (replies.Verdict v) taken own fresh is = inr (v, refl)
judged_open h u c p k a r taken own fresh is =
    inl (held_unless h u c p k a _ taken own fresh is (λ v e. cc))

-- ---- a history and a longer one

get_left : (words more : List ℕ) (k w : ℕ) → slice_get words k ≡ Some w → slice_get (words ++ more) k ≡ Some w
get_left [] more k w q = absurd (let n : None ≡ Some w = q in cc)
get_left (v ∷ ws) more zero w q = q
get_left (v ∷ ws) more (suc k) w q = get_left ws more k w q

pub get_last : (words : List ℕ) (w : ℕ) → slice_get (words ++ w ∷ []) (length words) ≡ Some w
get_last [] w = refl
get_last (v ∷ ws) w = get_last ws w

some_word : (words : List ℕ) (k : ℕ) → k < length words → (w : ℕ) × (slice_get words k ≡ Some w)
some_word words k l = (_, slice_get-get_or words k 0 l)

pub same_event_before : (shapes : List Shape) (words more : List ℕ) → AllByRecursion IsEventWord words
    → AllByRecursion IsEventWord (words ++ more) → (k : ℕ) → k < length words
    → event_at (history_of shapes (words ++ more)) k ≡ event_at (history_of shapes words) k
same_event_before shapes words more all longer k l =
    let w = some_word words k l in
    let e = word_at_place words all k w.0 w.1 in
    event_at_words shapes (words ++ more) longer k w.0 e.event (get_left words more k w.0 w.1) e.back ∙ sym (event_at_words shapes words all k w.0 e.event w.1 e.back)

pub same_reply_before : (shapes : List Shape) (words more : List ℕ) → AllByRecursion IsEventWord words
    → AllByRecursion IsEventWord (words ++ more) → (k : ℕ) → k < length words
    → reply_at (history_of shapes (words ++ more)) k ≡ reply_at (history_of shapes words) k
same_reply_before shapes words more all longer k l =
    let w = some_word words k l in
    reply_at_words shapes (words ++ more) longer k w.0 (get_left words more k w.0 w.1)
    ∙ ap (λ ws. Some (reply_to_word (run state_after_word (fabric_at_reset shapes) ws) k w.0)) (take-append-le k words more (omega arith))
    ∙ sym (reply_at_words shapes words all k w.0 w.1)

-- ---- entries of a log

-- An entry of the log is a submission at place p, which was passed or queued.
pub record IsSubmissionEntry (u c p : ℕ) (x : LoggedEvent) : Type 0 where
  pub place : x.place ≡ p
  pub event : Submits u c x.event
  pub reply : (x.reply ≡ replies.Passed) ⊎ (x.reply ≡ replies.Queued)
