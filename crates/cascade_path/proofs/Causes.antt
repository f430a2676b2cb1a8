-- What events decide, wherever they stand.
use Rattle.std.proofs.Common.{◌≡◌, ℕ, ◌+◌, Bool, true, false, cond, List, [], ◌∷◌, ◌++◌, Option, Some, None, refl, ap, ◌∙◌, arith}
use Rattle.std.specs.Prelude.{◌||◌, nat_le, count_by}
use Rattle.std.specs.List.{list_all, list_any, last_or}
use Rattle.std.proofs.lemmas.Bool.{and_parts}
use Rattle.std.proofs.lemmas.List.Sums.{sum_by-append}
use Rattle.event_words.specs.declared.event.Event.{Event}
use Rattle.event_words.specs.declared.event.Event.TheVariants as events
use Rattle.event_words.specs.declared.reply.Reply.{Reply}
use Rattle.event_words.specs.declared.reply.Denial.{Denial}
use Rattle.event_words.specs.declared.reply.Reply.TheVariants as replies
use Rattle.event_words.specs.declared.reply.Verdict.{Verdict}
use Rattle.event_words.specs.declared.reply.Verdict.TheVariants as verdicts
use Rattle.event_words.specs.declared.record.LoggedEvent.{LoggedEvent}
use Rattle.cascade_path.specs.declared.chain.ChainReply.{ChainReply}
use Rattle.cascade_path.specs.declared.chain.ChainReply.TheVariants.{Allowed, Denied, Busy, Open, Odd}
use Rattle.cascade_path.specs.Answers.{aim_answer, submission_answer, verdict_answer, judgement_answer, answer_to, event_answer, is_some_of, decides}
use Rattle.cascade_path.specs.Stages.{is_undecided, waits}

-- ---- lists

pub count-append : {X : Type 0} (p : X → Bool) (xs ys : List X) → count_by p (xs ++ ys) ≡ count_by p xs + count_by p ys
count-append p xs ys = sum_by-append (λ x. cond (p x) 1 0) xs ys

pub last_behind : {X : Type 0} (o : Option X) (xs : List X) (y : X) (ys : List X) → last_or o (xs ++ y ∷ ys) ≡ last_or (Some y) ys
last_behind o [] y ys = refl
last_behind o (x ∷ xs) y ys = last_behind (Some x) xs y ys

-- ---- kinds of answers, whatever the stage

-- The kind of an answer doesn't depend on the stage, and an open one isn't of it.
pub record IsKind (kind : ChainReply → Bool) : Type 0 where
  pub denied : (s t : ℕ) (d : Denial) → kind (Denied s d) ≡ kind (Denied t d)
  pub busy : (s t : ℕ) → kind (Busy s) ≡ kind (Busy t)
  pub still_open : (s t : ℕ) (place : ℕ) → kind (Open s place) ≡ kind (Open t place)
  pub odd : (s t : ℕ) (r : Reply) → kind (Odd s r) ≡ kind (Odd t r)

same_submission : (kind : ChainReply → Bool) → IsKind kind → (s t : ℕ) (r : Reply) → is_some_of kind (submission_answer s r) ≡ is_some_of kind (submission_answer t r)
same_submission kind k s t replies.Passed = refl
same_submission kind k s t replies.Queued = refl
same_submission kind k s t replies.Busy = k.busy s t
same_submission kind k s t (replies.Stalled d) = k.denied s t d
same_submission kind k s t (replies.Value v) = k.odd s t (replies.Value v)
same_submission kind k s t (replies.Verdict v) = k.odd s t (replies.Verdict v)
same_submission kind k s t replies.Held = k.odd s t replies.Held
same_submission kind k s t replies.NoSuch = k.odd s t replies.NoSuch
same_submission kind k s t replies.Aimed = k.odd s t replies.Aimed

same_aim : (kind : ChainReply → Bool) → IsKind kind → (s t : ℕ) (r : Reply) → is_some_of kind (aim_answer s r) ≡ is_some_of kind (aim_answer t r)
same_aim kind k s t replies.Aimed = refl
same_aim kind k s t replies.Passed = k.odd s t replies.Passed
same_aim kind k s t replies.Queued = k.odd s t replies.Queued
same_aim kind k s t replies.Busy = k.odd s t replies.Busy
same_aim kind k s t (replies.Stalled d) = k.odd s t (replies.Stalled d)
same_aim kind k s t (replies.Value v) = k.odd s t (replies.Value v)
same_aim kind k s t (replies.Verdict v) = k.odd s t (replies.Verdict v)
same_aim kind k s t replies.Held = k.odd s t replies.Held
same_aim kind k s t replies.NoSuch = k.odd s t replies.NoSuch

same_allowed : (kind : ChainReply → Bool) → IsKind kind → (s t next : ℕ) (b : Bool) → kind (cond b (Allowed next) (Odd s (replies.Verdict (verdicts.Allowed next)))) ≡ kind (cond b (Allowed next) (Odd t (replies.Verdict (verdicts.Allowed next))))
same_allowed kind k s t next true = refl
same_allowed kind k s t next false = k.odd s t (replies.Verdict (verdicts.Allowed next))

same_verdict : (kind : ChainReply → Bool) → IsKind kind → (s t : ℕ) (v : Verdict) → kind (verdict_answer s v) ≡ kind (verdict_answer t v)
same_verdict kind k s t (verdicts.Allowed next) = same_allowed kind k s t next (nat_le next 63)
same_verdict kind k s t (verdicts.Denied d) = k.denied s t d

same_judgement : (kind : ChainReply → Bool) → IsKind kind → (s t place : ℕ) (r : Reply) → kind (judgement_answer s place r) ≡ kind (judgement_answer t place r)
same_judgement kind k s t place replies.Held = k.still_open s t place
same_judgement kind k s t place (replies.Verdict v) = same_verdict kind k s t v
same_judgement kind k s t place replies.Passed = k.odd s t replies.Passed
same_judgement kind k s t place replies.Queued = k.odd s t replies.Queued
same_judgement kind k s t place replies.Busy = k.odd s t replies.Busy
same_judgement kind k s t place (replies.Stalled d) = k.odd s t (replies.Stalled d)
same_judgement kind k s t place (replies.Value v) = k.odd s t (replies.Value v)
same_judgement kind k s t place replies.NoSuch = k.odd s t replies.NoSuch
same_judgement kind k s t place replies.Aimed = k.odd s t replies.Aimed

same_answer : (kind : ChainReply → Bool) → IsKind kind → (s t : ℕ) (e : Event) (r : Reply) → is_some_of kind (answer_to s e r) ≡ is_some_of kind (answer_to t e r)
same_answer kind k s t (events.Submit u c a) r = same_submission kind k s t r
same_answer kind k s t (events.Judge u c p) r = same_judgement kind k s t p r
same_answer kind k s t (events.RegWrite u c i v) r = refl
same_answer kind k s t (events.RegRead u c i) r = refl
same_answer kind k s t (events.Aim c a) r = same_aim kind k s t r
same_answer kind k s t (events.Wide u c q w n) r = same_submission kind k s t r

-- the kind of what an event decides at a stage
pub decides_at : (kind : ChainReply → Bool) → IsKind kind → (stage : ℕ) (x : LoggedEvent) (answer : ChainReply) → event_answer stage x ≡ Some answer → decides kind x ≡ kind answer
decides_at kind k stage x answer is = same_answer kind k 0 stage x.event x.reply ∙ ap (is_some_of kind) is

-- ---- events after which a stage goes on

-- No open answer is of the kind.
abbrev pub IsClosedKind : (ChainReply → Bool) → Type 0
IsClosedKind kind = (stage place : ℕ) → kind (Open stage place) ≡ false

undecided_kind : (kind : ChainReply → Bool) → IsClosedKind kind → (o : Option ChainReply) → is_undecided o ≡ true → is_some_of kind o ≡ false
undecided_kind kind k None h = refl
undecided_kind kind k (Some (Open s p)) h = k s p
undecided_kind kind k _ h = absurd (let n : false ≡ true = h in cc)

pub none_waiting : (kind : ChainReply → Bool) → IsClosedKind kind → (xs : List LoggedEvent) → list_all waits xs ≡ true → list_any (decides kind) xs ≡ false
none_waiting kind k [] h = refl
none_waiting kind k (x ∷ xs) h =
    let b = and_parts (waits x) (list_all waits xs) h in
    ap (λ (t : Bool). t || list_any (decides kind) xs) (undecided_kind kind k (event_answer 0 x) b.0) ∙ none_waiting kind k xs b.1

pub count_waiting : (kind : ChainReply → Bool) → IsClosedKind kind → (xs : List LoggedEvent) → list_all waits xs ≡ true → count_by (decides kind) xs ≡ 0
count_waiting kind k [] h = refl
count_waiting kind k (x ∷ xs) h =
    let b = and_parts (waits x) (list_all waits xs) h in
    let one : count_by (decides kind) (x ∷ []) ≡ 0 = ap (λ (t : Bool). 0 + cond t 1 0) (undecided_kind kind k (event_answer 0 x) b.0) in
    omega (arith, count-append (decides kind) (x ∷ []) xs, count_waiting kind k xs b.1)
