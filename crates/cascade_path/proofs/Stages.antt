-- The events of one stage.
use Rattle.std.proofs.Common.{◌≡◌, ℕ, ◌+◌, ◌-◌, Bool, true, false, cond, List, [], ◌∷◌, ◌++◌, length, Option, Some, None, refl, sym, ap, ◌∙◌, subst, arith, length-append, append-nil, append_assoc, ◌⊎◌, ⊎_elim}
use Rattle.std.proofs.lemmas.List.Folds.{list_all-append}
use Rattle.std.specs.Prelude.{nat_le, count_by}
use Rattle.std.specs.List.{AllByRecursion, list_all}
use Rattle.std.proofs.lemmas.Bool.{and_from}
use Rattle.event_words.specs.declared.access.Access.{Access}
use Rattle.event_words.specs.declared.event.Event.{Event}
use Rattle.event_words.specs.declared.event.Event.TheVariants as events
use Rattle.event_words.specs.declared.reply.Denial.{Denial}
use Rattle.event_words.specs.declared.reply.Reply.{Reply}
use Rattle.event_words.specs.declared.reply.Reply.TheVariants as replies
use Rattle.event_words.specs.declared.reply.Verdict.TheVariants as verdicts
use Rattle.event_words.specs.declared.record.LoggedEvent.{LoggedEvent}
use Rattle.event_words.specs.Records.{is_aimed, is_taken, judgements, next_requester, one_stage, stage_following, stage_judged, stage_piece}
use Rattle.shared_log.specs.Callers.{CallerView}
use Rattle.cascade_path.specs.declared.chain.ChainReply.{ChainReply}
use Rattle.cascade_path.specs.declared.chain.ChainReply.TheVariants.{Allowed, Odd}
use Rattle.cascade_path.specs.Making.{MakesEvents}
use Rattle.cascade_path.specs.Answers.{aim_answer, submission_answer, judgement_answer, answer_to, is_beginning, begins}
use Rattle.cascade_path.specs.Stages.{JudgesUntil, MissesAim, PassesStage, Submits, allowed_next, is_undecided, waits}
use Rattle.cascade_path.proofs.Making.{makes_both, same_number}
use Rattle.cascade_path.proofs.Submitting.{Go, submission_count, refused_count, begins_once, refused_begins, before_waits, submission_decides, stage_submitted, stage_unaimed}
use Rattle.cascade_path.proofs.Turns.{IsHeldJudgement, AreJudgements, are_judgements}
use Rattle.cascade_path.proofs.Causes.{count-append}

-- ---- what is said of a reply

taken_waits : (r : Reply) → is_taken r ≡ true → is_undecided (submission_answer 0 r) ≡ true
taken_waits replies.Passed h = refl
taken_waits replies.Queued h = refl
taken_waits _ h = absurd (let n : false ≡ true = h in cc)

pub refused_reply : (r : Reply) → (r ≡ replies.Passed → ⊥) → (r ≡ replies.Queued → ⊥) → is_taken r ≡ false
refused_reply replies.Passed p q = absurd (p refl)
refused_reply replies.Queued p q = absurd (q refl)
refused_reply _ p q = refl

pub aim_refused : (r : Reply) → (r ≡ replies.Aimed → ⊥) → is_aimed r ≡ false
aim_refused replies.Aimed h = absurd (h refl)
aim_refused _ h = refl

odd_aim : (stage : ℕ) (r : Reply) → is_aimed r ≡ false → aim_answer stage r ≡ Some (Odd stage r)
odd_aim stage replies.Aimed h = absurd (let n : true ≡ false = h in cc)
odd_aim stage _ h = refl

pub odd_answer : (stage : ℕ) (r : Reply) → (r ≡ replies.Passed → ⊥) → (r ≡ replies.Queued → ⊥) → (r ≡ replies.Busy → ⊥) → ((d : Denial) → r ≡ replies.Stalled d → ⊥) → submission_answer stage r ≡ Some (Odd stage r)
odd_answer stage replies.Passed p q b s = absurd (p refl)
odd_answer stage replies.Queued p q b s = absurd (q refl)
odd_answer stage replies.Busy p q b s = absurd (b refl)
odd_answer stage (replies.Stalled d) p q b s = absurd (s d refl)
odd_answer stage _ p q b s = refl

allowed_by : (stage next : ℕ) (b : Bool) → allowed_next (cond b (Allowed next) (Odd stage (replies.Verdict (verdicts.Allowed next)))) ≡ cond b (Some next) None
allowed_by stage next true = refl
allowed_by stage next false = refl

-- the next stage bears what the verdict allows
next_is : (stage place : ℕ) (r : Reply) → allowed_next (judgement_answer stage place r) ≡ next_requester r
next_is stage place (replies.Verdict (verdicts.Allowed next)) = allowed_by stage next (nat_le next 63)
next_is stage place _ = refl

-- ---- held judgements

held_wait : (u c p : ℕ) (xs : List LoggedEvent) → AllByRecursion (IsHeldJudgement u c p) xs → list_all waits xs ≡ true
held_wait u c p [] h = refl
held_wait u c p (x ∷ xs) h =
    and_from (waits x) (list_all waits xs)
    (ap (λ (e : Event). is_undecided (answer_to 0 e x.reply)) h.0.event ∙ ap (λ (r : Reply). is_undecided (answer_to 0 (events.Judge u c p) r)) h.0.reply)
    (held_wait u c p xs h.1)

held_begin_none : (u c p : ℕ) (xs : List LoggedEvent) → AllByRecursion (IsHeldJudgement u c p) xs → count_by is_beginning xs ≡ 0
held_begin_none u c p [] h = refl
held_begin_none u c p (x ∷ xs) h =
    let one : count_by is_beginning (x ∷ []) ≡ 0 = ap (λ (e : Event). 0 + cond (begins e) 1 0) h.0.event in
    omega (arith, count-append is_beginning (x ∷ []) xs, held_begin_none u c p xs h.1)

judgements_begin_none : (u c p : ℕ) (held : List LoggedEvent) (last : LoggedEvent) → AllByRecursion (IsHeldJudgement u c p) held → last.event ≡ events.Judge u c p → count_by is_beginning (held ++ last ∷ []) ≡ 0
judgements_begin_none u c p held last all e =
    let none : count_by is_beginning (last ∷ []) ≡ 0 = ap (λ (v : Event). 0 + cond (begins v) 1 0) e in
    omega (arith, count-append is_beginning held (last ∷ []), held_begin_none u c p held all)

all_judgements : (tries u c p : ℕ) (r : Reply) (made : List LoggedEvent) → ((rest : List LoggedEvent) → judgements tries (events.Judge u c p) (made ++ rest) ≡ Some (r, rest)) → AreJudgements u c p r made
all_judgements tries u c p r made judged = are_judgements tries u c p r made (ap (judgements tries (events.Judge u c p)) (sym (append-nil made)) ∙ judged [])

last_decides : (stage u c p : ℕ) (x : LoggedEvent) (r : Reply) → x.event ≡ events.Judge u c p → x.reply ≡ r → answer_to stage x.event x.reply ≡ Some (judgement_answer stage p r)
last_decides stage u c p x r is replied = ap (λ (v : Event). answer_to stage v x.reply) is ∙ ap (answer_to stage (events.Judge u c p)) replied

-- ---- what follows a submission

-- one that wasn't taken
refused_piece : (n tries unit : ℕ) (x : LoggedEvent) (answer : ChainReply) → is_taken x.reply ≡ false → allowed_next answer ≡ None → (go : Go) (rest : List LoggedEvent)
    → stage_piece n tries unit go (Some (x, rest)) ≡ stage_following go (allowed_next answer) rest
refused_piece n tries unit x answer refused none go rest =
    ap (λ (t : Bool). cond t (stage_judged go (judgements tries (events.Judge unit n x.place) rest)) (Some rest)) refused
    ∙ ap (λ (o : Option ℕ). stage_following go o rest) (sym none)

-- one that was taken, and its judgements
taken_piece : (stage n tries unit place : ℕ) (x : LoggedEvent) (last : Reply) (made : List LoggedEvent) → ((rest : List LoggedEvent) → judgements tries (events.Judge unit n place) (made ++ rest) ≡ Some (last, rest))
    → is_taken x.reply ≡ true → x.place ≡ place → (go : Go) (rest : List LoggedEvent)
    → stage_piece n tries unit go (Some (x, made ++ rest)) ≡ stage_following go (allowed_next (judgement_answer stage place last)) rest
taken_piece stage n tries unit place x last made judged taken there go rest =
    ap (λ (t : Bool). cond t (stage_judged go (judgements tries (events.Judge unit n x.place) (made ++ rest))) (Some (made ++ rest))) taken
    ∙ ap (λ (p : ℕ). stage_judged go (judgements tries (events.Judge unit n p) (made ++ rest))) there
    ∙ ap (stage_judged go) (judged rest)
    ∙ ap (λ (o : Option ℕ). stage_following go o rest) (sym (next_is stage place last))

-- the events of a whole stage, with the submission's apart
apart : (before made held : List LoggedEvent) (x last : LoggedEvent) (rest : List LoggedEvent) → made ≡ held ++ last ∷ [] → ((before ++ x ∷ held) ++ last ∷ []) ++ rest ≡ (before ++ x ∷ []) ++ (made ++ rest)
apart before made held x last rest is =
    append_assoc (before ++ x ∷ held) (last ∷ []) rest ∙ append_assoc before (x ∷ held) (last ∷ rest)
    ∙ ap (λ (l : List LoggedEvent). before ++ x ∷ l) (sym (append_assoc held (last ∷ []) rest))
    ∙ ap (λ (l : List LoggedEvent). before ++ x ∷ (l ++ rest)) (sym is)
    ∙ sym (append_assoc before (x ∷ []) (made ++ rest))

without_rest : (before made held : List LoggedEvent) (x last : LoggedEvent) → made ≡ held ++ last ∷ [] → (before ++ x ∷ []) ++ made ≡ (before ++ x ∷ held) ++ last ∷ []
without_rest before made held x last is =
    append_assoc before (x ∷ []) made ∙ ap (λ (l : List LoggedEvent). before ++ x ∷ l) is ∙ sym (append_assoc before (x ∷ held) (last ∷ []))

module _ {M S : Type 0} (after : S → ℕ → ℕ → S) (reply : S → ℕ → ℕ → Reply) where
  -- an aim that was refused
  pub passes_unaimed : (c d : CallerView M S) (stage unit : ℕ) (a : Access) (tries : ℕ) (answer : ChainReply) → MissesAim after reply c stage a answer d → PassesStage after reply c stage unit a tries answer d
  passes_unaimed c d stage unit a tries answer s = record {
    earlier = [];
    last = s.aim;
    adds = s.adds;
    few = let n = refused_count c.number a s.aim s.is in omega arith;
    record_is = λ go rest. stage_unaimed c.number tries unit a go s.aim rest s.is ∙ ap (λ (x : ChainReply). stage_following go (allowed_next x) rest) (sym s.decides);
    beginnings = refused_begins c.number a s.aim s.is;
    waiting = refl;
    decided = ap (λ (e : Event). answer_to stage e s.aim.reply) s.is.aims ∙ odd_aim stage s.aim.reply s.is.refused ∙ ap (λ (x : ChainReply). Some x) (sym s.decides);
  }

  -- a submission that wasn't taken
  pub passes_refused : (c d : CallerView M S) (stage unit : ℕ) (a : Access) (tries : ℕ) (r : Reply) (answer : ChainReply) → Submits after reply c unit a r d → is_taken r ≡ false → submission_answer stage r ≡ Some answer → allowed_next answer ≡ None
      → PassesStage after reply c stage unit a tries answer d
  passes_refused c d stage unit a tries r answer s refused decided none = record {
    earlier = s.before;
    last = s.last;
    adds = s.adds;
    few = let n = submission_count unit c.number a s.before s.last s.is in omega arith;
    record_is = λ go rest. stage_submitted c.number tries unit a go s.before s.last rest s.is ∙ refused_piece c.number tries unit s.last answer (ap is_taken s.replied ∙ refused) none go rest;
    beginnings = begins_once unit c.number a s.before s.last s.is;
    waiting = before_waits unit c.number a s.before s.last s.is;
    decided = submission_decides unit c.number a s.before s.last stage s.is ∙ ap (submission_answer stage) s.replied ∙ decided;
  }

  -- a submission that was taken, and its judgements
  stage_judged_at : (c d f : CallerView M S) (stage unit : ℕ) (a : Access) (tries place : ℕ) (r last : Reply) → Submits after reply c unit a r d → is_taken r ≡ true → place ≡ length d.log - 1
      → JudgesUntil after reply d (events.Judge unit d.number place) tries last f → PassesStage after reply c stage unit a tries (judgement_answer stage place last) f
  stage_judged_at c d f stage unit a tries place r last s taken at judged =
      let x : LoggedEvent = s.last in
      let first : List LoggedEvent = s.before ++ x ∷ [] in
      let same : d.number ≡ c.number = same_number after reply c d first s.adds in
      let j : JudgesUntil after reply d (events.Judge unit c.number place) tries last f = subst (λ (n : ℕ). JudgesUntil after reply d (events.Judge unit n place) tries last f) same judged in
      let there : x.place ≡ place = let l = s.place in omega arith in
      let is_taken_here : is_taken x.reply ≡ true = ap is_taken s.replied ∙ taken in
      let js : AreJudgements unit c.number place last j.made = all_judgements tries unit c.number place last j.made j.record_is in
      let whole : first ++ j.made ≡ (s.before ++ x ∷ js.held) ++ js.last ∷ [] = without_rest s.before j.made js.held x js.last js.is in record {
        earlier = s.before ++ x ∷ js.held;
        last = js.last;
        adds = subst (λ (l : List LoggedEvent). MakesEvents after reply c l f) whole (makes_both after reply c d f first j.made s.adds j.adds);
        few = let n = j.few in let k = submission_count unit c.number a s.before x s.is in omega (arith, ap length js.is, length-append js.held (js.last ∷ []), length-append s.before (x ∷ js.held));
        record_is = λ go rest.
            ap (one_stage c.number tries unit a go) (apart s.before j.made js.held x js.last rest js.is)
            ∙ stage_submitted c.number tries unit a go s.before x (j.made ++ rest) s.is
            ∙ taken_piece stage c.number tries unit place x last j.made j.record_is is_taken_here there go rest;
        beginnings = let b = begins_once unit c.number a s.before x s.is in let n = judgements_begin_none unit c.number place js.held js.last js.all_held js.event in
            ap (count_by is_beginning) (sym whole) ∙ ap (λ (l : List LoggedEvent). count_by is_beginning (first ++ l)) js.is ∙ count-append is_beginning first (js.held ++ js.last ∷ []) ∙ (omega arith);
        waiting = list_all-append waits s.before (x ∷ js.held) ∙ and_from _ _ (before_waits unit c.number a s.before x s.is)
            (and_from (waits x) (list_all waits js.held) (ap is_undecided (submission_decides unit c.number a s.before x 0 s.is) ∙ taken_waits x.reply is_taken_here) (held_wait unit c.number place js.held js.all_held));
        decided = last_decides stage unit c.number place js.last last js.event js.reply_is;
      }

  pub passes_judged : (c d f : CallerView M S) (stage unit : ℕ) (a : Access) (tries place seen : ℕ) (r last : Reply) (answer : ChainReply) → Submits after reply c unit a r d → (r ≡ replies.Passed) ⊎ (r ≡ replies.Queued) → seen ≡ length d.log → place ≡ seen - 1
      → JudgesUntil after reply d (events.Judge unit d.number place) tries last f → answer ≡ judgement_answer stage place last → PassesStage after reply c stage unit a tries answer f
  passes_judged c d f stage unit a tries place seen r last answer s taken is at judged decided =
      subst (λ (x : ChainReply). PassesStage after reply c stage unit a tries x f) (sym decided)
      (stage_judged_at c d f stage unit a tries place r last s (⊎_elim (λ e. ap is_taken e) (λ e. ap is_taken e) taken) (at ∙ ap (λ (n : ℕ). n - 1) is) judged)
