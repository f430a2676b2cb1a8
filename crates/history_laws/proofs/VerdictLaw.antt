-- A verdict is what the registers of its place decide.
use Rattle.std.specs.Prelude.{slice_get}
use Rattle.std.proofs.Common.{◌≡◌, ℕ, ◌<◌, eqb, Option, Some, None, find, refl, sym, ◌∙◌, subst}
use Rattle.std.proofs.lemmas.Bool.{cond_both, eqb-true, and_parts}
use Rattle.event_words.specs.declared.access.Access.{Access}
use Rattle.event_words.specs.declared.reply.Decision.{Decision}
use Rattle.event_words.specs.declared.reply.Decision.TheVariants as decisions
use Rattle.event_words.specs.declared.event.Event.TheVariants.{Judge}
use Rattle.event_words.specs.declared.reply.Reply.{Reply}
use Rattle.event_words.specs.declared.reply.Reply.TheVariants as replies
use Rattle.event_words.specs.declared.reply.Verdict.{Verdict}
use Rattle.event_words.specs.Decisions.{decision}
use Rattle.unit_core.specs.declared.Submission.{Submission}
use Rattle.unit_core.specs.Submissions.{is_item}
use Rattle.unit_core.specs.Units.{UnitState, judge_item, verdict_step, closed}
use Rattle.history_laws.specs.Tickets.{IsTaken}
use Rattle.history_laws.specs.Verdicts.{verdict_of, decided, LawVerdicts}
use Rattle.unit_core.proofs.Runs.{own_at, own_state, as_it_is, reply_is, answered_shape}
use Rattle.unit_core.proofs.Items.{all_found}
use Rattle.history_laws.proofs.WindowLaw.{IsFrom, own_from}
use Rattle.history_laws.proofs.TicketSteps.{IsBelow}
use Rattle.history_laws.proofs.TicketLaw.{own_places}

-- The closed submission doesn't matter to the verdict.
verdict_given : (x : UnitState) (place caller : ℕ) (a : Access) (d : Decision)
    → (verdict_step (closed place caller x) a d).1 ≡ replies.Verdict (verdict_of x a d)
verdict_given x place caller a decisions.Allowed = refl
verdict_given x place caller a (decisions.Denied kind entry mute_irq mute_err) = refl

record IsJudged (x : UnitState) (v : Verdict) (o : Option Submission) : Type 0 where
  pub item : Submission
  pub found : o ≡ Some item
  pub verdict_is : v ≡ decided x item.access

judged_item : (x : UnitState) (place caller : ℕ) (v : Verdict) (o : Option Submission)
    → (judge_item x place caller o).1 ≡ replies.Verdict v → IsJudged x v o
judged_item x place caller v None e = absurd (let n : replies.NoSuch ≡ replies.Verdict v = e in cc)
judged_item x place caller v (Some item) e =
    cond_both item.queued (x, replies.Held) (verdict_step (closed place caller x) item.access (decision x.registers item.access)) (λ (r : UnitState × Reply). r.1 ≡ replies.Verdict v → IsJudged x v (Some item))
    (λ q f. absurd (let n : replies.Held ≡ replies.Verdict v = f in cc))
    (λ q f. record {
      item = item;
      found = refl;
      verdict_is = let same : replies.Verdict v ≡ replies.Verdict (decided x item.access) = sym f ∙ verdict_given x place caller item.access (decision x.registers item.access) in cc;
    }) e

pub law_verdicts : LawVerdicts
law_verdicts h u caller q p v event reply =
    let taken = as_it_is h p (Judge u caller q) refl event in
    let has = answered_shape h p (Judge u caller q) (replies.Verdict v) taken reply (λ n. cc) in
    let shape = has.shape in
    let same_unit : has.unit ≡ u = let n : Some u ≡ Some has.unit = has.speaks in cc in
    let there : slice_get h.shapes u ≡ Some shape = subst (λ n. slice_get h.shapes n ≡ Some shape) same_unit has.there in
    let x = own_state h u shape p in
    let state = own_at h u p shape there in
    let r = reply_is h p (Judge u caller q) u (replies.Verdict v) x refl taken reply state in
    let judged = judged_item x q caller v (find (is_item q caller) x.submissions) r in
    let c = all_found (IsFrom h u) (is_item q caller) x.submissions judged.item judged.found (own_from h u shape there p) in
    let b = all_found (IsBelow p) (is_item q caller) x.submissions judged.item judged.found (own_places h u shape p) in
    let parts = and_parts (eqb judged.item.place q) (eqb judged.item.caller caller) c.1 in
    let place = eqb-true judged.item.place q parts.0 in
    let same = eqb-true judged.item.caller caller parts.1 in
    record {
      access = judged.item.access;
      state = x;
      before = subst (λ n. n < p) place b.0;
      submission = subst (λ n. IsTaken h u n q judged.item.access) same (subst (λ n. IsTaken h u judged.item.caller n judged.item.access) place c.0.taken);
      here = state;
      verdict_is = judged.verdict_is;
    }
