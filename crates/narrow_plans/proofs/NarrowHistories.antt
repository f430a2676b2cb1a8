-- The law of a narrow update: an unaffected requester is never stalled and has one kind all the way, and an
-- affected one has the old policy's up to the drained reading and the new one's after the release.
use Rattle.std.proofs.Common.{◌≡◌, ◌⊎◌, ℕ, ◌+◌, ◌-◌, ◌<◌, ◌++◌, inl, inr, false, List, [], ◌∷◌, Some, length, append_assoc, refl, sym, ap, subst, ◌∙◌, arith}
use Rattle.std.specs.List.{AllByRecursion}
use Rattle.std.proofs.lemmas.List.{append-nil}
use Rattle.event_words.specs.declared.access.Access.{Access}
use Rattle.event_words.specs.declared.event.Event.{Event}
use Rattle.event_words.specs.declared.event.Event.TheVariants.{RegWrite, Submit, Judge}
use Rattle.event_words.specs.declared.record.LoggedEvent.{LoggedEvent}
use Rattle.event_words.specs.declared.reply.Reply.TheVariants as replies
use Rattle.event_words.specs.declared.reply.Verdict.{Verdict as AnyVerdict}
use Rattle.event_words.specs.Valid.{IsValidAccess}
use Rattle.event_words.proofs.ListItems.{all_append}
use Rattle.policy_compiler.specs.declared.image.RegPair.{RegPair}
use Rattle.policy_compiler.specs.Policies.{PolicyOf}
use Rattle.policy_compiler.specs.Images.{pair, image_of}
use Rattle.policy_compiler.specs.Commands.{image_section}
use Rattle.policy_compiler.specs.Laws.{kind_of}
use Rattle.policy_compiler.proofs.Standing.{value_of, value_other, IsStall}
use Rattle.policy_compiler.proofs.Decisive.{SameValues}
use Rattle.update_planner.specs.Gives.{section_with}
use Rattle.unit_core.specs.Units.{unit_step, is_stalled}
use Rattle.unit_core.specs.Histories.{History, event_at, reply_at, history_of, logged_in}
use Rattle.unit_core.specs.Submitted.{IsSubmission}
use Rattle.unit_core.proofs.Runs.{own_at, reply_of, submit_of}
use Rattle.history_laws.proofs.QuietRecords.{IsNoWriteEvent}
use Rattle.history_laws.proofs.Writes.{write_of, all_parts, CutInFirst, CutInSecond, two_cuts}
use Rattle.history_laws.proofs.WriteRecords.{release_write}
use Rattle.history_laws.proofs.UnitStands.{flag_from, flag_append, taken_from}
use Rattle.history_laws.proofs.PlanParts.{IsUpdate, StallNobody, flag_kept}
use Rattle.history_laws.proofs.UpdateWrites.{rewrites_stall_nobody, image_stalls_nobody, with_stalls, past_stalls}
use Rattle.history_laws.proofs.LiveLists.{live_list}
use Rattle.history_laws.proofs.LivePlaces.{log_of, past_boot}
use Rattle.history_laws.proofs.LiveUpdate.{valid_access}
use Rattle.history_laws.proofs.Unstalled.{passes}
use Rattle.history_laws.proofs.TableRewrites.{tables_between, rewrites_between}
use Rattle.history_laws.proofs.StalledUpdate.{IsUpdating, unit, done, to_do, update, cut, stands, kind_at, unknown_case, before_case, after_case, sides, judged, none_between}
use Rattle.narrow_plans.specs.NarrowPlans.{narrow_commands}
use Rattle.narrow_plans.specs.Laws.{IsUnaffected, IsAffected, IsOfBoth, IsNarrowVerdict, KeepsNarrowly, LawNarrow}
use Rattle.narrow_plans.proofs.NarrowStalls.{stalls_of, narrow_is, each_stalls, Spares, stay_clear, stalls_affected, spares_unaffected}
use Rattle.narrow_plans.proofs.NarrowStates.{AreBetween, state, state_stands, standing_alike, of_both, all_decide_alike}

-- ---- the last values on the way

-- what was written leaves the values of the old image and of a part of the tables' writes
record IsOnTheWay (old tables done : List RegPair) : Type 0 where
  pub part : List RegPair
  pub rest : List RegPair
  pub is : tables ≡ part ++ rest
  pub same : SameValues (old ++ done) (old ++ part)

-- the release leaves the values too
with_release : (old ws : List RegPair) → SameValues (old ++ (ws ++ release_write ∷ [])) (old ++ ws)
with_release old ws i p q = ap (λ xs. value_of xs i) (sym (append_assoc old ws (release_write ∷ []))) ∙ value_other (old ++ ws) release_write i (λ e. p (sym e))

module _ (old stalls tables : List RegPair) (each : AllByRecursion IsStall stalls) where
  stalling : (done more : List RegPair) → stalls ≡ done ++ more → IsOnTheWay old tables done
  stalling done more e =
      let part = all_parts IsStall done more (subst (AllByRecursion IsStall) e each) in
      record { part = []; rest = tables; is = refl; same = λ i p q. with_stalls old done part.0 i p q ∙ ap (λ xs. value_of xs i) (sym (append-nil old)) }

  rewriting : (done part to_do : List RegPair) → done ≡ stalls ++ part → part ++ to_do ≡ tables ++ release_write ∷ []
      → IsOnTheWay old tables done
  rewriting done part to_do e f = by (two_cuts part to_do tables (release_write ∷ []) f)
    where
      same : SameValues (old ++ done) (old ++ part)
      same i p q = ap (λ ws. value_of (old ++ ws) i) e ∙ past_stalls old stalls part each i p q

      last : (more : List RegPair) → more ++ to_do ≡ release_write ∷ [] → part ≡ tables ++ more → IsOnTheWay old tables done
      last [] g t = record { part = part; rest = []; is = sym (append-nil part ∙ (t ∙ append-nil tables)); same = same }
      last (w ∷ []) g t =
          let release_is : w ≡ release_write = cc in
          record {
            part = tables;
            rest = [];
            is = sym (append-nil tables);
            same = λ i p q. same i p q ∙ (ap (λ ws. value_of (old ++ ws) i) (t ∙ ap (λ v. tables ++ v ∷ []) release_is) ∙ with_release old tables i p q);
          }
      last (w ∷ (v ∷ more)) g t = absurd (let n : v ∷ (more ++ to_do) ≡ [] = cc in cc)

      by : CutInFirst part to_do tables (release_write ∷ []) ⊎ CutInSecond part to_do tables (release_write ∷ [])
          → IsOnTheWay old tables done
      by (inl c) = record { part = part; rest = c.more; is = c.first; same = same }
      by (inr c) = last c.more c.rest c.taken

  on_the_way : (done to_do whole : List RegPair) → done ++ to_do ≡ whole → IsUpdate stalls tables whole → IsOnTheWay old tables done
  on_the_way done to_do whole e (inl w) = stalling done to_do (sym (e ∙ w))
  on_the_way done to_do whole e (inr w) = by (two_cuts done to_do stalls (tables ++ release_write ∷ []) (e ∙ w))
    where
      by : CutInFirst done to_do stalls (tables ++ release_write ∷ []) ⊎ CutInSecond done to_do stalls (tables ++ release_write ∷ [])
          → IsOnTheWay old tables done
      by (inl c) = stalling done c.more c.first
      by (inr c) = rewriting done c.more to_do c.taken c.rest

-- ---- writes that leave one requester's flag clear

nobody_spares : (s : ℕ) (ws : List RegPair) → StallNobody ws → AllByRecursion (Spares s) ws
nobody_spares s [] h = tt
nobody_spares s (w ∷ ws) h = (flag_kept s false (w ∷ []) (h.0, tt), nobody_spares s ws h.1)

update_spares : (s : ℕ) (stalls tables whole : List RegPair) → AllByRecursion (Spares s) stalls → StallNobody tables
    → IsUpdate stalls tables whole → AllByRecursion (Spares s) whole
update_spares s stalls tables whole spares quiet (inl e) = subst (AllByRecursion (Spares s)) (sym e) spares
update_spares s stalls tables whole spares quiet (inr e) =
    subst (AllByRecursion (Spares s)) (sym e)
    (all_append (Spares s) stalls (tables ++ release_write ∷ []) spares (all_append (Spares s) tables (release_write ∷ []) (nobody_spares s tables quiet) (refl, tt)))

-- ---- a narrow update

module _ (old new : PolicyOf) where
  abbrev stalls : List RegPair
  stalls = stalls_of (image_of old) (image_of new)

  abbrev tables : List RegPair
  tables = tables_between (image_of old) (image_of new)

  module _ (h : History) (xs : List LoggedEvent) (u : IsUpdating old new stalls tables h xs) where
    between : AreBetween old new
    between = record { good_old = u.good_old; good_new = u.good_new; shapes = u.same_shape; fits_old = u.fits_old; fits_new = u.fits_new }

    abbrev written : ℕ → List RegPair
    written m = done old new stalls tables h xs u m

    -- On an unaffected requester each place decides as both policies do.
    unaffected_case : (m : ℕ) (a : Access) → IsValidAccess a → IsUnaffected old new a.rrid
        → IsOfBoth old new a (kind_at old new stalls tables h xs u m a)
    unaffected_case m a valid calm =
        let way = on_the_way (image_of old).writes stalls tables u.stalling (written m) (to_do old new stalls tables h xs u m) _
        (cut old new stalls tables h xs u m) (update old new stalls tables h xs u) in
        let c = stands old new stalls tables h xs u m in
        let same = standing_alike old.shape ((image_of old).writes ++ written m) ((image_of old).writes ++ way.part) _ (state old new between way.part) u.good_old.shape.mdcfg c.registers (state_stands old new between way.part way.rest way.is) way.same a in
        subst (λ d. IsOfBoth old new a (kind_of d)) (sym same) (of_both old new between a valid calm way.part way.rest way.is)

    -- It is never stalled.
    unstalled : (m s : ℕ) → IsUnaffected old new s → is_stalled (unit old new stalls tables h xs u (length u.live.boot + m)) s ≡ false
    unstalled m s calm =
        let spares = update_spares s stalls tables _ (spares_unaffected old new s u.good_old calm) (rewrites_stall_nobody old.shape tables u.rewrites.each)
        (update old new stalls tables h xs u) in
        let part = all_parts (Spares s) (written m) (to_do old new stalls tables h xs u m) (subst (AllByRecursion (Spares s)) (sym (cut old new stalls tables h xs u m)) spares) in
        (stands old new stalls tables h xs u m).stalled s calm.0
        ∙ (flag_append s false (image_of old).writes (written m)
        ∙ (ap (λ b. flag_from s b (written m)) (flag_kept s false (image_of old).writes (image_stalls_nobody old u.good_old u.fits_old)) ∙ stay_clear s (written m) part.0))

    submission_passes : (p caller : ℕ) (access : Access) → IsSubmission h p 0 caller access → IsUnaffected old new access.rrid
        → reply_at h p ≡ Some replies.Passed
    submission_passes p caller a submission calm =
        let taken = submit_of h p 0 caller a submission in
        let from = taken_from h p (Submit 0 caller a) taken in
        let x = unit old new stalls tables h xs u p in
        let reply = reply_of h p (Submit 0 caller a) 0 x refl taken (own_at h 0 p old.shape u.unit) in
        let entry : LoggedEvent = record { place = p; event = from.event; reply = (unit_step p x (Submit 0 caller a)).1 } in
        let there = u.log.there p from.event (unit_step p x (Submit 0 caller a)).1 from.here reply in
        let after = past_boot (image_of old).writes stalls tables xs u.live p entry there (no_write from.event from.writes) in
        let is : length u.live.boot + (p - length u.live.boot) ≡ p = omega arith in
        let unstalled_now : is_stalled x a.rrid ≡ false = subst (λ k. is_stalled (unit old new stalls tables h xs u k) a.rrid ≡ false) is (unstalled (p - length u.live.boot) a.rrid calm) in
        reply ∙ ap (λ r. Some r) (passes p x caller a unstalled_now)
      where
        no_write : (e : Event) → write_of e ≡ [] → IsNoWriteEvent e
        no_write (RegWrite unit caller index value) w = absurd (let n : pair index value ∷ [] ≡ [] = w in cc)
        no_write _ w = tt

    verdict_follows : (p caller q : ℕ) (verdict : AnyVerdict) → event_at h p ≡ Some (Judge 0 caller q)
        → reply_at h p ≡ Some (replies.Verdict verdict) → IsNarrowVerdict old new h caller q p verdict
    verdict_follows p caller q verdict event reply =
        let j = judged old new stalls tables h xs u p caller q verdict event reply in
        let none = λ (a : IsAffected old new j.access.rrid). none_between old new stalls tables h xs u p caller q verdict event reply j a.0 (stalls_affected old new j.access.rrid u.good_old a) in
        record {
          access = j.access;
          submission = j.submission;
          earlier = j.earlier;
          follows = record {
            unknown = λ strange. j.kind ∙ unknown_case old new stalls tables h xs u j.number j.access strange;
            unaffected = λ calm. subst (IsOfBoth old new j.access) (sym j.kind) (unaffected_case j.number j.access j.valid calm);
            before = λ a later. j.kind ∙ before_case old new stalls tables h xs u j.number j.access j.valid (λ b r. subst (λ k. k < b) j.is (later b r));
            after = λ a release. j.kind ∙ after_case old new stalls tables h xs u j.number release.0 j.access j.valid release.1 (subst (λ k. release.0 < k) j.is release.2);
            none_between = λ b r a. none a b r;
            sides = λ a. sides old new stalls tables h xs u p caller q event (none a);
          };
        }

    keeps_narrowly : KeepsNarrowly old new h
    keeps_narrowly = record { verdicts = verdict_follows; passes = submission_passes }

pub law_narrow : LawNarrow
law_narrow old new polls lanes words n =
    let live = live_list (old.shape ∷ []) (image_of old).writes (stalls old new) (tables old new) polls (image_section (image_of old)) (section_with (narrow_commands (image_of old) (image_of new) polls)) lanes words
    refl (narrow_is (image_of old) (image_of new) polls) n.quiet n.legal in
    let u : IsUpdating old new (stalls old new) (tables old new) (history_of (old.shape ∷ []) words) (logged_in (old.shape ∷ []) words) =
    record {
      good_old = n.old_policy;
      good_new = n.new_policy;
      same_shape = n.shapes;
      fits_old = n.old_fits;
      fits_new = n.new_fits;
      stalling = each_stalls (image_of old) (image_of new);
      rewrites = rewrites_between old new n.old_policy n.new_policy n.shapes n.old_fits n.new_fits;
      live = live;
      log = log_of (old.shape ∷ []) words n.legal.events;
      unit = refl;
      accesses = valid_access (old.shape ∷ []) words n.legal.events;
    } in
    record {
      states = all_decide_alike old new (record { good_old = n.old_policy; good_new = n.new_policy; shapes = n.shapes; fits_old = n.old_fits; fits_new = n.new_fits });
      history = keeps_narrowly old new (history_of (old.shape ∷ []) words) (logged_in (old.shape ∷ []) words) u;
    }
