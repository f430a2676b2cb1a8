-- The law of a live update.
use Rattle.std.proofs.Common.{◌≡◌, ℕ, List, [], ◌∷◌, Option, Some, None, inl, arith, refl, sym, ap, ◌∙◌}
use Rattle.std.specs.Prelude.{slice_get, option_and_then}
use Rattle.std.specs.List.{AllByRecursion}
use Rattle.event_words.specs.declared.shape.Shape.{Shape}
use Rattle.event_words.specs.declared.access.Access.{Access}
use Rattle.event_words.specs.declared.event.Event.TheVariants.{Submit}
use Rattle.event_words.specs.Word.{event_of_word}
use Rattle.event_words.specs.Valid.{IsValidAccess}
use Rattle.event_words.specs.Runs.{IsEventWord}
use Rattle.policy_compiler.specs.Images.{image_of}
use Rattle.policy_compiler.specs.Commands.{image_section}
use Rattle.update_planner.specs.Plans.{plan_commands}
use Rattle.update_planner.specs.Gives.{section_with}
use Rattle.unit_core.specs.Histories.{History, aims_at, history_of, logged_in}
use Rattle.unit_core.specs.Submitted.{IsSubmission, taken_at}
use Rattle.unit_core.specs.Units.{taken_as}
use Rattle.unit_core.proofs.TakenEvents.{taken_valid}
use Rattle.history_laws.specs.Live.{LawLive}
use Rattle.history_laws.proofs.WordHistories.{events_at_words, event_at_words, word_at_place}
use Rattle.unit_core.proofs.Runs.{submit_of}
use Rattle.history_laws.proofs.WriteRecords.{stall}
use Rattle.history_laws.proofs.LiveLists.{live_list}
use Rattle.history_laws.proofs.LivePlaces.{log_of}
use Rattle.history_laws.proofs.LiveLaw.{keeps_policies}
use Rattle.history_laws.proofs.TableRewrites.{tables_between, plan_is, rewrites_between}

-- A submission is of a valid access.
pub valid_access : (shapes : List Shape) (words : List ℕ) → AllByRecursion IsEventWord words → (k caller : ℕ) (a : Access)
    → IsSubmission (history_of shapes words) k 0 caller a → IsValidAccess a
valid_access shapes words all k caller a q = by (slice_get words k) refl
  where
    h : History
    h = history_of shapes words

    taken : taken_at h k ≡ Some (Submit 0 caller a)
    taken = submit_of h k 0 caller a q

    by : (o : Option ℕ) → slice_get words k ≡ o → IsValidAccess a
    by None e =
        let n : None ≡ Some (Submit 0 caller a) = sym (ap (option_and_then (taken_as (aims_at h k))) (events_at_words words all k ∙ ap (option_and_then event_of_word) e)) ∙ taken in
        absurd (cc)
    by (Some w) e =
        let v = word_at_place words all k w e in
        let t : taken_as (aims_at h k) v.event ≡ Some (Submit 0 caller a) = sym (ap (option_and_then (taken_as (aims_at h k))) (event_at_words shapes words all k w v.event e v.back)) ∙ taken in
        taken_valid (aims_at h k) v.event (Submit 0 caller a) v.valid t

pub law_live : LawLive
law_live old new polls lanes words l =
    let live = live_list (old.shape ∷ []) (image_of old).writes (stall ∷ []) (tables_between (image_of old) (image_of new)) polls (image_section (image_of old)) (section_with (plan_commands (image_of old) (image_of new) polls)) lanes words
    refl (plan_is (image_of old) (image_of new) polls) l.quiet l.legal in
    keeps_policies old new (stall ∷ []) (tables_between (image_of old) (image_of new)) (history_of (old.shape ∷ []) words) (logged_in (old.shape ∷ []) words)
    (record {
      good_old = l.old_policy;
      good_new = l.new_policy;
      same_shape = l.shapes;
      fits_old = l.old_fits;
      fits_new = l.new_fits;
      stalling = (inl (refl, omega arith), tt);
      rewrites = rewrites_between old new l.old_policy l.new_policy l.shapes l.old_fits l.new_fits;
      live = live;
      log = log_of (old.shape ∷ []) words l.legal.events;
      unit = refl;
      accesses = valid_access (old.shape ∷ []) words l.legal.events;
    })
    (λ s. refl)
