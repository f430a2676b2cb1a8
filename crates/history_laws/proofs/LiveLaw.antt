-- A live update while every requester stalls: the old policy decides up to the drained reading, and the new one
-- after the release.
use Rattle.std.proofs.Common.{◌≡◌, ℕ, ◌<◌, true, false, List, subst, ◌∙◌}
use Rattle.event_words.specs.declared.record.LoggedEvent.{LoggedEvent}
use Rattle.policy_compiler.specs.declared.image.RegPair.{RegPair}
use Rattle.policy_compiler.specs.Policies.{PolicyOf}
use Rattle.unit_core.specs.Histories.{History}
use Rattle.history_laws.specs.Live.{KeepsPolicies}
use Rattle.history_laws.proofs.UnitStands.{flag_from}
use Rattle.history_laws.proofs.StalledUpdate.{IsUpdating, unknown_case, before_case, after_case, sides, judged, none_between}

pub keeps_policies : (old new : PolicyOf) (stalls tables : List RegPair) (h : History) (xs : List LoggedEvent)
    → IsUpdating old new stalls tables h xs → ((s : ℕ) → flag_from s false stalls ≡ true) → KeepsPolicies old new h
keeps_policies old new stalls tables h xs u stalled p caller q verdict event reply =
    let j = judged old new stalls tables h xs u p caller q verdict event reply in
    let between = λ (known : j.access.rrid < old.shape.rrids). none_between old new stalls tables h xs u p caller q verdict event reply j known (stalled j.access.rrid) in
    record {
      access = j.access;
      submission = j.submission;
      earlier = j.earlier;
      follows = record {
        unknown = λ strange. j.kind ∙ unknown_case old new stalls tables h xs u j.number j.access strange;
        before = λ known later. j.kind ∙ before_case old new stalls tables h xs u j.number j.access j.valid (λ b r. subst (λ k. k < b) j.is (later b r));
        after = λ known release. j.kind ∙ after_case old new stalls tables h xs u j.number release.0 j.access j.valid release.1 (subst (λ k. release.0 < k) j.is release.2);
        none_between = λ b r known. between known b r;
        sides = λ known. sides old new stalls tables h xs u p caller q event (between known);
      };
    }
