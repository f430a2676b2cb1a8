-- The laws of narrow plans: equal views decide alike, and what a verdict says during a narrow update.
use Rattle.std.specs.Prelude.{◌≡◌, ◌⊎◌, ℕ, ◌<◌, true, false, Some, List, [], ◌∷◌}
use Rattle.std.specs.List.{AllByRecursion}
use Rattle.event_words.specs.declared.access.Access.{Access}
use Rattle.event_words.specs.declared.event.Event.TheVariants.{Judge}
use Rattle.event_words.specs.declared.reply.Reply.TheVariants.{Passed, Verdict}
use Rattle.event_words.specs.declared.reply.Verdict.{Verdict as AnyVerdict}
use Rattle.event_words.specs.Registers.{Registers}
use Rattle.event_words.specs.Guards.{is_enabled}
use Rattle.event_words.specs.Entries.{is_byte_of}
use Rattle.event_words.specs.Decisions.{decision}
use Rattle.event_words.specs.Valid.{IsValidAccess}
use Rattle.event_words.specs.Sections.{SectionOf}
use Rattle.policy_compiler.specs.Policies.{PolicyOf}
use Rattle.policy_compiler.specs.Images.{image_of}
use Rattle.policy_compiler.specs.Decides.{policy_decision}
use Rattle.policy_compiler.specs.Laws.{kind_of}
use Rattle.unit_core.specs.Histories.{History, event_at, reply_at, history_of}
use Rattle.unit_core.specs.Submitted.{IsSubmission}
use Rattle.unit_core.specs.Updates.{IsDrainedReading, IsRelease}
use Rattle.history_laws.specs.Live.{kind_of_verdict, IsBeforeReading, IsAfterRelease, IsUpdateHistory}
use Rattle.entry_ranges.specs.Ranges.{HoldsBytes}
use Rattle.narrow_plans.specs.Views.{entry_range, view_of}
use Rattle.narrow_plans.specs.BetweenStates.{between_states}
use Rattle.narrow_plans.specs.Unaffected.{is_unaffected}
use Rattle.narrow_plans.specs.NarrowPlans.{narrow_commands}

-- ---- views

-- The range of an entry has exactly its bytes.
abbrev pub LawRanges : Type 0
LawRanges = (r : Registers) (j : ℕ) → HoldsBytes (is_byte_of r j) (entry_range r j)

-- Registers of one shape that are both enabled, or both aren't, and give the requester of an access equal
-- views, decide a valid access with the same kind.
pub record SeeAlike (r q : Registers) (s : ℕ) : Type 0 where
  pub shape : r.shape ≡ q.shape
  pub enabled : is_enabled r ≡ is_enabled q
  pub views : view_of r s ≡ view_of q s

abbrev pub LawViews : Type 0
LawViews =
    (r q : Registers) (a : Access) → IsValidAccess a → SeeAlike r q a.rrid → kind_of (decision r a) ≡ kind_of (decision q a)

-- ---- narrow updates

-- Requester s is known, and its view stays the same on the way; or it is known, and its view changes.
abbrev pub IsUnaffected : PolicyOf → PolicyOf → ℕ → Type 0
IsUnaffected old new s =
    (s < old.shape.rrids) × (is_unaffected (image_of old) (image_of new) s ≡ true)

abbrev pub IsAffected : PolicyOf → PolicyOf → ℕ → Type 0
IsAffected old new s =
    (s < old.shape.rrids) × (is_unaffected (image_of old) (image_of new) s ≡ false)

-- A kind is that of both policies.
abbrev pub IsOfBoth : PolicyOf → PolicyOf → Access → ℕ → Type 0
IsOfBoth old new access kind =
    (kind ≡ policy_decision old access) × (kind ≡ policy_decision new access)

-- The registers decide each access of an unaffected requester with the kind of both policies.
abbrev pub DecideAlike : PolicyOf → PolicyOf → Registers → Type 0
DecideAlike old new r =
    (a : Access) → IsValidAccess a → IsUnaffected old new a.rrid → IsOfBoth old new a (kind_of (decision r a))

-- So do all registers between the two images.
abbrev pub AllDecideAlike : PolicyOf → PolicyOf → Type 0
AllDecideAlike old new = AllByRecursion (DecideAlike old new) (between_states (image_of old) (image_of new))

-- What the kind of a verdict at place p on an access is, by its requester: violation 6 on an unknown one;
-- the kind of both policies on an unaffected one; on an affected one the old policy's up to the drained
-- reading and the new one's after the release, and none between the two.
pub record FollowsNarrowly (old new : PolicyOf) (h : History) (p : ℕ) (access : Access) (kind : ℕ) : Type 0 where
  pub unknown : (access.rrid < old.shape.rrids → ⊥) → kind ≡ 6
  pub unaffected : IsUnaffected old new access.rrid → IsOfBoth old new access kind
  pub before : IsAffected old new access.rrid → IsBeforeReading h p → kind ≡ policy_decision old access
  pub after : IsAffected old new access.rrid → IsAfterRelease h p → kind ≡ policy_decision new access
  pub none_between : (b r : ℕ) → IsAffected old new access.rrid → IsDrainedReading h b → IsRelease h r → b < p → p < r → ⊥
  -- so it stands on one of the two sides
  pub sides : IsAffected old new access.rrid → IsBeforeReading h p ⊎ IsAfterRelease h p

-- so each verdict of unit 0, on the access of the submission that it judges
pub record IsNarrowVerdict (old new : PolicyOf) (h : History) (caller q p : ℕ) (verdict : AnyVerdict) : Type 0 where
  pub access : Access
  pub submission : IsSubmission h q 0 caller access
  pub earlier : q < p
  pub follows : FollowsNarrowly old new h p access (kind_of_verdict verdict)

-- Each verdict is so, and each submission of an unaffected requester passes: it is neither queued nor
-- turned away.
pub record KeepsNarrowly (old new : PolicyOf) (h : History) : Type 0 where
  pub verdicts : (p caller q : ℕ) (verdict : AnyVerdict) → event_at h p ≡ Some (Judge 0 caller q) → reply_at h p ≡ Some (Verdict verdict)
      → IsNarrowVerdict old new h caller q p verdict
  pub passes : (p caller : ℕ) (access : Access) → IsSubmission h p 0 caller access → IsUnaffected old new access.rrid
      → reply_at h p ≡ Some Passed

-- ---- narrow histories

-- The history of an update in which only the affected requesters stall.
abbrev pub IsNarrowHistory : PolicyOf → PolicyOf → ℕ → List SectionOf → List ℕ → Type 0
IsNarrowHistory old new polls lanes words =
    IsUpdateHistory (narrow_commands (image_of old) (image_of new) polls) old new lanes words

-- The states between decide alike on an unaffected requester, and each narrow history keeps the policies.
pub record IsNarrow (old new : PolicyOf) (h : History) : Type 0 where
  pub states : AllDecideAlike old new
  pub history : KeepsNarrowly old new h

abbrev pub LawNarrow : Type 0
LawNarrow =
    (old new : PolicyOf) (polls : ℕ) (lanes : List SectionOf) (words : List ℕ) → IsNarrowHistory old new polls lanes words
    → IsNarrow old new (history_of (old.shape ∷ []) words)
