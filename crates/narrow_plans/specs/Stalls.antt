-- The stalls of a narrow plan, as they are made requester by requester.
use Rattle.std.specs.Prelude.{ℕ, Bool, not, List, map, filter}
use Rattle.std.specs.List.{range_with_len, list_all}
use Rattle.event_words.specs.declared.section.Command.{Command}
use Rattle.policy_compiler.specs.declared.image.RegPair.{RegPair}
use Rattle.policy_compiler.specs.Images.{ImageOf}
use Rattle.policy_compiler.specs.Laws.{registers_after}
use Rattle.narrow_plans.specs.Views.{view_of}
use Rattle.narrow_plans.specs.BetweenStates.{states_after}
use Rattle.narrow_plans.specs.Unaffected.{has_view}
use Rattle.narrow_plans.specs.NarrowPlans.{stall_command}

-- In some state after the image's writes and some of these, the requester has another view than after the
-- image's.
abbrev pub changes_view : ImageOf → List RegPair → ℕ → Bool
changes_view old writes s =
    not (list_all (has_view s (view_of (registers_after old) s)) (states_after (registers_after old) writes))

-- those of the requesters below n
abbrev pub stalls : ImageOf → List RegPair → ℕ → List Command
stalls old writes n = map stall_command (filter (changes_view old writes) (range_with_len 0 n))
