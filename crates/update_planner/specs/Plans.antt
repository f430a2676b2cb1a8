-- The commands that take a unit from one image to another while its requesters stall.
use Rattle.std.specs.Prelude.{ℕ, ◌==◌, ◌&&◌, ◌||◌, not, Bool, List, [], ◌∷◌, ◌++◌, Option, None, Some, if◌then◌else◌, is_some, unwrap_or, map, filter}
use Rattle.std.specs.List.{range_with_len}
use Rattle.std.specs.Option.{option_or}
use Rattle.event_words.specs.declared.register.Register.TheVariants.{Hwcfg0, Mdstall}
use Rattle.event_words.specs.declared.section.Command.{Command}
use Rattle.event_words.specs.declared.section.Command.TheVariants.{Write, Until}
use Rattle.event_words.specs.Registers.{index_of, index_count}
use Rattle.policy_compiler.specs.declared.image.RegPair.{RegPair}
use Rattle.policy_compiler.specs.Images.{ImageOf}

-- the value that writes leave in the register at an index, where one of them writes it
abbrev pub written_value : List RegPair → ℕ → Option ℕ
written_value [] index = None
written_value (w ∷ ws) index = option_or (written_value ws index) (if w.index == index then Some w.value else None)

abbrev pub is_written : ImageOf → ℕ → Bool
is_written i index = is_some (written_value i.writes index)

-- what a plan writes: the registers that the old image writes and those that the new one writes, but not HWCFG0
abbrev pub is_rewritten : ImageOf → ImageOf → ℕ → Bool
is_rewritten old new index = not (index == index_of Hwcfg0) && (is_written old index || is_written new index)

-- the new image's value, or 0 where it writes none
abbrev pub rewrite : ImageOf → ℕ → Command
rewrite new index = Write 0 index (unwrap_or (written_value new.writes index) 0)

-- in ascending order of the unit's registers, each once
unfoldable pub rewrites : ImageOf → ImageOf → List Command
rewrites old new = map (rewrite new) (filter (is_rewritten old new) (range_with_len 0 (index_count new.shape)))

-- Stalled accesses drain, the registers are rewritten, and the stall ends.
abbrev pub rewriting : List Command → ℕ → List Command
rewriting writes polls =
    Until 0 (index_of Mdstall) 1 0 polls ∷ (writes ++ Write 0 (index_of Mdstall) 0 ∷ [])

-- All requesters stall, stalled accesses drain, the registers are rewritten, and the stall ends.
unfoldable pub plan_commands : ImageOf → ImageOf → ℕ → List Command
plan_commands old new polls =
    Write 0 (index_of Mdstall) 1 ∷ rewriting (rewrites old new) polls
