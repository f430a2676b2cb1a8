-- The values that a plan writes, register by register.
use Rattle.std.specs.Prelude.{ℕ, ◌==◌, ◌<◌, List, Option, None, if◌then◌else◌}
use Rattle.std.specs.List.{AllByRecursion}
use Rattle.std.specs.Option.{option_or, option_map}
use Rattle.event_words.specs.declared.register.Register.TheVariants.{Hwcfg0}
use Rattle.event_words.specs.declared.shape.Shape.{Shape}
use Rattle.event_words.specs.Registers.{index_of, index_count}
use Rattle.policy_compiler.specs.declared.image.RegPair.{RegPair}
use Rattle.policy_compiler.specs.Images.{ImageOf}
use Rattle.update_planner.specs.Plans.{written_value}

abbrev pub zero_for : ℕ → ℕ
zero_for value = 0

-- 0 where writes write a register, else what was there
abbrev pub zeros_over : List RegPair → Option ℕ → ℕ → Option ℕ
zeros_over ws before index = option_or (option_map zero_for (written_value ws index)) before

-- the value that writes leave in a register, else what was there
abbrev pub values_over : List RegPair → Option ℕ → ℕ → Option ℕ
values_over ws before index = option_or (written_value ws index) before

-- none for HWCFG0, and none for a register that neither writes
abbrev pub rewritten_value : List RegPair → List RegPair → ℕ → Option ℕ
rewritten_value old new index =
    if index == index_of Hwcfg0 then None else values_over new (zeros_over old None index) index

-- a register and its value as a write
abbrev pub entry_pair : ℕ × ℕ → RegPair
entry_pair e = record { index = e.0; value = e.1 }

-- writes of registers that a unit of this shape may have
abbrev pub IsOfUnit : Shape → RegPair → Type 0
IsOfUnit h w = w.index < index_count h

abbrev pub WritesUnit : Shape → ImageOf → Type 0
WritesUnit h i = AllByRecursion (IsOfUnit h) i.writes
