-- Where the turns stand, in one word: the lanes in the high 32 bits, then the count of turns in 26 bits, the lane
-- that has the turn in 5 bits, 0 for none, and whether it is gone in the lowest bit.
use Rattle.std.specs.Prelude.{ℕ, ◌/◌, ◌%◌, ◌==◌, Some, None, if◌then◌else◌}
use Rattle.std.specs.declared.option.Option.{Option}
use Rattle.lane_turns.specs.Turns.{TurnsView}

abbrev pub holder_code : Option ℕ → ℕ
holder_code None = 0
holder_code (Some lane) = lane

abbrev pub holder_in : ℕ → Option ℕ
holder_in code = if code == 0 then None else Some code

abbrev pub turns_in : ℕ → TurnsView
turns_in word = record {
  lanes = record { bits = word / 4294967296 };
  given = word / 64 % 67108864;
  holder = holder_in (word / 2 % 32);
  gone = word % 2 == 1;
}
