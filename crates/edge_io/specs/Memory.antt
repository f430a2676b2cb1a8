-- A source and a sink in memory, as contracts see them.
use Rattle.std.specs.Prelude.{ℕ, ◌+◌, ◌-◌, ◌^◌, min, List, ◌++◌, length, take, drop}
use Rattle.edge_io.specs.Faults.{one_more_fault}

-- what is left, the numbers of the calls that fail, how many bytes a call gives at most,
-- the number of the next call, and the faults so far
pub record SourceState : Type 0 where
  pub left : List ℕ
  pub failing : List ℕ
  pub chunk : ℕ
  pub calls : ℕ
  pub faults : ℕ

-- what was taken, how many bytes fit, the numbers of the calls that fail, how many bytes a call takes at most,
-- the number of the next call, and the faults so far
pub record SinkState : Type 0 where
  pub taken : List ℕ
  pub room : ℕ
  pub failing : List ℕ
  pub chunk : ℕ
  pub calls : ℕ
  pub faults : ℕ

-- the number of the next call: the last number of 32 bits stands for every call from that one on
abbrev pub next_call : ℕ → ℕ
next_call number = min (number + 1) (2 ^ 32 - 1)

-- how many bytes a read into so much room gives
abbrev pub given_count : SourceState → ℕ → ℕ
given_count s room = min (min s.chunk room) (length s.left)

abbrev pub after_read : SourceState → ℕ → SourceState
after_read s room = record s { left = drop (given_count s room) s.left; calls = next_call s.calls }

abbrev pub after_failed_read : SourceState → SourceState
after_failed_read s = record s { calls = next_call s.calls; faults = one_more_fault s.faults }

-- how many bytes a write of a piece takes
abbrev pub taken_count : SinkState → List ℕ → ℕ
taken_count s piece = min (min s.chunk (length piece)) (s.room - length s.taken)

abbrev pub after_write : SinkState → List ℕ → SinkState
after_write s piece = record s { taken = s.taken ++ take (taken_count s piece) piece; calls = next_call s.calls }

abbrev pub after_failed_write : SinkState → SinkState
after_failed_write s = record s { calls = next_call s.calls; faults = one_more_fault s.faults }
