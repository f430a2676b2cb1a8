-- Where the turns stand, and what a lane's call, its going on and a loss make of that.
use Rattle.std.specs.Prelude.{ℕ, ◌+◌, ◌%◌, ◌^◌, ◌<◌, ◌≤◌, ◌==◌, ◌&&◌, nat_lt, not, Bool, true, false, Some, None, length, IfSome, if◌then◌else◌}
use Rattle.std.specs.declared.option.Option.{Option}
use Rattle.lane_turns.specs.declared.lanes.LaneSet.{LaneSet}
use Rattle.lane_turns.specs.Lanes.{has, with_lane, without_lane, members, drawn}
use Rattle.lane_turns.specs.Draws.{word_of}

-- The lanes that take part, how many turns were given, by 2^26, the lane that has the turn, and whether it went on
-- with it and was not heard of since.
pub record TurnsView : Type 0 where
  pub lanes : LaneSet
  pub given : ℕ
  pub holder : Option ℕ
  pub gone : Bool

-- what holds of all turns
pub record AreTurns (given : ℕ) (holder : Option ℕ) : Type 0 where
  pub small : given < 2 ^ 26
  pub lane : IfSome holder (λ lane. (1 ≤ lane) × (lane ≤ 31))

-- before the first call
abbrev pub no_turns : TurnsView
no_turns = record { lanes = record { bits = 0 }; given = 0; holder = None; gone = false }

-- whether this lane has the turn
abbrev pub is_holder : Option ℕ → ℕ → Bool
is_holder None lane = false
is_holder (Some holder) lane = holder == lane

abbrev pub is_nobody : Option ℕ → Bool
is_nobody None = true
is_nobody (Some holder) = false

-- the next turn is given to one of the lanes that take part
abbrev pub next_turn : ℕ → TurnsView → TurnsView
next_turn seed t = record {
  lanes = t.lanes;
  given = (t.given + 1) % 2 ^ 26;
  holder = drawn t.lanes (word_of seed t.given);
  gone = false;
}

-- the lane takes part
abbrev pub joined : ℕ → TurnsView → TurnsView
joined lane t = record { lanes = with_lane t.lanes lane; given = t.given; holder = t.holder; gone = t.gone }

abbrev pub left : ℕ → TurnsView → TurnsView
left lane t = record { lanes = without_lane t.lanes lane; given = t.given; holder = t.holder; gone = t.gone }

-- A lane calls: it takes part from now on. Where it had the turn it hands it on, and where nobody had it and all
-- lanes, so many, take part, the first turn is given.
abbrev pub called : ℕ → ℕ → ℕ → TurnsView → TurnsView
called seed count lane t =
    if is_holder t.holder lane then next_turn seed (joined lane t)
    else (if is_nobody t.holder && (length (members (with_lane t.lanes lane)) == count) then next_turn seed (joined lane t)
    else joined lane t)

-- a call by this lane is out of the order of turns: others were given before it took part
abbrev pub is_late : ℕ → TurnsView → Bool
is_late lane t = nat_lt 0 t.given && not (has t.lanes lane)

-- the lane goes on with its turn
abbrev pub gone_on : TurnsView → TurnsView
gone_on t = record { lanes = t.lanes; given = t.given; holder = t.holder; gone = true }

-- A lane takes part no more. Where it had the turn another lane gets it.
abbrev pub dropped : ℕ → ℕ → TurnsView → TurnsView
dropped seed lane t = if is_holder t.holder lane then next_turn seed (left lane t) else left lane t

-- What is done where nothing was heard for long: a turn that nobody had is given, and a lane that went on with its
-- turn loses it. A lane that waits for its turn keeps it.
abbrev pub overdue_by : ℕ → Option ℕ → TurnsView → Option TurnsView
overdue_by seed None t = Some (next_turn seed t)
overdue_by seed (Some lane) t = if t.gone then Some (dropped seed lane t) else None

abbrev pub overdue : ℕ → TurnsView → Option TurnsView
overdue seed t = overdue_by seed t.holder t
