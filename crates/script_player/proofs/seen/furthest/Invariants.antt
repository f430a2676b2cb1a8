-- Whichever was taken is one of them.
use Rattle.std.proofs.Common.{◌∷◌}
use Rattle.script_player.specs.KeptReplies.{IsOneOf}
use Rattle.script_player.proofs.seen.furthest.Given as goal

abbrev pub invariant-loop-caller : goal.invariant-loop-caller
invariant-loop-caller l = IsOneOf l.most (l.first ∷ l.rest)
