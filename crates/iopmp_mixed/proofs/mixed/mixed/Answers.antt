-- The look changed nothing of how the call ends.
use Rattle.std.proofs.Common.{map}
use Rattle.std.specs.String.{string_bytes}
use Rattle.iopmp_program.specs.CommandWords.{command_of}
use Rattle.iopmp_program.specs.CallEndings.{change}
use Rattle.iopmp_mixed.proofs.Looked.{looked_ends, ends_complete}
use Rattle.iopmp_mixed.proofs.mixed.mixed.Goals as goal

pub returns-clause-ends : goal.returns-clause-ends
returns-clause-ends g c =
    looked_ends g.S.Source.left (command_of (map string_bytes c.args.words.now)) c.args.source.now c.count_lanes-lanes.new.source c.top-outcome.new.source
    (change g.K.Sink.taken g.K.Sink.faults c.args.sink.now c.top-outcome.new.sink) c.top-outcome.result.status c.top-outcome.result.history
    c.count_lanes-lanes.ensures.looks c.top-outcome.ensures.ends

pub returns-clause-completes : goal.returns-clause-completes
returns-clause-completes g c =
    ends_complete (command_of (map string_bytes c.args.words.now)) _ (change g.K.Sink.taken g.K.Sink.faults c.args.sink.now c.top-outcome.new.sink) c.top-outcome.result.status c.top-outcome.result.history
    (returns-clause-ends g c)
