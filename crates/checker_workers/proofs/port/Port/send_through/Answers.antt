-- The port plays what its caller sent through the chain.
use Rattle.std.proofs.Common.{subst}
use Rattle.event_words.specs.Sections.{stage_units}
use Rattle.unit_core.specs.Fabrics.{state_after_word, reply_to_word}
use Rattle.cascade_path.specs.Chains.{SendsThrough}
use Rattle.checker_workers.specs.Ports.{PortView, IsAtReset}
use Rattle.checker_workers.proofs.Chains.{plays_through}
use Rattle.checker_workers.proofs.port.Port.send_through.Goals as goal

pub returns : goal.returns
returns c =
    plays_through c.args.self.now c.send_through.new.caller (stage_units c.args.stages.now) c.args.access c.args.max c.send_through.result
    (subst (λ (p : PortView). SendsThrough state_after_word reply_to_word p (stage_units c.args.stages.now) c.args.access c.args.max c.send_through.result c.send_through.new.caller) c.self.view_is c.send_through.ensures.sends)
    c.send_through.ensures.caller.events (subst (λ (p : PortView). IsAtReset p.first) c.self.view_is c.self.invariant.reset) c.requires.access.below_end c.requires.units
