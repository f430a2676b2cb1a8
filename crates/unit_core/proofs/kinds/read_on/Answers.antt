use Rattle.std.proofs.Common.{arith, refl, ap, ◌∙◌}
use Rattle.event_words.specs.declared.event.Event.TheVariants.{RegRead}
use Rattle.event_words.specs.declared.reply.Reply.TheVariants as replies
use Rattle.unit_core.specs.declared.parts.IopmpUnit.{IopmpUnit}
use Rattle.unit_core.specs.Parts.{part_read}
use Rattle.unit_core.proofs.UnitSteps.{read_reply, none_reply}
use Rattle.unit_core.proofs.kinds.read_on.Goals as goal

pub returns-then-at-units : goal.returns-then-at-units
returns-then-at-units c = record {
  reply = λ ws p caller t. ap replies.Value c.read.ensures
      ∙ (ap (λ (x : IopmpUnit). replies.Value (part_read x c.args.index)) c.index-units-at.is
      ∙ read_reply p c.args.unit caller c.args.index c.args.units.now c.index-units-at.result ws (omega arith) t);
}

pub returns-else-at-units : goal.returns-else-at-units
returns-else-at-units c = record {
  reply = λ ws p caller t. none_reply p (RegRead c.args.unit caller c.args.index) c.args.unit c.args.units.now ws refl (omega arith);
}
