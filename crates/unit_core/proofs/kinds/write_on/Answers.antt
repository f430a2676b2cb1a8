use Rattle.std.proofs.Common.{arith, refl, ap, ◌∙◌}
use Rattle.event_words.specs.declared.event.Event.TheVariants.{RegWrite}
use Rattle.event_words.specs.declared.reply.Reply.TheVariants as replies
use Rattle.unit_core.proofs.UnitSteps.{can_write_at, write_taken, write_reply, none_taken, none_reply}
use Rattle.unit_core.proofs.kinds.write_on.Goals as goal

pub write-requires : goal.write-requires
write-requires c =
    let can = can_write_at c.args.unit c.args.units.now c.index-units-at.result c.requires (omega arith) in
    record { flags = can.flags; len = can.len; room = can.room; held = can.held }

pub returns-then-at-units : goal.returns-then-at-units
returns-then-at-units c = record {
  taken = λ ws p caller t. none_taken p (RegWrite c.args.unit caller c.args.index c.args.value) c.args.unit c.args.units.now ws refl (omega arith) t;
  reply = λ a ws p caller t. none_reply p (RegWrite c.args.unit caller c.args.index c.args.value) c.args.unit c.args.units.now ws refl (omega arith);
}

pub returns-then-asked : goal.returns-then-asked
returns-then-asked c = record {
  taken = write_taken c.args.unit c.args.index c.args.value c.args.units.now c.index-units-at.result c.write.new.unit (omega arith) c.write.ensures;
  reply = λ a ws p caller t. ap replies.Value c.read.ensures ∙ write_reply c.args.unit c.args.index c.args.value c.args.units.now c.index-units-at.result c.write.new.unit (omega arith) c.write.ensures ws p caller t;
}

pub returns-else-asked-clause-taken : goal.returns-else-asked-clause-taken
returns-else-asked-clause-taken c =
    write_taken c.args.unit c.args.index c.args.value c.args.units.now c.index-units-at.result c.write.new.unit (omega arith) c.write.ensures
