-- A write replies a value.
use Rattle.std.proofs.Common.{ap, refl}
use Rattle.event_words.specs.declared.event.Event.{Event}
use Rattle.event_words.specs.declared.event.Event.TheVariants as events
use Rattle.checker_workers.specs.Ports.{is_value}
use Rattle.checker_workers.proofs.Making.{answers}
use Rattle.checker_workers.proofs.port.Port.write.Goals as goal

pub value_of-requires : goal.value_of-requires
value_of-requires c =
    let e : Event = events.RegWrite c.args.unit c.number-caller.result c.args.index c.args.value in
    let a = answers c.args.self.now c.make.new.self e e c.args.unit c.make.result c.make.ensures.event refl refl c.requires.unit in
    ap is_value a.reply
