use Rattle.std.proofs.Common.{arith, refl, ◌∙◌}
use Rattle.event_words.specs.declared.event.Event.TheVariants.{Submit}
use Rattle.unit_core.proofs.UnitSteps.{tied_in, stepped, step_reply, none_taken, none_reply}
use Rattle.unit_core.proofs.kinds.submit_on.Goals as goal

pub submit_at-requires-clause-agrees : goal.submit_at-requires-clause-agrees
submit_at-requires-clause-agrees c = tied_in c.args.unit c.args.units.now c.index-units-at.result c.args.kept.now.items (omega arith) c.requires.ready.agrees

pub returns-then-at-units : goal.returns-then-at-units
returns-then-at-units c =
    let s = c.submit_at.ensures in
    let a = stepped c.args.place (Submit c.args.unit c.args.caller c.args.access.now) c.args.unit c.args.units.now c.index-units-at.result c.submit_at.new.unit c.args.kept.now.items c.submit_at.new.kept.items refl (omega arith) c.requires.ready.agrees s.others s.agrees s.state in
    record {
      keeps = s.keeps;
      all_valid = s.all_valid;
      taken = a;
      reply = s.reply ∙ step_reply c.args.place (Submit c.args.unit c.args.caller c.args.access.now) c.args.unit c.args.units.now c.index-units-at.result c.args.kept.now.items refl (omega arith);
    }

pub returns-else-at-units-clause-taken : goal.returns-else-at-units-clause-taken
returns-else-at-units-clause-taken c =
    none_taken c.args.place (Submit c.args.unit c.args.caller c.args.access.now) c.args.unit c.args.units.now c.args.kept.now.items refl (omega arith) c.requires.ready.agrees

pub returns-else-at-units-clause-reply : goal.returns-else-at-units-clause-reply
returns-else-at-units-clause-reply c =
    none_reply c.args.place (Submit c.args.unit c.args.caller c.args.access.now) c.args.unit c.args.units.now c.args.kept.now.items refl (omega arith)
