use Rattle.std.proofs.Common.{sym, ◌∙◌, subst}
use Rattle.fault_windows.specs.Monitors.{HasSeen}
use Rattle.fault_windows.specs.Kept.{monitor_view}
use Rattle.fault_windows.proofs.Units.{all_next, none_next, seen_on, unit_below}
use Rattle.fault_windows.proofs.monitor.Monitor.step.Goals as goal

pub returns-in_default-clause-seen : goal.returns-in_default-clause-seen
returns-in_default-clause-seen c = λ h k seen at. none_next h k c.args.rrid c.args.event.now c.args.reply.now c.args.self.now at (sym c.unit.ensures ∙ c.in_default.is) seen

pub returns-clause-seen : goal.returns-clause-seen
returns-clause-seen c = λ h k seen at.
    let on = sym c.unit.ensures ∙ c.in-Some.is in
    let whole : HasSeen h k (monitor_view c.self.inside.units) = subst (HasSeen h k) (sym c.self.view_is) seen in
    all_next h k c.args.rrid c.in-Some.number c.args.event.now c.args.reply.now c.self.inside.units c.step-shown.new.self at on
    (unit_below c.args.event.now c.in-Some.number c.requires.event on) whole (c.step-shown.ensures.seen h k (seen_on h k c.in-Some.number c.args.event.now c.self.inside.units c.requires.event on whole) at)

pub returns-clause-shown : goal.returns-clause-shown
returns-clause-shown c = λ h k seen at.
    let on = sym c.unit.ensures ∙ c.in-Some.is in
    let whole : HasSeen h k (monitor_view c.self.inside.units) = subst (HasSeen h k) (sym c.self.view_is) seen in
    c.step-shown.ensures.shown h k (seen_on h k c.in-Some.number c.args.event.now c.self.inside.units c.requires.event on whole) at
