-- Before the first event no line of one is read.
use Rattle.std.proofs.Common.{ap, ◌∙◌}
use Rattle.unit_core.specs.Units.{fabric_at_reset}
use Rattle.unit_core.specs.Fabrics.{FabricView}
use Rattle.script_reader.specs.Scripts.{ScriptOf}
use Rattle.audit_reader.proofs.Starting.{script_follows, none_read}
use Rattle.audit_reader.proofs.auditing.audit_counted.Goals as goal

pub audit_lines-requires-clause-read : goal.audit_lines-requires-clause-read
audit_lines-requires-clause-read c =
    let script = c.args.script.now in
    let follow = script_follows script c.script.inside.boot c.deref-2.result.now c.in_ok-cursors.cursors.items c.deref_mut.result.now c.requires.formed (ap (λ (s : ScriptOf). s.boot) c.script.view_is)
    (c.deref-2.ensures.value ∙ ap (λ (s : ScriptOf). s.lanes) c.script.view_is) c.deref_mut.ensures.value c.in_ok-cursors.ensures.fresh in
    let bytes = c.requires.counted.0 in (
      script,
      bytes,
      none_read script bytes c.args.count c.in-Ok.units.state c.deref_mut.result.now c.args.unread.now c.requires.few
          (ap (λ (v : FabricView). v.state) c.in-Ok.ensures ∙ ap fabric_at_reset (c.deref.ensures.value ∙ ap (λ (s : ScriptOf). s.shapes) c.script.view_is)) follow c.requires.counted.1,
    )

pub returns : goal.returns
returns c = λ bytes e.
    let script = c.args.script.now in
    let follow = script_follows script c.script.inside.boot c.deref-2.result.now c.in_ok-cursors.cursors.items c.deref_mut.result.now c.requires.formed (ap (λ (s : ScriptOf). s.boot) c.script.view_is)
    (c.deref-2.ensures.value ∙ ap (λ (s : ScriptOf). s.lanes) c.script.view_is) c.deref_mut.ensures.value c.in_ok-cursors.ensures.fresh in
    c.audit_lines.ensures script bytes c.requires.most (none_read script bytes c.args.count c.in-Ok.units.state c.deref_mut.result.now c.args.unread.now c.requires.few
    (ap (λ (v : FabricView). v.state) c.in-Ok.ensures ∙ ap fabric_at_reset (c.deref.ensures.value ∙ ap (λ (s : ScriptOf). s.shapes) c.script.view_is)) follow e)
