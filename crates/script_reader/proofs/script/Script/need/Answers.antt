-- The boot section's events are few.
use Rattle.std.proofs.Common.{◌≤◌, ◌^◌, ap, arith}
use Rattle.event_words.specs.Sections.{most_section_events}
use Rattle.script_reader.specs.Scripts.{ScriptOf}
use Rattle.script_reader.proofs.Needs.{events_few}
use Rattle.script_reader.proofs.script.Script.need.Goals as goal

pub most_events-requires-clause-few : goal.most_events-requires-clause-few
most_events-requires-clause-few c =
    let few : most_section_events c.args.self.now.boot ≤ 2 ^ 40 = events_few c.args.self.now.boot c.requires.boot in
    omega (arith, few, ap (λ (s : ScriptOf). most_section_events s.boot) c.self.view_is, c.events.ensures, c.greater-boot.ensures)
