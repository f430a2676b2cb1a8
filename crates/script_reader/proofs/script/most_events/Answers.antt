-- A section's events are few, and the greater number goes on.
use Rattle.std.proofs.Common.{ap, sym, ◌∙◌, ◌≤◌, ◌^◌, ◌+◌, max, drop, subst, arith}
use Rattle.event_words.specs.Sections.{IsValidSection, most_section_events}
use Rattle.event_words.proofs.ListItems.{all_at}
use Rattle.script_reader.specs.Scripts.{most_from}
use Rattle.script_reader.proofs.Needs.{events_few, most_step}
use Rattle.script_reader.proofs.script.most_events.Goals as goal

pub loop-section-preserved : goal.loop-section-preserved
loop-section-preserved c =
    let valid : IsValidSection c.section-item.result = subst IsValidSection (sym c.section-item.is) (all_at IsValidSection c.args.sections.now c.loop-section.section-index c.section-item.result c.requires.valid c.loop-section-test.true) in
    let few : most_section_events c.section-item.result ≤ 2 ^ 40 = events_few c.section-item.result valid in (
      ap (λ n. most_from n (drop (c.loop-section.section-index + 1) c.args.sections.now)) (c.greater-most.ensures ∙ ap (max c.loop-section.most) (c.events.ensures ∙ ap most_section_events c.section-item.is))
          ∙ sym (most_step c.loop-section.most c.args.sections.now c.loop-section.section-index c.section-item.result c.loop-section-test.true)
          ∙ c.loop-section.invariant.0,
      omega (arith, few, c.loop-section.invariant.1),
    )
