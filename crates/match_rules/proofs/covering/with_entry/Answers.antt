use Rattle.std.proofs.Common.{◌+◌}
use Rattle.event_words.specs.Word.{kind_code}
use Rattle.event_words.specs.Decisions.{entry_grants, has_cfg_bit}
use Rattle.event_words.proofs.Ranges.{any_more, all_more}
use Rattle.match_rules.proofs.Scans.{first_more}
use Rattle.match_rules.proofs.covering.with_entry.Goals as goal

pub returns : goal.returns
returns c = λ before h.
    let r = c.args.regs.now in
    let a = c.args.access.now in
    let e = c.args.entry in
    let first = first_more before e in
    let grants = any_more (entry_grants r a.rrid a.kind) before e in
    let irq = all_more (has_cfg_bit r (5 + kind_code a.kind)) before e in
    let err = all_more (has_cfg_bit r (8 + kind_code a.kind)) before e in
    record { first = cc (h.first, first, c.or.ensures); grants = cc (h.grants, grants, c.is_granting-grants.ensures); mute_irq = cc (h.mute_irq, irq, c.has_cfg_bit-mutes_irq.ensures, c.code-kind.ensures.value); mute_err = cc (h.mute_err, err, c.has_cfg_bit-mutes_err.ensures, c.code-kind.ensures.value) }
