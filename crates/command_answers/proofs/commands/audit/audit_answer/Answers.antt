-- No heading, no script before it, or what was found of the report.
use Rattle.std.proofs.Common.{Ok, sym, ap, ◌∙◌}
use Rattle.script_reader.specs.ReportTexts.{ReportTextOf}
use Rattle.command_answers.specs.AuditCommand.{CanBeAudited}
use Rattle.command_answers.proofs.CommandAnswers.{no_parts, no_script, audit_said}
use Rattle.command_answers.proofs.commands.audit.audit_answer.Goals as goal

pub returns-in-Err : goal.returns-in-Err
returns-in-Err c = no_parts c.args.bytes.now c.in-Err.refused c.in-Err.ensures.parts

pub returns-in-Err-written_script : goal.returns-in-Err-written_script
returns-in-Err-written_script c =
    let parts : ReportTextOf = record { script = c.parts.inside.script.now; heading = c.parts.inside.heading; report = c.parts.inside.report.now } in
    no_script c.args.bytes.now parts c.in-Err-written_script.refused (c.in-Ok.ensures.parts ∙ ap Ok (sym c.parts.view_is)) c.in-Err-written_script.ensures.script

pub returns : goal.returns
returns c =
    let parts : ReportTextOf = record { script = c.parts.inside.script.now; heading = c.parts.inside.heading; report = c.parts.inside.report.now } in
    let input : CanBeAudited c.args.bytes.now =
    record { parts = parts; script = c.in-Ok-written_script.script; parted = c.in-Ok.ensures.parts ∙ ap Ok (sym c.parts.view_is); stands_for = c.in-Ok-written_script.ensures.script } in
    audit_said c.args.bytes.now input c.audited.result c.audited.ensures
