-- The heading parts the input.
use Rattle.std.proofs.Common.{◌+◌, true, false, Ok, take, length, length-drop, sym, ap, ◌∙◌, arith}
use Rattle.std.proofs.lemmas.List.{take_rest}
use Rattle.script_reader.specs.ReportTexts.{ReportTextOf}
use Rattle.script_reader.proofs.FedLines.{line_at, heading_told, heading_at, no_heading_at}
use Rattle.script_reader.proofs.report_text.read_report_text.Goals as goal

pub returns-then-is_heading-clause-read : goal.returns-then-is_heading-clause-read
returns-then-is_heading-clause-read c =
    let bytes = c.args.bytes.now in
    let start = c.loop-start.start in
    let size = c.fed_length.result in
    let next = line_at bytes start size c.fed_length.ensures.line in
    let heading = heading_told bytes start size _ _ c.is_heading.result true c.fed_length.ensures.bare c.read.ensures.words c.is_heading.ensures c.if-is_heading.true in
    heading_at bytes start size c.loop-start.number c.loop-start.invariant.parts next heading
    ∙ ap (λ bs. Ok (let t : ReportTextOf = record { script = take start bytes; heading = c.loop-start.number; report = bs } in t)) (sym (take_rest bytes (start + size)))

pub loop-start-preserved : goal.loop-start-preserved
loop-start-preserved c =
    let bytes = c.args.bytes.now in
    let start = c.loop-start.start in
    let size = c.fed_length.result in
    let next = line_at bytes start size c.fed_length.ensures.line in
    let heading = heading_told bytes start size _ _ c.is_heading.result false c.fed_length.ensures.bare c.read.ensures.words c.is_heading.ensures c.if-is_heading.false in
    let some = c.fed_length.ensures.some in
    let few = c.fed_length.ensures.few in
    let number = c.loop-start.invariant.few in
    record {
      parts = no_heading_at bytes start size c.loop-start.number c.loop-start.invariant.parts next heading;
      within = omega (arith, few, ap length (take_rest bytes start), length-drop start bytes, c.loop-start-test.true);
      few = omega (arith, number, some);
    }
