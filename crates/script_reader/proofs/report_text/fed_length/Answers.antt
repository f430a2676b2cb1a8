-- The first line with its line feed, or the last without one.
use Rattle.std.proofs.Common.{◌≡◌, ◌+◌, ◌∷◌, take, drop, length, sym, ap, ◌∙◌, subst, arith}
use Rattle.script_reader.specs.Text.{without_last_line_feed}
use Rattle.script_reader.specs.ReportTexts.{fed_lines}
use Rattle.script_reader.proofs.FirstLine.{line_within}
use Rattle.script_reader.proofs.FedLines.{fed_first, fed_last, bare_first, bare_last}
use Rattle.script_reader.proofs.report_text.fed_length.Goals as goal

pub returns-then-end-bytes-clause-line : goal.returns-then-end-bytes-clause-line
returns-then-end-bytes-clause-line c =
    let bytes = c.args.bytes.now in
    subst (λ e. fed_lines bytes ≡ take (e + 1) bytes ∷ fed_lines (drop (e + 1) bytes)) (sym c.requires.line) (fed_first bytes (omega (arith, c.requires.line, c.if-end-bytes.true)))

pub returns-then-end-bytes-clause-bare : goal.returns-then-end-bytes-clause-bare
returns-then-end-bytes-clause-bare c =
    let bytes = c.args.bytes.now in
    ap (λ e. without_last_line_feed (take (e + 1) bytes)) c.requires.line ∙ bare_first bytes (omega (arith, c.requires.line, c.if-end-bytes.true))

pub returns-else-end-bytes-clause-few : goal.returns-else-end-bytes-clause-few
returns-else-end-bytes-clause-few c = omega (arith, c.requires.line, line_within c.args.bytes.now)

pub returns-else-end-bytes-clause-line : goal.returns-else-end-bytes-clause-line
returns-else-end-bytes-clause-line c =
    let bytes = c.args.bytes.now in
    let last : c.args.end ≡ length bytes = omega (arith, c.requires.line, line_within bytes, c.if-end-bytes.false) in
    subst (λ e. fed_lines bytes ≡ take e bytes ∷ fed_lines (drop e bytes)) (sym last) (fed_last bytes c.requires.some (sym c.requires.line ∙ last))

pub returns-else-end-bytes-clause-bare : goal.returns-else-end-bytes-clause-bare
returns-else-end-bytes-clause-bare c = ap (λ e. without_last_line_feed (take e c.args.bytes.now)) c.requires.line ∙ bare_last c.args.bytes.now
