-- The first line goes up to the first line feed, or to the end.
use Rattle.std.proofs.Common.{◌+◌, ◌∷◌, take, sym, ◌∙◌, ap, arith}
use Rattle.std.proofs.lemmas.List.{take_rest}
use Rattle.script_reader.specs.Text.{is_line_feed, lines_of}
use Rattle.script_reader.proofs.FirstLine.{position_some, position_none}
use Rattle.script_reader.proofs.Parts.{lines_found, lines_missing}
use Rattle.script_reader.proofs.text.Lines.next.Goals as goal

pub returns-then-end-text-clause-line : goal.returns-then-end-text-clause-line
returns-then-end-text-clause-line c =
    let text = c.self.inside.rest.now in
    let end = c.read-end.result in
    sym c.self.view_is ∙ lines_found text end (position_some is_line_feed text end (sym c.read-end.ensures.line) c.if-end-text.true) ∙ ap (λ l. take end text ∷ lines_of l) (sym (take_rest text (end + 1)))

pub returns-clause-line : goal.returns-clause-line
returns-clause-line c =
    let text = c.self.inside.rest.now in
    let end = c.read-end.result in
    sym c.self.view_is ∙ lines_missing text (sym c.is_empty.ensures ∙ c.if-is_empty.false) (position_none is_line_feed text end (sym c.read-end.ensures.line) (omega (arith, c.if-end-text.false)))
