-- The count is the number behind the first word, and the line of it stands there.
use Rattle.std.proofs.Common.{◌≡◌, ap, sym, ◌∙◌, ◌++◌, codes, List, ℕ, drop, length, decimal, append_assoc}
use Rattle.std.proofs.lemmas.Slice.Eq.{starts_is}
use Rattle.std.proofs.lemmas.Bool.Decides.{Decides-eqb}
use Rattle.std.proofs.lemmas.Option.{none-some, same_Some}
use Rattle.event_words.specs.ReportLines.{count_line}
use Rattle.audit_reader.proofs.Leading.{number_found}
use Rattle.audit_reader.proofs.Prefixes.{stripped}
use Rattle.audit_reader.proofs.listing.count_in.Goals as goal

-- what stands behind the word of the first line
behind_count : (n : ℕ) (rest left : List ℕ) → codes "events " ++ left ≡ count_line n ++ rest → left ≡ decimal n ++ (codes "\n" ++ rest)
behind_count n rest left e = ap (drop 7) e ∙ append_assoc (decimal n) (codes "\n") rest

pub returns-in_err-count-clause-count : goal.returns-in_err-count-clause-count
returns-in_err-count-clause-count c = λ n rest l e.
    let left = c.in_ok-strip_prefix.field-0.now in
    let behind = stripped c.args.bytes.now (codes "events ") c.strip_prefix.result c.in_ok-strip_prefix.field-0 c.strip_prefix.ensures.cases c.in_ok-strip_prefix.was in
    absurd (none-some n (sym c.in_err-count.was ∙ number_found c.args.most n rest left c.number_up_to.result c.requires l c.number_up_to.ensures (behind_count n rest left (sym behind ∙ e))))

pub returns-then-starts_with-clause-count : goal.returns-then-starts_with-clause-count
returns-then-starts_with-clause-count c = λ n rest l e.
    let left = c.in_ok-strip_prefix.field-0.now in
    let behind = stripped c.args.bytes.now (codes "events ") c.strip_prefix.result c.in_ok-strip_prefix.field-0 c.strip_prefix.ensures.cases c.in_ok-strip_prefix.was in
    sym c.in_ok-count.was ∙ number_found c.args.most n rest left c.number_up_to.result c.requires l c.number_up_to.ensures (behind_count n rest left (sym behind ∙ e))

pub returns-then-starts_with-clause-only : goal.returns-then-starts_with-clause-only
returns-then-starts_with-clause-only c =
    let line = c.bytes.result.now in
    let rest = drop (length line) c.args.bytes.now in
    (rest, (starts_is Decides-eqb c.args.bytes.now line c.starts_with.result c.starts_with.ensures.value).0 c.if-starts_with.true ∙ ap (λ bs. bs ++ rest) (c.bytes.ensures ∙ c.make_count.ensures))

pub returns-else-starts_with-clause-count : goal.returns-else-starts_with-clause-count
returns-else-starts_with-clause-count c = λ n rest l e.
    let left = c.in_ok-strip_prefix.field-0.now in
    let line = c.bytes.result.now in
    let count = c.in_ok-count.count in
    let behind = stripped c.args.bytes.now (codes "events ") c.strip_prefix.result c.in_ok-strip_prefix.field-0 c.strip_prefix.ensures.cases c.in_ok-strip_prefix.was in
    let same : count ≡ n = same_Some count n (sym c.in_ok-count.was ∙ number_found c.args.most n rest left c.number_up_to.result c.requires l c.number_up_to.ensures (behind_count n rest left (sym behind ∙ e))) in
    let made : line ≡ count_line n = c.bytes.ensures ∙ c.make_count.ensures ∙ ap count_line same in
    let came = (starts_is Decides-eqb c.args.bytes.now line c.starts_with.result c.starts_with.ensures.value).1 rest (e ∙ ap (λ bs. bs ++ rest) (sym made)) in
    let no = c.if-starts_with.false in
    cc
