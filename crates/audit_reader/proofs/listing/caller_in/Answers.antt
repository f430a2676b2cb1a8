-- The caller's number stands after the place and a space.
use Rattle.std.proofs.Common.{◌≡◌, ◌<◌, ap, subst, ◌∙◌, ◌++◌, codes, decimal, List, ℕ}
use Rattle.event_words.specs.Events.{caller_of}
use Rattle.audit_reader.specs.LineFronts.{BeginsWith, number_front, event_front}
use Rattle.audit_reader.proofs.Fronts.{after_part, both_parts, line_front, if_some}
use Rattle.audit_reader.proofs.Prefixes.{stripped, not_stripped, part_is}
use Rattle.audit_reader.proofs.listing.caller_in.Goals as goal

pub returns-in_err-strip_prefix-clause-some : goal.returns-in_err-strip_prefix-clause-some
returns-in_err-strip_prefix-clause-some c = λ n h b.
    let front : List ℕ = c.bytes.result.now in
    let written : front ≡ number_front c.args.place = c.bytes.ensures ∙ c.put_decimal.ensures.text ∙ ap (λ bs. decimal c.args.place ++ bs) (c.put.ensures.text ∙ ap (λ bs. codes " " ++ bs) c.new-front.ensures) in
    let after = after_part (number_front c.args.place) (number_front n) front c.args.bytes.now written b in
    absurd (not_stripped c.args.bytes.now front c.strip_prefix.result c.strip_prefix.ensures.cases c.in_err-strip_prefix.was after.0 after.1)

pub returns-in_err-strip_prefix-clause-line : goal.returns-in_err-strip_prefix-clause-line
returns-in_err-strip_prefix-clause-line c = λ x rest p k l. returns-in_err-strip_prefix-clause-some c (caller_of x.event) k (line_front x c.args.place c.args.bytes.now rest p l)

pub returns-clause-some : goal.returns-clause-some
returns-clause-some c = λ n h b.
    let front : List ℕ = c.bytes.result.now in
    let written : front ≡ number_front c.args.place = c.bytes.ensures ∙ c.put_decimal.ensures.text ∙ ap (λ bs. decimal c.args.place ++ bs) (c.put.ensures.text ∙ ap (λ bs. codes " " ++ bs) c.new-front.ensures) in
    let after = after_part (number_front c.args.place) (number_front n) front c.args.bytes.now written b in
    let left = stripped c.args.bytes.now front c.strip_prefix.result c.in_ok-strip_prefix.field-0 c.strip_prefix.ensures.cases c.in_ok-strip_prefix.was in
    c.number_at_front.ensures.some n h (subst (BeginsWith (number_front n)) (part_is c.args.bytes.now front after.0 c.in_ok-strip_prefix.field-0.now after.1 left) after.2)

pub returns-clause-line : goal.returns-clause-line
returns-clause-line c = λ x rest p k l. returns-clause-some c (caller_of x.event) k (line_front x c.args.place c.args.bytes.now rest p l)

pub returns-clause-only : goal.returns-clause-only
returns-clause-only c =
    let front : List ℕ = c.bytes.result.now in
    let written : front ≡ number_front c.args.place = c.bytes.ensures ∙ c.put_decimal.ensures.text ∙ ap (λ bs. decimal c.args.place ++ bs) (c.put.ensures.text ∙ ap (λ bs. codes " " ++ bs) c.new-front.ensures) in
    let left = stripped c.args.bytes.now front c.strip_prefix.result c.in_ok-strip_prefix.field-0 c.strip_prefix.ensures.cases c.in_ok-strip_prefix.was in
    if_some c.number_at_front.result (λ n. (n < 17) × BeginsWith (number_front n) c.in_ok-strip_prefix.field-0.now) (λ n. (n < 17) × BeginsWith (event_front c.args.place n) c.args.bytes.now)
    (λ n b. (b.0, both_parts (number_front c.args.place) (number_front n) front c.args.bytes.now c.in_ok-strip_prefix.field-0.now written left b.1))
    c.number_at_front.ensures.only
