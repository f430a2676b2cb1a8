use Rattle.std.proofs.Common.{◌≡◌, true, false, arith, ap}
use Rattle.event_words.specs.declared.shape.Shape.{Shape}
use Rattle.std.proofs.lemmas.Bool.Decides.{nat_tests}
use Rattle.event_words.specs.Domains.{is_bounded_by, owner_of}
use Rattle.mdcfg_formats.proofs.Searches.{find_here, find_later}
use Rattle.mdcfg_formats.proofs.domain_of.Goals as goal

pub returns-then-entry-bound_of-clause-value : goal.returns-then-entry-bound_of-clause-value
returns-then-entry-bound_of-clause-value c =
    let r = c.args.regs.now in
    let t : is_bounded_by r c.args.entry c.loop-domain.domain ≡ true = search (nat_tests, arith) in
    find_here (is_bounded_by r c.args.entry) c.loop-domain.domain r.shape.domains (owner_of r c.args.entry) (omega (arith, ap (λ (s : Shape). s.domains) c.shape-shape.ensures.value)) c.loop-domain.invariant t

pub loop-domain-preserved : goal.loop-domain-preserved
loop-domain-preserved c =
    let r = c.args.regs.now in
    let t : is_bounded_by r c.args.entry c.loop-domain.domain ≡ false = search (nat_tests, arith) in
    find_later (is_bounded_by r c.args.entry) c.loop-domain.domain r.shape.domains (owner_of r c.args.entry) (omega (arith, ap (λ (s : Shape). s.domains) c.shape-shape.ensures.value)) c.loop-domain.invariant t
