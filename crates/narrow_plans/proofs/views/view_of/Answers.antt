use Rattle.std.proofs.Common.{◌<◌, min, max, arith, sym, ap, ◌∙◌}
use Rattle.event_words.specs.declared.shape.Shape.{Shape}
use Rattle.event_words.specs.Domains.{bound_of}
use Rattle.mdcfg_formats.proofs.Runs.{run_here, start_more}
use Rattle.narrow_plans.proofs.Walks.{seen_foreign, seen_all}
use Rattle.narrow_plans.proofs.views.view_of.Goals.{then-has_domain+in_ok-add_run, else-has_domain}
use Rattle.narrow_plans.proofs.views.view_of.Goals as goal

pub add_run-requires-clause-run : goal.add_run-requires-clause-run
add_run-requires-clause-run c =
    let r = c.args.regs.now in
    let d = c.loop-domain.domain in
    let there : d < r.shape.domains = omega (arith, ap (λ (s : Shape). s.domains) c.shape-shape.ensures.value) in
    run_here r r.shape.entries d _ _ there c.loop-domain.invariant.1 (c.run_end-to.ensures ∙ ap (λ (s : Shape). max c.loop-domain.from (min (bound_of r d) s.entries)) c.shape-shape.ensures.value)

pub loop-domain-preserved : goal.loop-domain-preserved
loop-domain-preserved c =
    let r = c.args.regs.now in
    let d = c.loop-domain.domain in
    let there : d < r.shape.domains = omega (arith, ap (λ (s : Shape). s.domains) c.shape-shape.ensures.value) in
    let e = c.run_end-to.ensures ∙ ap (λ (s : Shape). max c.loop-domain.from (min (bound_of r d) s.entries)) c.shape-shape.ensures.value in
    let run = run_here r r.shape.entries d _ _ there c.loop-domain.invariant.1 e in (
      omega arith,
      start_more r r.shape.entries d _ _ c.loop-domain.invariant.1 e,
      elim c.if-has_domain.branch [
        | then-has_domain+in_ok-add_run w ↦ rw w.view-is w.in_ok-add_run.ensures
        | else-has_domain w ↦ rw (w.view-is, seen_foreign r c.args.rrid d c.loop-domain.from c.run_end-to.result (omega arith) run (sym (c.domains_of-domains.ensures d) ∙ (sym c.has_domain.ensures ∙ w.if-has_domain.false))) c.loop-domain.invariant.2
      ],
    )

pub returns : goal.returns
returns c =
    c.loop-domain.invariant.2 ∙ sym (seen_all c.args.regs.now c.args.rrid c.loop-domain.domain c.loop-domain.from (omega (arith, ap (λ (s : Shape). s.domains) c.shape-shape.ensures.value)) c.loop-domain.invariant.0 c.loop-domain.invariant.1)
