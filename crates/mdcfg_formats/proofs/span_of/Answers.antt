use Rattle.std.proofs.Common.{arith, ap, ◌∙◌, min, max}
use Rattle.event_words.specs.declared.shape.Shape.{Shape}
use Rattle.event_words.specs.Domains.{bound_of}
use Rattle.mdcfg_formats.proofs.Runs.{start_more, least_more, span_exact, span_none}
use Rattle.mdcfg_formats.proofs.span_of.Goals as goal

pub loop-below-preserved : goal.loop-below-preserved
loop-below-preserved c =
    let r = c.args.regs.now in
    let e = c.run_end-from.ensures ∙ ap (λ (s : Shape). max c.loop-below.from (min (bound_of r c.loop-below.below) s.entries)) c.shape-shape.ensures.value in
    (start_more r r.shape.entries _ _ _ c.loop-below.invariant.0 e, least_more r r.shape.entries _ _ _ c.loop-below.invariant.1 e)

pub returns-then-from-to-clause-exact : goal.returns-then-from-to-clause-exact
returns-then-from-to-clause-exact c =
    let r = c.args.regs.now in
    span_exact r c.args.domain c.loop-below.below _ _ c.requires (omega arith) c.loop-below.invariant.0 c.loop-below.invariant.1 (c.run_end-to.ensures ∙ ap (λ (s : Shape). max c.loop-below.from (min (bound_of r c.args.domain) s.entries)) c.shape-shape.ensures.value)

pub returns-else-from-to-clause-exact : goal.returns-else-from-to-clause-exact
returns-else-from-to-clause-exact c =
    let r = c.args.regs.now in
    span_none r c.args.domain _ _ c.if-from-to.false
    (span_exact r c.args.domain c.loop-below.below _ _ c.requires (omega arith) c.loop-below.invariant.0 c.loop-below.invariant.1 (c.run_end-to.ensures ∙ ap (λ (s : Shape). max c.loop-below.from (min (bound_of r c.args.domain) s.entries)) c.shape-shape.ensures.value))
