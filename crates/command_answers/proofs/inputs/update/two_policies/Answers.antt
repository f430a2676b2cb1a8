-- An input whose new policy is refused.
use Rattle.std.proofs.Common.{Ok, Err, ◌∙◌, ap, subst}
use Rattle.policy_compiler.specs.Gives.{Reads}
use Rattle.command_answers.specs.declared.refusals.policy_lines.WhichPolicy.TheVariants.{New}
use Rattle.command_answers.proofs.UpdateRefusals.{IsPolicyOr}
use Rattle.command_answers.proofs.UpdateRefusals.{new_refused}
use Rattle.command_answers.proofs.inputs.update.two_policies.Goals as goal

pub returns-in-Err-clause-update : goal.returns-in-Err-clause-update
returns-in-Err-clause-update c =
    new_refused c.args.with_lanes c.args.bytes.now c.in_ok-text.text c.in_ok-old.old c.in-Err.error c.in_ok-text.ensures.text
    (subst (Reads (Ok c.in_ok-old.old)) (c.deref.ensures.value ∙ ap (λ t. t.old) c.text.view_is) c.in_ok-old.ensures.policy)
    (subst (λ bytes. IsPolicyOr New bytes (Err c.in-Err.error)) (c.deref-2.ensures.value ∙ ap (λ t. t.new) c.text.view_is) c.in-Err.ensures.policy)
