-- What is left answers as the whole does.
use Rattle.std.proofs.Common.{◌≡◌, drop, find}
use Rattle.policy_compiler.specs.Decides.{rule_touches}
use Rattle.policy_compiler.proofs.decide.first_of.Given as goal

abbrev pub invariant-loop-rule : goal.invariant-loop-rule
invariant-loop-rule l = find (rule_touches l.access) (drop l.rule-index l.rules) ≡ find (rule_touches l.access) l.rules
