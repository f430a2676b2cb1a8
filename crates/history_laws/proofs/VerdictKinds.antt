-- The kind of a verdict is that of its decision.
use Rattle.std.proofs.Common.{◌≡◌, not, true, false, cond, refl, ap, ◌∙◌}
use Rattle.event_words.specs.declared.access.Access.{Access}
use Rattle.event_words.specs.declared.reply.Decision.{Decision}
use Rattle.event_words.specs.declared.reply.Decision.TheVariants as decisions
use Rattle.event_words.specs.Registers.{Registers}
use Rattle.event_words.specs.Guards.{is_enabled}
use Rattle.event_words.specs.Domains.{is_known}
use Rattle.event_words.specs.Decisions.{decision, violation, decide_by_hit, first_touching}
use Rattle.policy_compiler.specs.Laws.{kind_of}
use Rattle.unit_core.specs.Units.{UnitState}
use Rattle.history_laws.specs.Verdicts.{verdict_of}
use Rattle.history_laws.specs.Live.{kind_of_verdict}

pub verdict_kind : (x : UnitState) (a : Access) (d : Decision) → kind_of_verdict (verdict_of x a d) ≡ kind_of d
verdict_kind x a decisions.Allowed = refl
verdict_kind x a (decisions.Denied kind entry mute_irq mute_err) = refl

pub unknown_kind : (r : Registers) (a : Access) → is_enabled r ≡ true → is_known r a.rrid ≡ false → kind_of (decision r a) ≡ 6
unknown_kind r a e k =
    ap (λ b. kind_of (cond (not b) decisions.Allowed (cond (not (is_known r a.rrid)) (violation 6 0xFFFF) (decide_by_hit r a (first_touching r a))))) e
    ∙ ap (λ b. kind_of (cond (not b) (violation 6 0xFFFF) (decide_by_hit r a (first_touching r a)))) k
