-- The registers after an image's writes, and what they decide.
use Rattle.std.specs.Prelude.{◌≡◌, ℕ, List, [], ◌∷◌}
use Rattle.event_words.specs.declared.access.Access.{Access}
use Rattle.event_words.specs.declared.reply.Decision.{Decision}
use Rattle.event_words.specs.declared.reply.Decision.TheVariants.{Allowed, Denied}
use Rattle.event_words.specs.Registers.{Registers, written, at_reset}
use Rattle.event_words.specs.Guards.{guarded_bits}
use Rattle.event_words.specs.Decisions.{decision}
use Rattle.event_words.specs.Valid.{IsValidAccess}
use Rattle.policy_compiler.specs.declared.image.RegPair.{RegPair}
use Rattle.policy_compiler.specs.Policies.{PolicyOf}
use Rattle.policy_compiler.specs.Decides.{policy_decision}
use Rattle.policy_compiler.specs.Images.{ImageOf}

-- a write that keeps the guarded bits
abbrev pub guarded_write : Registers → RegPair → Registers
guarded_write r w = written r w.index w.value (guarded_bits r w.index)

abbrev pub after_writes : Registers → List RegPair → Registers
after_writes r [] = r
after_writes r (w ∷ ws) = after_writes (guarded_write r w) ws

-- The registers of a unit after an image's writes from reset.
unfoldable pub registers_after : ImageOf → Registers
registers_after i = after_writes (at_reset i.shape) i.writes

-- 0 where an access is allowed, else the violation's code
abbrev pub kind_of : Decision → ℕ
kind_of Allowed = 0
kind_of (Denied kind entry mute_irq mute_err) = kind

-- The unit decides each access as the policy does.
abbrev pub DecidesAs : PolicyOf → ImageOf → Type 0
DecidesAs p i = (a : Access) → IsValidAccess a → kind_of (decision (registers_after i) a) ≡ policy_decision p a
