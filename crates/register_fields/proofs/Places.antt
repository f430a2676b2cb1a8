-- What is found at an index is the register that stands there.
use Rattle.std.proofs.Common.{◌≡◌, ◌↔◌, ℕ, true, Option, Some, sym, subst}
use Rattle.event_words.specs.declared.shape.Shape.{Shape}
use Rattle.event_words.specs.declared.register.Register.{Register}
use Rattle.event_words.specs.Registers.{register_at, index_of, has_register}
use Rattle.event_words.specs.Valid.{IsValidShape}
use Rattle.event_words.proofs.Indexes.{register_at-exact}
use Rattle.register_fields.specs.Places.{IsRegisterAt}

pub found_exactly : (h : Shape) (i : ℕ) (o : Option Register) → o ≡ register_at h i → IsValidShape h → IsRegisterAt h i o
found_exactly h i o e v = λ q. subst (λ o. (o ≡ Some q) ↔ ((index_of q ≡ i) × (has_register h q ≡ true))) (sym e) (register_at-exact h i q v)
