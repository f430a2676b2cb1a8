-- The range of an entry has exactly its bytes, whatever the mode.
use Rattle.std.proofs.Common.{◌≡◌, ℕ, ◌+◌, ◌*◌, ◌/◌, ◌^◌, ltb, false, arith, refl}
use Rattle.std.specs.Int.{trailing_ones, w64}
use Rattle.std.proofs.lemmas.Nat.{pow_pos}
use Rattle.std.proofs.lemmas.Bool.Decides.{nat_tests}
use Rattle.event_words.specs.Registers.{Registers}
use Rattle.event_words.specs.Entries.{word_address, mode_of, bottom_of, is_byte_of, is_byte_by, is_between}
use Rattle.event_words.specs.declared.address_mode.AddressMode.{AddressMode}
use Rattle.event_words.specs.declared.address_mode.AddressMode.TheVariants.{Off, Tor, Na4, Napot}
use Rattle.event_words.proofs.Cases.{by_test}
use Rattle.event_words.proofs.Blocks.{block_bytes}
use Rattle.entry_ranges.specs.Ranges.{HoldsBytes}
use Rattle.narrow_plans.specs.Views.{range_up_to, range_by_mode, entry_range}

no_byte : (bottom top x : ℕ) → ltb bottom top ≡ false → is_between bottom top x ≡ false
no_byte bottom top x t = grind (arith, nat_tests)

up_to : (bottom top : ℕ) → HoldsBytes (is_between bottom top) (range_up_to bottom top)
up_to bottom top = by_test (ltb bottom top) _
    (λ t. rw t (grind (arith, nat_tests), λ x. refl))
    (λ t. rw t (λ x. no_byte bottom top x t))

by_mode : (r : Registers) (j : ℕ) (mode : AddressMode) → HoldsBytes (λ x. is_byte_by r j x mode) (range_by_mode r j mode)
by_mode r j Off = λ x. refl
by_mode r j Tor = up_to (bottom_of r j) (4 * word_address r j)
by_mode r j Na4 = (omega arith, λ x. refl)
by_mode r j Napot =
    let size = 2 ^ (trailing_ones w64 (word_address r j) + 3) in
    let some = pow_pos (trailing_ones w64 (word_address r j) + 3) in
    (omega (arith, some), λ x. block_bytes size (4 * word_address r j / size) x some)

pub holds_range : (r : Registers) (j : ℕ) → HoldsBytes (is_byte_of r j) (entry_range r j)
holds_range r j = by_mode r j (mode_of r j)
