use Rattle.std.proofs.Common.{◌≡◌, ℕ, refl, ◌+◌, ◌==◌, ◌&&◌, true, ltb, sym, ap, ◌∙◌}
use Rattle.std.proofs.lemmas.Bool.{lt-ltb}
use Rattle.event_words.specs.declared.shape.Shape.{Shape}
use Rattle.event_words.specs.Registers.{Registers, has_bit}
use Rattle.event_words.specs.Domains.{is_enabled_in, is_in_table, is_known, is_associated}
use Rattle.srcmd_formats.proofs.known_domains_of.Goals as goal

in_bits : (r : Registers) (s d m k n : ℕ) → is_known r s ≡ true → r.shape.srcmd ≡ 0 → d ≡ r.shape.domains → has_bit n (m + 1) ≡ is_enabled_in r s m → has_bit k m ≡ (ltb m d && has_bit n (m + 1)) → has_bit k m ≡ is_associated r s m
in_bits r s d m k n e f g b h = h ∙ rw (e, f, g, b) refl

in_number : (r : Registers) (s d m k : ℕ) → is_known r s ≡ true → r.shape.srcmd ≡ 1 → d ≡ r.shape.domains → has_bit k m ≡ (ltb m d && (s == m)) → has_bit k m ≡ is_associated r s m
in_number r s d m k e f g h = h ∙ rw (e, f, g) refl

in_permissions : (r : Registers) (s m k : ℕ) → is_known r s ≡ true → has_bit k m ≡ (ltb m r.shape.domains && is_in_table r s m) → has_bit k m ≡ is_associated r s m
in_permissions r s m k e h = h ∙ rw e refl

pub returns-in-0 : goal.returns-in-0
returns-in-0 c = λ m.
    let r = c.args.regs.now in
    let s : Shape = c.shape-shape.result.now in
    let d : s.domains ≡ r.shape.domains = ap (λ (s : Shape). s.domains) c.shape-shape.ensures.value in
    let f : s.srcmd ≡ r.shape.srcmd = ap (λ (s : Shape). s.srcmd) c.shape-shape.ensures.value in
    in_bits r c.args.rrid s.domains m c.by_bits.result c.enables.result (lt-ltb c.args.rrid r.shape.rrids c.requires) (sym f ∙ c.in-0.is) d (c.enables.ensures m) (c.by_bits.ensures m)

pub returns-in-1 : goal.returns-in-1
returns-in-1 c = λ m.
    let r = c.args.regs.now in
    let s : Shape = c.shape-shape.result.now in
    let d : s.domains ≡ r.shape.domains = ap (λ (s : Shape). s.domains) c.shape-shape.ensures.value in
    let f : s.srcmd ≡ r.shape.srcmd = ap (λ (s : Shape). s.srcmd) c.shape-shape.ensures.value in
    in_number r c.args.rrid s.domains m c.by_number.result (lt-ltb c.args.rrid r.shape.rrids c.requires) (sym f ∙ c.in-1.is) d (c.by_number.ensures m)

pub returns-in_default : goal.returns-in_default
returns-in_default c = λ m.
    let r = c.args.regs.now in
    in_permissions r c.args.rrid m c.by_permissions.result (lt-ltb c.args.rrid r.shape.rrids c.requires) (c.by_permissions.ensures m)
