-- The bits of the mask are those that the lines of the table name.
use Rattle.std.proofs.Common.{◌≡◌, ℕ, zero, suc, ◌+◌, ◌-◌, ◌*◌, ◌/◌, ◌^◌, ◌<◌, ◌==◌, ◌&&◌, ◌||◌, Bool, true, false, not, eqb, ltb, leb, bit_or, max, Option, Some, None, sum_by, arith, refl, sym, ap, ◌∙◌, inl, inr}
use Rattle.std.specs.Int.{bit_at}
use Rattle.std.proofs.lemmas.Nat.Bits.{bit_at-zero, bit_at-lt, bit_at-suc, bit_at_or, bit_at-pow_same, bit_at-pow_other}
use Rattle.std.proofs.lemmas.Bool.{lt-ltb, le-ltb, le-leb}
use Rattle.std.proofs.lemmas.Bool.Decides.{eqb_tells}
use Rattle.event_words.specs.declared.register.Register.{Register}
use Rattle.event_words.specs.declared.register.Register.TheVariants.{Hwcfg0, Hwcfg1, Hwcfg2, Mdstall, Mdstallh, Rridscp, Mdlck, Mdlckh, Mdcfglck, Entrylck, ErrCfg, ErrInfo, ErrReqaddr, ErrReqaddrh, ErrReqid, Mdcfg, SrcmdEn, SrcmdEnh, SrcmdR, SrcmdRh, SrcmdW, SrcmdWh, SrcmdPerm, SrcmdPermh, EntryAddr, EntryAddrh, EntryCfg}
use Rattle.event_words.specs.Registers.{Registers, register_at, fields_of, bits_of, has_bit, has_pair_bit}
use Rattle.event_words.specs.Guards.{reg, is_enabled, is_prient_prog, is_locked_domain, whole, whole_where, bits_from, read_only_bits, is_read_only_bit, is_locked, is_low_locked, is_high_locked, is_mdlck_locked, is_guarded, is_guarded_of, guarded_bits}
use Rattle.event_words.proofs.FieldBits.{whole_bit, read_only_bit, bits_from_bit}
use Rattle.event_words.proofs.BitNumbers.{number_from}
use Rattle.lock_rules.specs.Masks.{where_true, srcmd_guards, mdlck_guards, low_locks, high_locks, locks_of, mask_of, keep_mask}

-- ---- bits of what a mask is made of

none_set : (i : ℕ) → has_bit 0 i ≡ false
none_set i = ap (λ d. eqb d 1) (bit_at-zero i)

either : (a b : ℕ) → a < 2 → b < 2 → eqb (max a b) 1 ≡ (eqb a 1 || eqb b 1)
either zero b p q = ap (λ d. eqb d 1) (let e : max 0 b ≡ b = omega arith in e)
either (suc zero) zero p q = refl
either (suc zero) (suc zero) p q = refl
either (suc zero) (suc (suc b)) p q = absurd (omega arith)
either (suc (suc a)) b p q = absurd (omega arith)

or_bit : (a b i : ℕ) → has_bit (bit_or a b) i ≡ (has_bit a i || has_bit b i)
or_bit a b i = ap (λ d. eqb d 1) (bit_at_or a b i) ∙ either (bit_at a i) (bit_at b i) (bit_at-lt a i) (bit_at-lt b i)

where_bit : (holds : Bool) (n i : ℕ) → has_bit (where_true holds n) i ≡ (holds && has_bit n i)
where_bit true n i = refl
where_bit false n i = none_set i

whole_where_bit : (r : Registers) (q : Register) (i : ℕ) (holds : Bool) → has_bit (where_true holds (whole r.shape q)) i ≡ whole_where r q i holds
whole_where_bit r q i holds = where_bit holds (whole r.shape q) i ∙ ap (λ b. holds && b) (whole_bit r.shape q i)

swapped : (a b : Bool) → (a && b) ≡ (b && a)
swapped true true = refl
swapped true false = refl
swapped false true = refl
swapped false false = refl

one_bit : (k i : ℕ) → has_bit (2 ^ k) i ≡ (i == k)
one_bit k i = elim (eqb_tells i k) [
  | inl e ↦ ap (λ j. has_bit (2 ^ k) j) e.1 ∙ (ap (λ d. eqb d 1) (bit_at-pow_same k) ∙ sym e.0)
  | inr e ↦ ap (λ d. eqb d 1) (bit_at-pow_other k i e.1) ∙ sym e.0
]

-- a word without its bit 0
upper_bit : (n i : ℕ) → has_bit (n / 2 * 2) i ≡ (leb 1 i && has_bit n i)
upper_bit n zero = let e : bit_at (n / 2 * 2) 0 ≡ 0 = omega arith in ap (λ d. eqb d 1) e
upper_bit n (suc i) =
    let h : n / 2 * 2 / 2 ≡ n / 2 = omega arith in
    let e : leb 1 (suc i) ≡ true = le-leb 1 (suc i) (omega arith) in
    ap (λ d. eqb d 1) (bit_at-suc (n / 2 * 2) i ∙ (ap (λ m. bit_at m i) h ∙ sym (bit_at-suc n i)))
    ∙ sym (ap (λ b. b && has_bit n (suc i)) e)

low_domain : (r : Registers) (i : ℕ) → i < 32 → (leb 1 i && has_bit (reg r Mdlck) i) ≡ (leb 1 i && is_locked_domain r (i - 1))
low_domain r zero l = refl
low_domain r (suc i) l =
    let e : suc i - 1 + 1 ≡ suc i = omega arith in
    let p : ltb (suc i) 32 ≡ true = lt-ltb (suc i) 32 l in
    ap (λ b. leb 1 (suc i) && b) (sym (ap (has_pair_bit (reg r Mdlck) (reg r Mdlckh)) e ∙ rw p refl))

high_domain : (r : Registers) (i : ℕ) → has_bit (reg r Mdlckh) i ≡ is_locked_domain r (i + 31)
high_domain r i =
    let p : ltb (i + 31 + 1) 32 ≡ false = le-ltb (i + 31 + 1) 32 (omega arith) in
    let e : i + 31 + 1 - 32 ≡ i = omega arith in
    sym (rw (p, e) refl)

-- ---- the lines

low_line : (r : Registers) (s : ℕ) (q : Register) (i : ℕ) → i < 32 → has_bit (srcmd_guards r s q (low_locks r)) i ≡ is_low_locked r s q i
low_line r s q i l =
    or_bit _ (low_locks r) i ∙ (ap (λ b. b || has_bit (low_locks r) i) (whole_where_bit r q i (has_bit (reg r (SrcmdEn s)) 0))
    ∙ ap (λ b. whole_where r q i (has_bit (reg r (SrcmdEn s)) 0) || b) (upper_bit (reg r Mdlck) i ∙ low_domain r i l))

high_line : (r : Registers) (s : ℕ) (q : Register) (i : ℕ) → has_bit (srcmd_guards r s q (high_locks r)) i ≡ is_high_locked r s q i
high_line r s q i =
    or_bit _ (high_locks r) i ∙ (ap (λ b. b || has_bit (high_locks r) i) (whole_where_bit r q i (has_bit (reg r (SrcmdEn s)) 0))
    ∙ ap (λ b. whole_where r q i (has_bit (reg r (SrcmdEn s)) 0) || b) (high_domain r i))

mdlck_line : (r : Registers) (q : Register) (i : ℕ) → has_bit (mdlck_guards r q) i ≡ is_mdlck_locked r q i
mdlck_line r q i =
    or_bit (reg r q) _ i ∙ ap (λ b. has_bit (reg r q) i || b) (whole_where_bit r q i (has_bit (reg r Mdlck) 0))

either_line : (a b p q : Bool) → a ≡ p → b ≡ q → (a || b) ≡ (p || q)
either_line a b p q e f = rw (e, f) refl

where_line : (holds : Bool) (n i : ℕ) (test : Bool) → has_bit n i ≡ test → has_bit (where_true holds n) i ≡ (test && holds)
where_line holds n i test e = where_bit holds n i ∙ (ap (λ b. holds && b) e ∙ swapped holds test)

hwcfg0_line : (r : Registers) (i : ℕ) → has_bit (locks_of r Hwcfg0) i ≡ is_locked r Hwcfg0 i
hwcfg0_line r i =
    let rest = bit_or (where_true (not (is_prient_prog r)) (2 ^ 13)) (where_true ((r.shape.mdcfg == 2) && is_enabled r) (bits_from 17 7)) in
    or_bit (where_true (is_enabled r) 1) rest i
    ∙ either_line (has_bit (where_true (is_enabled r) 1) i) (has_bit rest i) _ _ (where_line (is_enabled r) 1 i (i == 0) (one_bit 0 i))
    (or_bit (where_true (not (is_prient_prog r)) (2 ^ 13)) (where_true ((r.shape.mdcfg == 2) && is_enabled r) (bits_from 17 7)) i
    ∙ either_line _ _ _ _ (where_line (not (is_prient_prog r)) (2 ^ 13) i (i == 13) (one_bit 13 i))
    (where_line ((r.shape.mdcfg == 2) && is_enabled r) (bits_from 17 7) i (leb 17 i && ltb i 24) (bits_from_bit 17 7 i)))

hwcfg2_line : (r : Registers) (i : ℕ) → has_bit (locks_of r Hwcfg2) i ≡ is_locked r Hwcfg2 i
hwcfg2_line r i =
    where_line (not (is_prient_prog r)) (bits_from 0 16) i (ltb i 16) (bits_from_bit 0 16 i ∙ ap (λ b. b && ltb i 16) (le-leb 0 i (omega arith)))

-- Bit i of the mask of locks is 1 exactly where the register's line names it.
lock_bit : (r : Registers) (q : Register) (i : ℕ) → i < 32 → has_bit (locks_of r q) i ≡ is_locked r q i
lock_bit r Hwcfg0 i l = hwcfg0_line r i
lock_bit r Hwcfg1 i l = none_set i
lock_bit r Hwcfg2 i l = hwcfg2_line r i
lock_bit r Mdstall i l = none_set i
lock_bit r Mdstallh i l = none_set i
lock_bit r Rridscp i l = none_set i
lock_bit r Mdlck i l = mdlck_line r Mdlck i
lock_bit r Mdlckh i l = mdlck_line r Mdlckh i
lock_bit r Mdcfglck i l = whole_where_bit r Mdcfglck i (has_bit (reg r Mdcfglck) 0)
lock_bit r Entrylck i l = whole_where_bit r Entrylck i (has_bit (reg r Entrylck) 0)
lock_bit r ErrCfg i l = whole_where_bit r ErrCfg i (has_bit (reg r ErrCfg) 0)
lock_bit r ErrInfo i l = none_set i
lock_bit r ErrReqaddr i l = none_set i
lock_bit r ErrReqaddrh i l = none_set i
lock_bit r ErrReqid i l = none_set i
lock_bit r (Mdcfg m) i l = whole_where_bit r (Mdcfg m) i (ltb m (bits_of 1 7 (reg r Mdcfglck)))
lock_bit r (SrcmdEn s) i l = low_line r s (SrcmdEn s) i l
lock_bit r (SrcmdEnh s) i l = high_line r s (SrcmdEnh s) i
lock_bit r (SrcmdR s) i l = low_line r s (SrcmdR s) i l
lock_bit r (SrcmdRh s) i l = high_line r s (SrcmdRh s) i
lock_bit r (SrcmdW s) i l = low_line r s (SrcmdW s) i l
lock_bit r (SrcmdWh s) i l = high_line r s (SrcmdWh s) i
lock_bit r (SrcmdPerm m) i l = whole_where_bit r (SrcmdPerm m) i (is_locked_domain r m)
lock_bit r (SrcmdPermh m) i l = whole_where_bit r (SrcmdPermh m) i (is_locked_domain r m)
lock_bit r (EntryAddr n) i l = whole_where_bit r (EntryAddr n) i (ltb n (bits_of 1 16 (reg r Entrylck)))
lock_bit r (EntryAddrh n) i l = whole_where_bit r (EntryAddrh n) i (ltb n (bits_of 1 16 (reg r Entrylck)))
lock_bit r (EntryCfg n) i l = whole_where_bit r (EntryCfg n) i (ltb n (bits_of 1 16 (reg r Entrylck)))

mask_bit : (r : Registers) (o : Option Register) (i : ℕ) → i < 32 → has_bit (mask_of r o) i ≡ is_guarded_of r o i
mask_bit r None i l = none_set i
mask_bit r (Some q) i l =
    or_bit (sum_by read_only_bits (fields_of r.shape q)) (locks_of r q) i
    ∙ (ap (λ b. b || has_bit (locks_of r q) i) (read_only_bit r.shape q i) ∙ ap (λ b. is_read_only_bit r.shape q i || b) (lock_bit r q i l))

-- Bit i of the mask of a register is 1 exactly where the bit is guarded.
pub kept_bit : (r : Registers) (index i n : ℕ) → n ≡ keep_mask r index → i < 32 → has_bit n i ≡ is_guarded r index i
kept_bit r index i n e l = ap (λ n. has_bit n i) e ∙ mask_bit r (register_at r.shape index) i l

-- So the mask is the number of the guarded bits.
pub kept_number : (r : Registers) (index n : ℕ) → n ≡ keep_mask r index → n < 2 ^ 32 → n ≡ guarded_bits r index
kept_number r index n e small = number_from n (is_guarded r index) small (λ i l. kept_bit r index i n e l)
