-- What the writes of images and of updates leave in the registers, whatever came between them: the table words
-- are the last values that were written, and no lock is set.
use Rattle.std.proofs.Common.{◌≡◌, ℕ, ◌+◌, ◌-◌, ◌*◌, ◌/◌, ◌%◌, ◌^◌, ◌<◌, ◌≤◌, ◌⊎◌, inl, inr, true, false, ◌==◌, ltb, cond, List, [], ◌∷◌, ◌++◌, length, append_assoc, Option, Some, None, bit_and, bit_or, min, max, arith, refl, sym, ap, ◌∙◌, subst, ⊎_elim}
use Rattle.std.specs.Int.{bit_at, bit_not, w32}
use Rattle.std.proofs.Math.ListN.{length-set}
use Rattle.std.proofs.lemmas.Nat.Bits.{bit_at_and, bit_at_or, bit_at_not, bit_at-lt}
use Rattle.std.proofs.lemmas.List.{get_or-set_same, get_or_past, append-nil}
use Rattle.std.proofs.lemmas.Bool.{cases_eq, cases_lt, cond_both, cond-true, cond-false, eq-eqb, ne_eqb, eqb-true}
use Rattle.std.proofs.lemmas.Bool.Decides.{nat_tests}
use Rattle.std.proofs.lemmas.Nat.{mod_below, pow_pos, and_le_r}
use Rattle.event_words.specs.declared.shape.Shape.{Shape}
use Rattle.event_words.specs.declared.register.Register.{Register}
use Rattle.event_words.specs.declared.register.Register.TheVariants.{Hwcfg0, Mdcfg, SrcmdEn, SrcmdEnh, SrcmdR, SrcmdRh, SrcmdW, SrcmdWh, SrcmdPerm, SrcmdPermh, EntryAddr, EntryAddrh, EntryCfg}
use Rattle.event_words.specs.Registers.{Registers, word_at, bits_of, has_bit, named_at, srcmd_at, entry_at, if_had, has_register, fields_of, ruled_word, merged, set_word, reset_of, reset_word, index_count, at_reset}
use Rattle.event_words.specs.Guards.{is_enabled, is_prient_prog}
use Rattle.policy_compiler.specs.declared.image.RegPair.{RegPair}
use Rattle.policy_compiler.specs.Policies.{IsPolicyShape}
use Rattle.policy_compiler.specs.Images.{pair}
use Rattle.policy_compiler.specs.Laws.{guarded_write, after_writes}
use Rattle.policy_compiler.proofs.Plain.{IsUnlocked, IsPlain, unlocked, set_even, other}
use Rattle.policy_compiler.proofs.Ends.{reset_read, calm_reset, reset_not_enabled, prio_word, enable_word, enable_kept, prio_low}

-- ---- the last value that writes give an index

abbrev pub value_from : ℕ → List RegPair → ℕ → ℕ
value_from n [] i = n
value_from n (p ∷ ps) i = value_from (cond (p.index == i) p.value n) ps i

-- 0 where none of them writes it
abbrev pub value_of : List RegPair → ℕ → ℕ
value_of ps i = value_from 0 ps i

pub value_append : (n : ℕ) (ps qs : List RegPair) (i : ℕ) → value_from n (ps ++ qs) i ≡ value_from (value_from n ps i) qs i
value_append n [] qs i = refl
value_append n (p ∷ ps) qs i = value_append (cond (p.index == i) p.value n) ps qs i

pub value_same : (ps : List RegPair) (w : RegPair) (i : ℕ) → w.index ≡ i → value_of (ps ++ w ∷ []) i ≡ w.value
value_same ps w i e = value_append 0 ps (w ∷ []) i ∙ cond-true (w.index == i) w.value (value_of ps i) (eq-eqb w.index i e)

pub value_other : (ps : List RegPair) (w : RegPair) (i : ℕ) → (w.index ≡ i → ⊥) → value_of (ps ++ w ∷ []) i ≡ value_of ps i
value_other ps w i ne = value_append 0 ps (w ∷ []) i ∙ cond-false (w.index == i) w.value (value_of ps i) (ne_eqb w.index i ne)

-- ---- registers after writes

pub record Stands (h : Shape) (ps : List RegPair) (r : Registers) : Type 0 where
  pub unlocked : IsUnlocked h r
  pub program : is_prient_prog r ≡ true
  pub enabled : is_enabled r ≡ (value_of ps 2 == 1)
  pub prio : bits_of 0 16 (word_at r 4) ≡ value_of ps 4
  pub tables : (i : ℕ) → 512 ≤ i → word_at r i ≡ value_of ps i

-- Registers with the same words but for those between the locks and the tables.
pub stands_same : (h : Shape) (ps : List RegPair) (r s : Registers) → s.shape ≡ r.shape → length s.words ≡ length r.words → ((i : ℕ) → (i < 20) ⊎ (512 ≤ i) → word_at s i ≡ word_at r i) → Stands h ps r → Stands h ps s
stands_same h ps r s shape len same c =
    let two : word_at s 2 ≡ word_at r 2 = same 2 (inl (omega arith)) in
    record {
      unlocked = record {
        shape = shape ∙ c.unlocked.shape;
        len = len ∙ c.unlocked.len;
        mdlck = same 16 (inl (omega arith)) ∙ c.unlocked.mdlck;
        mdlckh = same 17 (inl (omega arith)) ∙ c.unlocked.mdlckh;
        mdcfglck = same 18 (inl (omega arith)) ∙ c.unlocked.mdcfglck;
        entrylck = same 19 (inl (omega arith)) ∙ c.unlocked.entrylck;
        enables = λ f n l. ap (λ w. w % 2) (same (1024 + 8 * n) (inr (omega arith))) ∙ c.unlocked.enables f n l;
      };
      program = ap (λ w. has_bit w 13) two ∙ c.program;
      enabled = ap (λ w. has_bit w 0) two ∙ c.enabled;
      prio = ap (bits_of 0 16) (same 4 (inl (omega arith))) ∙ c.prio;
      tables = λ i l. same i (inr l) ∙ c.tables i l;
    }

-- a word below the locks, or of a table
unlocked_set : (h : Shape) (r : Registers) (i v : ℕ) → (i < 16) ⊎ (20 ≤ i) → (h.srcmd ≡ 0 → (s : ℕ) → s < 64 → i ≡ 1024 + 8 * s → v % 2 ≡ 0) → IsUnlocked h r → IsUnlocked h (set_word r i v)
unlocked_set h r i v out even c = record {
  shape = c.shape;
  len = length-set r.words i v ∙ c.len;
  mdlck = other r.words i 16 v (λ e. ⊎_elim (λ (a : i < 16). absurd (omega arith)) (λ (b : 20 ≤ i). absurd (omega arith)) out) ∙ c.mdlck;
  mdlckh = other r.words i 17 v (λ e. ⊎_elim (λ (a : i < 16). absurd (omega arith)) (λ (b : 20 ≤ i). absurd (omega arith)) out) ∙ c.mdlckh;
  mdcfglck = other r.words i 18 v (λ e. ⊎_elim (λ (a : i < 16). absurd (omega arith)) (λ (b : 20 ≤ i). absurd (omega arith)) out) ∙ c.mdcfglck;
  entrylck = other r.words i 19 v (λ e. ⊎_elim (λ (a : i < 16). absurd (omega arith)) (λ (b : 20 ≤ i). absurd (omega arith)) out) ∙ c.entrylck;
  enables = λ f s l. set_even r.words i (1024 + 8 * s) v (c.enables f s l) (even f s l);
}

low_even : (h : Shape) (i v : ℕ) → i < 16 → h.srcmd ≡ 0 → (s : ℕ) → s < 64 → i ≡ 1024 + 8 * s → v % 2 ≡ 0
low_even h i v low f s l e = absurd (omega arith)

-- ---- one more write

-- of a table
stands_table : (h : Shape) (ps : List RegPair) (r : Registers) (w : RegPair) → IsPlain h w → Stands h ps r → Stands h (ps ++ w ∷ []) (set_word r w.index w.value)
stands_table h ps r w p c =
    let t = p.table in
    let low : (j : ℕ) → j < 512 → w.index ≡ j → ⊥ = λ j l e. absurd (omega arith) in
    let two : word_at (set_word r w.index w.value) 2 ≡ word_at r 2 = other r.words w.index 2 w.value (λ e. absurd (omega arith)) in
    record {
      unlocked = unlocked_set h r w.index w.value (inr (omega arith)) p.even c.unlocked;
      program = ap (λ x. has_bit x 13) two ∙ c.program;
      enabled = ap (λ x. has_bit x 0) two ∙ (c.enabled ∙ ap (λ n. n == 1) (sym (value_other ps w 2 (low 2 (omega arith)))));
      prio = ap (bits_of 0 16) (other r.words w.index 4 w.value (λ e. absurd (omega arith))) ∙ (c.prio ∙ sym (value_other ps w 4 (low 4 (omega arith))));
      tables = λ i l. ⊎_elim
          (λ (e : i ≡ w.index). ap (λ k. word_at (set_word r w.index w.value) k) e ∙ (get_or-set_same r.words w.index w.value 0 (let n = c.unlocked.len in let q = p.inside in omega arith) ∙ sym (value_same ps w i (sym e))))
          (λ (ne : i ≡ w.index → ⊥). other r.words w.index i w.value ne ∙ (c.tables i l ∙ sym (value_other ps w i (λ e. ne (sym e)))))
          (cases_eq i w.index);
    }

-- of a register that holds no lock, no enable bit and no number of priority entries
stands_other : (h : Shape) (ps : List RegPair) (r : Registers) (j v x : ℕ) → 4 < j → j < 16 → Stands h ps r → Stands h (ps ++ pair j v ∷ []) (set_word r j x)
stands_other h ps r j v x above below c =
    let two : word_at (set_word r j x) 2 ≡ word_at r 2 = other r.words j 2 x (λ e. absurd (omega arith)) in
    record {
      unlocked = unlocked_set h r j x (inl (omega arith)) (low_even h j x (omega arith)) c.unlocked;
      program = ap (λ x. has_bit x 13) two ∙ c.program;
      enabled = ap (λ x. has_bit x 0) two ∙ (c.enabled ∙ ap (λ n. n == 1) (sym (value_other ps (pair j v) 2 (λ e. absurd (omega arith)))));
      prio = ap (bits_of 0 16) (other r.words j 4 x (λ e. absurd (omega arith))) ∙ (c.prio ∙ sym (value_other ps (pair j v) 4 (λ e. absurd (omega arith))));
      tables = λ i l. other r.words j i x (λ e. absurd (omega arith)) ∙ (c.tables i l ∙ sym (value_other ps (pair j v) i (λ e. absurd (omega arith))));
    }

-- of the number of priority entries
stands_prio : (h : Shape) (ps : List RegPair) (r : Registers) (v : ℕ) → v < 2 ^ 16 → Stands h ps r → Stands h (ps ++ pair 4 v ∷ []) (set_word r 4 (prio_word r v))
stands_prio h ps r v small c =
    let two : word_at (set_word r 4 (prio_word r v)) 2 ≡ word_at r 2 = other r.words 4 2 (prio_word r v) (λ e. absurd (omega arith)) in
    record {
      unlocked = unlocked_set h r 4 (prio_word r v) (inl (omega arith)) (low_even h 4 (prio_word r v) (omega arith)) c.unlocked;
      program = ap (λ x. has_bit x 13) two ∙ c.program;
      enabled = ap (λ x. has_bit x 0) two ∙ (c.enabled ∙ ap (λ n. n == 1) (sym (value_other ps (pair 4 v) 2 (λ e. absurd (omega arith)))));
      prio = ap (bits_of 0 16) (get_or-set_same r.words 4 (prio_word r v) 0 (let n = c.unlocked.len in omega arith)) ∙ (prio_low r v c.program small ∙ sym (value_same ps (pair 4 v) 4 refl));
      tables = λ i l. other r.words 4 i (prio_word r v) (λ e. absurd (omega arith)) ∙ (c.tables i l ∙ sym (value_other ps (pair 4 v) i (λ e. absurd (omega arith))));
    }

-- ---- the enable bit

free_by_numbers : (o n k m : ℕ) → n < 2 → k ≡ 0 → m ≡ 1 - k → max (min o k) (min n m) ≡ n
free_by_numbers o n k m p q r = omega arith

-- A bit outside the mask is the new one.
free_bit : (keep old new i : ℕ) → keep < 2 ^ 32 → i < 32 → bit_at keep i ≡ 0 → bit_at (merged keep old new) i ≡ bit_at new i
free_bit keep old new i small below zero =
    rw (bit_at_or (bit_and old keep) (bit_and new (bit_not w32 keep)) i, bit_at_and old keep i, bit_at_and new (bit_not w32 keep) i)
    (free_by_numbers (bit_at old i) (bit_at new i) (bit_at keep i) (bit_at (bit_not w32 keep) i) (bit_at-lt new i) zero (bit_at_not w32 keep i small below))

bit_0 : (a b c d e f g o : ℕ) → o ≡ 1 → bit_at (0 + o * 2 ^ 0 + a * 2 ^ 1 + b * 2 ^ 7 + c * 2 ^ 9 + d * 2 ^ 11 + e * 2 ^ 12 + f * 2 ^ 13 + g * 2 ^ 17) 0 ≡ 1
bit_0 a b c d e f g o p = omega arith

bit_13 : (a b c d e f g o : ℕ) → o ≡ 1 → a < 2 ^ 6 → b < 2 ^ 2 → c < 2 ^ 2 → d < 2 ^ 1 → e < 2 ^ 1 → f ≡ 1 → bit_at (0 + o * 2 ^ 0 + a * 2 ^ 1 + b * 2 ^ 7 + c * 2 ^ 9 + d * 2 ^ 11 + e * 2 ^ 12 + f * 2 ^ 13 + g * 2 ^ 17) 13 ≡ 1
bit_13 a b c d e f g o p q s t u v w = omega arith

part_below : (low width n : ℕ) → bits_of low width n < 2 ^ width
part_below low width n = mod_below (n / 2 ^ low) (2 ^ width) (pow_pos width)

not_one : (n : ℕ) → (n == 1) ≡ false → n < 2 → n ≡ 0
not_one n e l = grind (arith, nat_tests)

record EnableBits (r : Registers) : Type 0 where
  pub on : has_bit (enable_word r) 0 ≡ true
  pub program : has_bit (enable_word r) 13 ≡ true

enable_bits_are : (r : Registers) → is_enabled r ≡ false → is_prient_prog r ≡ true → r.shape.mdcfg ≡ 0 → EnableBits r
enable_bits_are r e t f =
    let k = enable_kept r e t f in
    let zero : word_at r 2 / 2 ^ 0 % 2 ^ 1 ≡ 0 = not_one (word_at r 2 / 2 ^ 0 % 2) e (mod_below (word_at r 2 / 2 ^ 0) 2 (omega arith)) in
    let one : bit_or (bits_of 0 1 (word_at r 2)) (bits_of 0 1 1) ≡ 1 = rw zero refl in
    let high : bits_of 13 1 (word_at r 2) ≡ 1 = eqb-true (word_at r 2 / 2 ^ 13 % 2) 1 t in
    let kept : bits_of 13 1 (word_at r 2) - bit_and (bits_of 13 1 (word_at r 2)) (bits_of 13 1 1) ≡ 1 = let n = and_le_r (bits_of 13 1 (word_at r 2)) 0 in rw high refl in
    let at = λ (i : ℕ) (l : i < 32) (z : bit_at 16654334 i ≡ 0).
    ap (λ x. bit_at (merged x (word_at r 2) (ruled_word (fields_of r.shape Hwcfg0) (word_at r 2) 1)) i) k
    ∙ free_bit 16654334 (word_at r 2) (ruled_word (fields_of r.shape Hwcfg0) (word_at r 2) 1) i (omega arith) l z in
    record {
      on = ap (λ n. n == 1) (at 0 (omega arith) refl ∙ bit_0 _ _ _ _ _ _ _ _ one);
      program = ap (λ n. n == 1) (at 13 (omega arith) refl ∙ bit_13 _ _ _ _ _ _ _ _ one (part_below 1 6 (word_at r 2)) (part_below 7 2 (word_at r 2)) (part_below 9 2 (word_at r 2)) (part_below 11 1 (word_at r 2)) (part_below 12 1 (word_at r 2)) kept);
    }

stands_enable : (h : Shape) (ps : List RegPair) (r : Registers) → IsPolicyShape h → value_of ps 2 ≡ 0 → Stands h ps r → Stands h (ps ++ pair 2 1 ∷ []) (set_word r 2 (enable_word r))
stands_enable h ps r good z c =
    let f : r.shape.mdcfg ≡ 0 = ap (λ (x : Shape). x.mdcfg) c.unlocked.shape ∙ good.mdcfg in
    let bits = enable_bits_are r (c.enabled ∙ ap (λ n. n == 1) z) c.program f in
    let two : word_at (set_word r 2 (enable_word r)) 2 ≡ enable_word r = get_or-set_same r.words 2 (enable_word r) 0 (let n = c.unlocked.len in omega arith) in
    record {
      unlocked = unlocked_set h r 2 (enable_word r) (inl (omega arith)) (low_even h 2 (enable_word r) (omega arith)) c.unlocked;
      program = ap (λ x. has_bit x 13) two ∙ bits.program;
      enabled = ap (λ x. has_bit x 0) two ∙ (bits.on ∙ ap (λ n. n == 1) (sym (value_same ps (pair 2 1) 2 refl)));
      prio = ap (bits_of 0 16) (other r.words 2 4 (enable_word r) (λ e. absurd (omega arith))) ∙ (c.prio ∙ sym (value_other ps (pair 2 1) 4 (λ e. absurd (omega arith))));
      tables = λ i l. other r.words 2 i (enable_word r) (λ e. absurd (omega arith)) ∙ (c.tables i l ∙ sym (value_other ps (pair 2 1) i (λ e. absurd (omega arith))));
    }

-- ---- the writes of images and updates

-- of the number of priority entries, or of a table
abbrev pub IsRewrite : Shape → RegPair → Type 0
IsRewrite h w = ((w.index ≡ 4) × (w.value < 2 ^ 16)) ⊎ IsPlain h w

-- of MDSTALL, with a value that selects no domain, or of RRIDSCP
abbrev pub IsStall : RegPair → Type 0
IsStall w = ((w.index ≡ 12) × (w.value < 2)) ⊎ (w.index ≡ 14)

-- one or the other
abbrev pub IsTame : Shape → RegPair → Type 0
IsTame h w = ((w.index ≡ 4) × (w.value < 2 ^ 16)) ⊎ (IsStall w ⊎ IsPlain h w)

-- or the one that sets the enable bit
abbrev pub IsNext : Shape → List RegPair → RegPair → Type 0
IsNext h ps w = IsTame h w ⊎ ((w ≡ pair 2 1) × (value_of ps 2 ≡ 0))

abbrev pub AreNext : Shape → List RegPair → List RegPair → Type 0
AreNext h ps [] = Unit {0}
AreNext h ps (w ∷ ws) = IsNext h ps w × AreNext h (ps ++ w ∷ []) ws

pub stands_step : (h : Shape) (ps : List RegPair) (r : Registers) (w : RegPair) → IsPolicyShape h → IsNext h ps w → Stands h ps r → Stands h (ps ++ w ∷ []) (guarded_write r w)
stands_step h ps r w good (inl (inl t)) c =
    let same : pair 4 w.value ≡ w = ap (λ i. pair i w.value) (sym t.0) in
    subst (λ x. Stands h (ps ++ x ∷ []) (guarded_write r x)) same (stands_prio h ps r w.value t.1 c)
stands_step h ps r w good (inl (inr (inl (inl t)))) c =
    let same : pair 12 w.value ≡ w = ap (λ i. pair i w.value) (sym t.0) in
    subst (λ x. Stands h (ps ++ x ∷ []) (guarded_write r x)) same (stands_other h ps r 12 w.value _ (omega arith) (omega arith) c)
stands_step h ps r w good (inl (inr (inl (inr t)))) c =
    let same : pair 14 w.value ≡ w = ap (λ i. pair i w.value) (sym t) in
    subst (λ x. Stands h (ps ++ x ∷ []) (guarded_write r x)) same (stands_other h ps r 14 w.value _ (omega arith) (omega arith) c)
stands_step h ps r w good (inl (inr (inr p))) c =
    subst (λ s. Stands h (ps ++ w ∷ []) s) (sym (p.alone r c.unlocked)) (stands_table h ps r w p c)
stands_step h ps r w good (inr t) c =
    subst (λ x. Stands h (ps ++ x ∷ []) (guarded_write r x)) (sym t.0) (stands_enable h ps r good t.1 c)

-- ---- at reset

zero_if_had : (h : Shape) (o : Option Register) → reset_of h o ≡ 0 → reset_of h (if_had h o) ≡ 0
zero_if_had h None e = refl
zero_if_had h (Some q) e = cond_both (has_register h q) (Some q) None (λ o. reset_of h o ≡ 0) (λ t. e) (λ t. refl)

srcmd_zero : (h : Shape) (row place : ℕ) → reset_of h (srcmd_at h row place) ≡ 0
srcmd_zero h row place =
    let P : Option Register → Type 0 = λ o. reset_of h o ≡ 0 in
    cond_both (h.srcmd == 2) _ _ P
    (λ t. cond_both (place == 0) (Some (SrcmdPerm row)) _ P (λ e. omega arith)
    (λ e. cond_both (place == 1) (Some (SrcmdPermh row)) None P (λ e. omega arith) (λ e. refl)))
    (λ t. cond_both (place == 0) (Some (SrcmdEn row)) _ P (λ e. omega arith)
    (λ e. cond_both (place == 1) (Some (SrcmdEnh row)) _ P (λ e. omega arith)
    (λ e. cond_both (place == 2) (Some (SrcmdR row)) _ P (λ e. omega arith)
    (λ e. cond_both (place == 3) (Some (SrcmdRh row)) _ P (λ e. omega arith)
    (λ e. cond_both (place == 4) (Some (SrcmdW row)) _ P (λ e. omega arith)
    (λ e. cond_both (place == 5) (Some (SrcmdWh row)) None P (λ e. omega arith) (λ e. refl)))))))

entry_zero : (h : Shape) (row place : ℕ) → reset_of h (entry_at row place) ≡ 0
entry_zero h row place =
    let P : Option Register → Type 0 = λ o. reset_of h o ≡ 0 in
    cond_both (place == 0) (Some (EntryAddr row)) _ P (λ e. refl)
    (λ e. cond_both (place == 1) (Some (EntryAddrh row)) _ P (λ e. refl)
    (λ e. cond_both (place == 2) (Some (EntryCfg row)) None P (λ e. refl) (λ e. refl)))

named_zero : (h : Shape) (i : ℕ) → 512 ≤ i → reset_of h (named_at h i) ≡ 0
named_zero h i l =
    let P : Option Register → Type 0 = λ o. reset_of h o ≡ 0 in
    let low : ltb i 512 ≡ false = search (nat_tests, arith) in
    let rest = cond_both (ltb i 1024) (Some (Mdcfg (i - 512))) _ P (λ e. refl)
    (λ e. cond_both (ltb i 2048) (srcmd_at h ((i - 1024) / 8) ((i - 1024) % 8)) (entry_at ((i - 2048) / 4) ((i - 2048) % 4)) P (λ e. srcmd_zero h ((i - 1024) / 8) ((i - 1024) % 8)) (λ e. entry_zero h ((i - 2048) / 4) ((i - 2048) % 4))) in
    rw low rest

table_zero : (h : Shape) (i : ℕ) → 512 ≤ i → word_at (at_reset h) i ≡ 0
table_zero h i l = ⊎_elim
    (λ (below : i < index_count h). reset_read h i below ∙ zero_if_had h (named_at h i) (named_zero h i l))
    (λ (past : index_count h ≤ i). get_or_past (at_reset h).words i 0 (let n = (calm_reset h).len in omega arith))
    (cases_lt i (index_count h))

pub stands_reset : (h : Shape) → IsPolicyShape h → Stands h [] (at_reset h)
stands_reset h good =
    let c = calm_reset h in
    let bits = reset_not_enabled h (word_at (at_reset h) 2) good c.hwcfg0 in
    let four : word_at (at_reset h) 4 ≡ reset_word h 4 = reset_read h 4 (omega arith) in
    record {
      unlocked = unlocked h (at_reset h) c;
      program = bits.1;
      enabled = bits.0;
      prio = ap (bits_of 0 16) four ∙ omega arith;
      tables = λ i l. table_zero h i l;
    }

-- The registers after writes from reset stand so.
stands_after : (h : Shape) (ps ws : List RegPair) (r : Registers) → IsPolicyShape h → AreNext h ps ws → Stands h ps r → Stands h (ps ++ ws) (after_writes r ws)
stands_after h ps [] r good next c = subst (λ xs. Stands h xs r) (sym (append-nil ps)) c
stands_after h ps (w ∷ ws) r good next c =
    subst (λ xs. Stands h xs (after_writes (guarded_write r w) ws)) (append_assoc ps (w ∷ []) ws)
    (stands_after h (ps ++ w ∷ []) ws (guarded_write r w) good next.1 (stands_step h ps r w good next.0 c))

pub stands_written : (h : Shape) (ws : List RegPair) → IsPolicyShape h → AreNext h [] ws → Stands h ws (after_writes (at_reset h) ws)
stands_written h ws good next = stands_after h [] ws (at_reset h) good next (stands_reset h good)
