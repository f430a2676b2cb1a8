-- What writes and captures leave in the registers.
use Rattle.std.proofs.Common.{◌≡◌, ◌⊎◌, ℕ, ◌+◌, ◌*◌, ◌^◌, ◌/◌, ◌%◌, ◌<◌, ◌≤◌, not, ◌&&◌, List, Option, Some, None, length, get_or, set, bit_and, min, max, arith, refl, sym, ◌∙◌, subst, ⊎_elim}
use Rattle.std.specs.Prelude.{is_some}
use Rattle.std.specs.Int.{bit_at, bit_not, w32}
use Rattle.std.proofs.lemmas.Nat.{and_le_l, and_le_r, or_lt}
use Rattle.std.proofs.lemmas.Nat.Bits.{bit_at_and, bit_at_or}
use Rattle.std.proofs.lemmas.List.{get_or-set_same, get_or-set_other, get_or_past, length-set}
use Rattle.std.proofs.lemmas.List.FromFn.{get_or-map-range_with_len, length-map-range_with_len}
use Rattle.std.proofs.lemmas.Bool.{cond_both, cases_eq, cases_lt}
use Rattle.event_words.specs.declared.shape.Shape.{Shape}
use Rattle.event_words.specs.declared.access.Access.{Access}
use Rattle.event_words.specs.declared.reply.Denial.{Denial}
use Rattle.event_words.specs.Registers.{Registers, index_of, word_at, merged, written, write_at, register_at, at_reset, reset_of, reset_word, index_count, has_bit}
use Rattle.event_words.specs.declared.register.Register.{Register}
use Rattle.event_words.specs.declared.register.Register.TheVariants.{Hwcfg0, Hwcfg1, Hwcfg2, Mdstall, ErrInfo, ErrReqaddr, ErrReqaddrh, ErrReqid}
use Rattle.event_words.specs.Word.{kind_code}
use Rattle.event_words.specs.Guards.{reg}
use Rattle.event_words.specs.Denials.{recorded, with_error}
use Rattle.event_words.specs.Valid.{IsValidShape}
use Rattle.event_words.proofs.WellFormedLemmas.{bool_small, transl_small}
use Rattle.unit_core.proofs.KeptBits.{other_stays}

pub recorded_cases : (P : Registers → Type 0) (r : Registers) (a : Access) (d : Denial) → ((info addr addrh id : ℕ) → P (with_error r info addr addrh id)) → P r → P (recorded r a d)
recorded_cases P r a d p q =
    cond_both (d.kept && not (has_bit (reg r ErrInfo) 0))
    (with_error r (1 + 2 * (1 + kind_code a.kind) + 16 * d.kind) (a.addr / 4 % 2 ^ 32) (a.addr / 2 ^ 34) (a.rrid + 65536 * d.entry))
    r P (λ e. p _ _ _ _) (λ e. q)

-- A capture leaves the other registers.
with_error_other : (r : Registers) (info addr addrh id j : ℕ) → (j ≡ index_of ErrInfo → ⊥) → (j ≡ index_of ErrReqaddr → ⊥) → (j ≡ index_of ErrReqaddrh → ⊥) → (j ≡ index_of ErrReqid → ⊥) → word_at (with_error r info addr addrh id) j ≡ word_at r j
with_error_other r info addr addrh id j p q s t =
    get_or-set_other (set (set (set r.words (index_of ErrInfo) info) (index_of ErrReqaddr) addr) (index_of ErrReqaddrh) addrh) (index_of ErrReqid) j id 0 t ∙ get_or-set_other (set (set r.words (index_of ErrInfo) info) (index_of ErrReqaddr) addr) (index_of ErrReqaddrh) j addrh 0 s
    ∙ get_or-set_other (set r.words (index_of ErrInfo) info) (index_of ErrReqaddr) j addr 0 q ∙ get_or-set_other r.words (index_of ErrInfo) j info 0 p

pub recorded_other : (r : Registers) (a : Access) (d : Denial) (j : ℕ) → (j ≡ index_of ErrInfo → ⊥) → (j ≡ index_of ErrReqaddr → ⊥) → (j ≡ index_of ErrReqaddrh → ⊥) → (j ≡ index_of ErrReqid → ⊥) → word_at (recorded r a d) j ≡ word_at r j
recorded_other r a d j p q s t =
    recorded_cases (λ n. word_at n j ≡ word_at r j) r a d (λ info addr addrh id. with_error_other r info addr addrh id j p q s t) refl

-- so outside the record of errors
pub recorded_outside : (r : Registers) (a : Access) (d : Denial) (j : ℕ) → (j < index_of ErrInfo) ⊎ (index_of ErrReqid < j) → word_at (recorded r a d) j ≡ word_at r j
recorded_outside r a d j out = recorded_other r a d j (apart (index_of ErrInfo) (omega arith) (omega arith)) (apart (index_of ErrReqaddr) (omega arith) (omega arith)) (apart (index_of ErrReqaddrh) (omega arith) (omega arith)) (apart (index_of ErrReqid) (omega arith) (omega arith))
  where
    apart : (k : ℕ) → index_of ErrInfo ≤ k → k ≤ index_of ErrReqid → j ≡ k → ⊥
    apart k l u e = ⊎_elim (λ (low : j < index_of ErrInfo). absurd (omega arith)) (λ (high : index_of ErrReqid < j). absurd (omega arith)) out

-- A word that is stored is there, or 0 past the end.
pub stored : (P : ℕ → Type 0) (ws : List ℕ) (i n : ℕ) → P n → P 0 → P (get_or (set ws i n) i 0)
stored P ws i n p z = ⊎_elim
    (λ (below : i < length ws). subst P (sym (get_or-set_same ws i n 0 below)) p)
    (λ (past : length ws ≤ i). subst P (sym (get_or_past (set ws i n) i 0 (omega (arith, length-set ws i n)))) z)
    (cases_lt i (length ws))

-- ---- bit 0 of MDSTALL is no register's

even_numbers : (o n k m : ℕ) → o ≡ 0 → n ≡ 0 → max (min o k) (min n m) ≡ 0
even_numbers o n k m p q = omega arith

merged_even : (keep old new : ℕ) → bit_at old 0 ≡ 0 → bit_at new 0 ≡ 0 → bit_at (merged keep old new) 0 ≡ 0
merged_even keep old new p q =
    rw (bit_at_or (bit_and old keep) (bit_and new (bit_not w32 keep)) 0, bit_at_and old keep 0, bit_at_and new (bit_not w32 keep) 0)
    (even_numbers (bit_at old 0) (bit_at new 0) (bit_at keep 0) (bit_at (bit_not w32 keep) 0) p q)

doubled : (n : ℕ) → bit_at (0 + n * 2 ^ 1) 0 ≡ 0
doubled n = omega arith

pub written_even : (r : Registers) (index value keep : ℕ) → bit_at (reg r Mdstall) 0 ≡ 0 → bit_at (reg (written r index value keep) Mdstall) 0 ≡ 0
written_even r index value keep h = ⊎_elim
    (λ (e : index ≡ index_of Mdstall). subst (λ i. bit_at (reg (written r i value keep) Mdstall) 0 ≡ 0) (sym e)
    (stored (λ n. bit_at n 0 ≡ 0) r.words (index_of Mdstall) _ (merged_even keep (reg r Mdstall) _ h (doubled _)) refl))
    (λ (ne : index ≡ index_of Mdstall → ⊥). subst (λ n. bit_at n 0 ≡ 0) (sym (other_stays r index value keep (index_of Mdstall) (register_at r.shape index) (λ e. ne (sym e)))) h)
    (cases_eq index (index_of Mdstall))

pub recorded_even : (r : Registers) (a : Access) (d : Denial) → bit_at (reg r Mdstall) 0 ≡ 0 → bit_at (reg (recorded r a d) Mdstall) 0 ≡ 0
recorded_even r a d h =
    subst (λ n. bit_at n 0 ≡ 0) (sym (recorded_other r a d (index_of Mdstall) (λ e. absurd (omega arith)) (λ e. absurd (omega arith)) (λ e. absurd (omega arith)) (λ e. absurd (omega arith)))) h

pub reset_even : (h : Shape) → bit_at (reg (at_reset h) Mdstall) 0 ≡ 0
reset_even h = subst (λ n. bit_at n 0 ≡ 0) (sym (get_or-map-range_with_len (reset_word h) 0 (index_count h) (index_of Mdstall) (index_of Mdstall) 0 (omega arith) (omega arith))) refl

-- ---- words of 32 bits

-- each word, but for those of the record of errors, which take what any submission says
abbrev pub AreWords : Registers → Type 0
AreWords r = (j : ℕ) → (j < index_of ErrInfo) ⊎ (index_of ErrReqid < j) → word_at r j < 2 ^ 32

merged_below : (keep old new : ℕ) → old < 2 ^ 32 → merged keep old new < 2 ^ 32
merged_below keep old new small =
    let a = and_le_l old keep in
    let b = and_le_r new (bit_not w32 keep) in
    or_lt 32 (bit_and old keep) (bit_and new (bit_not w32 keep)) (omega arith) (omega arith)

write_below : (r : Registers) (index value keep : ℕ) (o : Option Register) → word_at r index < 2 ^ 32 → word_at (write_at r index value keep o) index < 2 ^ 32
write_below r index value keep None small = small
write_below r index value keep (Some q) small = stored (λ n. n < 2 ^ 32) r.words index _ (merged_below keep (word_at r index) _ small) (omega arith)

pub words_written : (r : Registers) (index value keep : ℕ) → AreWords r → AreWords (written r index value keep)
words_written r index value keep w j out = ⊎_elim
    (λ (e : index ≡ j). subst (λ i. word_at (written r i value keep) j < 2 ^ 32) (sym e) (write_below r j value keep (register_at r.shape j) (w j out)))
    (λ (ne : index ≡ j → ⊥). subst (λ n. n < 2 ^ 32) (sym (other_stays r index value keep j (register_at r.shape index) (λ e. ne (sym e)))) (w j out))
    (cases_eq index j)

pub words_recorded : (r : Registers) (a : Access) (d : Denial) → AreWords r → AreWords (recorded r a d)
words_recorded r a d w j out = subst (λ n. n < 2 ^ 32) (sym (recorded_outside r a d j out)) (w j out)

reset_below : (h : Shape) (o : Option Register) → IsValidShape h → reset_of h o < 2 ^ 32
reset_below h None v = omega arith
reset_below h (Some Hwcfg0) v =
    let sps = bool_small h.sps in
    let transl = bool_small (is_some h.transl) in
    omega (arith, v.domains, v.mdcfg, v.srcmd, v.k)
reset_below h (Some Hwcfg1) v = omega (arith, v.rrids, v.entries)
reset_below h (Some Hwcfg2) v = let transl = transl_small h.transl v.transl in omega arith
reset_below h (Some q) v = omega arith

pub words_reset : (h : Shape) → IsValidShape h → AreWords (at_reset h)
words_reset h v j out = ⊎_elim
    (λ (below : j < index_count h). subst (λ n. n < 2 ^ 32) (sym (get_or-map-range_with_len (reset_word h) 0 (index_count h) j j 0 below (omega arith))) (reset_below h (register_at h j) v))
    (λ (past : index_count h ≤ j). subst (λ n. n < 2 ^ 32) (sym (get_or_past (at_reset h).words j 0 (omega (arith, length-map-range_with_len (reset_word h) 0 (index_count h))))) (omega arith))
    (cases_lt j (index_count h))
