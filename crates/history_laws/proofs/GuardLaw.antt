-- Bits that are guarded at a place are guarded at each later one, and keep their values.
use Rattle.std.proofs.Common.{◌≡◌, ◌⊎◌, inl, inr, ℕ, suc, zero, ◌+◌, ◌*◌, ◌/◌, ◌%◌, ◌^◌, ◌<◌, ◌≤◌, ◌==◌, ◌&&◌, true, false, ltb, leb, List, [], ◌∷◌, Option, Some, None, length, get_or, set, bit_and, bit_or, min, max, arith, refl, sym, ap, ◌∙◌, subst, ⊎_elim}
use Rattle.std.specs.List.{list_any}
use Rattle.std.specs.Int.{bit_at, bit_not, w32}
use Rattle.std.proofs.lemmas.Nat.Bits.{bit_at_and, bit_at_or, bit_at-lt, bit_at-zero, bit_at-suc, bit_at_above, bit_at_ones, bit_at_cat_low, same_from_bits, same_from_bits_below}
use Rattle.std.proofs.lemmas.Nat.{or_lt, div-add-mod', mod_below, pow_pos}
use Rattle.std.proofs.lemmas.List.{get_or-set_same, get_or_past, length-set}
use Rattle.std.proofs.lemmas.Option.{slice_get_within, get_or_from_slice_get}
use Rattle.std.proofs.lemmas.Bool.{cases_eq, cases_lt, cases_Bool, eqb-true, and_from, or_left, or_right, lt-ltb, le-leb, false≢true}
use Rattle.event_words.specs.declared.shape.Shape.{Shape}
use Rattle.event_words.specs.declared.access.Access.{Access}
use Rattle.event_words.specs.declared.reply.Denial.{Denial}
use Rattle.event_words.specs.declared.event.Event.{Event}
use Rattle.event_words.specs.declared.event.Event.TheVariants.{RegWrite, RegRead, Submit, Judge}
use Rattle.event_words.specs.declared.register.Rule.TheVariants.{SetOnly, GrowOnly}
use Rattle.event_words.specs.declared.register.Register.{Register}
use Rattle.event_words.specs.declared.register.Register.TheVariants.{Mdcfglck, Entrylck, ErrInfo, ErrReqaddr, ErrReqaddrh, ErrReqid}
use Rattle.event_words.specs.Registers.{Registers, word_at, bits_of, has_bit, field, merged, written, write_at, register_at, index_of}
use Rattle.event_words.specs.Guards.{is_in, is_field_bit, is_guarded, number_of_bits, guarded_bits, reg}
use Rattle.event_words.specs.Denials.{recorded}
use Rattle.event_words.specs.Valid.{IsValidShape}
use Rattle.event_words.proofs.BitNumbers.{number_bit, number_below}
use Rattle.unit_core.proofs.KeptBits.{kept_bit, other_stays}
use Rattle.unit_core.specs.Units.{UnitState, unit_step}
use Rattle.unit_core.specs.Histories.{History}
use Rattle.unit_core.specs.Submitted.{taken_at}
use Rattle.history_laws.specs.Guards.{LawGuards}
use Rattle.unit_core.proofs.Runs.{own_next, own_state, own_induction, shape_there, own_at}
use Rattle.unit_core.proofs.Items.{submit_cases, judge_cases}
use Rattle.unit_core.proofs.Registers.{recorded_outside, AreWords, words_reset, words_written, words_recorded}
use Rattle.unit_core.proofs.Sims.{recorded_shape}
use Rattle.history_laws.proofs.QueueLaw.{written-shape}
use Rattle.history_laws.proofs.Guarding.{Follows, guarded_by, guarded_stays}
use Rattle.policy_compiler.proofs.Unguarded.{nothing_kept}

-- ---- an earlier and a later state

follows_self : (r : Registers) → Follows r r
follows_self r = record { shape = refl; kept = λ index i h. refl; domains = omega arith; entries = omega arith }

follows_on : (r s t : Registers) → IsValidShape r.shape → Follows r s → Follows s t → Follows r t
follows_on r s t v f g = record {
  shape = g.shape ∙ f.shape;
  kept = λ index i h. g.kept index i (guarded_stays r s v f index i h) ∙ f.kept index i h;
  domains = omega (arith, f.domains, g.domains);
  entries = omega (arith, f.entries, g.entries);
}

-- ---- a capture

-- No bit of the record of errors is guarded.
guarded_outside : (r : Registers) (j i : ℕ) → is_guarded r j i ≡ true → (j < index_of ErrInfo) ⊎ (index_of ErrReqid < j)
guarded_outside r j i g = ⊎_elim inl
    (λ (from : index_of ErrInfo ≤ j). ⊎_elim inr (λ (upto : j ≤ index_of ErrReqid). absurd (within from upto)) (cases_lt (index_of ErrReqid) j))
    (cases_lt j (index_of ErrInfo))
  where
    not_at : (q : Register) → is_guarded r (index_of q) i ≡ false → j ≡ index_of q → ⊥
    not_at q none e = false≢true (sym none ∙ (ap (λ k. is_guarded r k i) (sym e) ∙ g))

    within : index_of ErrInfo ≤ j → j ≤ index_of ErrReqid → ⊥
    within from upto = ⊎_elim (not_at ErrInfo refl)
        (λ a. ⊎_elim (not_at ErrReqaddr refl)
        (λ b. ⊎_elim (not_at ErrReqaddrh refl) (λ c. not_at ErrReqid refl (omega arith)) (cases_eq j (index_of ErrReqaddrh)))
        (cases_eq j (index_of ErrReqaddr)))
        (cases_eq j (index_of ErrInfo))

same_le : (a b : ℕ) → a ≡ b → b ≤ a
same_le a b e = omega arith

recorded_follows : (r : Registers) (a : Access) (d : Denial) → Follows r (recorded r a d)
recorded_follows r a d = record {
  shape = recorded_shape r a d;
  kept = λ index i h. ap (λ n. has_bit n i) (recorded_outside r a d index (guarded_outside r index i h));
  domains = same_le _ _ (ap (bits_of 1 7) (recorded_outside r a d (index_of Mdcfglck) (inl (omega arith))));
  entries = same_le _ _ (ap (bits_of 1 16) (recorded_outside r a d (index_of Entrylck) (inl (omega arith))));
}

-- ---- a write

-- what is stored, where it is stored at all
stored_else : (P : ℕ → Type 0) (ws : List ℕ) (i n : ℕ) → P n → P (get_or ws i 0) → P (get_or (set ws i n) i 0)
stored_else P ws i n p q = ⊎_elim
    (λ (below : i < length ws). subst P (sym (get_or-set_same ws i n 0 below)) p)
    (λ (past : length ws ≤ i). subst P (get_or_past ws i 0 past ∙ sym (get_or_past (set ws i n) i 0 (omega (arith, length-set ws i n)))) q)
    (cases_lt i (length ws))

write_kept : (r : Registers) (index value keep i : ℕ) (o : Option Register) → keep < 2 ^ 32 → i < 32 → bit_at keep i ≡ 1
    → bit_at (word_at (write_at r index value keep o) index) i ≡ bit_at (word_at r index) i
write_kept r index value keep i None small l h = refl
write_kept r index value keep i (Some q) small l h =
    stored_else (λ n. bit_at n i ≡ bit_at (word_at r index) i) r.words index _ (kept_bit keep (word_at r index) _ i small l h) refl

-- the word at an index that is written, where what is guarded stays
abbrev word_after : Registers → ℕ → ℕ → ℕ
word_after r index value = word_at (written r index value (guarded_bits r index)) index

-- A guarded bit of the written register keeps its value.
same_kept : (r : Registers) (index value i : ℕ) → i < 32 → is_guarded r index i ≡ true
    → bit_at (word_after r index value) i ≡ bit_at (word_at r index) i
same_kept r index value i l g =
    write_kept r index value (guarded_bits r index) i (register_at r.shape index) (number_below (is_guarded r index)) l (eqb-true (bit_at (guarded_bits r index) i) 1 (number_bit (is_guarded r index) i l ∙ g))

no_bit : (n i : ℕ) → n < 2 ^ 32 → 32 ≤ i → has_bit n i ≡ false
no_bit n i small l = ap (λ b. b == 1) (bit_at_above n 32 i small l)

written_kept : (r : Registers) (index value j i : ℕ) → AreWords r → is_guarded r j i ≡ true
    → has_bit (word_at (written r index value (guarded_bits r index)) j) i ≡ has_bit (word_at r j) i
written_kept r index value j i w g = ⊎_elim
    (λ (low : i < 32). ⊎_elim
    (λ (e : j ≡ index). subst (λ k. is_guarded r k i ≡ true → has_bit (word_at (written r index value (guarded_bits r index)) k) i ≡ has_bit (word_at r k) i) (sym e)
    (λ g. ap (λ b. b == 1) (same_kept r index value i low g)) g)
    (λ (ne : j ≡ index → ⊥). ap (λ n. has_bit n i) (other_stays r index value (guarded_bits r index) j (register_at r.shape index) ne))
    (cases_eq j index))
    (λ (high : 32 ≤ i).
    let out = guarded_outside r j i g in
    no_bit _ i (words_written r index value (guarded_bits r index) w j out) high ∙ sym (no_bit (word_at r j) i (w j out) high))
    (cases_lt i 32)

-- ---- fields that only grow

low_bits : (w m i : ℕ) → i < w → bit_at (m % 2 ^ w) i ≡ bit_at m i
low_bits w m i h = sym (bit_at_cat_low (m / 2 ^ w) w (m % 2 ^ w) i h) ∙ ap (λ n. bit_at n i) (div-add-mod' m (2 ^ w))

-- a field from bit 1 on, by its bits
same_bits : (w a b : ℕ) → ((i : ℕ) → i < w → bit_at a (suc i) ≡ bit_at b (suc i)) → bits_of 1 w a ≡ bits_of 1 w b
same_bits w a b h = same_from_bits_below w (a / 2 ^ 1 % 2 ^ w) (b / 2 ^ 1 % 2 ^ w) (mod_below (a / 2 ^ 1) (2 ^ w) (pow_pos w)) (mod_below (b / 2 ^ 1) (2 ^ w) (pow_pos w))
    (λ i l. low_bits w (a / 2) i l ∙ sym (bit_at-suc a i) ∙ h i l ∙ bit_at-suc b i ∙ sym (low_bits w (b / 2) i l))

domains_grown : (old lock value : ℕ) → lock < 2
    → bits_of 1 7 old ≤ bits_of 1 7 (merged 0 old (0 + lock * 2 ^ 0 + max (bits_of 1 7 old) (bits_of 1 7 value) * 2 ^ 1))
domains_grown old lock value l =
    rw (nothing_kept old (0 + lock * 2 ^ 0 + max (bits_of 1 7 old) (bits_of 1 7 value) * 2 ^ 1) (omega arith)) (omega arith)

entries_grown : (old lock value : ℕ) → lock < 2
    → bits_of 1 16 old ≤ bits_of 1 16 (merged 0 old (0 + lock * 2 ^ 0 + max (bits_of 1 16 old) (bits_of 1 16 value) * 2 ^ 1))
entries_grown old lock value l =
    rw (nothing_kept old (0 + lock * 2 ^ 0 + max (bits_of 1 16 old) (bits_of 1 16 value) * 2 ^ 1) (omega arith)) (omega arith)

lock_small : (a b : ℕ) → bit_or (bits_of 0 1 a) (bits_of 0 1 b) < 2
lock_small a b = or_lt 1 (bits_of 0 1 a) (bits_of 0 1 b) (omega arith) (omega arith)

-- the bits above bit 0 of a register with a lock bit and a number
number_bit_of : (w i : ℕ) → i < w → list_any (is_in (suc i)) (field 0 1 SetOnly 0 ∷ field 1 w GrowOnly 0 ∷ []) ≡ true
number_bit_of w i l =
    or_right (leb 0 (suc i) && ltb (suc i) (0 + 1)) _ (or_left (leb 1 (suc i) && ltb (suc i) (1 + w)) false
    (and_from (leb 1 (suc i)) (ltb (suc i) (1 + w)) (le-leb 1 (suc i) (omega arith)) (lt-ltb (suc i) (1 + w) (omega arith))))

-- A number from bit 1 on, behind a lock bit, doesn't fall: it stays where the lock bit is set, and else is the larger.
number_write : (r : Registers) (value index w : ℕ)
    → (has_bit (word_at r index) 0 ≡ true → (i : ℕ) → i < w → bit_at (word_after r index value) (suc i) ≡ bit_at (word_at r index) (suc i))
    → (has_bit (word_at r index) 0 ≡ false → guarded_bits r index ≡ 0)
    → bits_of 1 w (word_at r index) ≤ bits_of 1 w (word_at (written r index value 0) index)
    → bits_of 1 w (word_at r index) ≤ bits_of 1 w (word_after r index value)
number_write r value index w kept free grown = ⊎_elim
    (λ (locked : has_bit (word_at r index) 0 ≡ true). same_le _ _ (same_bits w (word_after r index value) (word_at r index) (kept locked)))
    (λ (unlocked : has_bit (word_at r index) 0 ≡ false). subst (λ keep. bits_of 1 w (word_at r index) ≤ bits_of 1 w (word_at (written r index value keep) index)) (sym (free unlocked)) grown)
    (cases_Bool (has_bit (word_at r index) 0))

domains_write : (r : Registers) (value : ℕ)
    → bits_of 1 7 (reg r Mdcfglck) ≤ bits_of 1 7 (word_after r (index_of Mdcfglck) value)
domains_write r value = number_write r value (index_of Mdcfglck) 7
    (λ locked i l. same_kept r (index_of Mdcfglck) value (suc i) (omega arith) (guarded_by (Some Mdcfglck) r Mdcfglck (suc i) refl (and_from (has_bit (reg r Mdcfglck) 0) _ locked (number_bit_of 7 i l))))
    (λ free. ap (λ b. number_of_bits (λ i. b && is_field_bit r.shape Mdcfglck i)) free)
    (stored_else (λ n. bits_of 1 7 (reg r Mdcfglck) ≤ bits_of 1 7 n) r.words (index_of Mdcfglck) _ (domains_grown (reg r Mdcfglck) _ value (lock_small (reg r Mdcfglck) value)) (omega arith))

entries_write : (r : Registers) (value : ℕ)
    → bits_of 1 16 (reg r Entrylck) ≤ bits_of 1 16 (word_after r (index_of Entrylck) value)
entries_write r value = number_write r value (index_of Entrylck) 16
    (λ locked i l. same_kept r (index_of Entrylck) value (suc i) (omega arith) (guarded_by (Some Entrylck) r Entrylck (suc i) refl (and_from (has_bit (reg r Entrylck) 0) _ locked (number_bit_of 16 i l))))
    (λ free. ap (λ b. number_of_bits (λ i. b && is_field_bit r.shape Entrylck i)) free)
    (stored_else (λ n. bits_of 1 16 (reg r Entrylck) ≤ bits_of 1 16 n) r.words (index_of Entrylck) _ (entries_grown (reg r Entrylck) _ value (lock_small (reg r Entrylck) value)) (omega arith))

other_le : (w : ℕ) (r : Registers) (index value j : ℕ) → (j ≡ index → ⊥)
    → bits_of 1 w (word_at r j) ≤ bits_of 1 w (word_at (written r index value (guarded_bits r index)) j)
other_le w r index value j ne = same_le _ _ (ap (bits_of 1 w) (other_stays r index value (guarded_bits r index) j (register_at r.shape index) ne))

written_follows : (r : Registers) (index value : ℕ) → AreWords r → Follows r (written r index value (guarded_bits r index))
written_follows r index value w = record {
  shape = written-shape r index value (guarded_bits r index);
  kept = λ j i h. written_kept r index value j i w h;
  domains = ⊎_elim
      (λ (e : index_of Mdcfglck ≡ index). subst (λ j. bits_of 1 7 (reg r Mdcfglck) ≤ bits_of 1 7 (word_at (written r j value (guarded_bits r j)) (index_of Mdcfglck))) e (domains_write r value))
      (λ (ne : index_of Mdcfglck ≡ index → ⊥). other_le 7 r index value (index_of Mdcfglck) ne) (cases_eq (index_of Mdcfglck) index);
  entries = ⊎_elim
      (λ (e : index_of Entrylck ≡ index). subst (λ j. bits_of 1 16 (reg r Entrylck) ≤ bits_of 1 16 (word_at (written r j value (guarded_bits r j)) (index_of Entrylck))) e (entries_write r value))
      (λ (ne : index_of Entrylck ≡ index → ⊥). other_le 16 r index value (index_of Entrylck) ne) (cases_eq (index_of Entrylck) index);
}

-- ---- every later place

step_follows : (k : ℕ) (x : UnitState) (e : Event) → AreWords x.registers → Follows x.registers (unit_step k x e).0.registers
step_follows k x (RegWrite unit caller index value) w = written_follows x.registers index value w
step_follows k x (RegRead unit caller index) w = follows_self x.registers
step_follows k x (Submit unit caller a) w =
    submit_cases (λ r. Follows x.registers r.0.registers) k x caller a (λ e. follows_self x.registers) (λ e f. follows_self x.registers) (λ d. recorded_follows x.registers a d) (follows_self x.registers)
step_follows k x (Judge unit caller place) w =
    judge_cases (λ r. Follows x.registers r.0.registers) x place caller (λ e. follows_self x.registers) (λ item e f. follows_self x.registers) (λ item e f v. follows_self x.registers)
    (λ item e f d v. recorded_follows x.registers item.access d)
step_follows k x _ w = follows_self x.registers

words_step : (k : ℕ) (x : UnitState) (e : Event) → AreWords x.registers → AreWords (unit_step k x e).0.registers
words_step k x (RegWrite unit caller index value) w = words_written x.registers index value (guarded_bits x.registers index) w
words_step k x (RegRead unit caller index) w = w
words_step k x (Submit unit caller a) w = submit_cases (λ r. AreWords r.0.registers) k x caller a (λ e. w) (λ e f. w) (λ d. words_recorded x.registers a d w) w
words_step k x (Judge unit caller place) w =
    judge_cases (λ r. AreWords r.0.registers) x place caller (λ e. w) (λ item e f. w) (λ item e f v. w) (λ item e f d v. words_recorded x.registers item.access d w)
words_step k x _ w = w

-- what the registers of a unit of this shape always have
record AreOf (shape : Shape) (r : Registers) : Type 0 where
  pub same : r.shape ≡ shape
  pub words : AreWords r

own_registers : (h : History) (u : ℕ) (shape : Shape) → IsValidShape shape → (k : ℕ) → AreOf shape (own_state h u shape k).registers
own_registers h u shape v k =
    own_induction (λ k x. AreOf shape x.registers) h u shape (record { same = refl; words = words_reset shape v }) (λ k x r. r)
    (λ k x e q t r. record { same = (step_follows k x e r.words).shape ∙ r.same; words = words_step k x e r.words }) k

own_follows : (h : History) (u : ℕ) (shape : Shape) → IsValidShape shape → (j k : ℕ) → j ≤ k
    → Follows (own_state h u shape j).registers (own_state h u shape k).registers
own_follows h u shape v j zero l =
    let e : j ≡ 0 = omega arith in
    subst (λ i. Follows (own_state h u shape i).registers (own_state h u shape 0).registers) (sym e) (follows_self (own_state h u shape 0).registers)
own_follows h u shape v j (suc k) l = ⊎_elim
    (λ (e : j ≡ suc k). subst (λ i. Follows (own_state h u shape i).registers (own_state h u shape (suc k)).registers) (sym e) (follows_self (own_state h u shape (suc k)).registers))
    (λ (ne : j ≡ suc k → ⊥).
    let x = own_state h u shape k in
    let before = own_follows h u shape v j k (omega arith) in
    let here = own_registers h u shape v k in
    own_next (λ y. Follows (own_state h u shape j).registers y.registers) k u x (taken_at h k) (λ n. before)
    (λ e q t. follows_on _ _ _ (subst IsValidShape (sym (own_registers h u shape v j).same) v) before (step_follows k x e here.words)))
    (cases_eq j (suc k))

pub law_guards : LawGuards
law_guards h valid u j k x y l p q index i g =
    let there = shape_there h u j x p in
    let shape = there.0 in
    let v = subst IsValidShape (get_or_from_slice_get h.shapes u shape shape there.1) (valid u shape (slice_get_within h.shapes u shape there.1)) in
    let is : own_state h u shape k ≡ y = let s = sym (own_at h u k shape there.1) ∙ q in cc in
    let f = subst (λ z. Follows x.registers z.registers) is (subst (λ z. Follows z.registers (own_state h u shape k).registers) there.2 (own_follows h u shape v j k l)) in
    let w = subst IsValidShape (sym (subst (λ z. z.registers.shape ≡ shape) there.2 (own_registers h u shape v j).same)) v in
    (guarded_stays x.registers y.registers w f index i g, f.kept index i g)
