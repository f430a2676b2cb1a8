-- The line of a unit's shape is read as the shape.
use Rattle.std.proofs.Common.{◌≡◌, ℕ, ◌+◌, ◌^◌, ◌<◌, ◌≤◌, ◌==◌, nat_le, Bool, true, false, if◌then◌else◌, List, [], ◌∷◌, ◌++◌, None, Some, Option, IfSome, Ok, Err, length, codes, refl, ap, sym, subst, ◌∙◌, inl, inr, arith, append_assoc, length-append}
use Rattle.std.proofs.lemmas.Bool.{eq-eqb, cases_eq, cases_lt}
use Rattle.std.proofs.lemmas.Bool.Decides.{nat_tests}
use Rattle.std.proofs.lemmas.Fmt.{decimal_is_IsNumeral}
use Rattle.std.proofs.lemmas.List.{append-nil}
use Rattle.std.proofs.lemmas.Slice.Eq.{bytes_eq-Decides}
use Rattle.std.specs.Fmt.{decimal}
use Rattle.std.specs.List.{AllByRecursion}
use Rattle.std.specs.Str.{bytes_eq}
use Rattle.std.specs.Str.Parse.{AllDigits}
use Rattle.event_words.specs.declared.shape.Shape.{Shape}
use Rattle.event_words.specs.Valid.{IsValidShape}
use Rattle.script_reader.specs.declared.reader.ScriptPart.TheVariants.{Units}
use Rattle.script_reader.specs.Codes.{◌>>=◌, misplaced}
use Rattle.script_reader.specs.Text.{lines_of}
use Rattle.script_reader.specs.Numbers.{ranged}
use Rattle.script_reader.specs.UnitLines.{has_keys, translation_at, shape_at, unit_line}
use Rattle.script_reader.specs.Lines.{State, no_commands, new_section, unit_step, units_step}
use Rattle.script_reader.specs.Scripts.{lines_from}
use Rattle.script_reader.specs.Printed.{translation_text, sps_number, unit_text, unit_texts}
use Rattle.script_reader.proofs.Written.{IsWord, is_less, is_at_most, differs, fixed, decimal_writes, ranged_is}
use Rattle.script_reader.proofs.WordLines.{ended, AreWords, stands, line_more}

abbrev unit_words : Shape → List (List ℕ)
unit_words h =
    codes "unit" ∷ codes "rrids" ∷ decimal h.rrids ∷ codes "domains" ∷ decimal h.domains ∷ codes "entries" ∷ decimal h.entries ∷ codes "mdcfg" ∷ decimal h.mdcfg ∷ codes "k" ∷ decimal h.k
    ∷ codes "srcmd" ∷ decimal h.srcmd ∷ codes "sps" ∷ decimal (sps_number h.sps) ∷ codes "queue" ∷ decimal h.queue ∷ codes "transl" ∷ translation_text h.transl ∷ []

unit_ended : (h : Shape) (rest : List ℕ) → unit_text h ++ rest ≡ ended (unit_words h) rest
unit_ended h rest = simp append_assoc

-- ---- the words of the line

digits_apart : (ds : List ℕ) → AllDigits 10 ds → ds ≡ codes "-" → ⊥
digits_apart ds h e = let dash : AllDigits 10 (codes "-") = subst (AllDigits 10) e h in omega (arith, dash.0)

no_dash : (n : ℕ) → n < 2 ^ 64 → bytes_eq (decimal n) (codes "-") ≡ false
no_dash n small = by (bytes_eq (decimal n) (codes "-")) refl
  where
    by : (b : Bool) → bytes_eq (decimal n) (codes "-") ≡ b → b ≡ false
    by true e = absurd (digits_apart (decimal n) (decimal_is_IsNumeral n small).0.1 ((bytes_eq-Decides (decimal n) (codes "-")).0 e))
    by false e = refl

translation_word : (t : Option ℕ) → IfSome t (λ rrid. rrid ≤ 63) → IsWord (translation_text t)
translation_word None h = fixed (codes "-") refl
translation_word (Some rrid) h = (decimal_writes rrid (omega (arith, h))).word

translation_read : (t : Option ℕ) → IfSome t (λ rrid. rrid ≤ 63) → translation_at (translation_text t) ≡ Ok t
unfolding translation_at
translation_read None h = refl
translation_read (Some rrid) h =
    ap (λ b. if b then Ok None else (ranged 0 63 (decimal rrid) >>= λ n. Ok (Some n))) (no_dash rrid (omega (arith, h)))
    ∙ ap (λ r. r >>= λ n. Ok (Some n)) (ranged_is 0 63 (decimal rrid) rrid (decimal_writes rrid (omega (arith, h))) (omega arith) h)

-- ---- the ranges of its numbers

k_low : (h : Shape) → IsValidShape h → (if h.mdcfg == 0 then 0 else 1) ≤ h.k
k_low h valid =
    elim (cases_eq h.mdcfg 0) [
      | inl fixed_k ↦ subst (λ b. (if b then 0 else 1) ≤ h.k) (sym (eq-eqb h.mdcfg 0 fixed_k)) (omega arith)
      | inr chosen ↦ subst (λ b. (if b then 0 else 1) ≤ h.k) (sym (differs h.mdcfg 0 chosen)) (valid.k_chosen chosen)
    ]

k_high : (h : Shape) → IsValidShape h → h.k ≤ (if h.mdcfg == 0 then 0 else 128)
k_high h valid =
    elim (cases_eq h.mdcfg 0) [
      | inl fixed_k ↦ subst (λ b. h.k ≤ (if b then 0 else 128)) (sym (eq-eqb h.mdcfg 0 fixed_k)) (omega (arith, valid.k_fixed fixed_k))
      | inr chosen ↦ subst (λ b. h.k ≤ (if b then 0 else 128)) (sym (differs h.mdcfg 0 chosen)) valid.k
    ]

is_more : (a b : ℕ) → b < a → nat_le a b ≡ false
is_more a b h = grind (arith, nat_tests)

srcmd_high : (h : Shape) → IsValidShape h → h.srcmd ≤ (if nat_le h.rrids 32 then 2 else 1)
srcmd_high h valid =
    elim (cases_lt 32 h.rrids) [
      | inl many ↦ subst (λ b. h.srcmd ≤ (if b then 2 else 1)) (sym (is_more h.rrids 32 many)) (below h valid many)
      | inr few ↦ subst (λ b. h.srcmd ≤ (if b then 2 else 1)) (sym (is_at_most h.rrids 32 few)) valid.srcmd
    ]
  where
    below : (h : Shape) → IsValidShape h → 32 < h.rrids → h.srcmd ≤ 1
    below h valid many = elim (cases_eq h.srcmd 2) [
      | inl two ↦ absurd (omega (arith, many, valid.srcmd_rrids two))
      | inr other ↦ omega (arith, valid.srcmd, other)
    ]

sps_high : (b : Bool) (srcmd : ℕ) → (b ≡ true → srcmd ≡ 0) → sps_number b ≤ (if srcmd == 0 then 1 else 0)
sps_high true srcmd h = subst (λ t. 1 ≤ (if t then 1 else 0)) (sym (eq-eqb srcmd 0 (h refl))) (omega arith)
sps_high false srcmd h = omega arith

sps_small : (b : Bool) → sps_number b ≤ 1
sps_small true = omega arith
sps_small false = omega arith

sps_back : (b : Bool) → (sps_number b == 1) ≡ b
sps_back true = refl
sps_back false = refl

-- ---- the line

unit_are_words : (h : Shape) → IsValidShape h → AreWords (unit_words h)
unit_are_words h valid = (
  fixed (codes "unit") refl,
  (
    fixed (codes "rrids") refl,
    (
      (decimal_writes h.rrids (omega (arith, valid.rrids.1))).word,
      (
        fixed (codes "domains") refl,
        (
          (decimal_writes h.domains (omega (arith, valid.domains.1))).word,
          (
            fixed (codes "entries") refl,
            (
              (decimal_writes h.entries (omega (arith, valid.entries.1))).word,
              (
                fixed (codes "mdcfg") refl,
                (
                  (decimal_writes h.mdcfg (omega (arith, valid.mdcfg))).word,
                  (
                    fixed (codes "k") refl,
                    (
                      (decimal_writes h.k (omega (arith, valid.k))).word,
                      (
                        fixed (codes "srcmd") refl,
                        (
                          (decimal_writes h.srcmd (omega (arith, valid.srcmd))).word,
                          (
                            fixed (codes "sps") refl,
                            (
                              (decimal_writes (sps_number h.sps) (omega (arith, sps_small h.sps))).word,
                              (
                                fixed (codes "queue") refl,
                                (
                                  (decimal_writes h.queue (omega (arith, valid.queue.1))).word,
                                  (fixed (codes "transl") refl, (translation_word h.transl valid.transl, tt)),
                                ),
                              ),
                            ),
                          ),
                        ),
                      ),
                    ),
                  ),
                ),
              ),
            ),
          ),
        ),
      ),
    ),
  ),
)

shape_read : (h : Shape) → IsValidShape h → shape_at (unit_words h) ≡ Ok h
unfolding shape_at
shape_read h valid =
    rw (
      ranged_is 1 64 (decimal h.rrids) h.rrids (decimal_writes h.rrids (omega (arith, valid.rrids.1))) valid.rrids.0 valid.rrids.1,
      ranged_is 1 63 (decimal h.domains) h.domains (decimal_writes h.domains (omega (arith, valid.domains.1))) valid.domains.0 valid.domains.1,
      ranged_is 1 1024 (decimal h.entries) h.entries (decimal_writes h.entries (omega (arith, valid.entries.1))) valid.entries.0 valid.entries.1,
      ranged_is 0 2 (decimal h.mdcfg) h.mdcfg (decimal_writes h.mdcfg (omega (arith, valid.mdcfg))) (omega arith) valid.mdcfg,
      ranged_is (if h.mdcfg == 0 then 0 else 1) (if h.mdcfg == 0 then 0 else 128) (decimal h.k) h.k (decimal_writes h.k (omega (arith, valid.k))) (k_low h valid) (k_high h valid),
      ranged_is 0 (if nat_le h.rrids 32 then 2 else 1) (decimal h.srcmd) h.srcmd (decimal_writes h.srcmd (omega (arith, valid.srcmd))) (omega arith) (srcmd_high h valid),
      ranged_is 0 (if h.srcmd == 0 then 1 else 0) (decimal (sps_number h.sps)) (sps_number h.sps) (decimal_writes (sps_number h.sps) (omega (arith, sps_small h.sps))) (omega arith) (sps_high h.sps h.srcmd valid.sps),
      ranged_is 1 64 (decimal h.queue) h.queue (decimal_writes h.queue (omega (arith, valid.queue.1))) valid.queue.0 valid.queue.1,
      translation_read h.transl valid.transl,
      sps_back h.sps,
    ) refl

unit_read : (h : Shape) → IsValidShape h → unit_line (unit_words h) ≡ Ok h
unfolding unit_line has_keys
unit_read h valid = shape_read h valid

-- ---- all unit lines

-- units were read
abbrev pub units_at : List Shape → State
units_at shapes = record { place = Units; shapes = shapes; boot = no_commands; lanes = []; section = new_section }

unit_step_read : (before : List Shape) (h : Shape) → length before < 4 → IsValidShape h → units_step (units_at before) (unit_words h) ≡ Ok (units_at (before ++ h ∷ []))
unfolding units_step unit_step
unit_step_read before h few valid =
    ap (λ b. if b then (unit_line (unit_words h) >>= λ shape. Ok (units_at (before ++ shape ∷ []))) else Err misplaced) (is_less (length before) 4 few)
    ∙ ap (λ r. r >>= λ shape. Ok (units_at (before ++ shape ∷ []))) (unit_read h valid)

pub units_read : (before shapes : List Shape) (n : ℕ) (rest : List ℕ) → length before + length shapes ≤ 4 → AllByRecursion IsValidShape shapes
    → lines_from (units_at before) n (lines_of (unit_texts shapes ++ rest)) ≡ lines_from (units_at (before ++ shapes)) (n + length shapes) (lines_of rest)
units_read before [] n rest few valid = ap (λ s. lines_from (units_at s) n (lines_of rest)) (sym (append-nil before)) ∙ ap (λ k. lines_from (units_at (before ++ [])) k (lines_of rest)) (omega arith)
units_read before (h ∷ hs) n rest few valid =
    let few_now : length before < 4 = omega (arith, few) in
    let few_next : length (before ++ h ∷ []) + length hs ≤ 4 = omega (arith, few, length-append before (h ∷ [])) in
    ap (λ t. lines_from (units_at before) n (lines_of t)) (append_assoc (unit_text h) (unit_texts hs) rest ∙ unit_ended h (unit_texts hs ++ rest))
    ∙ line_more (units_at before) (units_at (before ++ h ∷ [])) n (unit_words h) (unit_texts hs ++ rest) (unit_are_words h valid.0) (stands (unit_words h) (omega arith) refl) (unit_step_read before h few_now valid.0)
    ∙ units_read (before ++ h ∷ []) hs (n + 1) rest few_next valid.1
    ∙ ap (λ s. lines_from (units_at s) (n + 1 + length hs) (lines_of rest)) (append_assoc before (h ∷ []) hs)
    ∙ ap (λ k. lines_from (units_at (before ++ h ∷ hs)) k (lines_of rest)) (omega arith)
