-- Names and the numbers that stand for them.
use Rattle.std.proofs.Common.{◌≡◌, ℕ, zero, suc, ◌+◌, ◌-◌, ◌*◌, ◌^◌, ◌<◌, ◌≤◌, ◌&&◌, nat_le, nat_eq, Bool, true, false, cond, List, [], ◌∷◌, ◌++◌, None, Some, Option, length, map, get_or, slice_index, is_none, if◌then◌else◌, refl, ap, sym, subst, ◌∙◌, inl, inr, arith, length-append}
use Rattle.std.proofs.Math.Nat.{pow-le-pow_right}
use Rattle.std.proofs.lemmas.Grind.{pow_more}
use Rattle.std.proofs.lemmas.Bool.{cases_Bool, cases_lt, leb-true, eq-eqb, and_from, and_parts}
use Rattle.std.proofs.lemmas.Bool.Decides.{nat_tests, eqb_tells}
use Rattle.std.proofs.lemmas.List.{get_or_push, get_or-map, length-map}
use Rattle.std.proofs.lemmas.List.Elements.{All-get_or}
use Rattle.std.proofs.lemmas.List.Folds.{list_all-append}
use Rattle.std.proofs.lemmas.List.Quantifiers.{position-Some}
use Rattle.std.proofs.lemmas.List.Sums.{AllPass-from_list_all}
use Rattle.std.proofs.lemmas.Slice.Eq.{bytes_eq-Decides}
use denote.Ref.{Bor}
use Rattle.std.specs.List.{list_all}
use Rattle.std.specs.Str.{bytes_eq}
use Rattle.script_reader.specs.Names.{is_letter, is_letter_or_digit, is_name, key_after, key_of, name_key, slot_of, AreKeysOf}
use Rattle.script_reader.specs.KeySlots.{key_slot}
use Rattle.script_reader.proofs.Slots.{slot_more, not_both}
use Rattle.script_reader.proofs.KeySlots.{key_slot_more}

-- ---- the number of a name so far

-- a byte more
pub key_more : (key byte i : ℕ) → key < 256 ^ i → byte < 256 → key * 256 + byte < 256 ^ (i + 1)
key_more key byte i below small = rw (pow_more 256 i) (omega (arith, below, small))

-- at most eight bytes fit 64 bits
pub key_fits : (key byte i : ℕ) → key < 256 ^ i → byte < 256 → i < 8 → key * 256 + byte < 2 ^ 64
key_fits key byte i below small few =
    let most : 256 ^ (i + 1) ≤ 256 ^ 8 = pow-le-pow_right {n = 256} (omega arith) {i = i + 1} {j = 8} (omega (arith, few)) in
    omega (arith, key_more key byte i below small, most)

key_bound : (key i : ℕ) (bs : List ℕ) → key < 256 ^ i → ((k : ℕ) → get_or bs k 0 < 256) → key_after key bs < 256 ^ (i + length bs)
key_bound key i [] below small = subst (λ n. key < 256 ^ n) (omega arith) below
key_bound key i (b ∷ bs) below small =
    subst (λ n. key_after (key * 256 + b) bs < 256 ^ n) (omega arith) (key_bound (key * 256 + b) (i + 1) bs (key_more key b i below (small 0)) (λ k. small (suc k)))

key_small : (bs : List ℕ) → ((k : ℕ) → get_or bs k 0 < 256) → length bs ≤ 8 → key_of bs < 2 ^ 64
key_small bs small short =
    let most : 256 ^ (0 + length bs) ≤ 256 ^ 8 = pow-le-pow_right {n = 256} (omega arith) {i = 0 + length bs} {j = 8} (omega (arith, short)) in
    omega (arith, key_bound 0 0 bs (omega arith) small, most)

-- ---- names with one number are one

last_byte : (p q a b : ℕ) → a < 256 → b < 256 → p * 256 + a ≡ q * 256 + b → (p ≡ q) × (a ≡ b)
last_byte p q a b small other e = (omega (arith, small, other, e), omega (arith, small, other, e))

is_byte : (b : ℕ) → is_letter_or_digit b ≡ true → (1 ≤ b) × (b < 256)
is_byte b h = (grind (arith, nat_tests), grind (arith, nat_tests))

-- as many bytes after a number give one number only where both the numbers and the bytes are the same
same_after : (p q : ℕ) (w v : List ℕ) → length w ≡ length v → list_all is_letter_or_digit w ≡ true → list_all is_letter_or_digit v ≡ true → key_after p w ≡ key_after q v → (p ≡ q) × (w ≡ v)
same_after p q [] [] long h k e = (e, refl)
same_after p q [] (c ∷ cs) long h k e = absurd (omega (arith, long))
same_after p q (b ∷ bs) [] long h k e = absurd (omega (arith, long))
same_after p q (b ∷ bs) (c ∷ cs) long h k e =
    let rest = same_after (p * 256 + b) (q * 256 + c) bs cs (omega (arith, long)) (and_parts (is_letter_or_digit b) _ h).1 (and_parts (is_letter_or_digit c) _ k).1 e in
    let parts = last_byte p q b c (is_byte b (and_parts _ _ h).0).1 (is_byte c (and_parts _ _ k).0).1 rest.0 in
    (parts.0, ap (λ x. x ∷ bs) parts.1 ∙ ap (λ l. c ∷ l) rest.1)

-- more bytes give another number, since none is zero
longer_after : (p : ℕ) (w v : List ℕ) → length v < length w → list_all is_letter_or_digit w ≡ true → list_all is_letter_or_digit v ≡ true → key_after p w ≡ key_of v → ⊥
longer_after p [] v more h k e = omega (arith, more)
longer_after p (b ∷ bs) v more h k e =
    let some : 1 ≤ b = (is_byte b (and_parts _ _ h).0).0 in
    let rest : list_all is_letter_or_digit bs ≡ true = (and_parts (is_letter_or_digit b) _ h).1 in
    elim (cases_lt (length v) (length bs)) [
      | inl still ↦ longer_after (p * 256 + b) bs v still rest k e
      | inr even ↦ omega (arith, some, (same_after (p * 256 + b) 0 bs v (omega (arith, even, more)) rest k e).0)
    ]

pub same_key : (w v : List ℕ) → list_all is_letter_or_digit w ≡ true → list_all is_letter_or_digit v ≡ true → key_of w ≡ key_of v → w ≡ v
same_key w v h k e =
    elim (cases_lt (length v) (length w)) [
      | inl more ↦ absurd (longer_after 0 w v more h k e)
      | inr most ↦
          elim (cases_lt (length w) (length v)) [
            | inl less ↦ absurd (longer_after 0 v w less k h (sym e))
            | inr least ↦ (same_after 0 0 w v (omega (arith, most, least)) h k e).1
          ]
    ]

byte_small : (w : List ℕ) → list_all is_letter_or_digit w ≡ true → (k : ℕ) → get_or w k 0 < 256
byte_small [] h k = omega arith
byte_small (b ∷ bs) h zero = (is_byte b (and_parts _ _ h).0).1
byte_small (b ∷ bs) h (suc k) = byte_small bs (and_parts (is_letter_or_digit b) _ h).1 k

-- ---- a name has at most eight letters and digits

pub name_short : (w : List ℕ) → is_name w ≡ true → length w ≤ 8
unfolding is_name
name_short w h = leb-true (length w) 8 (and_parts (nat_le 1 (length w)) _ (and_parts _ _ h).0).1

name_bytes : (w : List ℕ) → is_name w ≡ true → list_all is_letter_or_digit w ≡ true
unfolding is_name
name_bytes w h = (and_parts (is_letter (slice_index w 0)) _ (and_parts (nat_le 1 (length w) && nat_le (length w) 8) _ h).1).1

-- ---- the numbers of names with one name more

pub none_is : (o : Option ℕ) → is_none o ≡ true → o ≡ None
none_is None e = refl
none_is (Some n) e = cc

-- what has a number is a name, and the number is that which its bytes write
pub key_named : (w : List ℕ) (key : ℕ) → name_key w ≡ Some key → is_name w ≡ true
key_named w key e = by (is_name w) e
  where
    by : (b : Bool) → (if b then Some (key_of w) else None) ≡ Some key → b ≡ true
    by true e = refl
    by false e = cc

pub key_is : (w : List ℕ) (key : ℕ) → name_key w ≡ Some key → key ≡ key_of w
key_is w key e = by (is_name w) e
  where
    by : (b : Bool) → (if b then Some (key_of w) else None) ≡ Some key → key ≡ key_of w
    by true e = cc
    by false e = cc

-- numbers compare as names do
key_test : (w q : List ℕ) → is_name w ≡ true → is_name q ≡ true → nat_eq (key_of q) (key_of w) ≡ bytes_eq w q
key_test w q h k =
    elim (cases_Bool (bytes_eq w q)) [
      | inl t ↦ eq-eqb (key_of q) (key_of w) (ap key_of (sym ((bytes_eq-Decides w q).0 t))) ∙ sym t
      | inr f ↦
          elim (eqb_tells (key_of q) (key_of w)) [
            | inl same ↦ absurd (not_both (bytes_eq w q) ((bytes_eq-Decides w q).1 (same_key w q (name_bytes w h) (name_bytes q k) (sym same.1))) f)
            | inr other ↦ other.0 ∙ sym f
          ]
    ]

all_more : (keys : List ℕ) (names : List (List ℕ)) (w : List ℕ) → AreKeysOf keys names → is_name w ≡ true → slot_of names w ≡ None → (q : List ℕ) → is_name q ≡ true
    → key_slot (keys ++ key_of w ∷ []) (key_of q) ≡ slot_of (names ++ w ∷ []) q
all_more keys names w old h none q k =
    key_slot_more keys (key_of w) (key_of q) (old.all w h ∙ none)
    ∙ ap (λ b. cond b (Some (length keys)) (key_slot keys (key_of q))) (key_test w q h k)
    ∙ ap (λ n. cond (bytes_eq w q) (Some n) (key_slot keys (key_of q))) old.count
    ∙ ap (λ o. cond (bytes_eq w q) (Some (length names)) o) (old.all q k)
    ∙ slot_more names w q none

last_added : (names : List (List ℕ)) (w : List ℕ) → slot_of names w ≡ None → slot_of (names ++ w ∷ []) (get_or (names ++ w ∷ []) (length (names ++ w ∷ []) - 1) []) ≡ Some (length (names ++ w ∷ []) - 1)
last_added names w none =
    let count : length (names ++ w ∷ []) - 1 ≡ length names = omega (arith, length-append names (w ∷ [])) in
    ap (λ n. slot_of (names ++ w ∷ []) (get_or (names ++ w ∷ []) n [])) count
    ∙ ap (slot_of (names ++ w ∷ [])) (get_or_push names w [] (length names) refl)
    ∙ sym (slot_more names w w none)
    ∙ ap (λ b. cond b (Some (length names)) (slot_of names w)) ((bytes_eq-Decides w w).1 refl)
    ∙ ap Some (sym count)

more_named : (names : List (List ℕ)) (w : List ℕ) → list_all is_name names ≡ true → is_name w ≡ true → list_all is_name (names ++ w ∷ []) ≡ true
more_named names w all h = list_all-append is_name names (w ∷ []) ∙ and_from _ _ all (and_from _ _ h refl)

-- what has a slot is a name
pub named_is : (names : List (List ℕ)) (w : List ℕ) (slot : ℕ) → list_all is_name names ≡ true → slot_of names w ≡ Some slot → is_name w ≡ true
named_is names w slot all e =
    let found = position-Some (bytes_eq w) names slot [] e in
    let word : w ≡ get_or names slot [] = (bytes_eq-Decides w (get_or names slot [])).0 found.1 in
    ap is_name word ∙ All-get_or (λ x. is_name x ≡ true) names slot [] found.0 (AllPass-from_list_all is_name names all)

-- the numbers of names with one name more
pub keys_more : (keys : List ℕ) (names : List (List ℕ)) (w : List ℕ) → AreKeysOf keys names → is_name w ≡ true → slot_of names w ≡ None → length names < 2 ^ 32 → AreKeysOf (keys ++ key_of w ∷ []) (names ++ w ∷ [])
keys_more keys names w old h none few = record {
  few = omega (arith, few, length-append names (w ∷ []));
  count = omega (arith, old.count, length-append keys (key_of w ∷ []), length-append names (w ∷ []));
  named = more_named names w old.named h;
  all = all_more keys names w old h none;
  last = λ _. last_added names w none;
}

-- the slot of the last of names that are written in a text
pub last_is : (words : List (Bor (List ℕ))) (names : List (List ℕ)) (x : Bor (List ℕ)) (name : List ℕ) (count : ℕ) → map (λ x. x.now) words ≡ names → count ≡ length words → (count ≡ 0 → ⊥)
    → x ≡ get_or words (count - 1) x → bytes_eq x.now name ≡ true
    → (1 ≤ length (map (λ x. x.now) words) → slot_of (map (λ x. x.now) words) (get_or (map (λ x. x.now) words) (length (map (λ x. x.now) words) - 1) []) ≡ Some (length (map (λ x. x.now) words) - 1))
    → slot_of names name ≡ Some (count - 1)
last_is words names x name count view all some read same last =
    let texts : List (List ℕ) = map (λ (x : Bor (List ℕ)). x.now) words in
    let long : length texts ≡ count = length-map words (λ (x : Bor (List ℕ)). x.now) ∙ sym all in
    let word : get_or texts (count - 1) [] ≡ name =
    get_or-map (λ (x : Bor (List ℕ)). x.now) words (count - 1) x [] (omega (arith, all, some)) ∙ ap (λ (x : Bor (List ℕ)). x.now) (sym read) ∙ (bytes_eq-Decides x.now name).0 same in
    ap (λ ns. slot_of ns name) (sym view)
    ∙ ap (slot_of texts) (sym word)
    ∙ ap (λ n. slot_of texts (get_or texts (n - 1) [])) (sym long)
    ∙ last (omega (arith, long, some))
    ∙ ap (λ n. Some (n - 1)) long
