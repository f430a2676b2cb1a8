-- The slots of keys.
use Rattle.std.proofs.Common.{◌≡◌, ℕ, ◌+◌, ◌-◌, ◌^◌, ◌<◌, ◌≤◌, true, false, cond, List, [], ◌∷◌, ◌++◌, None, Some, Ok, Err, Option, length, take, drop, get_or, is_some, is_none, take-append-drop, unwrap_or, refl, ap, sym, subst, ◌∙◌, inl, inr, arith, length-append}
use Rattle.std.specs.Prelude.{nat_eq}
use Rattle.std.proofs.lemmas.Bool.{cases_lt, eq-eqb}
use Rattle.std.proofs.lemmas.Bool.Decides.{nat_tests, eqb_tells}
use Rattle.std.proofs.lemmas.Option.{none-some}
use Rattle.std.proofs.lemmas.List.{get_or_push, get_or_append_left, take_all, take-append-le}
use Rattle.std.proofs.lemmas.List.Quantifiers.{position-Some}
use Rattle.std.proofs.lemmas.List.Sorted.{searched}
use Rattle.std.proofs.lemmas.List.Sums.{position_or_len_is}
use Rattle.std.specs.List.Sorted.{IsBinarySearchResult}
use Rattle.std.specs.Cmp.{nat_cmp_is}
use Rattle.std.specs.Ordering.{nat_cmp, is_eq}
use Rattle.std.specs.declared.cmp.Ordering.TheVariants.{Less, Equal, Greater}
use Rattle.std.specs.BTreeMap.{BTreeMap, get, Updates}
use Rattle.script_reader.specs.KeySlots.{key_slot, rank_of, IsRising, is_above, AreIndexed}
use Rattle.script_reader.proofs.FirstLine.{position_some, position_none}
use Rattle.script_reader.proofs.Slots.{push_hit, push_miss}

-- ---- the slots of more keys

-- a key more, which is none of those before
pub key_slot_more : (keys : List ℕ) (key q : ℕ) → key_slot keys key ≡ None → key_slot (keys ++ key ∷ []) q ≡ cond (nat_eq q key) (Some (length keys)) (key_slot keys q)
key_slot_more keys key q none =
    elim (eqb_tells q key) [
      | inl same ↦ push_hit (nat_eq q) keys key (ap (key_slot keys) same.1 ∙ none) same.0 ∙ sym (ap (λ b. cond b (Some (length keys)) (key_slot keys q)) same.0)
      | inr other ↦ push_miss (nat_eq q) keys key other.0 ∙ sym (ap (λ b. cond b (Some (length keys)) (key_slot keys q)) other.0)
    ]

-- more keys leave a slot as it is
pub slot_before : (keys more : List ℕ) (key slot : ℕ) → key_slot keys key ≡ Some slot → key_slot (keys ++ more) key ≡ Some slot
slot_before keys more key slot e =
    let found = position-Some (nat_eq key) keys slot 0 e in
    let long = length-append keys more in
    position_some (nat_eq key) (keys ++ more) slot
    (position_or_len_is (nat_eq key) (keys ++ more) slot 0 (omega (arith, found.0, long))
    (λ k h. ap (nat_eq key) (get_or_append_left keys more 0 k (omega (arith, found.0, h))) ∙ found.2 k h)
    (λ _. ap (nat_eq key) (get_or_append_left keys more 0 slot found.0) ∙ found.1))
    (omega (arith, found.0, long))

-- what more keys don't have, none of them is
pub absent_before : (keys more : List ℕ) (key : ℕ) → key_slot (keys ++ more) key ≡ None → key_slot keys key ≡ None
absent_before keys more key none = by (key_slot keys key) refl
  where
    by : (o : Option ℕ) → key_slot keys key ≡ o → o ≡ None
    by None e = refl
    by (Some slot) e = absurd (none-some slot (sym none ∙ slot_before keys more key slot e))

-- a slot among the first keys is one among all
pub slot_rising : (keys : List ℕ) (rising key slot : ℕ) → key_slot (take rising keys) key ≡ Some slot → key_slot keys key ≡ Some slot
slot_rising keys rising key slot e = subst (λ ks. key_slot ks key ≡ Some slot) (take-append-drop rising keys) (slot_before (take rising keys) (drop rising keys) key slot e)

pub taken_rising : (keys : List ℕ) (rising key : ℕ) → is_some (key_slot (take rising keys) key) ≡ true → is_none (key_slot keys key) ≡ false
taken_rising keys rising key taken = by (key_slot (take rising keys) key) refl taken
  where
    by : (o : Option ℕ) → key_slot (take rising keys) key ≡ o → is_some o ≡ true → is_none (key_slot keys key) ≡ false
    by None e t = cc
    by (Some slot) e t = ap is_none (slot_rising keys rising key slot e)

-- a slot is below the number of keys
pub slot_within : (keys : List ℕ) (key slot : ℕ) → key_slot keys key ≡ Some slot → slot < length keys
slot_within keys key slot e = (position-Some (nat_eq key) keys slot 0 e).0

-- ---- keys that rise

other : (a b : ℕ) → (a ≡ b → ⊥) → nat_eq a b ≡ false
other a b apart =
    elim (eqb_tells a b) [
      | inl same ↦ absurd (apart same.1)
      | inr e ↦ e.0
    ]

absent_is : (keys : List ℕ) (key : ℕ) → ((k : ℕ) → k < length keys → get_or keys k 0 ≡ key → ⊥) → key_slot keys key ≡ None
absent_is keys key apart =
    position_none (nat_eq key) keys (length keys)
    (position_or_len_is (nat_eq key) keys (length keys) 0 (omega arith) (λ k h. other key (get_or keys k 0) (λ e. apart k h (sym e))) (λ h. absurd (omega (arith, h)))) (omega arith)

found_at : (keys : List ℕ) (key i : ℕ) → IsRising keys → i < length keys → get_or keys i 0 ≡ key → key_slot keys key ≡ Some i
found_at keys key i rise within at =
    position_some (nat_eq key) keys i
    (position_or_len_is (nat_eq key) keys i 0 (omega (arith, within)) (λ k h. other key (get_or keys k 0) (λ e. omega (arith, e, at, rise.at k i h within))) (λ _. eq-eqb key (get_or keys i 0) (sym at)))
    within

not_falling : (keys : List ℕ) → IsRising keys → (i j : ℕ) → i ≤ j → j < length keys → get_or keys i 0 ≤ get_or keys j 0
not_falling keys rise i j h within =
    elim (cases_lt i j) [
      | inl below ↦ let less : get_or keys i 0 < get_or keys j 0 = rise.at i j below within in omega (arith, less)
      | inr same ↦ let here : i ≡ j = omega (arith, h, same) in omega (arith, ap (λ k. get_or keys k 0) here)
    ]

-- what a search finds has the slot where it is found
pub search_found : (keys : List ℕ) (key i : ℕ) → IsRising keys → IsBinarySearchResult (λ y. nat_cmp y key) keys (Ok i) → key_slot keys key ≡ Some i
search_found keys key i rise h =
    let found = searched keys key (Ok i) h (not_falling keys rise) in
    found_at keys key i rise found.0 found.1

-- what it doesn't find has none
pub search_absent : (keys : List ℕ) (key i : ℕ) → IsRising keys → IsBinarySearchResult (λ y. nat_cmp y key) keys (Err i) → key_slot keys key ≡ None
search_absent keys key i rise h =
    let parted = searched keys key (Err i) h (not_falling keys rise) in
    absent_is keys key (λ k l e.
    elim (cases_lt k i) [
      | inl before ↦ omega (arith, e, parted.1 k before)
      | inr after ↦ omega (arith, e, parted.2 k after l)
    ])

above_all : (keys : List ℕ) (key : ℕ) → IsRising keys → is_above keys key ≡ true → (k : ℕ) → k < length keys → get_or keys k 0 < key
above_all keys key rise above k h =
    let top : get_or keys (length keys - 1) 0 < key = grind (arith, nat_tests) in
    let most : get_or keys k 0 ≤ get_or keys (length keys - 1) 0 = not_falling keys rise k (length keys - 1) (omega (arith, h)) (omega (arith, h)) in
    omega (arith, top, most)

-- a key above the last of keys that rise is none of them
pub above_absent : (keys : List ℕ) (key : ℕ) → IsRising keys → is_above keys key ≡ true → key_slot keys key ≡ None
above_absent keys key rise above = absent_is keys key (λ k h e. omega (arith, e, above_all keys key rise above k h))

rising_more : (keys : List ℕ) (key : ℕ) → IsRising keys → is_above keys key ≡ true → IsRising (keys ++ key ∷ [])
rising_more keys key rise above = record {
  at = λ i j less within.
      let long = length-append keys (key ∷ []) in
      let first : get_or (keys ++ key ∷ []) i 0 ≡ get_or keys i 0 = get_or_append_left keys (key ∷ []) 0 i (omega (arith, less, within, long)) in
      elim (cases_lt j (length keys)) [
        | inl before ↦ let rest : get_or keys i 0 < get_or keys j 0 = rise.at i j less before in omega (arith, first, get_or_append_left keys (key ∷ []) 0 j before, rest)
        | inr after ↦
            let last : j ≡ length keys = omega (arith, after, within, long) in
            omega (arith, first, get_or_push keys key 0 j (sym last), above_all keys key rise above i (omega (arith, less, last)))
      ];
}

-- ---- keys and a map

equal_is : (a b : ℕ) → a ≡ b → is_eq (nat_cmp a b) ≡ true
equal_is a b e = ap is_eq (sym (nat_cmp_is a b Equal e))

other_is : (a b : ℕ) → (a ≡ b → ⊥) → is_eq (nat_cmp a b) ≡ false
other_is a b apart =
    elim (cases_lt a b) [
      | inl below ↦ ap is_eq (sym (nat_cmp_is a b Less below))
      | inr above ↦ ap is_eq (sym (nat_cmp_is a b Greater (omega (arith, above, apart))))
    ]

-- ranks compare as keys do
rank_test : (key q : ℕ) → key < 2 ^ 64 → q < 2 ^ 64 → is_eq (nat_cmp (rank_of key) (rank_of q)) ≡ nat_eq q key
rank_test key q small fits =
    elim (eqb_tells q key) [
      | inl same ↦ equal_is (rank_of key) (rank_of q) (ap rank_of (sym same.1)) ∙ sym same.0
      | inr other ↦ other_is (rank_of key) (rank_of q) (λ e. other.1 (omega (arith, e, small, fits))) ∙ sym other.0
    ]

-- a key above all of keys that rise is none of them
pub above_new : (keys : List ℕ) (rising : ℕ) (others : BTreeMap ℕ ℕ) (key : ℕ) → AreIndexed keys rising others → rising ≡ length keys → is_above keys key ≡ true → key_slot keys key ≡ None
above_new keys rising others key old all above = above_absent keys key (subst IsRising (take_all rising keys (omega (arith, all))) old.rise) above

module _ (keys : List ℕ) (rising : ℕ) (others : BTreeMap ℕ ℕ) (old : AreIndexed keys rising others) (few : length keys < 2 ^ 32) where
  -- a key above all of keys that rise
  pub indexed_above : (key : ℕ) → rising ≡ length keys → is_above keys key ≡ true → AreIndexed (keys ++ key ∷ []) (rising + 1) others
  indexed_above key all above =
      let long = length-append keys (key ∷ []) in
      let whole : take rising keys ≡ keys = take_all rising keys (omega (arith, all)) in
      let wholly : take (rising + 1) (keys ++ key ∷ []) ≡ keys ++ key ∷ [] = take_all (rising + 1) (keys ++ key ∷ []) (omega (arith, all, long)) in
      record {
        few = omega (arith, few, long);
        within = omega (arith, old.within, long);
        rise = subst IsRising (sym wholly) (rising_more keys key (subst IsRising whole old.rise) above);
        mapped = λ q fits none.
            let absent : key_slot (keys ++ key ∷ []) q ≡ None = ap (λ ks. key_slot ks q) (sym wholly) ∙ none in
            let before : key_slot keys q ≡ None = absent_before keys (key ∷ []) q absent in
            old.mapped q fits (ap (λ ks. key_slot ks q) whole ∙ before) ∙ before ∙ sym absent;
      }

  -- a key that the map has
  pub indexed_other : (new : BTreeMap ℕ ℕ) (key slot rank : ℕ) → key < 2 ^ 64 → key_slot keys key ≡ None → rank ≡ rank_of key → slot ≡ length keys → Updates nat_cmp others new rank (Some slot) → AreIndexed (keys ++ key ∷ []) rising new
  indexed_other new key slot rank small none same count updates =
      let long = length-append keys (key ∷ []) in
      let first : take rising (keys ++ key ∷ []) ≡ take rising keys = take-append-le rising keys (key ∷ []) old.within in
      record {
        few = omega (arith, few, long);
        within = omega (arith, old.within, long);
        rise = subst IsRising (sym first) old.rise;
        mapped = λ q fits absent.
            updates.0 (rank_of q)
            ∙ ap (λ n. cond (is_eq (nat_cmp n (rank_of q))) (Some slot) (get nat_cmp others (rank_of q))) same
            ∙ ap (λ b. cond b (Some slot) (get nat_cmp others (rank_of q))) (rank_test key q small fits)
            ∙ ap (λ n. cond (nat_eq q key) (Some n) (get nat_cmp others (rank_of q))) count
            ∙ ap (λ o. cond (nat_eq q key) (Some (length keys)) o) (old.mapped q fits (ap (λ ks. key_slot ks q) (sym first) ∙ absent))
            ∙ sym (key_slot_more keys key q none);
      }

-- the map is told again what it has
pub indexed_kept : (keys : List ℕ) (rising : ℕ) (others new : BTreeMap ℕ ℕ) → AreIndexed keys rising others → ((q : ℕ) → get nat_cmp new q ≡ get nat_cmp others q) → AreIndexed keys rising new
indexed_kept keys rising others new old same = record { few = old.few; within = old.within; rise = old.rise; mapped = λ q fits none. same (rank_of q) ∙ old.mapped q fits none }

-- a slot that is given is no slot of the keys before
pub given_new : (keys : List ℕ) (key : ℕ) (o : Option ℕ) (slot next : ℕ) → o ≡ key_slot keys key → slot ≡ unwrap_or o next → slot ≡ next → next ≡ length keys → key_slot keys key ≡ None
given_new keys key None slot next e value given count = sym e
given_new keys key (Some s) slot next e value given count =
    let below : s < length keys = slot_within keys key s (sym e) in
    absurd (omega (arith, below, value, given, count))
