-- The slots of names with one name more.
use Rattle.std.proofs.Common.{◌≡◌, ℕ, ◌+◌, ◌<◌, ◌≤◌, Bool, true, false, List, [], ◌∷◌, ◌++◌, None, Some, Option, length, cond, nat_lt, position, is_some, IfSome, refl, ap, sym, ◌∙◌, inl, inr, arith, length-append}
use lib.Dec.{eqb}
use Rattle.std.proofs.lemmas.Bool.{cases_Bool}
use Rattle.std.proofs.lemmas.Bool.Decides.{nat_tests}
use Rattle.std.proofs.lemmas.List.Folds.{position_or_len_push}
use Rattle.std.proofs.lemmas.List.Sums.{prefix_len-le-length}
use Rattle.std.proofs.lemmas.List.Quantifiers.{position-Some}
use Rattle.std.proofs.lemmas.Slice.Eq.{bytes_eq-Decides}
use Rattle.std.specs.List.{position_or_len}
use Rattle.std.specs.Str.{bytes_eq}
use Rattle.script_reader.specs.Names.{slot_of}

pub not_both : (b : Bool) → b ≡ true → b ≡ false → ⊥
not_both b t f = cc

first_hit : (a b n m : ℕ) → m ≡ n + 1 → a ≤ n → b ≡ cond (eqb a n) (n + 0) a → cond (nat_lt a n) (Some a) None ≡ None → cond (nat_lt b m) (Some b) None ≡ Some n
first_hit a b n m e bound last none = grind (arith, nat_tests)

first_miss : (a b n m : ℕ) → m ≡ n + 1 → a ≤ n → b ≡ cond (eqb a n) (n + 1) a → cond (nat_lt b m) (Some b) None ≡ cond (nat_lt a n) (Some a) None
first_miss a b n m e bound last = grind (arith, nat_tests)

pushed : {A : Type 0} (p : A → Bool) (xs : List A) (y : A) (h : Bool) → p y ≡ h → position_or_len p (xs ++ y ∷ []) ≡ cond (eqb (position_or_len p xs) (length xs)) (length xs + cond h 0 1) (position_or_len p xs)
pushed p xs y h e = position_or_len_push p xs y ∙ ap (λ v. cond (eqb (position_or_len p xs) (length xs)) (length xs + cond v 0 1) (position_or_len p xs)) e

pub push_hit : {A : Type 0} (p : A → Bool) (xs : List A) (y : A) → position p xs ≡ None → p y ≡ true → position p (xs ++ y ∷ []) ≡ Some (length xs)
push_hit p xs y none hit = first_hit (position_or_len p xs) (position_or_len p (xs ++ y ∷ [])) (length xs) (length (xs ++ y ∷ [])) (omega (arith, length-append xs (y ∷ []))) (prefix_len-le-length _ xs) (pushed p xs y true hit) none

pub push_miss : {A : Type 0} (p : A → Bool) (xs : List A) (y : A) → p y ≡ false → position p (xs ++ y ∷ []) ≡ position p xs
push_miss p xs y miss = first_miss (position_or_len p xs) (position_or_len p (xs ++ y ∷ [])) (length xs) (length (xs ++ y ∷ [])) (omega (arith, length-append xs (y ∷ []))) (prefix_len-le-length _ xs) (pushed p xs y false miss)

other : (w q : List ℕ) → bytes_eq w q ≡ false → bytes_eq q w ≡ false
other w q f =
    elim (cases_Bool (bytes_eq q w)) [
      | inl t ↦ absurd (not_both (bytes_eq w q) ((bytes_eq-Decides w q).1 (sym ((bytes_eq-Decides q w).0 t))) f)
      | inr m ↦ m
    ]

pub is_none : (o : Option ℕ) → is_some o ≡ false → o ≡ None
is_none None e = refl
is_none (Some n) e = cc

pub slot_more : (names : List (List ℕ)) (w q : List ℕ) → slot_of names w ≡ None → cond (bytes_eq w q) (Some (length names)) (slot_of names q) ≡ slot_of (names ++ w ∷ []) q
slot_more names w q none =
    elim (cases_Bool (bytes_eq w q)) [
      | inl t ↦ ap (λ b. cond b (Some (length names)) (slot_of names q)) t ∙ sym (push_hit (bytes_eq w) names w none ((bytes_eq-Decides w w).1 refl)) ∙ ap (slot_of (names ++ w ∷ [])) ((bytes_eq-Decides w q).0 t)
      | inr f ↦ ap (λ b. cond b (Some (length names)) (slot_of names q)) f ∙ sym (push_miss (bytes_eq q) names w (other w q f))
    ]

-- a slot is below the number of names
slot_below : (names : List (List ℕ)) (w : List ℕ) (slot : ℕ) → slot_of names w ≡ Some slot → slot < length names
slot_below names w slot e = (position-Some (bytes_eq w) names slot [] e).0

pub slot_in : (names : List (List ℕ)) (w : List ℕ) (o : Option ℕ) → o ≡ slot_of names w → IfSome o (λ slot. slot < length names)
slot_in names w None e = tt
slot_in names w (Some slot) e = slot_below names w slot (sym e)
