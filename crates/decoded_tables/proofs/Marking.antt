-- Marks of entries in rows of addresses.
use Rattle.std.proofs.Common.{◌≡◌, ◌≢◌, ℕ, pow-add, take, drop, ◌++◌, ◌+◌, ◌-◌, ◌*◌, ◌/◌, ◌%◌, ◌^◌, ◌<◌, ◌≤◌, true, false, List, Option, None, max, bit_or, bit_and, length, slice_index_or, slice_set, w64, arith, sym, ap, ◌∙◌, ⊎_elim, subst}
use Rattle.std.specs.Int.{bit_at, trailing_zeros}
use Rattle.std.proofs.Math.Seq.{take-append_seam}
use Rattle.std.proofs.Math.Nat.{div-div-eq-div-mul, div-le_self}
use Rattle.std.proofs.lemmas.Bool.{cases_eq, cases_lt}
use Rattle.std.proofs.lemmas.List.{get_or-set_same, get_or-set_other, length-set}
use Rattle.std.proofs.lemmas.Nat.Bits.{bit_at_or, bit_at-lt, bit_at_set_same, bit_at_set_other, bit_at_clear_other, bit_at-trailing_zeros, bit_at-zero, bit_at_above}
use Rattle.event_words.specs.declared.access.Access.{Access}
use Rattle.entry_ranges.specs.declared.ByteRange.{ByteRange}
use Rattle.event_words.proofs.Cases.{by_test}
use Rattle.event_words.proofs.Ranges.{none_any}
use Rattle.decoded_tables.specs.Standing.{range_at, is_in, is_touched}
use Rattle.decoded_tables.specs.Marks.{row_of, IsMarked, MarksFor}

abbrev marked_word : ℕ → ℕ → ℕ
marked_word word bit = bit_or word (1 * 2 ^ bit % 18446744073709551616)

abbrev unmarked_word : ℕ → ℕ → ℕ
unmarked_word word bit = bit_and word (18446744073709551615 - 1 * 2 ^ bit % 18446744073709551616)

-- the same word, with one more bit
pub set_here : (marks : List ℕ) (e row : ℕ) → e / 64 * 64 + row < length marks
    → IsMarked (slice_set marks (e / 64 * 64 + row) (marked_word (slice_index_or marks (e / 64 * 64 + row) 0) (e % 64))) e row
set_here marks e row h =
    ap (λ w. bit_at w (e % 64)) (get_or-set_same marks (e / 64 * 64 + row) (marked_word (slice_index_or marks (e / 64 * 64 + row) 0) (e % 64)) 0 h)
    ∙ bit_at_set_same w64 (slice_index_or marks (e / 64 * 64 + row) 0) (e % 64) (omega arith)

set_keeps : (w b i : ℕ) → b < 64 → bit_at w i ≡ 1 → bit_at (marked_word w b) i ≡ 1
set_keeps w b i h t = ⊎_elim
    (λ (s : i ≡ b). subst (λ k. bit_at (marked_word w b) k ≡ 1) (sym s) (bit_at_set_same w64 w b h))
    (λ (ne : i ≢ b). bit_at_set_other w64 w b h i ne ∙ t)
    (cases_eq i b)

pub set_kept : (marks : List ℕ) (e row j k : ℕ) → e / 64 * 64 + row < length marks → IsMarked marks j k
    → IsMarked (slice_set marks (e / 64 * 64 + row) (marked_word (slice_index_or marks (e / 64 * 64 + row) 0) (e % 64))) j k
set_kept marks e row j k h t =
    let at = e / 64 * 64 + row in
    let now = slice_set marks at (marked_word (slice_index_or marks at 0) (e % 64)) in
    let there = j / 64 * 64 + k in ⊎_elim
    (λ (s : there ≡ at). ap (λ n. bit_at (slice_index_or now n 0) (j % 64)) s
    ∙ (ap (λ w. bit_at w (j % 64)) (get_or-set_same marks at (marked_word (slice_index_or marks at 0) (e % 64)) 0 h)
    ∙ set_keeps (slice_index_or marks at 0) (e % 64) (j % 64) (omega arith) (ap (λ n. bit_at (slice_index_or marks n 0) (j % 64)) (sym s) ∙ t)))
    (λ (ne : there ≢ at). ap (λ w. bit_at w (j % 64)) (get_or-set_other marks at there (marked_word (slice_index_or marks at 0) (e % 64)) 0 ne) ∙ t)
    (cases_eq there at)

pub clear_kept : (marks : List ℕ) (e row j k : ℕ) → e / 64 * 64 + row < length marks → row < 64 → k < 64 → j ≢ e → IsMarked marks j k
    → IsMarked (slice_set marks (e / 64 * 64 + row) (unmarked_word (slice_index_or marks (e / 64 * 64 + row) 0) (e % 64))) j k
clear_kept marks e row j k h hr hk ne t =
    let at = e / 64 * 64 + row in
    let now = slice_set marks at (unmarked_word (slice_index_or marks at 0) (e % 64)) in
    let there = j / 64 * 64 + k in ⊎_elim
    (λ (s : there ≡ at). ap (λ n. bit_at (slice_index_or now n 0) (j % 64)) s
    ∙ (ap (λ w. bit_at w (j % 64)) (get_or-set_same marks at (unmarked_word (slice_index_or marks at 0) (e % 64)) 0 h)
    ∙ (bit_at_clear_other w64 (slice_index_or marks at 0) (e % 64) (omega arith) (j % 64) (omega arith) (λ (q : j % 64 ≡ e % 64). ne (omega (arith, s, q)))
    ∙ (ap (λ n. bit_at (slice_index_or marks n 0) (j % 64)) (sym s) ∙ t))))
    (λ (other : there ≢ at). ap (λ w. bit_at w (j % 64)) (get_or-set_other marks at there (unmarked_word (slice_index_or marks at 0) (e % 64)) 0 other) ∙ t)
    (cases_eq there at)

-- ---- the rows of a range

-- A range's block is one of the blocks from its first on, in steps below the count, but for its row.
pub row_among : (first count q : ℕ) → first ≤ q → (P : ℕ → Type 0) → ((i : ℕ) → i < count → P ((first + i) % 64)) → (q - first) % 64 < count → P (q % 64)
row_among first count q h P all l =
    let e : (first + (q - first) % 64) % 64 ≡ q % 64 = omega arith in
    subst P e (all ((q - first) % 64) l)

-- ---- the candidates for a transaction

or_one : (a b i : ℕ) → bit_at a i ≡ 1 → bit_at (bit_or a b) i ≡ 1
or_one a b i t = let l = bit_at-lt b i in bit_at_or a b i ∙ omega (arith, t, l)

or_other : (a b i : ℕ) → bit_at b i ≡ 1 → bit_at (bit_or a b) i ≡ 1
or_other a b i t = let l = bit_at-lt a i in bit_at_or a b i ∙ omega (arith, t, l)

pub candidate : (marks : List ℕ) (addr len group j x : ℕ) → len ≤ 4096 → j / 64 ≡ group → addr ≤ x → x < addr + len → IsMarked marks j (row_of x)
    → bit_at (bit_or (slice_index_or marks (group * 64 + addr / 65536 % 64) 0) (slice_index_or marks (group * 64 + (addr + len - 1) / 65536 % 64) 0)) (j % 64) ≡ 1
candidate marks addr len group j x small g lo hi t =
    let a = slice_index_or marks (group * 64 + addr / 65536 % 64) 0 in
    let b = slice_index_or marks (group * 64 + (addr + len - 1) / 65536 % 64) 0 in ⊎_elim
    (λ (s : x / 65536 ≡ addr / 65536).
    let e : group * 64 + addr / 65536 % 64 ≡ j / 64 * 64 + row_of x = omega (arith, s, g) in
    or_one a b (j % 64) (ap (λ n. bit_at (slice_index_or marks n 0) (j % 64)) e ∙ t))
    (λ (ne : x / 65536 ≢ addr / 65536).
    let s : x / 65536 ≡ (addr + len - 1) / 65536 = omega (arith, ne) in
    let e : group * 64 + (addr + len - 1) / 65536 % 64 ≡ j / 64 * 64 + row_of x = omega (arith, s, g) in
    or_other a b (j % 64) (ap (λ n. bit_at (slice_index_or marks n 0) (j % 64)) e ∙ t))
    (cases_eq (x / 65536) (addr / 65536))

-- ---- the next candidate

shifted : (w k i : ℕ) → bit_at (w / 2 ^ k) i ≡ bit_at w (k + i)
shifted w k i =
    ap (λ n. n % 2) (div-div-eq-div-mul w (2 ^ k) (2 ^ i) ∙ ap (λ m. w / m) (sym (pow-add 2 k i)))

-- Before the lowest bit of a word without its bits below `start`, none from there on is set.
pub unset_before : (word from group start j : ℕ) → start ≡ max from (group * 64) → from / 64 ≤ group → from ≤ j → group * 64 ≤ j → word < 2 ^ 64 → 0 < word / 2 ^ (start % 64)
    → j < start + trailing_zeros w64 (word / 2 ^ (start % 64)) → (j / 64 ≡ group) × (bit_at word (j % 64) ≡ 0)
unset_before word from group start j e low h g small some l =
    let shift = start % 64 in
    let rest = word / 2 ^ shift in
    let zeros = trailing_zeros w64 rest in
    let t = bit_at-trailing_zeros w64 rest some (omega (arith, div-le_self word (2 ^ shift))) in
    let top : bit_at word (shift + zeros) ≡ 1 = sym (shifted word shift zeros) ∙ t.1 in
    let inside : shift + zeros < 64 = ⊎_elim
    (λ (x : shift + zeros < 64). x)
    (λ (x : 64 ≤ shift + zeros). absurd (omega (arith, top, bit_at_above word 64 (shift + zeros) small x)))
    (cases_lt (shift + zeros) 64) in
    let same : j / 64 ≡ group = omega (arith, inside) in
    let place : shift + (j - start) ≡ j % 64 = omega (arith, inside) in (
      same,
      ap (bit_at word) (sym place) ∙ (sym (shifted word shift (j - start)) ∙ t.2 (j - start) (omega arith)),
    )

pub unset_all : (word from group start j : ℕ) → start ≡ max from (group * 64) → from / 64 ≤ group → from ≤ j → group * 64 ≤ j → j < (group + 1) * 64 → word / 2 ^ (start % 64) ≡ 0
    → (j / 64 ≡ group) × (bit_at word (j % 64) ≡ 0)
unset_all word from group start j e low h g l none =
    let shift = start % 64 in
    let same : j / 64 ≡ group = omega arith in
    let place : shift + (j - start) ≡ j % 64 = omega arith in (
      same,
      ap (bit_at word) (sym place) ∙ (sym (shifted word shift (j - start)) ∙ (ap (λ n. bit_at n (j - start)) none ∙ bit_at-zero (j - start))),
    )

-- ---- what an entry without a mark in the rows of a transaction is

pub untouched : (marks : List ℕ) (ranges : List (Option ByteRange)) (a : Access) (j : ℕ) → MarksFor marks ranges → j < length ranges
    → ((x : ℕ) → a.addr ≤ x → x < a.addr + a.len → IsMarked marks j (row_of x) → ⊥) → is_touched ranges a j ≡ false
untouched marks ranges a j h inside none =
    none_any (is_in (range_at ranges j)) a.addr a.len (λ x lo hi. by_test (is_in (range_at ranges j) x) _
    (λ t. absurd (none x lo hi (h.each j x inside t)))
    (λ t. t))

-- ---- one entry anew

pub remarked : (old mid now : List ℕ) (ranges : List (Option ByteRange)) (e : ℕ) (o : Option ByteRange) → e < length ranges → MarksFor old ranges → length mid ≡ length old → length now ≡ length mid
    → ((j k : ℕ) → k < 64 → j ≢ e → IsMarked old j k → IsMarked mid j k) → ((x : ℕ) → is_in o x ≡ true → IsMarked now e (row_of x)) → ((j k : ℕ) → IsMarked mid j k → IsMarked now j k)
    → MarksFor now (slice_set ranges e o)
remarked old mid now ranges e o h marks l m cleared marked kept =
    let len : length (slice_set ranges e o) ≡ length ranges = length-set ranges e o in record {
      room = λ j x. let q = marks.room j (omega (arith, len)) in omega (arith, q, l, m);
      each = λ j x inside t. ⊎_elim
          (λ (s : j ≡ e). let q : is_in o x ≡ true = (ap (λ u. is_in u x) (sym (get_or-set_same ranges e o None h))) ∙ (ap (λ k. is_in (range_at (slice_set ranges e o) k) x) (sym s) ∙ t) in
          subst (λ k. IsMarked now k (row_of x)) (sym s) (marked x q))
          (λ (ne : j ≢ e). let q : is_in (range_at ranges j) x ≡ true = ap (λ u. is_in u x) (sym (get_or-set_other ranges e j o None ne)) ∙ t in
          kept j (row_of x) (cleared j (row_of x) (omega arith) ne (marks.each j x (omega (arith, len)) q)))
          (cases_eq j e);
    }

-- what a slice of all items of a `Vec` leaves there
pub whole : (n : ℕ) (xs ys : List ℕ) → length xs ≡ n → take n (xs ++ drop (length xs) ys) ≡ xs
whole n xs ys e = subst (λ k. take k (xs ++ drop (length xs) ys) ≡ xs) e (take-append_seam xs (drop (length xs) ys))
