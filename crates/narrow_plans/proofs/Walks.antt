-- A walk over a requester's domains sees what a look at each entry sees.
use Rattle.std.proofs.Common.{◌≡◌, ℕ, suc, zero, ◌+◌, ◌-◌, ◌%◌, ◌<◌, ◌≤◌, Bool, true, false, ◌&&◌, ltb, [], ◌∷◌, ◌++◌, Option, Some, None, arith, refl, sym, ap, ◌∙◌}
use Rattle.std.specs.List.{range_with_len, filter_map, cons_option}
use Rattle.std.specs.Option.{option_map}
use Rattle.std.proofs.lemmas.List.{append-nil}
use Rattle.std.proofs.lemmas.List.Elements.{filter_map-append}
use Rattle.std.proofs.lemmas.Bool.Decides.{nat_tests}
use Rattle.event_words.specs.declared.access.Kind.{Kind}
use Rattle.event_words.specs.declared.access.Kind.TheVariants.{Read, Write, Fetch}
use Rattle.event_words.specs.declared.register.Register.TheVariants.{EntryCfg, Hwcfg2}
use Rattle.event_words.specs.Registers.{Registers, bits_of, has_bit}
use Rattle.event_words.specs.Guards.{reg}
use Rattle.event_words.specs.Word.{kind_code}
use Rattle.event_words.specs.Domains.{owner_of, is_associated, domain_grants}
use Rattle.event_words.specs.Entries.{is_byte_of, is_between}
use Rattle.event_words.specs.Decisions.{is_entry_of, entry_grants}
use Rattle.event_words.proofs.Ranges.{range_more}
use Rattle.entry_ranges.specs.declared.ByteRange.{ByteRange}
use Rattle.entry_ranges.specs.Ranges.{HoldsBytes}
use Rattle.mdcfg_formats.proofs.Runs.{IsStart, IsRun, run_none}
use Rattle.narrow_plans.specs.Views.{EntryView, entry_range, entry_view, seen_entry, view_of}
use Rattle.narrow_plans.specs.Seen.{seen_below}
use Rattle.narrow_plans.proofs.EntryRanges.{holds_range}

-- ---- one range holds the bytes of a test

inside : (from to x : ℕ) → from ≤ x → x < to → is_between from to x ≡ true
inside from to x p q = grind (arith, nat_tests)

at_least : (from to x : ℕ) → is_between from to x ≡ true → from ≤ x
at_least from to x t = grind (arith, nat_tests)

below : (from to x : ℕ) → is_between from to x ≡ true → x < to
below from to x t = grind (arith, nat_tests)

-- a range whose bytes are another's lies in it
lies_in : (a b : ByteRange) → a.from < a.to → ((x : ℕ) → is_between a.from a.to x ≡ is_between b.from b.to x)
    → (b.from ≤ a.from) × (a.to ≤ b.to)
lies_in a b some same =
    let first = at_least b.from b.to a.from (sym (same a.from) ∙ inside a.from a.to a.from (omega arith) some) in
    let last = below b.from b.to (a.to - 1) (sym (same (a.to - 1)) ∙ inside a.from a.to (a.to - 1) (omega arith) (omega arith)) in
    (first, omega arith)

same_range : (a b : ByteRange) → a.from ≡ b.from → a.to ≡ b.to → a ≡ b
same_range a b e f =
    let g : a ≡ record { from = b.from; to = a.to } = ap (λ n. record { from = n; to = a.to }) e in
    let h : record { from = b.from; to = a.to } ≡ b = ap (λ n. record { from = b.from; to = n }) f in
    g ∙ h

pub one_range : (is_byte : ℕ → Bool) (o p : Option ByteRange) → HoldsBytes is_byte o → HoldsBytes is_byte p → o ≡ p
one_range is_byte None None h k = refl
one_range is_byte None (Some b) h k = absurd (let t = sym (h b.from) ∙ (k.1 b.from ∙ inside b.from b.to b.from (omega arith) k.0) in cc)
one_range is_byte (Some a) None h k = absurd (let t = sym (k a.from) ∙ (h.1 a.from ∙ inside a.from a.to a.from (omega arith) h.0) in cc)
one_range is_byte (Some a) (Some b) h k =
    let x = lies_in a b h.0 (λ n. sym (h.1 n) ∙ k.1 n) in
    let y = lies_in b a k.0 (λ n. sym (k.1 n) ∙ h.1 n) in
    ap Some (same_range a b (omega arith) (omega arith))

pub range_found : (r : Registers) (j : ℕ) (o : Option ByteRange) → HoldsBytes (is_byte_of r j) o → entry_range r j ≡ o
range_found r j o h = one_range (is_byte_of r j) (entry_range r j) o (holds_range r j) h

-- ---- an entry of a domain of the requester, and one of another

own : (r : Registers) (s d j : ℕ) → owner_of r j ≡ Some d → is_associated r s d ≡ true → is_entry_of r s j ≡ true
own r s d j e t = rw (e, t) refl

pub seen_own : (r : Registers) (s d j : ℕ) (o : Option ByteRange) → owner_of r j ≡ Some d → is_associated r s d ≡ true
    → HoldsBytes (is_byte_of r j) o → seen_entry r s j ≡ option_map (entry_view r s j) o
seen_own r s d j o e t h = rw (own r s d j e t, range_found r j o h) refl

pub unseen : (r : Registers) (s j : ℕ) → is_entry_of r s j ≡ false → seen_entry r s j ≡ None
unseen r s j t = rw t refl

-- ---- one more entry

seen_more : (r : Registers) (s n : ℕ) → seen_below r s (n + 1) ≡ seen_below r s n ++ cons_option (seen_entry r s n) []
seen_more r s n =
    ap (filter_map (seen_entry r s)) (range_more 0 n n (omega arith)) ∙ filter_map-append (seen_entry r s) (range_with_len 0 n) (n ∷ [])

pub seen_taken : (r : Registers) (s n : ℕ) (e : EntryView) → seen_entry r s n ≡ Some e → seen_below r s (n + 1) ≡ seen_below r s n ++ e ∷ []
seen_taken r s n e t = rw t at (seen_more r s n)

pub seen_left : (r : Registers) (s n : ℕ) → seen_entry r s n ≡ None → seen_below r s (n + 1) ≡ seen_below r s n
seen_left r s n t = (rw t at (seen_more r s n)) ∙ append-nil (seen_below r s n)

passed : (r : Registers) (s from n : ℕ) → ((j : ℕ) → from ≤ j → j < from + n → is_entry_of r s j ≡ false)
    → seen_below r s (from + n) ≡ seen_below r s from
passed r s from zero none = let e : from + 0 ≡ from = omega arith in ap (seen_below r s) e
passed r s from (suc n) none =
    let e : from + suc n ≡ (from + n) + 1 = omega arith in
    ap (seen_below r s) e
    ∙ (seen_left r s (from + n) (unseen r s (from + n) (none (from + n) (omega arith) (omega arith)))
    ∙ passed r s from n (λ j x y. none j x (omega arith)))

seen_past : (r : Registers) (s from to : ℕ) → from ≤ to → ((j : ℕ) → from ≤ j → j < to → is_entry_of r s j ≡ false)
    → seen_below r s to ≡ seen_below r s from
seen_past r s from to l none =
    let e : to ≡ from + (to - from) = omega arith in
    ap (seen_below r s) e ∙ passed r s from (to - from) (λ j x y. none j x (omega arith))

-- ---- a run of another's entries, and the end of the walk

pub seen_foreign : (r : Registers) (s d from to : ℕ) → from ≤ to → IsRun r d from to → is_associated r s d ≡ false
    → seen_below r s to ≡ seen_below r s from
seen_foreign r s d from to l run other =
    seen_past r s from to l (λ j x y. let e = run j x y in rw (e, other) refl)

pub seen_all : (r : Registers) (s d from : ℕ) → r.shape.domains ≤ d → from ≤ r.shape.entries → IsStart r r.shape.entries d from
    → view_of r s ≡ seen_below r s from
unfolding view_of
seen_all r s d from h l start =
    seen_past r s from r.shape.entries l (λ j x y. let e = run_none r r.shape.entries d from h start j x y in rw e refl)

-- ---- what an entry of the requester grants

pub grants_by_domain : (r : Registers) (s j d : ℕ) (kind : Kind) → owner_of r j ≡ Some d
    → entry_grants r s kind j ≡ (has_bit (reg r (EntryCfg j)) (kind_code kind) && domain_grants r s d kind)
grants_by_domain r s j d kind e = rw e refl

count_of_word : (word count : ℕ) → count ≡ word % 65536 → count ≡ bits_of 0 16 word
count_of_word word count e = omega arith

-- what is seen of it, field by field
pub seen_is : (r : Registers) (s d j count : ℕ) (bytes : ByteRange) (read write fetch : Bool) → owner_of r j ≡ Some d
    → is_associated r s d ≡ true → HoldsBytes (is_byte_of r j) (Some bytes)
    → count ≡ reg r Hwcfg2 % 65536 → read ≡ entry_grants r s Read j → write ≡ entry_grants r s Write j → fetch ≡ entry_grants r s Fetch j
    → Some (record { priority = ltb j count; from = bytes.from; to = bytes.to; read = read; write = write; fetch = fetch })
    ≡ seen_entry r s j
seen_is r s d j count bytes read write fetch owner own h e x y z =
    let view : Some (record { priority = ltb j count; from = bytes.from; to = bytes.to; read = read; write = write; fetch = fetch }) ≡ Some (entry_view r s j bytes) =
    rw (x, y, z) (ap (λ n. Some (record { priority = ltb j n; from = bytes.from; to = bytes.to; read = entry_grants r s Read j; write = entry_grants r s Write j; fetch = entry_grants r s Fetch j })) (count_of_word (reg r Hwcfg2) count e)) in
    view ∙ sym (seen_own r s d j (Some bytes) owner own h)
