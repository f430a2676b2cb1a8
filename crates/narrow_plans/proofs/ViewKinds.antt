-- The kind of a decision, read off a view alone.
use Rattle.std.proofs.Common.{◌≡◌, ℕ, suc, zero, ◌+◌, ◌≤◌, Bool, true, false, not, ◌&&◌, ◌||◌, ltb, List, [], ◌∷◌, Option, None, Some, if◌then◌else◌, map, find, filter, arith, refl, sym, ap, ◌∙◌}
use Rattle.std.specs.List.{list_any, list_all, range_with_len, filter_map, cons_option}
use Rattle.std.specs.Option.{option_map}
use Rattle.std.proofs.Math.Bool.{and-false}
use Rattle.event_words.specs.declared.shape.Shape.{Shape}
use Rattle.event_words.specs.declared.access.Access.{Access}
use Rattle.event_words.specs.declared.access.Kind.{Kind}
use Rattle.event_words.specs.declared.access.Kind.TheVariants.{Read, Write, Fetch}
use Rattle.event_words.specs.Valid.{IsValidAccess}
use Rattle.event_words.specs.Registers.{Registers}
use Rattle.event_words.specs.Guards.{is_enabled}
use Rattle.event_words.specs.Domains.{is_known}
use Rattle.event_words.specs.Entries.{is_byte_of, bytes_of, covers, is_between}
use Rattle.event_words.specs.Decisions.{is_entry_of, entry_grants, prio_count, entries, is_touching, is_covering, decide_by_hit, by_covering, covering, violation, illegal, decision}
use Rattle.event_words.specs.declared.reply.Decision.TheVariants.{Allowed}
use Rattle.event_words.specs.Word.{kind_code}
use Rattle.event_words.proofs.Cases.{by_test}
use Rattle.entry_ranges.specs.declared.ByteRange.{ByteRange}
use Rattle.entry_ranges.specs.Ranges.{HoldsBytes}
use Rattle.policy_compiler.specs.Laws.{kind_of}
use Rattle.narrow_plans.specs.Views.{EntryView, entry_range, entry_view, seen_entry, view_of}
use Rattle.narrow_plans.specs.Laws.{SeeAlike}
use Rattle.narrow_plans.proofs.EntryRanges.{holds_range}

-- ---- what an entry of a view says of an access

abbrev touched_by : Access → EntryView → Bool
touched_by a e = list_any (is_between e.from e.to) (bytes_of a)

abbrev covered_by : Access → EntryView → Bool
covered_by a e = list_all (is_between e.from e.to) (bytes_of a)

abbrev granted_by : Kind → EntryView → Bool
granted_by Read e = e.read
granted_by Write e = e.write
granted_by Fetch e = e.fetch

abbrev hits : Access → EntryView → Bool
hits a e = e.priority && touched_by a e

abbrev fits : Access → EntryView → Bool
fits a e = not e.priority && covered_by a e

-- ---- the kind by a view

abbrev kind_of_grants : Access → List Bool → ℕ
kind_of_grants a [] = 5
kind_of_grants a (b ∷ bs) = if list_any (λ x. x) (b ∷ bs) then 0 else 1 + kind_code a.kind

abbrev kind_of_first : Access → ℕ → Option EntryView → ℕ
kind_of_first a others None = others
kind_of_first a others (Some e) =
    if not (covered_by a e) then 4 else (if granted_by a.kind e then 0 else 1 + kind_code a.kind)

abbrev kind_by_view : List EntryView → Access → ℕ
kind_by_view view a =
    kind_of_first a (kind_of_grants a (map (granted_by a.kind) (filter (fits a) view))) (find (hits a) view)

-- ---- an entry that is seen, and one that isn't

record Sees (r : Registers) (a : Access) (j : ℕ) (e : EntryView) : Type 0 where
  touching : is_touching r a j ≡ hits a e
  covering : is_covering r a j ≡ fits a e
  covers : covers r j a ≡ covered_by a e
  grants : entry_grants r a.rrid a.kind j ≡ granted_by a.kind e

record Misses (r : Registers) (a : Access) (j : ℕ) : Type 0 where
  touching : is_touching r a j ≡ false
  covering : is_covering r a j ≡ false

abbrev Shows : Registers → Access → ℕ → Option EntryView → Type 0
Shows r a j None = Misses r a j
Shows r a j (Some e) = Sees r a j e

foreign : (r : Registers) (a : Access) (j : ℕ) → is_entry_of r a.rrid j ≡ false → Misses r a j
foreign r a j t = record {
  touching = rw t (and-false (ltb j (prio_count r)));
  covering = rw t (and-false (not (ltb j (prio_count r))));
}

none_any : (p : ℕ → Bool) (xs : List ℕ) → ((x : ℕ) → p x ≡ false) → list_any p xs ≡ false
none_any p [] none = refl
none_any p (x ∷ xs) none = rw (none x) (none_any p xs none)

none_all : (p : ℕ → Bool) (a n : ℕ) → 1 ≤ n → ((x : ℕ) → p x ≡ false) → list_all p (range_with_len a n) ≡ false
none_all p a zero l none = absurd (omega arith)
none_all p a (suc n) l none = rw (none a) refl

empty : (r : Registers) (a : Access) (j : ℕ) → IsValidAccess a → ((x : ℕ) → is_byte_of r j x ≡ false) → Misses r a j
empty r a j valid none = record {
  touching = rw (none_any (is_byte_of r j) (bytes_of a) none, and-false (is_entry_of r a.rrid j)) (and-false (ltb j (prio_count r)));
  covering = rw (none_all (is_byte_of r j) a.addr a.len valid.shortest none, and-false (is_entry_of r a.rrid j)) (and-false (not (ltb j (prio_count r))));
}

grants_kind : (r : Registers) (s j : ℕ) (kind : Kind) (bytes : ByteRange)
    → entry_grants r s kind j ≡ granted_by kind (entry_view r s j bytes)
grants_kind r s j Read bytes = refl
grants_kind r s j Write bytes = refl
grants_kind r s j Fetch bytes = refl

seen : (r : Registers) (a : Access) (j : ℕ) (bytes : ByteRange) → is_entry_of r a.rrid j ≡ true
    → ((x : ℕ) → is_byte_of r j x ≡ is_between bytes.from bytes.to x) → Sees r a j (entry_view r a.rrid j bytes)
seen r a j bytes t same = record {
  touching = rw t (ap (λ (p : ℕ → Bool). ltb j (prio_count r) && list_any p (bytes_of a)) (λ i x. same x i));
  covering = rw t (ap (λ (p : ℕ → Bool). not (ltb j (prio_count r)) && list_all p (bytes_of a)) (λ i x. same x i));
  covers = ap (λ (p : ℕ → Bool). list_all p (bytes_of a)) (λ i x. same x i);
  grants = grants_kind r a.rrid j a.kind bytes;
}

with_range : (r : Registers) (a : Access) (j : ℕ) (o : Option ByteRange) → IsValidAccess a → is_entry_of r a.rrid j ≡ true
    → HoldsBytes (is_byte_of r j) o → Shows r a j (option_map (entry_view r a.rrid j) o)
with_range r a j None valid t h = empty r a j valid h
with_range r a j (Some bytes) valid t h = seen r a j bytes t h.1

shows : (r : Registers) (a : Access) (j : ℕ) → IsValidAccess a → Shows r a j (seen_entry r a.rrid j)
shows r a j valid = by_test (is_entry_of r a.rrid j) _
    (λ t. rw t (with_range r a j (entry_range r j) valid t (holds_range r j)))
    (λ f. rw f (foreign r a j f))

-- ---- along the list of entries

taken : (r : Registers) (a : Access) (j : ℕ) (c g : Bool)
    → kind_of (if not c then violation 4 j else (if g then Allowed else illegal r a j (j ∷ [])))
    ≡ (if not c then 4 else (if g then 0 else 1 + kind_code a.kind))
taken r a j false g = refl
taken r a j true true = refl
taken r a j true false = refl

first_kind : (r : Registers) (a : Access) (others : ℕ) (js : List ℕ) → IsValidAccess a → kind_of (by_covering r a (covering r a)) ≡ others
    → kind_of (decide_by_hit r a (find (is_touching r a) js)) ≡ kind_of_first a others (find (hits a) (filter_map (seen_entry r a.rrid) js))
first_kind r a others [] valid e = e
first_kind r a others (j ∷ js) valid e = step (seen_entry r a.rrid j) (shows r a j valid) (first_kind r a others js valid e)
  where
    step : (o : Option EntryView) → Shows r a j o
        → kind_of (decide_by_hit r a (find (is_touching r a) js))
        ≡ kind_of_first a others (find (hits a) (filter_map (seen_entry r a.rrid) js))
        → kind_of (decide_by_hit r a (find (is_touching r a) (j ∷ js)))
        ≡ kind_of_first a others (find (hits a) (cons_option o (filter_map (seen_entry r a.rrid) js)))
    step None h ih = rw h.touching ih
    step (Some e) h ih = by_test (hits a e) _
        (λ t. rw (h.touching, t, h.covers, h.grants) (taken r a j (covered_by a e) (granted_by a.kind e)))
        (λ f. rw (h.touching, f) ih)

rest_grants : (r : Registers) (a : Access) (js : List ℕ) → IsValidAccess a
    → map (entry_grants r a.rrid a.kind) (filter (is_covering r a) js)
    ≡ map (granted_by a.kind) (filter (fits a) (filter_map (seen_entry r a.rrid) js))
rest_grants r a [] valid = refl
rest_grants r a (j ∷ js) valid = step (seen_entry r a.rrid j) (shows r a j valid) (rest_grants r a js valid)
  where
    step : (o : Option EntryView) → Shows r a j o
        → map (entry_grants r a.rrid a.kind) (filter (is_covering r a) js)
        ≡ map (granted_by a.kind) (filter (fits a) (filter_map (seen_entry r a.rrid) js))
        → map (entry_grants r a.rrid a.kind) (filter (is_covering r a) (j ∷ js))
        ≡ map (granted_by a.kind) (filter (fits a) (cons_option o (filter_map (seen_entry r a.rrid) js)))
    step None h ih = rw h.covering ih
    step (Some e) h ih = by_test (fits a e) _
        (λ t. rw (h.covering, t, h.grants) (ap (λ bs. granted_by a.kind e ∷ bs) ih))
        (λ f. rw (h.covering, f) ih)

-- ---- the decision

any_map : (p : ℕ → Bool) (js : List ℕ) → list_any p js ≡ list_any (λ x. x) (map p js)
any_map p [] = refl
any_map p (j ∷ js) = ap (λ b. p j || b) (any_map p js)

grants_decide : (r : Registers) (a : Access) (js : List ℕ)
    → kind_of (by_covering r a js) ≡ kind_of_grants a (map (entry_grants r a.rrid a.kind) js)
grants_decide r a [] = refl
grants_decide r a (j ∷ js) =
    let q = entry_grants r a.rrid a.kind in
    let any = any_map q (j ∷ js) in
    by_test (list_any q (j ∷ js)) _
    (λ t. let u : list_any (λ x. x) (map q (j ∷ js)) ≡ true = sym any ∙ t in rw (t, u) refl)
    (λ f. let u : list_any (λ x. x) (map q (j ∷ js)) ≡ false = sym any ∙ f in rw (f, u) refl)

known_kind : (r : Registers) (a : Access) → IsValidAccess a
    → kind_of (decide_by_hit r a (find (is_touching r a) (entries r))) ≡ kind_by_view (view_of r a.rrid) a
unfolding view_of
known_kind r a valid =
    first_kind r a _ (entries r) valid (grants_decide r a (covering r a) ∙ ap (kind_of_grants a) (rest_grants r a (entries r) valid))

abbrev kind_for : Bool → Bool → ℕ → ℕ
kind_for enabled known kind = if not enabled then 0 else (if not known then 6 else kind)

kind_is : (r : Registers) (a : Access) → IsValidAccess a
    → kind_of (decision r a) ≡ kind_for (is_enabled r) (is_known r a.rrid) (kind_by_view (view_of r a.rrid) a)
kind_is r a valid = by_test (is_enabled r) _
    (λ t. by_test (is_known r a.rrid) _
    (λ k. rw (t, k) (known_kind r a valid))
    (λ k. rw (t, k) refl))
    (λ f. rw f refl)

pub views_decide : (r q : Registers) (a : Access) → IsValidAccess a → SeeAlike r q a.rrid → kind_of (decision r a) ≡ kind_of (decision q a)
views_decide r q a valid alike =
    let known : is_known r a.rrid ≡ is_known q a.rrid = ap (λ (h : Shape). ltb a.rrid h.rrids) alike.shape in
    let same : kind_for (is_enabled r) (is_known r a.rrid) (kind_by_view (view_of r a.rrid) a) ≡ kind_for (is_enabled q) (is_known q a.rrid) (kind_by_view (view_of q a.rrid) a) = rw (alike.enabled, known, alike.views) refl in
    kind_is r a valid ∙ (same ∙ sym (kind_is q a valid))
