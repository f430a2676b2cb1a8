-- A write of an entry's register leaves what is seen of the entries but that one and the next.
use Rattle.std.proofs.Common.{◌≡◌, ◌≢◌, ℕ, suc, zero, ◌+◌, ◌-◌, ◌*◌, ◌^◌, ◌<◌, ◌≤◌, Bool, true, false, ◌&&◌, ◌==◌, ltb, if◌then◌else◌, List, [], ◌∷◌, Option, Some, None, get_or, set, length, find, subst, refl, sym, ap, ◌∙◌, arith}
use Rattle.std.specs.List.{range_with_len, filter_map}
use Rattle.std.specs.Option.{option_map}
use Rattle.std.proofs.lemmas.List.{get_or-set_other, get_or-set_same, set-get_or, set_past}
use Rattle.std.proofs.lemmas.Bool.{ltb-true}
use Rattle.std.proofs.lemmas.Bool.Decides.{nat_tests}
use Rattle.unit_core.proofs.Sims.{written_shape}
use Rattle.event_words.specs.declared.address_mode.AddressMode.{AddressMode}
use Rattle.event_words.specs.declared.address_mode.AddressMode.TheVariants.{Off, Tor, Na4, Napot}
use Rattle.event_words.specs.declared.shape.Shape.{Shape}
use Rattle.event_words.specs.declared.access.Kind.{Kind}
use Rattle.event_words.specs.declared.access.Kind.TheVariants.{Read, Write, Fetch}
use Rattle.event_words.specs.declared.register.Register.{Register}
use Rattle.event_words.specs.declared.register.Register.TheVariants.{Hwcfg0, Mdcfg, EntryAddr, EntryAddrh, EntryCfg, Hwcfg2, SrcmdEn, SrcmdEnh, SrcmdR, SrcmdRh, SrcmdW, SrcmdWh, SrcmdPerm, SrcmdPermh}
use Rattle.event_words.specs.Valid.{IsValidShape}
use Rattle.event_words.specs.Word.{kind_code}
use Rattle.event_words.specs.Registers.{Registers, word_at, bits_of, has_bit, has_pair_bit, register_at, index_of, set_word, write_at, written}
use Rattle.event_words.specs.Guards.{reg}
use Rattle.event_words.specs.WellFormed.{IsWellFormed}
use Rattle.event_words.proofs.Indexes.{register_at-tells}
use Rattle.event_words.specs.Entries.{word_address, mode_at, mode_of, bottom_of}
use Rattle.event_words.specs.Domains.{bound_of, is_bounded_by, owner_of, is_in_table, is_enabled_in, is_readable_in, is_writable_in, has_first_permission, has_second_permission, is_associated, by_kind, domain_grants}
use Rattle.event_words.specs.Decisions.{owned_by, is_entry_of, entry_grants, prio_count}
use Rattle.event_words.proofs.Cases.{by_test}
use Rattle.entry_ranges.specs.declared.ByteRange.{ByteRange}
use Rattle.mdcfg_formats.proofs.Searches.{find_below}
use Rattle.narrow_plans.specs.Views.{EntryView, range_by_mode, entry_range, entry_view, seen_entry, view_of}
use Rattle.narrow_plans.specs.Seen.{is_own, IsEntryPart, LeavesView}
use Rattle.narrow_plans.proofs.Walks.{unseen}

-- ---- searches that test alike

find_same : (p q : ℕ → Bool) (a n : ℕ) → ((m : ℕ) → a ≤ m → m < a + n → p m ≡ q m)
    → find p (range_with_len a n) ≡ find q (range_with_len a n)
find_same p q a zero same = refl
find_same p q a (suc n) same =
    let here = same a (omega arith) (omega arith) in
    let rest = find_same p q (a + 1) n (λ m x y. same m (omega arith) (omega arith)) in
    rw (here, rest) refl

seen_same_from : (f g : ℕ → Option EntryView) (a n : ℕ) → ((j : ℕ) → a ≤ j → j < a + n → f j ≡ g j)
    → filter_map f (range_with_len a n) ≡ filter_map g (range_with_len a n)
seen_same_from f g a zero same = refl
seen_same_from f g a (suc n) same =
    let here = same a (omega arith) (omega arith) in
    let rest = seen_same_from f g (a + 1) n (λ j x y. same j (omega arith) (omega arith)) in
    rw (here, rest) refl

abbrev pub SameBut : ℕ → List ℕ → List ℕ → Type 0
SameBut index v w = (k : ℕ) → k ≢ index → get_or v k 0 ≡ get_or w k 0

module _ (h : Shape) (v w : List ℕ) (i index s : ℕ) (valid : IsValidShape h) (part : IsEntryPart i index) (same : SameBut index v w) where
  abbrev R : Registers
  R = record { shape = h; words = v }

  abbrev S : Registers
  S = record { shape = h; words = w }

  low : (k : ℕ) → k < index_of (EntryAddr 0) → word_at R k ≡ word_at S k
  low k l = same k (λ e. absurd (omega (arith, part.0)))

  -- ---- owners and associations

  bound : (m : ℕ) → m < h.domains → bound_of R m ≡ bound_of S m
  bound m l =
      ap (λ n. if h.mdcfg == 0 then bits_of 0 16 n else (m + 1) * (bits_of 17 7 (reg R Hwcfg0) + 1)) (low (index_of (Mdcfg m)) (omega (arith, valid.domains.1)))
      ∙ ap (λ n. if h.mdcfg == 0 then bits_of 0 16 (reg S (Mdcfg m)) else (m + 1) * (bits_of 17 7 n + 1)) (low (index_of Hwcfg0) (omega arith))

  owner : (j : ℕ) → owner_of R j ≡ owner_of S j
  owner j = find_same (is_bounded_by R j) (is_bounded_by S j) 0 h.domains (λ m x y. ap (λ n. ltb j n) (bound m (omega arith)))

  pair_bit : (k l n : ℕ) → k < index_of (EntryAddr 0) → l < index_of (EntryAddr 0)
      → has_pair_bit (word_at R k) (word_at R l) n ≡ has_pair_bit (word_at S k) (word_at S l) n
  pair_bit k l n x y =
      ap (λ a. has_pair_bit a (word_at R l) n) (low k x)
      ∙ ap (λ b. has_pair_bit (word_at S k) b n) (low l y)

  first : (m : ℕ) → m < h.domains → has_first_permission R s m ≡ has_first_permission S s m
  first m l = pair_bit (index_of (SrcmdPerm m)) (index_of (SrcmdPermh m)) (2 * s) (omega (arith, valid.domains.1)) (omega (arith, valid.domains.1))

  second : (m : ℕ) → m < h.domains → has_second_permission R s m ≡ has_second_permission S s m
  second m l = pair_bit (index_of (SrcmdPerm m)) (index_of (SrcmdPermh m)) (2 * s + 1) (omega (arith, valid.domains.1)) (omega (arith, valid.domains.1))

  enabled : (m : ℕ) → s < h.rrids → is_enabled_in R s m ≡ is_enabled_in S s m
  enabled m l = pair_bit (index_of (SrcmdEn s)) (index_of (SrcmdEnh s)) (m + 1) (omega (arith, valid.rrids.1)) (omega (arith, valid.rrids.1))

  readable : (m : ℕ) → s < h.rrids → is_readable_in R s m ≡ is_readable_in S s m
  readable m l = pair_bit (index_of (SrcmdR s)) (index_of (SrcmdRh s)) (m + 1) (omega (arith, valid.rrids.1)) (omega (arith, valid.rrids.1))

  writable : (m : ℕ) → s < h.rrids → is_writable_in R s m ≡ is_writable_in S s m
  writable m l = pair_bit (index_of (SrcmdW s)) (index_of (SrcmdWh s)) (m + 1) (omega (arith, valid.rrids.1)) (omega (arith, valid.rrids.1))

  in_table : (m : ℕ) → s < h.rrids → m < h.domains → is_in_table R s m ≡ is_in_table S s m
  in_table m l k = rw (enabled m l, first m k, second m k) refl

  associated : (m : ℕ) → is_associated R s m ≡ is_associated S s m
  associated m = by_test (ltb s h.rrids) _
      (λ t. by_test (ltb m h.domains) _
      (λ u. rw (t, u) (in_table m (ltb-true s h.rrids t) (ltb-true m h.domains u)))
      (λ u. rw (t, u) refl))
      (λ t. rw t refl)

  owned : (o : Option ℕ) → owned_by (is_associated R s) o ≡ owned_by (is_associated S s) o
  owned None = refl
  owned (Some m) = associated m

  own : (j : ℕ) → is_entry_of R s j ≡ is_entry_of S s j
  own j = ap (owned_by (is_associated R s)) (owner j) ∙ owned (owner_of S j)

  -- ---- what a domain grants

  by_kinds : (kind : Kind) (a b c d : Bool) → a ≡ c → b ≡ d → by_kind kind a b ≡ by_kind kind c d
  by_kinds kind a b c d e f = rw (e, f) refl

  granted : (kind : Kind) (m : ℕ) → s < h.rrids → m < h.domains → domain_grants R s m kind ≡ domain_grants S s m kind
  granted kind m l k = rw (by_kinds kind _ _ _ _ (first m k) (second m k), by_kinds kind _ _ _ _ (readable m l) (writable m l)) refl

  granted_by : (kind : Kind) (o : Option ℕ) → s < h.rrids → ((m : ℕ) → o ≡ Some m → m < h.domains)
      → owned_by (λ m. domain_grants R s m kind) o ≡ owned_by (λ m. domain_grants S s m kind) o
  granted_by kind None l small = refl
  granted_by kind (Some m) l small = granted kind m l (small m refl)

  -- ---- another entry

  other_word : (j : ℕ) → j ≢ i → reg R (EntryCfg j) ≡ reg S (EntryCfg j)
  other_word j ne = same (index_of (EntryCfg j)) (λ e. ne (omega (arith, part.0, part.1)))

  address : (j : ℕ) → j ≢ i → word_address R j ≡ word_address S j
  address j ne =
      ap (λ n. n * 2 ^ 32 + reg R (EntryAddr j)) (same (index_of (EntryAddrh j)) (λ e. ne (omega (arith, part.0, part.1))))
      ∙ ap (λ n. reg S (EntryAddrh j) * 2 ^ 32 + n) (same (index_of (EntryAddr j)) (λ e. ne (omega (arith, part.0, part.1))))

  from_one : (j : ℕ) → (j == 0) ≡ false → j - 1 ≡ i → j ≡ i + 1
  from_one zero t e = absurd (cc)
  from_one (suc j) t e = omega arith

  bottom : (j : ℕ) → j ≢ i → j ≢ i + 1 → bottom_of R j ≡ bottom_of S j
  bottom j ne next = by_test (j == 0) _
      (λ t. rw t refl)
      (λ t. rw t (ap (λ n. 4 * n) (address (j - 1) (λ e. next (from_one j t e)))))

  range_by : (j : ℕ) (mode : AddressMode) → j ≢ i → j ≢ i + 1 → range_by_mode R j mode ≡ range_by_mode S j mode
  range_by j Off ne next = refl
  range_by j Tor ne next = rw (address j ne, bottom j ne next) refl
  range_by j Na4 ne next = rw (address j ne) refl
  range_by j Napot ne next = rw (address j ne) refl

  range : (j : ℕ) → j ≢ i → j ≢ i + 1 → entry_range R j ≡ entry_range S j
  range j ne next = ap (λ n. range_by_mode R j (mode_at (bits_of 3 2 n))) (other_word j ne) ∙ range_by j (mode_of S j) ne next

  grants : (kind : Kind) (j : ℕ) → j ≢ i → s < h.rrids → entry_grants R s kind j ≡ entry_grants S s kind j
  grants kind j ne l =
      ap (λ w. has_bit w (kind_code kind) && owned_by (λ m. domain_grants R s m kind) (owner_of R j)) (other_word j ne)
      ∙ ap (λ o. has_bit (reg S (EntryCfg j)) (kind_code kind) && owned_by (λ m. domain_grants R s m kind) o) (owner j)
      ∙ ap (λ b. has_bit (reg S (EntryCfg j)) (kind_code kind) && b) (granted_by kind (owner_of S j) l (λ m e. let l = find_below (is_bounded_by S j) 0 h.domains m e in omega arith))

  viewed : (j : ℕ) (bytes : ByteRange) → j ≢ i → s < h.rrids → entry_view R s j bytes ≡ entry_view S s j bytes
  viewed j bytes ne l =
      let count : prio_count R ≡ prio_count S = ap (bits_of 0 16) (low (index_of Hwcfg2) (omega arith)) in
      rw (count, grants Read j ne l, grants Write j ne l, grants Fetch j ne l) refl

  known : (j : ℕ) → is_entry_of R s j ≡ true → s < h.rrids
  known j t = by_owner (owner_of R j) t
    where
      by_owner : (o : Option ℕ) → owned_by (is_associated R s) o ≡ true → s < h.rrids
      by_owner None u = absurd (cc)
      by_owner (Some m) u = by_test (ltb s h.rrids) _
          (λ k. ltb-true s h.rrids k)
          (λ k. absurd (let f : false ≡ true = rw k at u in cc))

  seen_same : (j : ℕ) → (is_entry_of R s j ≡ true → (j ≢ i) × (j ≢ i + 1)) → seen_entry R s j ≡ seen_entry S s j
  seen_same j apart = by_test (is_entry_of R s j) _
      (λ t.
      let u : is_entry_of S s j ≡ true = sym (own j) ∙ t in
      let p = apart t in
      rw (t, u, range j p.0 p.1) (viewed_range (entry_range S j) p.0 (known j t)))
      (λ t. unseen R s j t ∙ sym (unseen S s j (sym (own j) ∙ t)))
    where
      viewed_range : (o : Option ByteRange) → j ≢ i → s < h.rrids → option_map (entry_view R s j) o ≡ option_map (entry_view S s j) o
      viewed_range None ne l = refl
      viewed_range (Some bytes) ne l = ap Some (viewed j bytes ne l)

  -- Where neither entry i nor the next is the requester's, its view is the same.
  view_stays : is_own R s i ≡ false → is_own R s (i + 1) ≡ false → view_of R s ≡ view_of S s
  unfolding view_of
  view_stays here next = seen_same_from (seen_entry R s) (seen_entry S s) 0 h.entries (λ j x y. seen_same j (λ t. (not_at j i (omega arith) t here, not_at j (i + 1) (omega arith) t next)))
    where
      not_at : (j k : ℕ) → j < h.entries → is_entry_of R s j ≡ true → is_own R s k ≡ false → j ≢ k
      not_at j k l t none e =
          let inside : ltb j h.entries ≡ true = search (nat_tests, arith) in
          let own_j : is_own R s j ≡ true = rw (inside, t) refl in
          let own_k : is_own R s k ≡ true = ap (is_own R s) (sym e) ∙ own_j in
          absurd (let f : false ≡ true = sym none ∙ own_k in cc)

-- ---- registers before a write

set_back : (r : Registers) (index word : ℕ) → word_at (set_word r index word) index ≡ word_at r index → set_word r index word ≡ r
set_back r index word h = by_test (ltb index (length r.words)) _
    (λ t.
    let e : word ≡ get_or r.words index 0 = sym (get_or-set_same r.words index word 0 (ltb-true index (length r.words) t)) ∙ h in
    ap (λ ws. record { shape = r.shape; words = ws }) (ap (set r.words index) e ∙ set-get_or r.words index 0))
    (λ t. ap (λ ws. record { shape = r.shape; words = ws }) (set_past r.words index word (let l : length r.words ≤ index = grind (arith, nat_tests) in l)))

words_stay : (before : Registers) (index value keep : ℕ) (o : Option Register)
    → SameBut index (write_at before index value keep o).words before.words
words_stay before index value keep None k ne = refl
words_stay before index value keep (Some q) k ne = get_or-set_other before.words index k _ 0 ne

pub leaves_view : (r : Registers) (i index s : ℕ) → IsValidShape r.shape → IsEntryPart i index → is_own r s i ≡ false
    → is_own r s (i + 1) ≡ false → LeavesView r index s
leaves_view r i index s valid part here next before value keep e =
    let o : Option Register = register_at before.shape index in
    let same : SameBut index r.words before.words = λ k ne. ap (λ (q : Registers). get_or q.words k 0) e ∙ words_stay before index value keep o k ne in
    let shape : r.shape ≡ before.shape = ap (λ (q : Registers). q.shape) e ∙ written_shape before index value keep o in
    let stays = view_stays r.shape r.words before.words i index s valid part same here next in
    sym (stays ∙ ap (λ h. view_of (record { shape = h; words = before.words }) s) shape)

-- ---- registers of entries

pub part_of : (h : Shape) (index : ℕ) (q : Register) (i : ℕ) → register_at h index ≡ Some q → IsEntryPart i (index_of q)
    → IsEntryPart i index
part_of h index q i e part = subst (IsEntryPart i) (register_at-tells h index q e).0 part

pub leaves_same : (r : Registers) (i index s : ℕ) → IsWellFormed r → IsEntryPart i index → is_own r s i ≡ false
    → is_own r s (i + 1) ≡ false → LeavesView r index s
leaves_same r i index s formed = leaves_view r i index s formed.shape

-- A write after which the register is as it was changes nothing.
pub word_stays : (r q : Registers) (index value keep : ℕ) → q ≡ written r index value keep → word_at q index ≡ word_at r index → q ≡ r
word_stays r q index value keep e same = e ∙ by_register (register_at r.shape index) (ap (λ (x : Registers). word_at x index) (sym e) ∙ same)
  where
    by_register : (o : Option Register) → word_at (write_at r index value keep o) index ≡ word_at r index
        → write_at r index value keep o ≡ r
    by_register None h = refl
    by_register (Some g) h = set_back r index _ h
