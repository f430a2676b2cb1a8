-- Tests that tell of a shape, and of events, in numbers that they are valid.
use Rattle.std.proofs.Common.{◌≡◌, ℕ, ◌+◌, ◌^◌, ◌≤◌, ◌==◌, Bool, true, false, ◌&&◌, ◌||◌, not, if◌then◌else◌, Option, Some, None, List, [], ◌∷◌, map, arith, eq-eqb}
use Rattle.std.specs.Prelude.{nat_le, nat_lt, IfSome}
use Rattle.std.specs.List.{AllByRecursion, list_all}
use Rattle.std.proofs.lemmas.Bool.{and_parts, leb-true, ltb-true, eqb-true, ne_eqb}
use Rattle.event_words.specs.declared.access.Access.{Access}
use Rattle.event_words.specs.declared.event.Event.{Event}
use Rattle.event_words.specs.declared.event.Event.TheVariants.{RegWrite, RegRead, Submit, Judge, Aim, Wide}
use Rattle.event_words.specs.declared.shape.Shape.{Shape}
use Rattle.event_words.specs.Valid.{IsValidAccess, IsValidEvent, IsValidHead, IsValidShape, is_narrow, is_within, is_rrid_option, conditions}
use Rattle.event_words.specs.Runs.{IsEventWord}
use Rattle.event_words.specs.Word.{word_of}
use Rattle.event_words.proofs.Runs.{word_of-is_word}

-- ---- a shape

within : (low high n : ℕ) → is_within low high n ≡ true → (low ≤ n) × (n ≤ high)
within low high n t = let p = and_parts (nat_le low n) (nat_le n high) t in (leb-true low n p.0, leb-true n high p.1)

format_k : (fixed : Bool) (k : ℕ) → (if fixed then k == 0 else is_within 1 128 k) ≡ true → (fixed ≡ true → k ≡ 0) × (fixed ≡ false → 1 ≤ k) × (k ≤ 128)
format_k true k t = let e = eqb-true k 0 t in (λ f. e, λ f. absurd (let n : true ≡ false = f in cc), omega arith)
format_k false k t = let p = within 1 128 k t in (λ f. absurd (let n : false ≡ true = f in cc), λ f. p.0, p.1)

either : (a b : Bool) → (not a || b) ≡ true → a ≡ true → b ≡ true
either true b t e = t
either false b t e = absurd (let n : false ≡ true = e in cc)

few : (o : Option ℕ) → is_rrid_option o ≡ true → IfSome o (λ rrid. rrid ≤ 63)
few None t = tt
few (Some rrid) t = leb-true rrid 63 t

pub valid_shape : (h : Shape) → list_all (λ b. b) (conditions h) ≡ true → IsValidShape h
valid_shape h t =
    let rrids = and_parts (is_within 1 64 h.rrids) _ t in
    let domains = and_parts (is_within 1 63 h.domains) _ rrids.1 in
    let entries = and_parts (is_within 1 1024 h.entries) _ domains.1 in
    let mdcfg = and_parts (nat_le h.mdcfg 2) _ entries.1 in
    let k = and_parts (if h.mdcfg == 0 then h.k == 0 else is_within 1 128 h.k) _ mdcfg.1 in
    let format = format_k (h.mdcfg == 0) h.k k.0 in
    let srcmd = and_parts (nat_le h.srcmd 2 && (not (h.srcmd == 2) || nat_le h.rrids 32)) _ k.1 in
    let tables = and_parts (nat_le h.srcmd 2) (not (h.srcmd == 2) || nat_le h.rrids 32) srcmd.0 in
    let sps = and_parts (not h.sps || (h.srcmd == 0)) _ srcmd.1 in
    let queue = and_parts (is_within 1 64 h.queue) _ sps.1 in
    let transl = and_parts (is_rrid_option h.transl) true queue.1 in
    record {
      rrids = within 1 64 h.rrids rrids.0;
      domains = within 1 63 h.domains domains.0;
      entries = within 1 1024 h.entries entries.0;
      mdcfg = leb-true h.mdcfg 2 mdcfg.0;
      k_fixed = λ e. format.0 (eq-eqb h.mdcfg 0 e);
      k_chosen = λ ne. format.1 (ne_eqb h.mdcfg 0 ne);
      k = format.2;
      srcmd = leb-true h.srcmd 2 tables.0;
      srcmd_rrids = λ e. leb-true h.rrids 32 (either (h.srcmd == 2) (nat_le h.rrids 32) tables.1 (eq-eqb h.srcmd 2 e));
      sps = λ e. eqb-true h.srcmd 0 (either h.sps (h.srcmd == 0) sps.0 e);
      queue = within 1 64 h.queue queue.0;
      transl = few h.transl transl.0;
    }

-- ---- events

abbrev is_head : ℕ → ℕ → Bool
is_head unit caller = nat_lt unit 4 && nat_lt caller 32

head : (unit caller : ℕ) → is_head unit caller ≡ true → IsValidHead unit caller
head unit caller t =
    let p = and_parts (nat_lt unit 4) (nat_lt caller 32) t in
    record { unit_below = ltb-true unit 4 p.0; caller_below = ltb-true caller 32 p.1 }

abbrev is_access : Access → Bool
is_access a = (nat_le a.rrid 63 && nat_le 1 a.len) && (nat_le a.len 4096 && nat_le (a.addr + a.len) (2 ^ 52))

access : (a : Access) → is_access a ≡ true → IsValidAccess a
access a t =
    let p = and_parts (nat_le a.rrid 63 && nat_le 1 a.len) _ t in
    let q = and_parts (nat_le a.rrid 63) (nat_le 1 a.len) p.0 in
    let r = and_parts (nat_le a.len 4096) (nat_le (a.addr + a.len) (2 ^ 52)) p.1 in
    record { rrid = leb-true a.rrid 63 q.0; shortest = leb-true 1 a.len q.1; longest = leb-true a.len 4096 r.0; below_end = leb-true (a.addr + a.len) (2 ^ 52) r.1 }

abbrev pub is_valid_event : Event → Bool
is_valid_event (RegWrite unit caller index value) = is_head unit caller && (nat_lt index (2 ^ 22) && nat_lt value (2 ^ 32))
is_valid_event (RegRead unit caller index) = is_head unit caller && nat_lt index (2 ^ 22)
is_valid_event (Submit unit caller access) = is_head unit caller && (is_access access && is_narrow access)
is_valid_event (Judge unit caller place) = is_head unit caller && nat_lt place (2 ^ 24)
is_valid_event (Aim caller addr) = nat_lt caller 32 && nat_lt addr (2 ^ 52)
is_valid_event (Wide unit caller rrid kind len) = is_head unit caller && (nat_le rrid 63 && (nat_le 1 len && nat_le len 4096))

pub valid_event : (e : Event) → is_valid_event e ≡ true → IsValidEvent e
valid_event (RegWrite unit caller index value) t =
    let p = and_parts (is_head unit caller) _ t in
    let q = and_parts (nat_lt index (2 ^ 22)) (nat_lt value (2 ^ 32)) p.1 in
    (head unit caller p.0, ltb-true index (2 ^ 22) q.0, ltb-true value (2 ^ 32) q.1)
valid_event (RegRead unit caller index) t =
    let p = and_parts (is_head unit caller) (nat_lt index (2 ^ 22)) t in (head unit caller p.0, ltb-true index (2 ^ 22) p.1)
valid_event (Submit unit caller a) t =
    let p = and_parts (is_head unit caller) _ t in
    let q = and_parts (is_access a) (is_narrow a) p.1 in (head unit caller p.0, access a q.0, q.1)
valid_event (Judge unit caller place) t =
    let p = and_parts (is_head unit caller) (nat_lt place (2 ^ 24)) t in (head unit caller p.0, ltb-true place (2 ^ 24) p.1)
valid_event (Aim caller addr) t =
    let p = and_parts (nat_lt caller 32) (nat_lt addr (2 ^ 52)) t in (ltb-true caller 32 p.0, ltb-true addr (2 ^ 52) p.1)
valid_event (Wide unit caller rrid kind len) t =
    let p = and_parts (is_head unit caller) _ t in
    let q = and_parts (nat_le rrid 63) _ p.1 in
    let r = and_parts (nat_le 1 len) (nat_le len 4096) q.1 in
    (head unit caller p.0, leb-true rrid 63 q.0, leb-true 1 len r.0, leb-true len 4096 r.1)

-- The words of valid events are words of events.
pub event_words : (es : List Event) → list_all is_valid_event es ≡ true → AllByRecursion IsEventWord (map word_of es)
event_words [] t = tt
event_words (e ∷ es) t =
    let p = and_parts (is_valid_event e) (list_all is_valid_event es) t in
    (word_of-is_word e (valid_event e p.0), event_words es p.1)
