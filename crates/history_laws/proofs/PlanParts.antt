-- What a part of a plan's record writes.
use Rattle.std.proofs.Common.{◌≡◌, ℕ, zero, suc, ◌≤◌, ◌++◌, ◌==◌, inl, inr, ◌⊎◌, Bool, true, false, cond, List, [], ◌∷◌, Some, None, map, filter, take, drop, refl, sym, ap, subst, ◌∙◌, arith}
use Rattle.std.specs.Prelude.{slice_get}
use Rattle.std.specs.List.{AllByRecursion}
use Rattle.std.proofs.lemmas.Bool.{ne_eqb, cond-false}
use Rattle.std.proofs.lemmas.List.{take-append-drop, append-nil}
use Rattle.std.proofs.lemmas.List.Elements.{filter-append}
use Rattle.event_words.specs.Registers.{index_of}
use Rattle.event_words.specs.declared.register.Register.TheVariants.{Mdstall, Rridscp}
use Rattle.event_words.specs.declared.event.Event.{Event}
use Rattle.event_words.specs.declared.event.Event.TheVariants.{RegWrite}
use Rattle.event_words.specs.declared.record.LoggedEvent.{LoggedEvent}
use Rattle.event_words.specs.Records.{hits, events_by, is_by}
use Rattle.policy_compiler.specs.declared.image.RegPair.{RegPair}
use Rattle.policy_compiler.proofs.Standing.{value_from}
use Rattle.history_laws.proofs.QuietRecords.{IsNoWriteEvent, IsNoLoggedWrite}
use Rattle.history_laws.proofs.Writes.{write_of, writes, writes_append, nothing_after, all_parts, CutInFirst, CutInSecond, two_cuts}
use Rattle.history_laws.proofs.WriteRecords.{write_by, event_of, IsDrainRead, Misses, HasHit, PlanEnds, IsPlanRecord, release_write}
use Rattle.history_laws.proofs.UnitStands.{flag_from}

-- ---- writes of logged events

abbrev pub writes_in : List LoggedEvent → List RegPair
writes_in xs = writes (map event_of xs)

map_both : {A B : Type 0} (f : A → B) (xs ys : List A) → map f (xs ++ ys) ≡ map f xs ++ map f ys
map_both f [] ys = refl
map_both f (x ∷ xs) ys = ap (λ zs. f x ∷ zs) (map_both f xs ys)

pub writes_both : (xs ys : List LoggedEvent) → writes_in (xs ++ ys) ≡ writes_in xs ++ writes_in ys
writes_both xs ys = ap writes (map_both event_of xs ys) ∙ writes_append (map event_of xs) (map event_of ys)

pub writes_by : (c : ℕ) (ws : List RegPair) → writes (map (write_by c) ws) ≡ ws
writes_by c [] = refl
writes_by c (w ∷ ws) = ap (λ vs. w ∷ vs) (writes_by c ws)

pub silent : (e : Event) → IsNoWriteEvent e → write_of e ≡ []
silent (RegWrite unit caller index value) h = absurd h
silent _ h = refl

-- only caller 1 writes
pub of_one : (xs : List LoggedEvent) → AllByRecursion (λ x. is_by 1 x ≡ false → IsNoLoggedWrite x) xs
    → writes_in xs ≡ writes_in (events_by 1 xs)
of_one [] h = refl
of_one (x ∷ xs) h = by (is_by 1 x) refl (of_one xs h.1)
  where
    by : (b : Bool) → is_by 1 x ≡ b → writes_in xs ≡ writes_in (filter (is_by 1) xs)
        → writes_in (x ∷ xs) ≡ writes_in (cond b (x ∷ filter (is_by 1) xs) (filter (is_by 1) xs))
    by true e rest = ap (λ ws. write_of x.event ++ ws) rest
    by false e rest = ap (λ ws. ws ++ writes_in xs) (silent x.event (h.0 e)) ∙ rest

-- and where it writes nothing nobody does
pub of_none : (xs : List LoggedEvent) → AllByRecursion (λ x. is_by 1 x ≡ true → IsNoLoggedWrite x) xs → writes_in (events_by 1 xs) ≡ []
of_none [] h = refl
of_none (x ∷ xs) h = by (is_by 1 x) refl (of_none xs h.1)
  where
    by : (b : Bool) → is_by 1 x ≡ b → writes_in (filter (is_by 1) xs) ≡ []
        → writes_in (cond b (x ∷ filter (is_by 1) xs) (filter (is_by 1) xs)) ≡ []
    by true e rest = ap (λ ws. ws ++ writes_in (filter (is_by 1) xs)) (silent x.event (h.0 e)) ∙ rest
    by false e rest = rest

pub reads_nothing : (xs : List LoggedEvent) → AllByRecursion IsDrainRead xs → writes_in xs ≡ []
reads_nothing [] h = refl
reads_nothing (x ∷ xs) h = ap (λ e. write_of e ++ writes_in xs) h.0 ∙ reads_nothing xs h.1

-- ---- cut at a place

-- caller 1's events before a place of a list, and from it on
abbrev pub own_before : ℕ → List LoggedEvent → List LoggedEvent
own_before m xs = events_by 1 (take m xs)

abbrev pub own_from : ℕ → List LoggedEvent → List LoggedEvent
own_from m xs = events_by 1 (drop m xs)

pub own_cut : (m : ℕ) (xs : List LoggedEvent) → own_before m xs ++ own_from m xs ≡ events_by 1 xs
own_cut m xs = sym (filter-append (is_by 1) (take m xs) (drop m xs)) ∙ ap (events_by 1) (take-append-drop m xs)

-- an event of caller 1 is the first from its place on
pub own_here : (m : ℕ) (xs : List LoggedEvent) (x : LoggedEvent) → slice_get xs m ≡ Some x → is_by 1 x ≡ true
    → own_from m xs ≡ x ∷ own_from (suc m) xs
own_here m [] x h e = absurd (let n : None ≡ Some x = h in cc)
own_here zero (y ∷ xs) x h e =
    let same : y ≡ x = cc in
    ap (λ z. events_by 1 (z ∷ xs)) same ∙ ap (λ b. cond b (x ∷ filter (is_by 1) xs) (filter (is_by 1) xs)) e
own_here (suc m) (y ∷ xs) x h e = own_here m xs x h e

-- the events up to a later place are more
pub before_longer : (m n : ℕ) (xs : List LoggedEvent) → m ≤ n → (ys : List LoggedEvent) × (own_before n xs ≡ own_before m xs ++ ys)
before_longer zero n xs l = (own_before n xs, refl)
before_longer (suc m) zero xs l = absurd (omega arith)
before_longer (suc m) (suc n) [] l = ([], refl)
before_longer (suc m) (suc n) (x ∷ xs) l = by (is_by 1 x) (before_longer m n xs (omega arith))
  where
    by : (b : Bool) → (ys : List LoggedEvent) × (own_before n xs ≡ own_before m xs ++ ys)
        → (ys : List LoggedEvent) × (cond b (x ∷ own_before n xs) (own_before n xs) ≡ cond b (x ∷ own_before m xs) (own_before m xs) ++ ys)
    by true more = (more.0, ap (λ zs. x ∷ zs) more.1)
    by false more = more

-- a write from a place on
pub write_there : (m n : ℕ) (xs : List LoggedEvent) (x : LoggedEvent) (w : RegPair) → m ≤ n → slice_get xs n ≡ Some x → is_by 1 x ≡ true
    → write_of x.event ≡ w ∷ [] → writes_in (own_from m xs) ≡ [] → ⊥
write_there m n [] x w l h e v z = absurd (let q : None ≡ Some x = h in cc)
write_there zero zero (y ∷ xs) x w l h e v z =
    let here = own_here zero (y ∷ xs) x h e in
    let q : w ∷ writes_in (own_from 1 (y ∷ xs)) ≡ [] = ap (λ ws. ws ++ writes_in (own_from 1 (y ∷ xs))) (sym v) ∙ (sym (ap writes_in here) ∙ z) in
    absurd (cc)
write_there zero (suc n) (y ∷ xs) x w l h e v z = by (is_by 1 y) (λ q. write_there zero n xs x w (omega arith) h e v q) z
  where
    by : (b : Bool) → (writes_in (events_by 1 xs) ≡ [] → ⊥) → writes_in (cond b (y ∷ events_by 1 xs) (events_by 1 xs)) ≡ [] → ⊥
    by true again z = again (nothing_after (write_of y.event) (writes_in (events_by 1 xs)) z)
    by false again z = again z
write_there (suc m) zero (y ∷ xs) x w l h e v z = absurd (omega arith)
write_there (suc m) (suc n) (y ∷ xs) x w l h e v z = write_there m n xs x w (omega arith) h e v z

-- ---- a plan's record

-- its writes: the stalls alone, or all
abbrev pub IsUpdate : List RegPair → List RegPair → List RegPair → Type 0
IsUpdate stalls tables ws = (ws ≡ stalls) ⊎ (ws ≡ stalls ++ (tables ++ release_write ∷ []))

stalls_written : (stalls tables : List RegPair) (r : List LoggedEvent) (p : IsPlanRecord stalls tables r) → writes_in p.first ≡ stalls
stalls_written stalls tables r p = ap writes p.stalling ∙ writes_by 1 stalls

record_writes : (stalls tables : List RegPair) (r : List LoggedEvent) (p : IsPlanRecord stalls tables r)
    → writes_in r ≡ stalls ++ writes_in p.rest
record_writes stalls tables r p =
    ap writes_in p.is
    ∙ (writes_both p.first (p.reads ++ p.rest)
    ∙ (ap (λ ws. ws ++ writes_in (p.reads ++ p.rest)) (stalls_written stalls tables r p)
    ∙ ap (λ ws. stalls ++ ws) (writes_both p.reads p.rest ∙ ap (λ ws. ws ++ writes_in p.rest) (reads_nothing p.reads p.events))))

pub plan_writes : (stalls tables : List RegPair) (r : List LoggedEvent) → IsPlanRecord stalls tables r
    → IsUpdate stalls tables (writes_in r)
plan_writes stalls tables r p = ending p.rest p.ends (record_writes stalls tables r p)
  where
    ending : {A B : Type 0} (rest : List LoggedEvent)
        → (A × (rest ≡ [])) ⊎ (B × (map event_of rest ≡ map (write_by 1) (tables ++ release_write ∷ [])))
        → writes_in r ≡ stalls ++ writes_in rest → IsUpdate stalls tables (writes_in r)
    ending rest (inl e) w = inl (w ∙ (ap (λ ys. stalls ++ writes_in ys) e.1 ∙ append-nil stalls))
    ending rest (inr e) w = inr (w ∙ ap (λ es. stalls ++ es) (ap writes e.1 ∙ writes_by 1 (tables ++ release_write ∷ [])))

-- ---- before the drained reading

abbrev pub NotDrained : LoggedEvent → Type 0
NotDrained x = IsDrainRead x → Misses x

abbrev Ends : List LoggedEvent → List LoggedEvent → Type 0
Ends reads rest = (rest ≡ []) ⊎ HasHit reads

only_reads : (reads rest q z : List LoggedEvent) → q ++ z ≡ reads ++ rest → AllByRecursion IsDrainRead reads → Ends reads rest
    → AllByRecursion NotDrained q → writes_in q ≡ []
only_reads reads rest [] z e r ends n = refl
only_reads [] rest (x ∷ q) z e r (inl none) n = absurd (let m : x ∷ (q ++ z) ≡ [] = e ∙ none in cc)
only_reads [] rest (x ∷ q) z e r (inr hit) n = absurd hit
only_reads (y ∷ reads) rest (x ∷ q) z e r ends n =
    let same : x ≡ y = cc in
    let more : q ++ z ≡ reads ++ rest = cc in
    let read : IsDrainRead x = subst IsDrainRead (sym same) r.0 in
    let misses : Misses y = subst Misses same (n.0 read) in
    ap (λ e. write_of e ++ writes_in q) read ∙ only_reads reads rest q z more r.1 (ending misses ends) n.1
  where
    ending : Misses y → Ends (y ∷ reads) rest → Ends reads rest
    ending m (inl none) = inl none
    ending m (inr (inl hit)) = absurd (let n : false ≡ true = sym m ∙ hit in cc)
    ending m (inr (inr hit)) = inr hit

-- A part in which no read is drained writes some of the stalls, and nothing else.
pub before_reading : (stalls tables : List RegPair) (r q z : List LoggedEvent) → IsPlanRecord stalls tables r → q ++ z ≡ r
    → AllByRecursion NotDrained q → (ws : List RegPair) × (stalls ≡ writes_in q ++ ws)
before_reading stalls tables r q z p e n = by (two_cuts q z p.first (p.reads ++ p.rest) (e ∙ p.is))
  where
    ending : PlanEnds tables p.reads p.rest → Ends p.reads p.rest
    ending (inl e) = inl e.1
    ending (inr e) = inr e.0

    by : CutInFirst q z p.first (p.reads ++ p.rest) ⊎ CutInSecond q z p.first (p.reads ++ p.rest)
        → (ws : List RegPair) × (stalls ≡ writes_in q ++ ws)
    by (inl c) = (writes_in c.more, sym (stalls_written stalls tables r p) ∙ (ap writes_in c.first ∙ writes_both q c.more))
    by (inr c) =
        let parts = all_parts NotDrained p.first c.more (subst (AllByRecursion NotDrained) c.taken n) in
        let silent = only_reads p.reads p.rest c.more z c.rest p.events (ending p.ends) parts.1 in
        let whole : writes_in q ≡ stalls = ap writes_in c.taken ∙ (writes_both p.first c.more ∙ (ap (λ ws. writes_in p.first ++ ws) silent ∙ (append-nil (writes_in p.first) ∙ stalls_written stalls tables r p))) in
        ([], sym (append-nil (writes_in q) ∙ whole))

-- ---- at the drained reading

missed : (reads q z : List LoggedEvent) (x : LoggedEvent) → reads ≡ q ++ x ∷ z → AllByRecursion Misses reads → Misses x
missed reads q z x e m = (all_parts Misses q (x ∷ z) (subst (AllByRecursion Misses) e m)).1.0

-- events of writes
pub loud : (c : ℕ) (ws : List RegPair) (xs : List LoggedEvent) → map event_of xs ≡ map (write_by c) ws
    → AllByRecursion (λ x. IsNoLoggedWrite x → ⊥) xs
loud c ws [] h = tt
loud c [] (x ∷ xs) h = absurd (let n : x.event ∷ map event_of xs ≡ [] = h in cc)
loud c (w ∷ ws) (x ∷ xs) h =
    let e : x.event ≡ write_by c w = cc in
    let rest : map event_of xs ≡ map (write_by c) ws = cc in
    (λ q. subst IsNoWriteEvent e q, loud c ws xs rest)

-- the plan writes the rest, and before the reading it wrote the stalls
pub record IsAtReading (stalls tables : List RegPair) (r q : List LoggedEvent) : Type 0 where
  pub whole : writes_in r ≡ stalls ++ (tables ++ release_write ∷ [])
  pub before : writes_in q ≡ stalls

module _ (stalls tables : List RegPair) (r q z : List LoggedEvent) (x : LoggedEvent) (p : IsPlanRecord stalls tables r) (e : q ++ x ∷ z ≡ r) (read : IsDrainRead x) (hit : hits 1 0 x.reply ≡ true) where
  writes_nothing : IsNoLoggedWrite x
  writes_nothing = subst IsNoWriteEvent (sym read) tt

  no_stall : (a b : List LoggedEvent) → p.first ≡ a ++ x ∷ b → ⊥
  no_stall a b f = (all_parts (λ x. IsNoLoggedWrite x → ⊥) a (x ∷ b) (subst (AllByRecursion (λ x. IsNoLoggedWrite x → ⊥)) f (loud 1 stalls p.first p.stalling))).1.0 writes_nothing

  no_end : (a b : List LoggedEvent) → p.rest ≡ a ++ x ∷ b → PlanEnds tables p.reads p.rest → ⊥
  no_end a b f (inl m) = let n = nothing_after a (x ∷ b) (sym f ∙ m.1) in let k : x ∷ b ≡ [] = n in cc
  no_end a b f (inr m) = (all_parts (λ x. IsNoLoggedWrite x → ⊥) a (x ∷ b) (subst (AllByRecursion (λ x. IsNoLoggedWrite x → ⊥)) f (loud 1 (tables ++ release_write ∷ []) p.rest m.1))).1.0 writes_nothing

  -- the cut is among the reads
  record AmongReads : Type 0 where
    pub early : List LoggedEvent
    pub late : List LoggedEvent
    pub part : q ≡ p.first ++ early
    pub reads : p.reads ≡ early ++ x ∷ late

  in_reads : (early : List LoggedEvent) → q ≡ p.first ++ early → early ++ x ∷ z ≡ p.reads ++ p.rest → AmongReads
  in_reads early part f = by (two_cuts early (x ∷ z) p.reads p.rest f)
    where
      first_of : (more : List LoggedEvent) → p.reads ≡ early ++ more → x ∷ z ≡ more ++ p.rest → AmongReads
      first_of [] g h = absurd (no_end [] z (sym h) p.ends)
      first_of (y ∷ more) g h = let same : y ≡ x = cc in record { early = early; late = more; part = part; reads = g ∙ ap (λ w. early ++ w ∷ more) same }

      by : CutInFirst early (x ∷ z) p.reads p.rest ⊎ CutInSecond early (x ∷ z) p.reads p.rest → AmongReads
      by (inl c) = first_of c.more c.first c.rest
      by (inr c) = absurd (no_end c.more z (sym c.rest) p.ends)

  among_reads : AmongReads
  among_reads = by (two_cuts q (x ∷ z) p.first (p.reads ++ p.rest) (e ∙ p.is))
    where
      first_of : (more : List LoggedEvent) → p.first ≡ q ++ more → x ∷ z ≡ more ++ (p.reads ++ p.rest) → AmongReads
      first_of [] g h = in_reads [] (sym (append-nil q) ∙ (sym g ∙ sym (append-nil p.first))) h
      first_of (y ∷ more) g h = let same : y ≡ x = cc in absurd (no_stall q more (g ∙ ap (λ w. q ++ w ∷ more) same))

      by : CutInFirst q (x ∷ z) p.first (p.reads ++ p.rest) ⊎ CutInSecond q (x ∷ z) p.first (p.reads ++ p.rest) → AmongReads
      by (inl c) = first_of c.more c.first c.rest
      by (inr c) = in_reads c.more c.taken c.rest

  pub at_reading : IsAtReading stalls tables r q
  at_reading =
      let c = among_reads in
      let silent = reads_nothing c.early (all_parts IsDrainRead c.early (x ∷ c.late) (subst (AllByRecursion IsDrainRead) c.reads p.events)).0 in
      record {
        whole = ending p.ends (record_writes stalls tables r p);
        before = ap writes_in c.part ∙ (writes_both p.first c.early ∙ (ap (λ ws. writes_in p.first ++ ws) silent ∙ (append-nil (writes_in p.first) ∙ stalls_written stalls tables r p)));
      }
    where
      ending : PlanEnds tables p.reads p.rest → writes_in r ≡ stalls ++ writes_in p.rest
          → writes_in r ≡ stalls ++ (tables ++ release_write ∷ [])
      ending (inl m) w = let c = among_reads in absurd (let n : false ≡ true = sym (missed p.reads c.early c.late x c.reads m.0) ∙ hit in cc)
      ending (inr m) w = w ∙ ap (λ es. stalls ++ es) (ap writes m.1 ∙ writes_by 1 (tables ++ release_write ∷ []))

-- ---- between the drained reading and the release

-- writes of other registers
abbrev pub AreNot : ℕ → List RegPair → Type 0
AreNot i ws = AllByRecursion (λ (w : RegPair). w.index ≡ i → ⊥) ws

pub value_kept : (n i : ℕ) (ws : List RegPair) → AreNot i ws → value_from n ws i ≡ n
value_kept n i [] h = refl
value_kept n i (w ∷ ws) h = ap (λ b. value_from (cond b w.value n) ws i) (ne_eqb w.index i h.0) ∙ value_kept n i ws h.1

-- of neither MDSTALL nor RRIDSCP
abbrev pub StallsNobody : RegPair → Type 0
StallsNobody w = (w.index ≡ index_of Mdstall → ⊥) × (w.index ≡ index_of Rridscp → ⊥)

abbrev pub StallNobody : List RegPair → Type 0
StallNobody ws = AllByRecursion StallsNobody ws

pub flag_kept : (s : ℕ) (b : Bool) (ws : List RegPair) → StallNobody ws → flag_from s b ws ≡ b
flag_kept s b [] h = refl
flag_kept s b (w ∷ ws) h =
    ap (λ c. flag_from s c ws)
    (cond-false (w.index == index_of Mdstall) (w.value == 1) _ (ne_eqb w.index (index_of Mdstall) h.0.0)
    ∙ cond-false (w.index == index_of Rridscp) _ b (ne_eqb w.index (index_of Rridscp) h.0.1))
    ∙ flag_kept s b ws h.1

-- A part without the last write is one of the tables' writes.
pub tables_part : (tables a b : List RegPair) → a ++ b ≡ tables ++ release_write ∷ [] → (b ≡ [] → ⊥)
    → (c : List RegPair) × (tables ≡ a ++ c)
tables_part tables a b e ne = by (two_cuts a b tables (release_write ∷ []) e)
  where
    last : (more : List RegPair) → more ++ b ≡ release_write ∷ [] → a ≡ tables ++ more → (c : List RegPair) × (tables ≡ a ++ c)
    last [] f g = ([], sym (append-nil a ∙ (g ∙ append-nil tables)))
    last (y ∷ more) f g = let rest : more ++ b ≡ [] = cc in absurd (ne (nothing_after more b rest))

    by : CutInFirst a b tables (release_write ∷ []) ⊎ CutInSecond a b tables (release_write ∷ []) → (c : List RegPair) × (tables ≡ a ++ c)
    by (inl c) = (c.more, c.first)
    by (inr c) = last c.more c.rest c.taken
