-- The records of sections of writes, and of a plan.
use Rattle.std.proofs.Common.{◌≡◌, ℕ, zero, suc, ◌++◌, Bool, true, false, not, ◌&&◌, if◌then◌else◌, List, [], ◌∷◌, Option, Some, None, map, refl, sym, ap, ◌∙◌, ◌⊎◌, inl, inr}
use Rattle.std.specs.Prelude.{nat_lt}
use Rattle.std.specs.List.{AllByRecursion}
use Rattle.event_words.specs.Registers.{index_of}
use Rattle.event_words.specs.declared.register.Register.TheVariants.{Mdstall}
use Rattle.event_words.specs.declared.event.Event.{Event}
use Rattle.event_words.specs.declared.event.Event.TheVariants as events
use Rattle.event_words.specs.declared.record.LoggedEvent.{LoggedEvent}
use Rattle.event_words.specs.declared.record.SectionEnd.{SectionEnd}
use Rattle.event_words.specs.declared.record.SectionEnd.TheVariants.{Stopped}
use Rattle.event_words.specs.declared.section.Command.{Command}
use Rattle.event_words.specs.declared.section.Command.TheVariants.{Until}
use Rattle.event_words.specs.Records.{OpenSlot, hits, nothing_left, end_of_commands}
use Rattle.event_words.proofs.ExpectedEvents.{Expected, Ends, Next, end_of, none_some, next_is, repeated, misses, expected, expected_is}
use Rattle.policy_compiler.specs.declared.image.RegPair.{RegPair}
use Rattle.policy_compiler.specs.Images.{pair}
use Rattle.policy_compiler.specs.Commands.{write_command}

-- ---- a section of writes

abbrev pub write_by : ℕ → RegPair → Event
write_by c w = events.RegWrite 0 c w.index w.value

abbrev pub event_of : LoggedEvent → Event
event_of x = x.event

-- the events of writes with which a section begins, and what is left behind them
record StartsWithAll (c : ℕ) (ws : List RegPair) (go : Expected) (xs : List LoggedEvent) (end : SectionEnd) : Type 0 where
  pub first : List LoggedEvent
  pub rest : List LoggedEvent
  pub is : xs ≡ first ++ rest
  pub events : map event_of first ≡ map (write_by c) ws
  pub goes : end_of go rest ≡ Some end

writes_first : (c : ℕ) (ws : List RegPair) (cs : List Command) (slots : List (Option OpenSlot)) (xs : List LoggedEvent) (end : SectionEnd)
    → end_of (expected c (map write_command ws ++ cs) slots) xs ≡ Some end → StartsWithAll c ws (expected c cs slots) xs end
writes_first c [] cs slots xs end h = record { first = []; rest = xs; is = refl; events = refl; goes = h }
writes_first c (w ∷ ws) cs slots [] end h = none_some end h
writes_first c (w ∷ ws) cs slots (x ∷ xs) end h =
    let head = next_is (write_by c w) (λ y. expected c (map write_command ws ++ cs) slots) x xs end h in
    let tail = writes_first c ws cs slots xs end head.1 in
    record {
      first = x ∷ tail.first;
      rest = tail.rest;
      is = ap (λ ys. x ∷ ys) tail.is;
      events = ap (λ e. e ∷ map event_of tail.first) head.0 ∙ ap (λ es. write_by c w ∷ es) tail.events;
      goes = tail.goes;
    }

writes_made : (c : ℕ) (ws : List RegPair) (slots : List (Option OpenSlot)) (xs : List LoggedEvent) (end : SectionEnd)
    → end_of (expected c (map write_command ws) slots) xs ≡ Some end → map event_of xs ≡ map (write_by c) ws
writes_made c [] slots [] end h = refl
writes_made c [] slots (x ∷ xs) end h = none_some end h
writes_made c (w ∷ ws) slots [] end h = none_some end h
writes_made c (w ∷ ws) slots (x ∷ xs) end h =
    let head = next_is (write_by c w) (λ y. expected c (map write_command ws) slots) x xs end h in
    ap (λ e. e ∷ map event_of xs) head.0 ∙ ap (λ es. write_by c w ∷ es) (writes_made c ws slots xs end head.1)

pub writes_record : (c : ℕ) (ws : List RegPair) (slots : List (Option OpenSlot)) (xs : List LoggedEvent) (end : SectionEnd)
    → end_of_commands c (map write_command ws) slots xs ≡ Some end → map event_of xs ≡ map (write_by c) ws
writes_record c ws slots xs end h = writes_made c ws slots xs end (sym (expected_is c (map write_command ws) slots xs) ∙ h)

-- ---- the reads of MDSTALL

-- the plan's read of MDSTALL
abbrev pub drain_read : Event
drain_read = events.RegRead 0 1 (index_of Mdstall)

abbrev pub IsDrainRead : LoggedEvent → Type 0
IsDrainRead x = x.event ≡ drain_read

abbrev pub Misses : LoggedEvent → Type 0
Misses x = hits 1 0 x.reply ≡ false

-- some of them hits
abbrev pub HasHit : List LoggedEvent → Type 0
HasHit [] = ⊥
HasHit (x ∷ xs) = (hits 1 0 x.reply ≡ true) ⊎ HasHit xs

-- what is left once so many reads at most were made, up to one that hits
abbrev drained : Expected → Bool → Expected
drained go hit = if hit then go else Ends Stopped

abbrev drains : ℕ → Expected → Expected
drains n go = repeated n drain_read (misses 1 0) (λ r. drained go (hits 1 0 r))

-- nothing is left where all of them miss, and the rest goes on where one hits
abbrev EndsPolled : Expected → List LoggedEvent → List LoggedEvent → SectionEnd → Type 0
EndsPolled go reads rest end = (AllByRecursion Misses reads × (rest ≡ [])) ⊎ (HasHit reads × (end_of go rest ≡ Some end))

record IsPolled (go : Expected) (xs : List LoggedEvent) (end : SectionEnd) : Type 0 where
  pub reads : List LoggedEvent
  pub rest : List LoggedEvent
  pub is : xs ≡ reads ++ rest
  pub events : AllByRecursion IsDrainRead reads
  pub ends : EndsPolled go reads rest end

polled : (n : ℕ) (go : Expected) (xs : List LoggedEvent) (end : SectionEnd) → end_of (drains n go) xs ≡ Some end → IsPolled go xs end
polled zero go xs end h = none_some end h
polled (suc n) go [] end h = none_some end h
polled (suc n) go (x ∷ xs) end h =
    let p = next_is drain_read (λ y. if misses 1 0 y.reply && nat_lt 0 n then drains n go else drained go (hits 1 0 y.reply)) x xs end h in
    by (hits 1 0 x.reply) (nat_lt 0 n) refl p.0 (λ g. polled n go xs end g) p.1
  where
    nothing : (ys : List LoggedEvent) → hits 1 0 x.reply ≡ false → x.event ≡ drain_read → xs ≡ ys → nothing_left Stopped ys ≡ Some end
        → IsPolled go (x ∷ xs) end
    nothing [] miss e q h = record { reads = x ∷ []; rest = []; is = ap (λ zs. x ∷ zs) q; events = (e, tt); ends = inl ((miss, tt), refl) }
    nothing (y ∷ ys) miss e q h = none_some end h

    longer : (reads rest : List LoggedEvent) → hits 1 0 x.reply ≡ false → EndsPolled go reads rest end → EndsPolled go (x ∷ reads) rest end
    longer reads rest miss (inl m) = inl ((miss, m.0), m.1)
    longer reads rest miss (inr m) = inr (inr m.0, m.1)

    by : (hit more : Bool) → hits 1 0 x.reply ≡ hit → x.event ≡ drain_read → (end_of (drains n go) xs ≡ Some end → IsPolled go xs end)
        → end_of (if not hit && more then drains n go else drained go hit) xs ≡ Some end → IsPolled go (x ∷ xs) end
    by true more q e again h = record { reads = x ∷ []; rest = xs; is = refl; events = (e, tt); ends = inr (inl q, h) }
    by false false q e again h = nothing xs q e refl h
    by false true q e again h =
        let r = again h in
        record {
          reads = x ∷ r.reads;
          rest = r.rest;
          is = ap (λ zs. x ∷ zs) r.is;
          events = (e, r.events);
          ends = longer r.reads r.rest q r.ends;
        }

-- ---- a plan

abbrev pub stall : RegPair
stall = pair (index_of Mdstall) 1

abbrev pub release_write : RegPair
release_write = pair (index_of Mdstall) 0

-- reads of MDSTALL until its bit 0 is clear, so many at most
abbrev pub until_drained : ℕ → Command
until_drained polls = Until 0 (index_of Mdstall) 1 0 polls

-- requesters stall, the drain is polled for, the tables are written, and the stall ends
abbrev pub plan_of : List RegPair → List RegPair → ℕ → List Command
plan_of stalls tables polls = map write_command stalls ++ (until_drained polls ∷ map write_command (tables ++ release_write ∷ []))

-- what follows the reads: nothing where all of them miss, and the other writes where one hits
abbrev pub PlanEnds : List RegPair → List LoggedEvent → List LoggedEvent → Type 0
PlanEnds tables reads rest =
    (AllByRecursion Misses reads × (rest ≡ []))
    ⊎ (HasHit reads × (map event_of rest ≡ map (write_by 1) (tables ++ release_write ∷ [])))

-- The record of a plan: the stalls, the reads, and what follows them.
pub record IsPlanRecord (stalls tables : List RegPair) (xs : List LoggedEvent) : Type 0 where
  pub first : List LoggedEvent
  pub reads : List LoggedEvent
  pub rest : List LoggedEvent
  pub is : xs ≡ first ++ (reads ++ rest)
  pub stalling : map event_of first ≡ map (write_by 1) stalls
  pub events : AllByRecursion IsDrainRead reads
  pub ends : PlanEnds tables reads rest

pub plan_record : (stalls tables : List RegPair) (n : ℕ) (slots : List (Option OpenSlot)) (xs : List LoggedEvent) (end : SectionEnd)
    → end_of_commands 1 (plan_of stalls tables n) slots xs ≡ Some end → IsPlanRecord stalls tables xs
plan_record stalls tables n slots xs end h =
    let all = plan_of stalls tables n in
    let writes = map write_command (tables ++ release_write ∷ []) in
    let s = writes_first 1 stalls (until_drained n ∷ writes) slots xs end (sym (expected_is 1 all slots xs) ∙ h) in
    let p = polled n (expected 1 writes slots) s.rest end s.goes in
    record {
      first = s.first;
      reads = p.reads;
      rest = p.rest;
      is = s.is ∙ ap (λ ys. s.first ++ ys) p.is;
      stalling = s.events;
      events = p.events;
      ends = ending p.reads p.rest p.ends;
    }
  where
    ending : (reads rest : List LoggedEvent)
        → EndsPolled (expected 1 (map write_command (tables ++ release_write ∷ [])) slots) reads rest end
        → PlanEnds tables reads rest
    ending reads rest (inl m) = inl m
    ending reads rest (inr m) = inr (m.0, writes_made 1 (tables ++ release_write ∷ []) slots rest end m.1)
