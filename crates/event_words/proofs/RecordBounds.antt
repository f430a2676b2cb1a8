-- How many events a record has at most, and what holds of each of them.
use Rattle.std.proofs.Common.{◌≡◌, ℕ, zero, suc, ◌+◌, ◌*◌, ◌≤◌, Bool, true, false, ◌&&◌, if◌then◌else◌, List, [], ◌∷◌, ◌++◌, Option, Some, None, length, take, sum_by, refl, sym, subst, arith}
use Rattle.std.specs.Prelude.{IfSome, ◌<◌, nat_lt}
use Rattle.std.specs.List.{AllByRecursion}
use Rattle.std.proofs.lemmas.List.Sums.{sum_by-cons}
use Rattle.event_words.specs.declared.access.Access.{Access}
use Rattle.event_words.specs.declared.access.Kind.{Kind}
use Rattle.event_words.specs.declared.event.Event.{Event}
use Rattle.event_words.specs.declared.event.Event.TheVariants as events
use Rattle.event_words.specs.declared.reply.Reply.{Reply}
use Rattle.event_words.specs.declared.record.LoggedEvent.{LoggedEvent}
use Rattle.event_words.specs.declared.record.SectionEnd.{SectionEnd}
use Rattle.event_words.specs.declared.section.Command.{Command}
use Rattle.event_words.specs.declared.section.Command.TheVariants.{Write, Read, Submit, Judge, Settle, Until, Through}
use Rattle.event_words.specs.Events.{same_event}
use Rattle.event_words.specs.Sections.{most_events, submission_events, stage_units}
use Rattle.event_words.specs.Valid.{is_narrow}
use Rattle.event_words.specs.Records.{OpenSlot, is_held, is_taken, is_aimed, hits, wide_event, opened_slot, closed_by, next_requester, end_of_commands, slot_of}
use Rattle.event_words.proofs.SameEvents.{same_event_is}
use Rattle.event_words.proofs.ExpectedEvents.{Expected, Ends, Never, Next, end_of, repeated, misses, submission, following, judged_stage, stage, stages, judged_slot, command, expected, expected_is}

-- At most n events are left, and P holds of each.
abbrev pub Within : (Event → Type 0) → ℕ → Expected → Type 0
Within P n (Ends end) = Unit {0}
Within P n Never = Unit {0}
Within P n (Next e go) = P e × ((k : ℕ) × (k < n) × ((x : LoggedEvent) → Within P k (go x)))

-- P holds of every event but of some writes.
pub record HoldsOfOthers (P : Event → Type 0) : Type 0 where
  pub read : (u c i : ℕ) → P (events.RegRead u c i)
  pub submit : (u c : ℕ) (a : Access) → P (events.Submit u c a)
  pub judge : (u c p : ℕ) → P (events.Judge u c p)
  pub aim : (c a : ℕ) → P (events.Aim c a)
  pub wide : (u c r : ℕ) (k : Kind) (n : ℕ) → P (events.Wide u c r k n)

-- where the command writes a register, P holds of the write
abbrev pub MayWrite : (Event → Type 0) → ℕ → Command → Type 0
MayWrite P caller (Write unit index value) = P (events.RegWrite unit caller index value)
MayWrite P caller _ = Unit {0}

-- ---- numbers

few_units : (n : ℕ) (us : List ℕ) → length (take n us) ≤ n
few_units zero us = omega arith
few_units (suc n) [] = omega arith
few_units (suc n) (u ∷ us) = let h = few_units n us in omega arith

no_fewer_stages : (a b each n : ℕ) → a ≤ b → a * each + n ≤ b * each + n
no_fewer_stages a b each n h = grind arith

one_stage_more : (us : List ℕ) (u each n : ℕ) → each + (length us * each + n) ≤ length (u ∷ us) * each + n
one_stage_more us u each n = grind arith

more_than : (a n : ℕ) → n ≤ a + n
more_than a n = omega arith

-- ---- what a section expects

within_more : (P : Event → Type 0) (m n : ℕ) (p : Expected) → m ≤ n → Within P m p → Within P n p
within_more P m n (Ends end) l h = tt
within_more P m n Never l h = tt
within_more P m n (Next e go) l h = let less = h.1.1 in (h.0, (h.1.0, omega arith, h.1.2))

either : (P : Event → Type 0) (n : ℕ) (b : Bool) (p q : Expected) → Within P n p → Within P n q → Within P n (if b then p else q)
either P n true p q h g = h
either P n false p q h g = g

module _ (P : Event → Type 0) (o : HoldsOfOthers P) where
  repeated_within : (n m : ℕ) (e : Event) → P e → (again : Reply → Bool) (go : Reply → Expected) → ((r : Reply) → Within P m (go r))
      → Within P (n + m) (repeated n e again go)
  repeated_within zero m e q again go h = tt
  repeated_within (suc n) m e q again go h = (
    q,
    (
      n + m,
      omega arith,
      λ x. either P (n + m) (again x.reply && nat_lt 0 n) _ _ (repeated_within n m e q again go h)
          (within_more P m (n + m) (go x.reply) (more_than n m) (h x.reply)),
    ),
  )

  submission_within : (n unit caller : ℕ) (access : Access) (go : LoggedEvent → Expected) → ((x : LoggedEvent) → Within P n (go x))
      → Within P (submission_events access + n) (submission unit caller access go)
  submission_within n unit caller access go h = by (is_narrow access)
    where
      wide : Event
      wide = wide_event unit caller access

      by : (narrow : Bool) → Within P ((if narrow then 1 else 2) + n)
          (if narrow then Next (events.Submit unit caller access) go else Next (events.Aim caller access.addr) (λ x. Next wide go))
      by true = (o.submit unit caller access, (n, omega arith, h))
      by false = (o.aim caller access.addr, (1 + n, omega arith, λ x. (o.wide unit caller access.rrid access.kind access.len, (n, omega arith, h))))

  following_within : (n : ℕ) (go : ℕ → Expected) (over : Expected) → ((next : ℕ) → Within P n (go next)) → Within P n over
      → (next : Option ℕ) → Within P n (following go over next)
  following_within n go over h g None = g
  following_within n go over h g (Some next) = h next

  judged_within : (n caller max unit : ℕ) (go : ℕ → Expected) (over : Expected) → ((next : ℕ) → Within P n (go next)) → Within P n over
      → (x : LoggedEvent) → Within P (max + n) (judged_stage caller max unit go over x)
  judged_within n caller max unit go over h g x =
      either P (max + n) (is_taken x.reply) _ over
      (repeated_within max n (events.Judge unit caller x.place) (o.judge unit caller x.place) is_held _ (λ r. following_within n go over h g (next_requester r)))
      (within_more P n (max + n) over (more_than max n) g)

  stage_within : (n caller max unit : ℕ) (access : Access) (go : ℕ → Expected) (over : Expected) → ((next : ℕ) → Within P n (go next))
      → Within P n over → Within P (submission_events access + max + n) (stage caller max unit access go over)
  stage_within n caller max unit access go over h g = by (is_narrow access)
    where
      wide : Event
      wide = wide_event unit caller access

      judged : LoggedEvent → Expected
      judged = judged_stage caller max unit go over

      by : (narrow : Bool) → Within P ((if narrow then 1 else 2) + max + n)
          (if narrow then Next (events.Submit unit caller access) judged
          else Next (events.Aim caller access.addr) (λ x. if is_aimed x.reply then Next wide judged else over))
      by true = (o.submit unit caller access, (max + n, omega arith, judged_within n caller max unit go over h g))
      by false = (
        o.aim caller access.addr,
        (
          1 + max + n,
          omega arith,
          λ x. either P (1 + max + n) (is_aimed x.reply) (Next wide judged) over
              (o.wide unit caller access.rrid access.kind access.len, (max + n, omega arith, judged_within n caller max unit go over h g))
              (within_more P n (1 + max + n) over (more_than (1 + max) n) g),
        ),
      )

  stages_within : (n caller max : ℕ) (access : Access) (over : Expected) → Within P n over → (us : List ℕ) (rrid : ℕ)
      → Within P (length us * (submission_events access + max) + n) (stages caller max access over us rrid)
  stages_within n caller max access over g [] rrid =
      let none : List ℕ = [] in within_more P n _ over (more_than (length none * (submission_events access + max)) n) g
  stages_within n caller max access over g (u ∷ us) rrid =
      let each = submission_events access + max in
      let rest = length us * each + n in
      within_more P (each + rest) _ (stages caller max access over (u ∷ us) rrid) (one_stage_more us u each n)
      (stage_within rest caller max u (record access { rrid = rrid }) (stages caller max access over us) over
      (λ next. stages_within n caller max access over g us next) (within_more P n rest over (more_than (length us * each) n) g))

  slot_within : (n caller max : ℕ) (slots : List (Option OpenSlot)) (i : ℕ) (go : List (Option OpenSlot) → Expected)
      → ((ss : List (Option OpenSlot)) → Within P n (go ss)) → (slot : Option OpenSlot) → Within P (max + n) (judged_slot caller max slots i go slot)
  slot_within n caller max slots i go h None = within_more P n (max + n) (go slots) (more_than max n) (h slots)
  slot_within n caller max slots i go h (Some slot) =
      repeated_within max n (events.Judge slot.unit caller slot.place) (o.judge slot.unit caller slot.place) is_held _ (λ r. h (closed_by r i slots))

  command_within : (n caller : ℕ) (slots : List (Option OpenSlot)) (go : List (Option OpenSlot) → Expected)
      → ((ss : List (Option OpenSlot)) → Within P n (go ss)) → (c : Command) → MayWrite P caller c → Within P (most_events c + n) (command caller slots go c)
  command_within n caller slots go h (Write unit index value) q = (q, (n, omega arith, λ x. h slots))
  command_within n caller slots go h (Read unit index) q = (o.read unit caller index, (n, omega arith, λ x. h slots))
  command_within n caller slots go h (Submit unit access slot) q = submission_within n unit caller access _ (λ x. h (slots ++ opened_slot unit x ∷ []))
  command_within n caller slots go h (Judge slot) q = slot_within n caller 1 slots slot go h (slot_of slots slot)
  command_within n caller slots go h (Settle slot max) q = slot_within n caller max slots slot go h (slot_of slots slot)
  command_within n caller slots go h (Until unit index mask value max) q =
      repeated_within max n (events.RegRead unit caller index) (o.read unit caller index) (misses mask value) _
      (λ r. either P n (hits mask value r) (go slots) _ (h slots) tt)
  command_within n caller slots go h (Through units access max) q =
      let each = submission_events access + max in
      within_more P (length (stage_units units) * each + n) (units.count * each + n) _
      (no_fewer_stages (length (stage_units units)) units.count each n (few_units units.count units.units))
      (stages_within n caller max access (go slots) (h slots) (stage_units units) access.rrid)

  expected_within : (caller : ℕ) (cs : List Command) → AllByRecursion (MayWrite P caller) cs → (slots : List (Option OpenSlot))
      → Within P (sum_by most_events cs) (expected caller cs slots)
  expected_within caller [] q slots = tt
  expected_within caller (c ∷ cs) q slots =
      subst (λ n. Within P n (expected caller (c ∷ cs) slots)) (sym (sum_by-cons most_events c cs))
      (command_within (sum_by most_events cs) caller slots (expected caller cs) (λ ss. expected_within caller cs q.1 ss) c q.0)

-- ---- a record

abbrev pub HasEvent : (Event → Type 0) → LoggedEvent → Type 0
HasEvent P x = P x.event

abbrev IsBounded : (Event → Type 0) → ℕ → List LoggedEvent → SectionEnd → Type 0
IsBounded P n xs end = (length xs ≤ n) × AllByRecursion (HasEvent P) xs

bounded : (P : Event → Type 0) (n : ℕ) (p : Expected) → Within P n p → (xs : List LoggedEvent) → IfSome (end_of p xs) (IsBounded P n xs)
bounded P n (Ends end) h [] = (omega arith, tt)
bounded P n (Ends end) h (x ∷ xs) = tt
bounded P n Never h xs = tt
bounded P n (Next e go) h [] = tt
bounded P n (Next e go) h (x ∷ xs) = by (same_event e x.event) refl (bounded P h.1.0 (go x) (h.1.2 x) xs)
  where
    one_more : (end : Option SectionEnd) → P x.event → IfSome end (IsBounded P h.1.0 xs) → IfSome end (IsBounded P n (x ∷ xs))
    one_more None q g = tt
    one_more (Some end) q g = let less = h.1.1 in let few = g.0 in (omega arith, (q, g.1))

    by : (b : Bool) → same_event e x.event ≡ b → IfSome (end_of (go x) xs) (IsBounded P h.1.0 xs)
        → IfSome (if b then end_of (go x) xs else None) (IsBounded P n (x ∷ xs))
    by true t g = one_more (end_of (go x) xs) (subst P (sym (same_event_is e x.event t)) h.0) g
    by false t g = tt

-- A record has at most as many events as its commands make, and P holds of each where it does of the writes.
pub record_bounded : (P : Event → Type 0) → HoldsOfOthers P → (caller : ℕ) (cs : List Command) → AllByRecursion (MayWrite P caller) cs
    → (slots : List (Option OpenSlot)) (xs : List LoggedEvent)
    → IfSome (end_of_commands caller cs slots xs) (λ end. (length xs ≤ sum_by most_events cs) × AllByRecursion (HasEvent P) xs)
record_bounded P o caller cs q slots xs =
    subst (λ end. IfSome end (IsBounded P (sum_by most_events cs) xs)) (sym (expected_is caller cs slots xs))
    (bounded P (sum_by most_events cs) (expected caller cs slots) (expected_within P o caller cs q slots) xs)
