-- The places of a live update's history.
use Rattle.std.proofs.Common.{◌≡◌, ℕ, zero, suc, ◌+◌, ◌/◌, ◌%◌, ◌^◌, ◌<◌, ◌≤◌, ◌++◌, ◌==◌, ◌&&◌, inl, inr, ◌⊎◌, Bool, true, false, bit_and, List, [], ◌∷◌, Option, Some, None, length, map, take, refl, sym, ap, subst, ◌∙◌, arith, ⊎_elim}
use Rattle.std.specs.Prelude.{slice_get}
use Rattle.std.specs.List.{AllByRecursion}
use Rattle.std.proofs.Math.Seq.{take-append-add}
use Rattle.std.proofs.lemmas.Nat.{and_mask}
use Rattle.std.proofs.lemmas.Bool.{cases_lt, eqb-true, eq-eqb, and_parts, and_from}
use Rattle.event_words.specs.declared.shape.Shape.{Shape}
use Rattle.event_words.specs.declared.event.Event.{Event}
use Rattle.event_words.specs.declared.reply.Reply.{Reply}
use Rattle.event_words.specs.declared.reply.Reply.TheVariants as replies
use Rattle.event_words.specs.declared.record.LoggedEvent.{LoggedEvent}
use Rattle.event_words.specs.Events.{same_event}
use Rattle.event_words.specs.Runs.{IsEventWord}
use Rattle.event_words.specs.Records.{hits, is_by, events_by}
use Rattle.event_words.specs.Registers.{has_bit}
use Rattle.event_words.proofs.SameEvents.{same_event_is}
use Rattle.policy_compiler.specs.declared.image.RegPair.{RegPair}
use Rattle.unit_core.specs.Histories.{History, event_at, reply_at, history_of, logged_in}
use Rattle.unit_core.specs.Updates.{ReadsDrained, IsDrainedReading}
use Rattle.history_laws.proofs.WordHistories.{is_entry, has_entry}
use Rattle.history_laws.proofs.QuietRecords.{IsNoLoggedWrite}
use Rattle.history_laws.proofs.Writes.{writes, all_get, get_append, get_low}
use Rattle.history_laws.proofs.WriteRecords.{event_of, drain_read}
use Rattle.history_laws.proofs.LiveLists.{IsLive, events_logged}
use Rattle.history_laws.proofs.PlanParts.{writes_in, writes_both, writes_by, of_one, own_before, NotDrained, loud}

-- ---- a history and its list

pub record IsLogOf (h : History) (xs : List LoggedEvent) : Type 0 where
  pub events : h.events ≡ map event_of xs
  pub here : (k : ℕ) (x : LoggedEvent) → slice_get xs k ≡ Some x → (event_at h k ≡ Some x.event) × (reply_at h k ≡ Some x.reply)
  pub there : (k : ℕ) (e : Event) (r : Reply) → event_at h k ≡ Some e → reply_at h k ≡ Some r
      → slice_get xs k ≡ Some (record { place = k; event = e; reply = r })

pub log_of : (shapes : List Shape) (words : List ℕ) → AllByRecursion IsEventWord words
    → IsLogOf (history_of shapes words) (logged_in shapes words)
log_of shapes words all = record {
  events = sym (events_logged shapes words);
  here = λ k x e. let y = is_entry shapes words all k x e in (y.event, y.reply);
  there = λ k e r p q. has_entry shapes words all k e r p q;
}

-- ---- drained readings

one_bit : (n : ℕ) → bit_and n 1 ≡ n % 2
one_bit n = and_mask n 1

pub hit_value : (r : Reply) → hits 1 0 r ≡ true → (n : ℕ) × (r ≡ replies.Value n) × (has_bit n 0 ≡ false)
hit_value (replies.Value n) h =
    let z : bit_and n 1 ≡ 0 = eqb-true (bit_and n 1) 0 h in
    let low : n / 2 ^ 0 % 2 ≡ 0 = let o = one_bit n in omega arith in
    (n, refl, ap (λ b. b == 1) low)
hit_value _ h = absurd (let n : false ≡ true = h in cc)

pub idle_hits : (n : ℕ) → has_bit n 0 ≡ false → hits 1 0 (replies.Value n) ≡ true
idle_hits n h =
    let o = one_bit n in
    let z : bit_and n 1 ≡ 0 = by (n % 2) (omega arith) refl in
    eq-eqb (bit_and n 1) 0 z
  where
    by : (b : ℕ) → b < 2 → n % 2 ≡ b → bit_and n 1 ≡ 0
    by zero l e = one_bit n ∙ e
    by (suc zero) l e = let one : n / 2 ^ 0 % 2 ≡ 1 = omega arith in let t : false ≡ true = sym h ∙ ap (λ b. b == 1) one in absurd (cc)
    by (suc (suc b)) l e = absurd (omega arith)

drained_or_not : (h : History) (k : ℕ) → ReadsDrained h k ⊎ (ReadsDrained h k → ⊥)
drained_or_not h k = by (event_at h k) (reply_at h k) refl refl
  where
    tested : (e : Event) (r : Reply) (b : Bool) → event_at h k ≡ Some e → reply_at h k ≡ Some r
        → (same_event drain_read e && hits 1 0 r) ≡ b → ReadsDrained h k ⊎ (ReadsDrained h k → ⊥)
    tested e r true p q t =
        let parts = and_parts (same_event drain_read e) (hits 1 0 r) t in
        let v = hit_value r parts.1 in
        inl (record { value = v.0; event = p ∙ ap (λ f. Some f) (same_event_is drain_read e parts.0); reply = q ∙ ap (λ s. Some s) v.1; idle = v.2 })
    tested e r false p q t = inr (λ d.
        let first : Some e ≡ Some drain_read = sym p ∙ d.event in
        let second : Some r ≡ Some (replies.Value d.value) = sym q ∙ d.reply in
        let a : e ≡ drain_read = cc in
        let b : r ≡ replies.Value d.value = cc in
        let one : same_event drain_read e ≡ true = ap (same_event drain_read) a in
        let two : hits 1 0 r ≡ true = ap (hits 1 0) b ∙ idle_hits d.value d.idle in
        let n : false ≡ true = sym t ∙ and_from (same_event drain_read e) (hits 1 0 r) one two in
        cc)

    by : (o : Option Event) (r : Option Reply) → event_at h k ≡ o → reply_at h k ≡ r → ReadsDrained h k ⊎ (ReadsDrained h k → ⊥)
    by None r p q = inr (λ d. let n : None ≡ Some drain_read = sym p ∙ d.event in cc)
    by (Some e) None p q = inr (λ d. let n : None ≡ Some (replies.Value d.value) = sym q ∙ d.reply in cc)
    by (Some e) (Some r) p q = tested e r (same_event drain_read e && hits 1 0 r) p q refl

-- the first of the places below n, or none
pub least : (h : History) (n : ℕ) → ((b : ℕ) × (b < n) × IsDrainedReading h b) ⊎ ((k : ℕ) → k < n → ReadsDrained h k → ⊥)
least h zero = inr (λ k l d. absurd (omega arith))
least h (suc n) = by (least h n) (drained_or_not h n)
  where
    by : ((b : ℕ) × (b < n) × IsDrainedReading h b) ⊎ ((k : ℕ) → k < n → ReadsDrained h k → ⊥) → ReadsDrained h n ⊎ (ReadsDrained h n → ⊥)
        → ((b : ℕ) × (b < suc n) × IsDrainedReading h b) ⊎ ((k : ℕ) → k < suc n → ReadsDrained h k → ⊥)
    by (inl b) o = let l = b.1 in inl (b.0, omega arith, b.2)
    by (inr none) (inl d) = inl (n, omega arith, record { drained = d; first = λ k e. ⊎_elim (λ (l : k < n). absurd (none k l e)) (λ (l : n ≤ k). l) (cases_lt k n) })
    by (inr none) (inr not) = inr (λ k l d. ⊎_elim (λ (m : k < n). none k m d) (λ (m : n ≤ k). let e : k ≡ n = omega arith in not (subst (ReadsDrained h) e d)) (cases_lt k n))

-- Before a place at which no drained reading was yet, no read is drained.
pub none_drained : (h : History) (p : ℕ) → ((b : ℕ) → IsDrainedReading h b → p < b) → (k : ℕ) → k < p → ReadsDrained h k → ⊥
none_drained h p later = by (least h p)
  where
    by : ((b : ℕ) × (b < p) × IsDrainedReading h b) ⊎ ((k : ℕ) → k < p → ReadsDrained h k → ⊥) → (k : ℕ) → k < p → ReadsDrained h k → ⊥
    by (inl b) k l d = let m = later b.0 b.2 in let o = b.1 in absurd (omega arith)
    by (inr none) k l d = none k l d

pub not_drained : (h : History) (xs : List LoggedEvent) → IsLogOf h xs → (k : ℕ) (x : LoggedEvent) → slice_get xs k ≡ Some x
    → (ReadsDrained h k → ⊥) → NotDrained x
not_drained h xs log k x e none read = by (hits 1 0 x.reply) refl
  where
    by : (b : Bool) → hits 1 0 x.reply ≡ b → hits 1 0 x.reply ≡ false
    by false t = t
    by true t =
        let here = log.here k x e in
        let v = hit_value x.reply t in
        absurd (none (record { value = v.0; event = here.0 ∙ ap (λ f. Some f) read; reply = here.1 ∙ ap (λ s. Some s) v.1; idle = v.2 }))

-- ---- past the boot section

-- An event that writes nothing stands after the boot section.
pub past_boot : (old stalls tables : List RegPair) (xs : List LoggedEvent) (v : IsLive old stalls tables xs) (k : ℕ) (x : LoggedEvent)
    → slice_get xs k ≡ Some x → IsNoLoggedWrite x → length v.boot ≤ k
past_boot old stalls tables xs v k x e q = ⊎_elim
    (λ (low : k < length v.boot). absurd (all_get (λ x. IsNoLoggedWrite x → ⊥) v.boot k x (loud 0 old v.boot v.boot_events) (sym (get_low v.boot v.others k low) ∙ (ap (λ ys. slice_get ys k) (sym v.is) ∙ e)) q))
    (λ (high : length v.boot ≤ k). high)
    (cases_lt k (length v.boot))

pub among_others : (old stalls tables : List RegPair) (xs : List LoggedEvent) (v : IsLive old stalls tables xs) (m : ℕ)
    → slice_get xs (length v.boot + m) ≡ slice_get v.others m
among_others old stalls tables xs v m = ap (λ ys. slice_get ys (length v.boot + m)) v.is ∙ get_append v.boot v.others m

all_taken : {A : Type 0} (P : A → Type 0) (xs : List A) (m : ℕ) → AllByRecursion P xs → AllByRecursion P (take m xs)
all_taken P [] zero h = tt
all_taken P [] (suc m) h = tt
all_taken P (x ∷ xs) zero h = tt
all_taken P (x ∷ xs) (suc m) h = (h.0, all_taken P xs m h.1)

-- The writes before a place: the old image's, and those of the plan up to there.
pub writes_upto : (old stalls tables : List RegPair) (xs : List LoggedEvent) (v : IsLive old stalls tables xs) (m : ℕ)
    → writes_in (take (length v.boot + m) xs) ≡ old ++ writes_in (own_before m v.others)
writes_upto old stalls tables xs v m =
    ap (λ ys. writes_in (take (length v.boot + m) ys)) v.is
    ∙ (ap writes_in (take-append-add v.boot v.others m)
    ∙ (writes_both v.boot (take m v.others)
    ∙ (ap (λ ws. ws ++ writes_in (take m v.others)) (ap writes v.boot_events ∙ writes_by 0 old)
    ∙ ap (λ ws. old ++ ws) (of_one (take m v.others) (all_taken (λ x. is_by 1 x ≡ false → IsNoLoggedWrite x) v.others m v.quiet)))))

pub writes_whole : (old stalls tables : List RegPair) (xs : List LoggedEvent) (v : IsLive old stalls tables xs)
    → writes_in xs ≡ old ++ writes_in (events_by 1 v.others)
writes_whole old stalls tables xs v =
    ap writes_in v.is
    ∙ (writes_both v.boot v.others
    ∙ (ap (λ ws. ws ++ writes_in v.others) (ap writes v.boot_events ∙ writes_by 0 old)
    ∙ ap (λ ws. old ++ ws) (of_one v.others v.quiet)))
