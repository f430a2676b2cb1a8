-- Judgements that are a whole record of up to some tries: all but the last are held.
use Rattle.std.proofs.Common.{◌≡◌, ℕ, zero, suc, Bool, true, false, cond, List, [], ◌∷◌, ◌++◌, Option, Some, None, refl, sym, ap, ◌∙◌, subst, append-nil}
use Rattle.std.specs.Prelude.{◌&&◌, not, nat_lt}
use Rattle.std.specs.List.{AllByRecursion}
use Rattle.std.proofs.lemmas.Bool.{and_parts}
use Rattle.event_words.specs.declared.event.Event.{Event}
use Rattle.event_words.specs.declared.event.Event.TheVariants as events
use Rattle.event_words.specs.declared.reply.Reply.{Reply}
use Rattle.event_words.specs.declared.reply.Reply.TheVariants as replies
use Rattle.event_words.specs.declared.record.LoggedEvent.{LoggedEvent}
use Rattle.event_words.specs.Events.{same_event}
use Rattle.event_words.specs.Records.{judgements, is_held}
use Rattle.event_words.proofs.SameEvents.{same_event_is}
use Rattle.event_words.proofs.Cases.{by_test}

pub record IsHeldJudgement (unit caller place : ℕ) (x : LoggedEvent) : Type 0 where
  pub event : x.event ≡ events.Judge unit caller place
  pub reply : x.reply ≡ replies.Held

-- Judgements of the submission at a place, of which the last has this reply.
pub record AreJudgements (unit caller place : ℕ) (reply : Reply) (xs : List LoggedEvent) : Type 0 where
  pub held : List LoggedEvent
  pub last : LoggedEvent
  pub is : xs ≡ held ++ last ∷ []
  pub all_held : AllByRecursion (IsHeldJudgement unit caller place) held
  pub event : last.event ≡ events.Judge unit caller place
  pub reply_is : last.reply ≡ reply

held_reply : (r : Reply) → is_held r ≡ true → r ≡ replies.Held
held_reply replies.Held h = refl
held_reply _ h = absurd (let n : false ≡ true = h in cc)

pub held_not : (r : Reply) → (r ≡ replies.Held → ⊥) → is_held r ≡ false
held_not replies.Held h = absurd (h refl)
held_not _ h = refl

abbrev judged_as : Bool → Bool → ℕ → Event → LoggedEvent → List LoggedEvent → Option (Reply × List LoggedEvent)
judged_as same on n e x xs = cond (not same) None (cond on (judgements n e xs) (Some (x.reply, xs)))

one_more : (u c p : ℕ) (r : Reply) (x : LoggedEvent) (xs : List LoggedEvent) → IsHeldJudgement u c p x → AreJudgements u c p r xs → AreJudgements u c p r (x ∷ xs)
one_more u c p r x xs h a = record {
  held = x ∷ a.held;
  last = a.last;
  is = ap (λ (l : List LoggedEvent). x ∷ l) a.is;
  all_held = (h, a.all_held);
  event = a.event;
  reply_is = a.reply_is;
}

just_one : (u c p : ℕ) (r : Reply) (x : LoggedEvent) → x.event ≡ events.Judge u c p → x.reply ≡ r → AreJudgements u c p r (x ∷ [])
just_one u c p r x e is = record { held = []; last = x; is = refl; all_held = tt; event = e; reply_is = is }

-- Events that begin with judgements of the submission at a place, and the events after these.
pub record BeginsWithJudgements (unit caller place : ℕ) (reply : Reply) (xs ys : List LoggedEvent) : Type 0 where
  pub judged : List LoggedEvent
  pub is : xs ≡ judged ++ ys
  pub are : AreJudgements unit caller place reply judged

pub begins_with_judgements : (n u c p : ℕ) (r : Reply) (xs ys : List LoggedEvent) → judgements n (events.Judge u c p) xs ≡ Some (r, ys) → BeginsWithJudgements u c p r xs ys
begins_with_judgements zero u c p r xs ys h = absurd (let n : None ≡ Some (r, ys) = h in cc)
begins_with_judgements (suc n) u c p r [] ys h = absurd (let n : None ≡ Some (r, ys) = h in cc)
begins_with_judgements (suc n) u c p r (x ∷ xs) ys h =
    let e : Event = events.Judge u c p in
    by_test (same_event e x.event) _
    (λ same.
    let is : x.event ≡ e = same_event_is e x.event same in
    let there : judged_as true (is_held x.reply && nat_lt 0 n) n e x xs ≡ Some (r, ys) = subst (λ (t : Bool). judged_as t (is_held x.reply && nat_lt 0 n) n e x xs ≡ Some (r, ys)) same h in
    by_test (is_held x.reply && nat_lt 0 n) _
    (λ on.
    let parts = and_parts (is_held x.reply) (nat_lt 0 n) on in
    let more = begins_with_judgements n u c p r xs ys (subst (λ (t : Bool). judged_as true t n e x xs ≡ Some (r, ys)) on there) in
    let held : IsHeldJudgement u c p x = record { event = is; reply = held_reply x.reply parts.0 } in
    record { judged = x ∷ more.judged; is = ap (λ (l : List LoggedEvent). x ∷ l) more.is; are = one_more u c p r x more.judged held more.are })
    (λ off.
    let last : Some (x.reply, xs) ≡ Some (r, ys) = subst (λ (t : Bool). judged_as true t n e x xs ≡ Some (r, ys)) off there in
    let both : (let z : Reply × List LoggedEvent = (x.reply, xs) in z) ≡ (r, ys) = cc in
    record { judged = x ∷ []; is = ap (λ (z : Reply × List LoggedEvent). x ∷ z.1) both; are = just_one u c p r x is (ap (λ (z : Reply × List LoggedEvent). z.0) both) }))
    (λ other. absurd (let n : None ≡ Some (r, ys) = subst (λ (t : Bool). judged_as t (is_held x.reply && nat_lt 0 n) n e x xs ≡ Some (r, ys)) other h in cc))

pub are_judgements : (n u c p : ℕ) (r : Reply) (xs : List LoggedEvent) → judgements n (events.Judge u c p) xs ≡ Some (r, []) → AreJudgements u c p r xs
are_judgements n u c p r xs h =
    let b = begins_with_judgements n u c p r xs [] h in
    subst (AreJudgements u c p r) (sym (b.is ∙ append-nil b.judged)) b.are
