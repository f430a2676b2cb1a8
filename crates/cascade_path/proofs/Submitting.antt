-- The events of a submission at a stage's beginning, apart from the judgements after them.
use Rattle.std.proofs.Common.{◌≡◌, ℕ, ◌+◌, ◌≤◌, Bool, true, false, cond, List, [], ◌∷◌, ◌++◌, length, Option, Some, None, refl, sym, ap, ◌∙◌, subst, arith, ◌⊎◌, inl, inr, ⊎_elim}
use Rattle.std.specs.Prelude.{count_by, if◌then◌else◌}
use Rattle.std.specs.List.{list_all}
use Rattle.std.proofs.lemmas.Bool.{and_from}
use Rattle.event_words.specs.declared.access.Access.{Access}
use Rattle.event_words.specs.declared.event.Event.{Event}
use Rattle.event_words.specs.declared.event.Event.TheVariants as events
use Rattle.event_words.specs.declared.reply.Reply.{Reply}
use Rattle.event_words.specs.declared.reply.Reply.TheVariants as replies
use Rattle.event_words.specs.declared.record.LoggedEvent.{LoggedEvent}
use Rattle.event_words.specs.Events.{same_event}
use Rattle.event_words.specs.Records.{take_event, is_aimed, one_stage, stage_piece, aimed_piece, wide_event}
use Rattle.event_words.specs.Sections.{submission_events}
use Rattle.event_words.specs.Valid.{is_narrow}
use Rattle.event_words.proofs.SameEvents.{same_event_is}
use Rattle.event_words.proofs.Cases.{by_test}
use Rattle.cascade_path.specs.Answers.{begins, is_beginning, submission_answer, answer_to, event_answer}
use Rattle.cascade_path.specs.Stages.{IsSubmission, IsRefusedAim, is_undecided, waits}
use Rattle.cascade_path.proofs.Causes.{count-append}
use Rattle.cascade_path.proofs.Repeats.{take_event-cons}

abbrev pub Events : Type 0
Events = List LoggedEvent

abbrev pub Go : Type 0
Go = ℕ → Events → Option Events

-- ---- how many events, and what they decide

events_by : (a : Access) (narrow : Bool) → is_narrow a ≡ narrow → submission_events a ≡ (if narrow then 1 else 2)
events_by a narrow h = ap (λ (z : Bool). if z then 1 else 2) h

pub submission_count : (u c : ℕ) (a : Access) (before : Events) (last : LoggedEvent) → IsSubmission u c a before last → length before + 1 ≡ submission_events a
submission_count u c a before last (inl s) = let n : submission_events a ≡ 1 = events_by a true s.narrow in let l = ap length s.alone in omega arith
submission_count u c a before last (inr s) = let n : submission_events a ≡ 2 = events_by a false s.wide in let l = ap length s.after_aim in omega arith

pub refused_count : (c : ℕ) (a : Access) (x : LoggedEvent) → IsRefusedAim c a x → 1 ≤ submission_events a
refused_count c a x r = let n : submission_events a ≡ 2 = events_by a false r.wide in omega arith

beginnings : (x : LoggedEvent) (e : Event) → x.event ≡ e → count_by is_beginning (x ∷ []) ≡ 0 + cond (begins e) 1 0
beginnings x e is = ap (λ (v : Event). 0 + cond (begins v) 1 0) is

-- A submission begins once.
pub begins_once : (u c : ℕ) (a : Access) (before : Events) (last : LoggedEvent) → IsSubmission u c a before last → count_by is_beginning (before ++ last ∷ []) ≡ 1
begins_once u c a before last (inl s) = ap (λ (l : Events). count_by is_beginning (l ++ last ∷ [])) s.alone ∙ beginnings last (events.Submit u c a) s.event
begins_once u c a before last (inr s) =
    let one : count_by is_beginning (s.aim ∷ []) ≡ 0 + 1 = beginnings s.aim (events.Aim c a.addr) s.aims in
    let none : count_by is_beginning (last ∷ []) ≡ 0 + 0 = beginnings last (wide_event u c a) s.event in
    ap (λ (l : Events). count_by is_beginning (l ++ last ∷ [])) s.after_aim ∙ count-append is_beginning (s.aim ∷ []) (last ∷ []) ∙ (omega arith)

pub refused_begins : (c : ℕ) (a : Access) (x : LoggedEvent) → IsRefusedAim c a x → count_by is_beginning (x ∷ []) ≡ 1
refused_begins c a x r = beginnings x (events.Aim c a.addr) r.aims

-- What comes before the last event decides nothing.
pub before_waits : (u c : ℕ) (a : Access) (before : Events) (last : LoggedEvent) → IsSubmission u c a before last → list_all waits before ≡ true
before_waits u c a before last (inl s) = ap (list_all waits) s.alone
before_waits u c a before last (inr s) =
    ap (list_all waits) s.after_aim
    ∙ and_from (waits s.aim) true (ap (λ (e : Event). is_undecided (answer_to 0 e s.aim.reply)) s.aims ∙ ap (λ (r : Reply). is_undecided (answer_to 0 (events.Aim c a.addr) r)) s.aimed) refl

-- The last event decides as a submission does.
pub submission_decides : (u c : ℕ) (a : Access) (before : Events) (last : LoggedEvent) (stage : ℕ) → IsSubmission u c a before last → event_answer stage last ≡ submission_answer stage last.reply
submission_decides u c a before last stage (inl s) = ap (λ (e : Event). answer_to stage e last.reply) s.event
submission_decides u c a before last stage (inr s) = ap (λ (e : Event). answer_to stage e last.reply) s.event

-- ---- the record of a stage that begins so

abbrev by_width : Bool → ℕ → ℕ → ℕ → Access → Go → Events → Option Events
by_width narrow n max u a go xs =
    if narrow then stage_piece n max u go (take_event (events.Submit u n a) xs)
    else aimed_piece n max u go (wide_event u n a) (take_event (events.Aim n a.addr) xs)

abbrev if_aimed : Bool → ℕ → ℕ → ℕ → Access → Go → Events → Option Events
if_aimed aimed n max u a go xs = if aimed then stage_piece n max u go (take_event (wide_event u n a) xs) else Some xs

pub stage_submitted : (n max u : ℕ) (a : Access) (go : Go) (before : Events) (last : LoggedEvent) (rest : Events) → IsSubmission u n a before last
    → one_stage n max u a go ((before ++ last ∷ []) ++ rest) ≡ stage_piece n max u go (Some (last, rest))
stage_submitted n max u a go before last rest (inl s) =
    ap (λ (l : Events). one_stage n max u a go ((l ++ last ∷ []) ++ rest)) s.alone
    ∙ ap (λ (z : Bool). by_width z n max u a go (last ∷ rest)) s.narrow
    ∙ ap (stage_piece n max u go) (take_event-cons (events.Submit u n a) last rest s.event)
stage_submitted n max u a go before last rest (inr s) =
    ap (λ (l : Events). one_stage n max u a go ((l ++ last ∷ []) ++ rest)) s.after_aim
    ∙ ap (λ (z : Bool). by_width z n max u a go (s.aim ∷ last ∷ rest)) s.wide
    ∙ ap (aimed_piece n max u go (wide_event u n a)) (take_event-cons (events.Aim n a.addr) s.aim (last ∷ rest) s.aims)
    ∙ ap (λ (r : Reply). if_aimed (is_aimed r) n max u a go (last ∷ rest)) s.aimed
    ∙ ap (stage_piece n max u go) (take_event-cons (wide_event u n a) last rest s.event)

pub stage_unaimed : (n max u : ℕ) (a : Access) (go : Go) (x : LoggedEvent) (rest : Events) → IsRefusedAim n a x → one_stage n max u a go (x ∷ rest) ≡ Some rest
stage_unaimed n max u a go x rest r =
    ap (λ (z : Bool). by_width z n max u a go (x ∷ rest)) r.wide
    ∙ ap (aimed_piece n max u go (wide_event u n a)) (take_event-cons (events.Aim n a.addr) x rest r.aims)
    ∙ ap (λ (z : Bool). if_aimed z n max u a go rest) r.refused

-- ---- the other way: how a stage's record begins

-- The events begin with this one.
record BeginsAs (e : Event) (xs : Events) : Type 0 where
  first : LoggedEvent
  rest : Events
  is : xs ≡ first ∷ rest
  same : same_event e first.event ≡ true
  found : take_event e xs ≡ Some (first, rest)

begins_as : (e : Event) (xs : Events) → (take_event e xs ≡ None) ⊎ BeginsAs e xs
begins_as e [] = inl refl
begins_as e (x ∷ xs) = by_test (same_event e x.event) _
    (λ same. inr (record { first = x; rest = xs; is = refl; same = same; found = ap (λ (t : Bool). cond t (Some (x, xs)) None) same }))
    (λ other. inl (ap (λ (t : Bool). cond t (Some (x, xs)) None) other))

-- The stage is an Aim that was refused.
pub record StageRefused (n : ℕ) (a : Access) (xs ys : Events) : Type 0 where
  pub aim : LoggedEvent
  pub is : xs ≡ aim ∷ ys
  pub refused : IsRefusedAim n a aim

-- The stage is a submission, and what follows it.
pub record StageSubmitted (n max u : ℕ) (a : Access) (go : Go) (xs ys : Events) : Type 0 where
  pub before : Events
  pub last : LoggedEvent
  pub rest : Events
  pub is : xs ≡ before ++ last ∷ rest
  pub submission : IsSubmission u n a before last
  pub piece : stage_piece n max u go (Some (last, rest)) ≡ Some ys

nothing_first : (ys : Events) (o : Option Events) → o ≡ None → o ≡ Some ys → ⊥
nothing_first ys o a b = let n : None ≡ Some ys = sym a ∙ b in cc

pub stage_begins : (n max u : ℕ) (a : Access) (go : Go) (xs ys : Events) → one_stage n max u a go xs ≡ Some ys → StageRefused n a xs ys ⊎ StageSubmitted n max u a go xs ys
stage_begins n max u a go xs ys h = by_test (is_narrow a) _ narrow wide
  where
    narrow : is_narrow a ≡ true → StageRefused n a xs ys ⊎ StageSubmitted n max u a go xs ys
    narrow w =
        let e : Event = events.Submit u n a in
        let there : stage_piece n max u go (take_event e xs) ≡ Some ys = subst (λ (z : Bool). by_width z n max u a go xs ≡ Some ys) w h in
        ⊎_elim
        (λ (none : take_event e xs ≡ None). absurd (nothing_first ys (stage_piece n max u go (take_event e xs)) (ap (stage_piece n max u go) none) there))
        (λ (b : BeginsAs e xs). inr (record {
          before = [];
          last = b.first;
          rest = b.rest;
          is = b.is;
          submission = inl (record { narrow = w; alone = refl; event = same_event_is (events.Submit u n a) b.first.event b.same });
          piece = sym (ap (stage_piece n max u go) b.found) ∙ there;
        }))
        (begins_as e xs)

    second : is_narrow a ≡ false → (b : BeginsAs (events.Aim n a.addr) xs) → is_aimed b.first.reply ≡ true → stage_piece n max u go (take_event (wide_event u n a) b.rest) ≡ Some ys → StageRefused n a xs ys ⊎ StageSubmitted n max u a go xs ys
    second w b aimed there =
        let e : Event = wide_event u n a in
        ⊎_elim
        (λ (none : take_event e b.rest ≡ None). absurd (nothing_first ys (stage_piece n max u go (take_event e b.rest)) (ap (stage_piece n max u go) none) there))
        (λ (c : BeginsAs e b.rest). inr (record {
          before = b.first ∷ [];
          last = c.first;
          rest = c.rest;
          is = b.is ∙ ap (λ (l : Events). b.first ∷ l) c.is;
          submission = inr (record {
            wide = w;
            aim = b.first;
            after_aim = refl;
            aims = same_event_is (events.Aim n a.addr) b.first.event b.same;
            aimed = aimed_reply b.first.reply aimed;
            event = same_event_is (events.Wide u n a.rrid a.kind a.len) c.first.event c.same;
          });
          piece = sym (ap (stage_piece n max u go) c.found) ∙ there;
        }))
        (begins_as e b.rest)
      where
        aimed_reply : (r : Reply) → is_aimed r ≡ true → r ≡ replies.Aimed
        aimed_reply replies.Aimed h = refl
        aimed_reply _ h = absurd (let n : false ≡ true = h in cc)

    wide : is_narrow a ≡ false → StageRefused n a xs ys ⊎ StageSubmitted n max u a go xs ys
    wide w =
        let e : Event = events.Aim n a.addr in
        let there : aimed_piece n max u go (wide_event u n a) (take_event e xs) ≡ Some ys = subst (λ (z : Bool). by_width z n max u a go xs ≡ Some ys) w h in
        ⊎_elim
        (λ (none : take_event e xs ≡ None). absurd (nothing_first ys (aimed_piece n max u go (wide_event u n a) (take_event e xs)) (ap (aimed_piece n max u go (wide_event u n a)) none) there))
        (λ (b : BeginsAs e xs).
        let after : if_aimed (is_aimed b.first.reply) n max u a go b.rest ≡ Some ys = sym (ap (aimed_piece n max u go (wide_event u n a)) b.found) ∙ there in
        by_test (is_aimed b.first.reply) _
        (λ aimed. second w b aimed (subst (λ (z : Bool). if_aimed z n max u a go b.rest ≡ Some ys) aimed after))
        (λ refused.
        let left : Some b.rest ≡ Some ys = subst (λ (z : Bool). if_aimed z n max u a go b.rest ≡ Some ys) refused after in
        let same : b.rest ≡ ys = cc in
        inl (record { aim = b.first; is = b.is ∙ ap (λ (l : Events). b.first ∷ l) same; refused = record { wide = w; aims = same_event_is (events.Aim n a.addr) b.first.event b.same; refused = refused } })))
        (begins_as e xs)
