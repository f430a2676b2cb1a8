-- For the crates above: how the event that decides stands among the events of a chain. It is an aim that
-- was refused, a submission that wasn't taken, or the last of the judgements of one that was, all held
-- before it.
use Rattle.std.proofs.Common.{◌≡◌, ℕ, suc, ◌<◌, ◌≤◌, Bool, true, false, cond, List, [], ◌∷◌, ◌++◌, length, get_or, Option, Some, None, refl, sym, ap, ◌∙◌, subst, arith, append_assoc, append-nil, ◌⊎◌, inl, inr, ⊎_elim}
use Rattle.event_words.specs.declared.access.Access.{Access}
use Rattle.event_words.specs.declared.event.Event.TheVariants as events
use Rattle.event_words.specs.declared.reply.Reply.{Reply}
use Rattle.event_words.specs.declared.record.LoggedEvent.{LoggedEvent}
use Rattle.event_words.specs.Records.{is_taken, judgements, next_requester, stage_following, stage_judged, through_stages}
use Rattle.event_words.proofs.Cases.{by_test}
use Rattle.cascade_path.specs.Stages.{IsSubmission, IsRefusedAim}
use Rattle.cascade_path.proofs.Submitting.{Events, Go, StageRefused, StageSubmitted, stage_begins}
use Rattle.cascade_path.proofs.Turns.{AreJudgements, BeginsWithJudgements, begins_with_judgements}

-- The last event is an aim, which was refused.
pub record EndsUnaimed (caller : ℕ) (access : Access) (made earlier : Events) : Type 0 where
  pub aim : LoggedEvent
  pub is : made ≡ earlier ++ aim ∷ []
  pub refused : IsRefusedAim caller access aim

-- The last event is the submission, which wasn't taken.
pub record EndsRefused (unit caller : ℕ) (access : Access) (made earlier : Events) : Type 0 where
  pub before : Events
  pub last : LoggedEvent
  pub is : made ≡ earlier ++ (before ++ last ∷ [])
  pub submission : IsSubmission unit caller access before last
  pub refused : is_taken last.reply ≡ false

-- The last event is the last judgement of the submission, which was taken.
pub record EndsJudged (unit caller : ℕ) (access : Access) (made earlier : Events) : Type 0 where
  pub before : Events
  pub last : LoggedEvent
  pub judged : Events
  pub is : made ≡ earlier ++ (before ++ last ∷ judged)
  pub submission : IsSubmission unit caller access before last
  pub taken : is_taken last.reply ≡ true
  pub reply : Reply
  pub are : AreJudgements unit caller last.place reply judged

abbrev pub Ends : ℕ → ℕ → Access → Events → Events → Type 0
Ends unit caller access made earlier = EndsUnaimed caller access made earlier ⊎ (EndsRefused unit caller access made earlier ⊎ EndsJudged unit caller access made earlier)

abbrev pub borne_by : Access → ℕ → Access
borne_by access requester = record access { rrid = requester }

-- The last stage that was reached: its place among the stages, the requester that it bears, and the
-- events of the stages before it.
pub record LastStage (caller : ℕ) (access : Access) (stages : List ℕ) (made : Events) : Type 0 where
  pub stage : ℕ
  pub below : stage < length stages
  pub requester : ℕ
  pub earlier : Events
  pub ends : Ends (get_or stages stage 0) caller (borne_by access requester) made earlier

-- the first stage
only_stage : (c : ℕ) (a : Access) (u : ℕ) (us : List ℕ) (rrid : ℕ) (made : Events) → Ends u c (borne_by a rrid) made [] → LastStage c a (u ∷ us) made
only_stage c a u us rrid made e = record { stage = 0; below = omega arith; requester = rrid; earlier = []; ends = e }

-- a stage before
later : (c : ℕ) (a : Access) (u : ℕ) (us : List ℕ) (made first rest : Events) → made ≡ first ++ rest → LastStage c a us rest → LastStage c a (u ∷ us) made
later c a u us made first rest is s = record {
  stage = suc s.stage;
  below = let b = s.below in omega arith;
  requester = s.requester;
  earlier = first ++ s.earlier;
  ends = ends s.ends;
}
  where
    moved : (xs : Events) → rest ≡ s.earlier ++ xs → made ≡ (first ++ s.earlier) ++ xs
    moved xs e = is ∙ ap (λ (l : Events). first ++ l) e ∙ sym (append_assoc first s.earlier xs)

    ends : Ends (get_or us s.stage 0) c (borne_by a s.requester) rest s.earlier → Ends (get_or us s.stage 0) c (borne_by a s.requester) made (first ++ s.earlier)
    ends (inl e) = inl (record { aim = e.aim; is = moved (e.aim ∷ []) e.is; refused = e.refused })
    ends (inr (inl e)) = inr (inl (record { before = e.before; last = e.last; is = moved (e.before ++ e.last ∷ []) e.is; submission = e.submission; refused = e.refused }))
    ends (inr (inr e)) = inr (inr (record {
      before = e.before;
      last = e.last;
      judged = e.judged;
      is = moved (e.before ++ e.last ∷ e.judged) e.is;
      submission = e.submission;
      taken = e.taken;
      reply = e.reply;
      are = e.are;
    }))

pub last_stage_of : (n max : ℕ) (a : Access) (stages : List ℕ) (rrid : ℕ) (made : Events) → 1 ≤ length stages → through_stages n max a stages rrid made ≡ Some [] → LastStage n a stages made
last_stage_of n max a [] rrid made some h = absurd (omega arith)
last_stage_of n max a (u ∷ us) rrid made some h =
    let go : Go = through_stages n max a us in
    ⊎_elim
    (λ (s : StageRefused n (borne_by a rrid) made []). only_stage n a u us rrid made (inl (record { aim = s.aim; is = s.is; refused = s.refused })))
    (λ (s : StageSubmitted n max u (borne_by a rrid) go made []). submitted (λ requester ys any k. last_stage_of n max a us requester ys any k) s)
    (stage_begins n max u (borne_by a rrid) go made [] h)
  where
    Again : Type 0
    Again = (requester : ℕ) (ys : Events) → 1 ≤ length us → through_stages n max a us requester ys ≡ Some [] → LastStage n a us ys

    Begun : Type 0
    Begun = StageSubmitted n max u (borne_by a rrid) (through_stages n max a us) made []

    refused_here : (s : Begun) → is_taken s.last.reply ≡ false → s.rest ≡ [] → LastStage n a (u ∷ us) made
    refused_here s refused none = only_stage n a u us rrid made (inr (inl (record {
      before = s.before;
      last = s.last;
      is = s.is ∙ ap (λ (l : Events). s.before ++ s.last ∷ l) none;
      submission = s.submission;
      refused = refused;
    })))

    judged_here : (s : Begun) → is_taken s.last.reply ≡ true → (r : Reply) (ys : Events) → BeginsWithJudgements u n s.last.place r s.rest ys → ys ≡ [] → LastStage n a (u ∷ us) made
    judged_here s taken r ys b none = only_stage n a u us rrid made (inr (inr (record {
      before = s.before;
      last = s.last;
      judged = b.judged;
      is = s.is ∙ ap (λ (l : Events). s.before ++ s.last ∷ l) (b.is ∙ ap (λ (l : Events). b.judged ++ l) none ∙ append-nil b.judged);
      submission = s.submission;
      taken = taken;
      reply = r;
      are = b.are;
    })))

    next : Again → (s : Begun) → is_taken s.last.reply ≡ true → (r : Reply) (ys : Events) → BeginsWithJudgements u n s.last.place r s.rest ys → (o : Option ℕ) (vs : List ℕ) → us ≡ vs → stage_following (through_stages n max a vs) o ys ≡ Some [] → LastStage n a (u ∷ us) made
    next again s taken r ys b None vs same h = let left : Some ys ≡ Some [] = h in judged_here s taken r ys b (cc)
    next again s taken r ys b (Some requester) [] same h = let left : Some ys ≡ Some [] = h in judged_here s taken r ys b (cc)
    next again s taken r ys b (Some requester) (v ∷ vs) same h =
        let longer : 1 ≤ length us = let l = ap length same in omega arith in
        let rest : LastStage n a us ys = again requester ys longer (subst (λ (l : List ℕ). through_stages n max a l requester ys ≡ Some []) (sym same) h) in
        later n a u us made (s.before ++ s.last ∷ b.judged) ys (s.is ∙ ap (λ (l : Events). s.before ++ s.last ∷ l) b.is ∙ sym (append_assoc s.before (s.last ∷ b.judged) ys)) rest

    judged : Again → (s : Begun) → is_taken s.last.reply ≡ true → (o : Option (Reply × Events)) → judgements max (events.Judge u n s.last.place) s.rest ≡ o → stage_judged (through_stages n max a us) o ≡ Some [] → LastStage n a (u ∷ us) made
    judged again s taken None is h = absurd (let z : None ≡ Some [] = h in cc)
    judged again s taken (Some (r, ys)) is h = next again s taken r ys (begins_with_judgements max u n s.last.place r s.rest ys is) (next_requester r) us refl h

    submitted : Again → Begun → LastStage n a (u ∷ us) made
    submitted again s =
        let go : Go = through_stages n max a us in
        let j : Option (Reply × Events) = judgements max (events.Judge u n s.last.place) s.rest in
        by_test (is_taken s.last.reply) _
        (λ taken. judged again s taken j refl (subst (λ (t : Bool). cond t (stage_judged go j) (Some s.rest) ≡ Some []) taken s.piece))
        (λ refused. let left : Some s.rest ≡ Some [] = subst (λ (t : Bool). cond t (stage_judged go j) (Some s.rest) ≡ Some []) refused s.piece in refused_here s refused (cc))
