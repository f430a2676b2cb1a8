-- Each unit of a history goes its own way, and the reply at a place is its unit's.
use Rattle.std.proofs.Common.{◌≡◌, ℕ, suc, zero, ◌+◌, ◌^◌, nat_le, cond, eqb, Bool, true, false, List, [], ◌∷◌, Option, Some, None, set, refl, sym, ap, ◌∙◌, ⊎_elim}
use Rattle.std.specs.Prelude.{slice_get, option_map, option_and_then, IfSome}
use Rattle.event_words.specs.declared.access.Access.{Access}
use Rattle.event_words.specs.declared.event.Event.TheVariants.{RegWrite, RegRead, Submit, Judge, Aim, Wide}
use Rattle.unit_core.specs.Submissions.{SubmittedAccess, submitted}
use Rattle.unit_core.specs.Submitted.{IsSubmission, taken_at}
use Rattle.std.proofs.lemmas.Bool.{cases_eq, eq-eqb, ne_eqb, cond-true, cond-false, cond_both, eqb-true}
use Rattle.std.proofs.lemmas.Option.{slice_get-map}
use Rattle.std.proofs.lemmas.Iterator.Adapters.{option_map_id}
use Rattle.event_words.specs.declared.shape.Shape.{Shape}
use Rattle.event_words.specs.declared.event.Event.{Event}
use Rattle.event_words.specs.declared.reply.Reply.{Reply}
use Rattle.event_words.specs.declared.reply.Reply.TheVariants as replies
use Rattle.event_words.specs.Events.{unit_of}
use Rattle.unit_core.specs.Units.{UnitState, unit_at_reset, unit_step, step_at, step_on, taken_step, taken_as, wide_access, submission_of, event_step}
use Rattle.unit_core.specs.Histories.{History, after_event, units_at, aims_at, state_at, event_at, reply_at}

-- ---- one unit by itself

-- whether an event speaks of unit u
abbrev pub speaks_of : ℕ → Option ℕ → Bool
speaks_of u None = false
speaks_of u (Some v) = eqb v u

speaks-some : (u : ℕ) (o : Option ℕ) → speaks_of u o ≡ true → o ≡ Some u
speaks-some u None t = absurd (let n : false ≡ true = t in cc)
speaks-some u (Some v) t = ap (λ n. Some n) (eqb-true v u t)

some-speaks : (u : ℕ) (o : Option ℕ) → o ≡ Some u → speaks_of u o ≡ true
some-speaks u o q = ap (speaks_of u) q ∙ eq-eqb u u refl

pub else-silent : (u : ℕ) (o : Option ℕ) → (o ≡ Some u → ⊥) → speaks_of u o ≡ false
else-silent u None ne = refl
else-silent u (Some v) ne = ne_eqb v u (λ q. ne (ap (λ n. Some n) q))

by_speaking : {A : Type 0} (u : ℕ) (o : Option ℕ) → (o ≡ Some u → A) → ((o ≡ Some u → ⊥) → A) → A
by_speaking u None is isnt = isnt (λ q. let n : None ≡ Some u = q in cc)
by_speaking u (Some v) is isnt = ⊎_elim (λ (q : v ≡ u). is (ap (λ n. Some n) q)) (λ (ne : v ≡ u → ⊥). isnt (λ q. let n : v ≡ u = cc in ne n)) (cases_eq v u)

abbrev pub own_step : ℕ → ℕ → UnitState → Option Event → UnitState
own_step k u x None = x
own_step k u x (Some e) = cond (speaks_of u (unit_of e)) (unit_step k x e).0 x

-- unit u, of this shape, before the event at place k
abbrev pub own_state : History → ℕ → Shape → ℕ → UnitState
own_state h u shape zero = unit_at_reset shape
own_state h u shape (suc k) = own_step k u (own_state h u shape k) (taken_at h k)

get_set_same : {X : Type 0} (xs : List X) (i : ℕ) (x y : X) → slice_get xs i ≡ Some x → slice_get (set xs i y) i ≡ Some y
get_set_same [] i x y e = absurd (let n : None ≡ Some x = e in cc)
get_set_same (z ∷ xs) zero x y e = refl
get_set_same (z ∷ xs) (suc i) x y e = get_set_same xs i x y e

get_set_other : {X : Type 0} (xs : List X) (i j : ℕ) (y : X) → (i ≡ j → ⊥) → slice_get (set xs i y) j ≡ slice_get xs j
get_set_other [] i j y ne = refl
get_set_other (z ∷ xs) zero zero y ne = absurd (ne refl)
get_set_other (z ∷ xs) zero (suc j) y ne = refl
get_set_other (z ∷ xs) (suc i) zero y ne = refl
get_set_other (z ∷ xs) (suc i) (suc j) y ne = get_set_other xs i j y (λ e. ne (ap suc e))

at_own : (k u : ℕ) (e : Event) (o : Option UnitState) → unit_of e ≡ Some u → option_map (λ x. own_step k u x (Some e)) o ≡ option_map (λ x. (unit_step k x e).0) o
at_own k u e None q = refl
at_own k u e (Some x) q = ap (λ y. Some y) (cond-true (speaks_of u (unit_of e)) (unit_step k x e).0 x (some-speaks u (unit_of e) q))

at_other : (k u : ℕ) (e : Event) (o : Option UnitState) → (unit_of e ≡ Some u → ⊥) → option_map (λ x. own_step k u x (Some e)) o ≡ o
at_other k u e None q = refl
at_other k u e (Some x) q = ap (λ y. Some y) (cond-false (speaks_of u (unit_of e)) (unit_step k x e).0 x (else-silent u (unit_of e) q))

own_stepped : (k u : ℕ) (us : List UnitState) (e : Event) (o : Option UnitState) → slice_get us u ≡ o → slice_get (step_at k us e u o).0 u ≡ option_map (λ x. (unit_step k x e).0) o
own_stepped k u us e None q = q
own_stepped k u us e (Some x) q = get_set_same us u x _ q

other_at : (k u v : ℕ) (us : List UnitState) (e : Event) (o : Option UnitState) → (v ≡ u → ⊥) → slice_get (step_at k us e v o).0 u ≡ slice_get us u
other_at k u v us e None s = refl
other_at k u v us e (Some x) s = get_set_other us v u _ s

other_stepped : (k u : ℕ) (us : List UnitState) (e : Event) (o : Option ℕ) → (o ≡ Some u → ⊥) → slice_get (step_on k us e o).0 u ≡ slice_get us u
other_stepped k u us e None s = refl
other_stepped k u us e (Some v) s = other_at k u v us e (slice_get us v) (λ q. s (ap (λ n. Some n) q))

taken_stepped : (k u : ℕ) (us : List UnitState) (o : Option Event) → slice_get (taken_step k us o).0 u ≡ option_map (λ x. own_step k u x o) (slice_get us u)
taken_stepped k u us None = sym (option_map_id (slice_get us u))
taken_stepped k u us (Some e) = by_speaking u (unit_of e)
    (λ s. ap (λ o. slice_get (step_on k us e o).0 u) s ∙ own_stepped k u us e (slice_get us u) refl ∙ sym (at_own k u e (slice_get us u) s))
    (λ s. other_stepped k u us e (unit_of e) s ∙ sym (at_other k u e (slice_get us u) s))

stepped : (k u : ℕ) (aims : List ℕ) (us : List UnitState) (o : Option Event) → slice_get (after_event k aims us o) u ≡ option_map (λ x. own_step k u x (option_and_then (taken_as aims) o)) (slice_get us u)
stepped k u aims us None = sym (option_map_id (slice_get us u))
stepped k u aims us (Some (RegWrite v c i n)) = taken_stepped k u us (Some (RegWrite v c i n))
stepped k u aims us (Some (RegRead v c i)) = taken_stepped k u us (Some (RegRead v c i))
stepped k u aims us (Some (Submit v c a)) = taken_stepped k u us (Some (Submit v c a))
stepped k u aims us (Some (Judge v c p)) = taken_stepped k u us (Some (Judge v c p))
stepped k u aims us (Some (Aim c addr)) = sym (option_map_id (slice_get us u))
stepped k u aims us (Some (Wide v c rrid kind len)) = taken_stepped k u us (taken_as aims (Wide v c rrid kind len))

map_again : {X Y Z : Type 0} (f : Y → Z) (g : X → Y) (o : Option X) → option_map f (option_map g o) ≡ option_map (λ x. f (g x)) o
map_again f g None = refl
map_again f g (Some x) = refl

-- Each unit goes its own way.
pub own : (h : History) (u k : ℕ) → state_at h k u ≡ option_map (λ shape. own_state h u shape k) (slice_get h.shapes u)
own h u zero = slice_get-map unit_at_reset h.shapes u
own h u (suc k) =
    stepped k u (aims_at h k) (units_at h k) (slice_get h.events k)
    ∙ ap (option_map (λ x. own_step k u x (taken_at h k))) (own h u k)
    ∙ map_again _ _ (slice_get h.shapes u)

-- What holds of each unit by itself.
pub of_each : (P : UnitState → Type 0) (h : History) (u k : ℕ) → ((shape : Shape) → slice_get h.shapes u ≡ Some shape → P (own_state h u shape k)) → IfSome (state_at h k u) P
of_each P h u k each = rw (own h u k) (some_of (slice_get h.shapes u) refl)
  where
    some_of : (o : Option Shape) → slice_get h.shapes u ≡ o → IfSome (option_map (λ shape. own_state h u shape k) o) P
    some_of None e = tt
    some_of (Some shape) e = each shape e

pub shape_there : (h : History) (u k : ℕ) (x : UnitState) → state_at h k u ≡ Some x → (shape : Shape) × (slice_get h.shapes u ≡ Some shape) × (own_state h u shape k ≡ x)
shape_there h u k x e = there (slice_get h.shapes u) refl (sym (own h u k) ∙ e)
  where
    there : (o : Option Shape) → slice_get h.shapes u ≡ o → option_map (λ shape. own_state h u shape k) o ≡ Some x → (shape : Shape) × (slice_get h.shapes u ≡ Some shape) × (own_state h u shape k ≡ x)
    there None q e = absurd (let n : None ≡ Some x = e in cc)
    there (Some shape) q e = (shape, q, cc)

pub own_next : (P : UnitState → Type 0) (k u : ℕ) (x : UnitState) (o : Option Event) → (((e : Event) → o ≡ Some e → unit_of e ≡ Some u → ⊥) → P x) → ((e : Event) → o ≡ Some e → unit_of e ≡ Some u → P (unit_step k x e).0) → P (own_step k u x o)
own_next P k u x None stays each = stays (λ e q t. let n : None ≡ Some e = q in cc)
own_next P k u x (Some e) stays each =
    cond_both (speaks_of u (unit_of e)) (unit_step k x e).0 x P (λ t. each e refl (speaks-some u (unit_of e) t))
    (λ t. stays (λ f q s. let d : e ≡ f = cc in let y : speaks_of u (unit_of e) ≡ true = some-speaks u (unit_of e) (ap unit_of d ∙ s) in let n : true ≡ false = sym y ∙ t in cc))

-- What holds at reset and is kept by each event on the unit holds before each event.
pub own_induction : (P : ℕ → UnitState → Type 0) (h : History) (u : ℕ) (shape : Shape) → P 0 (unit_at_reset shape)
    → ((k : ℕ) (x : UnitState) → P k x → P (suc k) x)
    → ((k : ℕ) (x : UnitState) (e : Event) → taken_at h k ≡ Some e → unit_of e ≡ Some u → P k x → P (suc k) (unit_step k x e).0) → (k : ℕ) → P k (own_state h u shape k)
own_induction P h u shape first stays each zero = first
own_induction P h u shape first stays each (suc k) =
    let x = own_state h u shape k in
    let before = own_induction P h u shape first stays each k in
    own_next (P (suc k)) k u x (taken_at h k) (λ n. stays k x before) (λ e q t. each k x e q t before)

pub own_at : (h : History) (u k : ℕ) (shape : Shape) → slice_get h.shapes u ≡ Some shape → state_at h k u ≡ Some (own_state h u shape k)
own_at h u k shape q = own h u k ∙ ap (option_map (λ shape. own_state h u shape k)) q

-- ---- replies

reply_by : (k : ℕ) (aims : List ℕ) (us : List UnitState) (o : Option Event) (e : Event) → option_and_then (taken_as aims) o ≡ Some e → option_map (λ d. (event_step k aims us d).1) o ≡ Some (taken_step k us (Some e)).1
reply_by k aims us None e q = absurd (let n : None ≡ Some e = q in cc)
reply_by k aims us (Some (RegWrite v c i n)) e q = ap (λ o. Some (taken_step k us o).1) q
reply_by k aims us (Some (RegRead v c i)) e q = ap (λ o. Some (taken_step k us o).1) q
reply_by k aims us (Some (Submit v c a)) e q = ap (λ o. Some (taken_step k us o).1) q
reply_by k aims us (Some (Judge v c p)) e q = ap (λ o. Some (taken_step k us o).1) q
reply_by k aims us (Some (Aim c addr)) e q = absurd (let n : None ≡ Some e = q in cc)
reply_by k aims us (Some (Wide v c rrid kind len)) e q = ap (λ o. Some (taken_step k us o).1) q

-- The reply at a place is that to the event as its unit takes it.
reply_taken : (h : History) (k : ℕ) (e : Event) → taken_at h k ≡ Some e → reply_at h k ≡ Some (step_on k (units_at h k) e (unit_of e)).1
reply_taken h k e q = reply_by k (aims_at h k) (units_at h k) (event_at h k) e q

reply_on : (h : History) (k : ℕ) (e : Event) (u : ℕ) (o : Option UnitState) → taken_at h k ≡ Some e → unit_of e ≡ Some u → state_at h k u ≡ o → reply_at h k ≡ Some (step_at k (units_at h k) e u o).1
reply_on h k e u o p q s =
    reply_taken h k e p ∙ ap (λ v. Some (step_on k (units_at h k) e v).1) q ∙ ap (λ o. Some (step_at k (units_at h k) e u o).1) s

pub some_same : (a b : Reply) → Some a ≡ Some b → a ≡ b
some_same a b e = cc

-- The reply to an event that a unit takes is the unit's.
pub reply_is : (h : History) (k : ℕ) (e : Event) (u : ℕ) (r : Reply) (x : UnitState) → unit_of e ≡ Some u → taken_at h k ≡ Some e → reply_at h k ≡ Some r → state_at h k u ≡ Some x → (unit_step k x e).1 ≡ r
reply_is h k e u r x w p q s = some_same _ r (sym (reply_on h k e u (Some x) p w s) ∙ q)

pub reply_of : (h : History) (k : ℕ) (e : Event) (u : ℕ) (x : UnitState) → unit_of e ≡ Some u → taken_at h k ≡ Some e → state_at h k u ≡ Some x → reply_at h k ≡ Some (unit_step k x e).1
reply_of h k e u x w p s = reply_on h k e u (Some x) p w s

pub reply_none : (h : History) (k : ℕ) (e : Event) (u : ℕ) → unit_of e ≡ Some u → taken_at h k ≡ Some e → state_at h k u ≡ None → reply_at h k ≡ Some replies.NoSuch
reply_none h k e u w p s = reply_on h k e u None p w s

-- ---- events as their units take them

-- Only a Wide is taken as another event, and an Aim isn't taken at all.
pub as_it_is : (h : History) (k : ℕ) (e : Event) → taken_as (aims_at h k) e ≡ Some e → event_at h k ≡ Some e → taken_at h k ≡ Some e
as_it_is h k e t q = ap (option_and_then (taken_as (aims_at h k))) q ∙ t

some_event : (a b : Event) → Some a ≡ Some b → a ≡ b
some_event a b e = cc

by_length : (aims : List ℕ) (unit caller : ℕ) (a : Access) (e : Event) → submission_of unit caller a ≡ Some e → submitted e ≡ None → ⊥
by_length aims unit caller a e q n =
    cond_both (nat_le (a.addr + a.len) (2 ^ 52)) (Some (Submit unit caller a)) None (λ o. o ≡ Some e → ⊥)
    (λ t s. let m : None ≡ submitted (Submit unit caller a) = sym n ∙ ap submitted (sym (some_event (Submit unit caller a) e s)) in cc)
    (λ t s. let m : None ≡ Some e = s in cc) q

untaken : (aims : List ℕ) (o : Option Event) (e : Event) → submitted e ≡ None → option_and_then (taken_as aims) o ≡ Some e → o ≡ Some e
untaken aims None e n q = absurd (let m : None ≡ Some e = q in cc)
untaken aims (Some (RegWrite v c i m)) e n q = q
untaken aims (Some (RegRead v c i)) e n q = q
untaken aims (Some (Submit v c a)) e n q = q
untaken aims (Some (Judge v c p)) e n q = q
untaken aims (Some (Aim c addr)) e n q = absurd (let m : None ≡ Some e = q in cc)
untaken aims (Some (Wide v c rrid kind len)) e n q = absurd (by_length aims v c (wide_access aims c rrid kind len) e q n)

-- What is taken and is no submission stands in the history as it is.
pub event_taken : (h : History) (k : ℕ) (e : Event) → submitted e ≡ None → taken_at h k ≡ Some e → event_at h k ≡ Some e
event_taken h k e n q = untaken (aims_at h k) (event_at h k) e n q

answer_by : (k : ℕ) (aims : List ℕ) (us : List UnitState) (o : Option Event) (r : Reply) → option_map (λ d. (event_step k aims us d).1) o ≡ Some r → (r ≡ replies.NoSuch → ⊥) → (r ≡ replies.Aimed → ⊥)
    → (e : Event) × (option_and_then (taken_as aims) o ≡ Some e)
answer_by k aims us None r q n m = absurd (let x : None ≡ Some r = q in cc)
answer_by k aims us (Some (RegWrite v c i w)) r q n m = (_, refl)
answer_by k aims us (Some (RegRead v c i)) r q n m = (_, refl)
answer_by k aims us (Some (Submit v c a)) r q n m = (_, refl)
answer_by k aims us (Some (Judge v c p)) r q n m = (_, refl)
answer_by k aims us (Some (Aim c addr)) r q n m = absurd (m (sym (some_same replies.Aimed r q)))
answer_by k aims us (Some (Wide v c rrid kind len)) r q n m = by_taken (taken_as aims (Wide v c rrid kind len)) refl
  where
    by_taken : (o : Option Event) → taken_as aims (Wide v c rrid kind len) ≡ o → (e : Event) × (taken_as aims (Wide v c rrid kind len) ≡ Some e)
    by_taken None t = absurd (n (sym (some_same replies.NoSuch r (ap (λ o. Some (taken_step k us o).1) (sym t) ∙ q))))
    by_taken (Some e) t = (e, t)

-- A place whose reply is neither NoSuch nor Aimed has an event that a unit takes.
pub event_of : (h : History) (k : ℕ) (r : Reply) → reply_at h k ≡ Some r → (r ≡ replies.NoSuch → ⊥) → (r ≡ replies.Aimed → ⊥) → (e : Event) × (taken_at h k ≡ Some e)
event_of h k r q n m = answer_by k (aims_at h k) (units_at h k) (event_at h k) r q n m

-- An event whose reply isn't NoSuch has a unit.
pub record HasUnit (h : History) (e : Event) : Type 0 where
  pub unit : ℕ
  pub shape : Shape
  pub speaks : unit_of e ≡ Some unit
  pub there : slice_get h.shapes unit ≡ Some shape

pub answered_shape : (h : History) (k : ℕ) (e : Event) (r : Reply) → taken_at h k ≡ Some e → reply_at h k ≡ Some r → (r ≡ replies.NoSuch → ⊥) → HasUnit h e
answered_shape h k e r p q ne = by_unit (unit_of e) refl
  where
    by_shape : (u : ℕ) (o : Option Shape) → unit_of e ≡ Some u → slice_get h.shapes u ≡ o → HasUnit h e
    by_shape u None w s = absurd (let n = sym q ∙ reply_none h k e u w p (own h u k ∙ ap (option_map (λ shape. own_state h u shape k)) s) in ne cc)
    by_shape u (Some shape) w s = record { unit = u; shape = shape; speaks = w; there = s }

    by_unit : (o : Option ℕ) → unit_of e ≡ o → HasUnit h e
    by_unit None w = absurd (let n = sym q ∙ (reply_taken h k e p ∙ ap (λ v. Some (step_on k (units_at h k) e v).1) w) in ne cc)
    by_unit (Some u) w = by_shape u (slice_get h.shapes u) w refl

-- ---- submissions

abbrev submitting : ℕ → ℕ → Access → SubmittedAccess
submitting u c a = record { unit = u; caller = c; access = a }

event_submitted : (o : Option Event) (u c : ℕ) (a : Access) → option_and_then submitted o ≡ Some (submitting u c a) → o ≡ Some (Submit u c a)
event_submitted None u c a e = absurd (let n : None ≡ Some (submitting u c a) = e in cc)
event_submitted (Some (RegWrite v d i n)) u c a e = absurd (let n : None ≡ Some (submitting u c a) = e in cc)
event_submitted (Some (RegRead v d i)) u c a e = absurd (let n : None ≡ Some (submitting u c a) = e in cc)
event_submitted (Some (Submit v d b)) u c a e =
    let n : Some (submitting v d b) ≡ Some (submitting u c a) = e in
    let same : submitting v d b ≡ submitting u c a = cc in
    ap (λ (s : SubmittedAccess). Some (Submit s.unit s.caller s.access)) same
event_submitted (Some (Judge v d p)) u c a e = absurd (let n : None ≡ Some (submitting u c a) = e in cc)
event_submitted (Some (Aim d addr)) u c a e = absurd (let n : None ≡ Some (submitting u c a) = e in cc)
event_submitted (Some (Wide v d rrid kind len)) u c a e = absurd (let n : None ≡ Some (submitting u c a) = e in cc)

-- A submission is taken as a Submit, and what is taken as a Submit is one.
pub submit_of : (h : History) (k u c : ℕ) (a : Access) → IsSubmission h k u c a → taken_at h k ≡ Some (Submit u c a)
submit_of h k u c a e = event_submitted (taken_at h k) u c a e

pub submission_taken : (h : History) (k u c : ℕ) (a : Access) → taken_at h k ≡ Some (Submit u c a) → IsSubmission h k u c a
submission_taken h k u c a e = ap (option_and_then submitted) e
