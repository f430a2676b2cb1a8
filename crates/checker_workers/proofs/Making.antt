-- What a call makes: one event, whose reply is that of its unit.
use Rattle.std.proofs.Common.{◌≡◌, ℕ, suc, ◌<◌, ◌≤◌, Bool, true, false, List, [], ◌∷◌, ◌++◌, length, get_or, Option, Some, None, refl, sym, ap, ◌∙◌, subst, arith}
use Rattle.std.specs.Prelude.{slice_get, nat_lt, not, if◌then◌else◌}
use Rattle.std.proofs.lemmas.List.{length-map, length-set}
use Rattle.std.proofs.lemmas.Option.{slice_get-get_or}
use Rattle.event_words.specs.declared.access.Access.{Access}
use Rattle.event_words.specs.declared.event.Event.{Event}
use Rattle.event_words.specs.declared.event.Event.TheVariants as events
use Rattle.event_words.specs.declared.reply.Reply.{Reply}
use Rattle.event_words.specs.declared.reply.Reply.TheVariants as replies
use Rattle.event_words.specs.declared.register.Register.TheVariants.{ErrCfg}
use Rattle.event_words.specs.Events.{unit_of, caller_of}
use Rattle.event_words.specs.Guards.{reg}
use Rattle.event_words.specs.Registers.{has_bit}
use Rattle.event_words.specs.Valid.{IsValidEvent}
use Rattle.event_words.specs.Word.{word_of, event_of_word}
use Rattle.event_words.specs.Runs.{run_from}
use Rattle.event_words.proofs.Runs.{event_of_word-word_of}
use Rattle.unit_core.specs.Units.{UnitState, FabricState, unit_at_reset, unit_step, event_step, taken_as, taken_step, step_at, step_on, fabric_step, decoded_step, submit_step, is_stalled, queue_length, opened, denied, stall_denial}
use Rattle.unit_core.specs.Fabrics.{state_after_word, reply_to_word}
use Rattle.shared_log.specs.Callers.{AfterCall}
use Rattle.shared_log.proofs.Histories.{own_events-after-call}
use Rattle.checker_workers.specs.Ports.{PortView, IsAtReset, MakesEvent, port_events, logged_at, state_after, units_after, unit_count, is_value}
use Rattle.checker_workers.specs.Tickets.{is_submit_reply}

pub few_units : (s : FabricState) → IsAtReset s → length s.units ≤ 4
few_units s r = let few = r.few in let e = ap (λ (x : FabricState). length x.units) r.is in omega (arith, length-map r.shapes unit_at_reset)

pub reply_of_event : (k : ℕ) (s : FabricState) (e : Event) → IsValidEvent e → reply_to_word s k (word_of e) ≡ (fabric_step k s e).1
reply_of_event k s e valid = ap (λ (o : Option Event). (decoded_step k s o).1) (event_of_word-word_of e valid)

pub makes_event : (p q : PortView) (e : Event) (r : Reply) → AfterCall state_after_word reply_to_word p (word_of e) r q → q.machine.state ≡ state_after q q.log → IsValidEvent e → caller_of e ≡ p.number
    → MakesEvent p e r q
makes_event p q e r call at valid own =
    let words : List ℕ = p.log ++ call.between in record {
      between = call.between;
      others = call.others;
      log = call.log;
      answered = call.answered ∙ reply_of_event (length words) (state_after p words) e valid;
      own = own_events-after-call state_after_word reply_to_word p q e r call valid own;
      replica = at;
      left = call.left;
      same = call.same;
    }

-- ---- no event changes the number of units

step_count : (k : ℕ) (us : List UnitState) (e : Event) (v : ℕ) (o : Option UnitState) → length (step_at k us e v o).0 ≡ length us
step_count k us e v None = refl
step_count k us e v (Some u) = length-set us v (unit_step k u e).0

on_count : (k : ℕ) (us : List UnitState) (e : Event) (o : Option ℕ) → length (step_on k us e o).0 ≡ length us
on_count k us e None = refl
on_count k us e (Some v) = step_count k us e v (slice_get us v)

taken_count : (k : ℕ) (us : List UnitState) (o : Option Event) → length (taken_step k us o).0 ≡ length us
taken_count k us None = refl
taken_count k us (Some e) = on_count k us e (unit_of e)

event_count : (k : ℕ) (aims : List ℕ) (us : List UnitState) (e : Event) → length (event_step k aims us e).0 ≡ length us
event_count k aims us (events.Aim c a) = refl
event_count k aims us (events.RegWrite u c i v) = taken_count k us (taken_as aims (events.RegWrite u c i v))
event_count k aims us (events.RegRead u c i) = taken_count k us (taken_as aims (events.RegRead u c i))
event_count k aims us (events.Submit u c a) = taken_count k us (taken_as aims (events.Submit u c a))
event_count k aims us (events.Judge u c p) = taken_count k us (taken_as aims (events.Judge u c p))
event_count k aims us (events.Wide u c r w n) = taken_count k us (taken_as aims (events.Wide u c r w n))

decoded_count : (k : ℕ) (s : FabricState) (o : Option Event) → length (decoded_step k s o).0.units ≡ length s.units
decoded_count k s None = refl
decoded_count k s (Some e) = event_count k s.aims s.units e

run_count : (k : ℕ) (s : FabricState) (ws : List ℕ) → length (run_from state_after_word k s ws).units ≡ length s.units
run_count k s [] = refl
run_count k s (w ∷ ws) = run_count (suc k) (state_after_word s k w) ws ∙ decoded_count k s (event_of_word w)

-- ---- the unit of an event

-- In a state the event comes to units as another, which may be itself.
abbrev pub ComesAs : ℕ → FabricState → Event → Event → Type 0
ComesAs k s e f = (fabric_step k s e).1 ≡ (step_on k s.units f (unit_of f)).1

-- The unit answers.
pub record Answers (p : PortView) (words : List ℕ) (e : Event) (v : ℕ) (r : Reply) : Type 0 where
  pub unit : UnitState
  pub is : slice_get (units_after p words) v ≡ Some unit
  pub reply : r ≡ (unit_step (length words) unit e).1

pub answers : (p q : PortView) (e f : Event) (v : ℕ) (r : Reply) (m : MakesEvent p e r q) → ComesAs (length (p.log ++ m.between)) (state_after p (p.log ++ m.between)) e f → unit_of f ≡ Some v → v < unit_count p
    → Answers p (p.log ++ m.between) f v r
answers p q e f v r m comes w h =
    let words : List ℕ = p.log ++ m.between in
    let us : List UnitState = units_after p words in
    let d : UnitState = get_or p.first.units v (get_or us 0 (nothing p h)) in
    let is = slice_get-get_or us v d (let n = run_count 0 p.first words in omega arith) in record {
      unit = get_or us v d;
      is = is;
      reply = m.answered ∙ comes ∙ ap (λ (o : Option ℕ). (step_on (length words) us f o).1) w ∙ ap (λ (o : Option UnitState). (step_at (length words) us f v o).1) is;
    }
  where
    nothing : (p : PortView) → v < unit_count p → UnitState
    nothing p h = first_of_list p.first.units h where
      first_of_list : (us : List UnitState) → v < length us → UnitState
      first_of_list [] l = absurd (omega arith)
      first_of_list (u ∷ us) l = u

pub written_value : (k : ℕ) (u : UnitState) (unit caller index value : ℕ) → is_value (unit_step k u (events.RegWrite unit caller index value)).1 ≡ true
written_value k u unit caller index value = refl

-- ---- what a submission may reply

abbrev pub submit_on : ℕ → UnitState → ℕ → Access → Bool → Bool → Bool → UnitState × Reply
submit_on k u c a x y z =
    if x then (opened k c a false u, replies.Passed)
    else (if y then (opened k c a true u, replies.Queued)
    else (if z then (denied u a (stall_denial u), replies.Stalled (stall_denial u)) else (u, replies.Busy)))

submit_by : (k : ℕ) (u : UnitState) (c : ℕ) (a : Access) (x y z : Bool) → is_submit_reply (submit_on k u c a x y z).1 ≡ true
submit_by k u c a true y z = refl
submit_by k u c a false true z = refl
submit_by k u c a false false true = refl
submit_by k u c a false false false = refl

pub submit_reply : (k : ℕ) (u : UnitState) (c : ℕ) (a : Access) → is_submit_reply (submit_step k u c a).1 ≡ true
submit_reply k u c a = submit_by k u c a (not (is_stalled u a.rrid)) (nat_lt (queue_length u) u.registers.shape.queue) (has_bit (reg u.registers ErrCfg) 3)

-- the same event with a reply that is the same
abbrev pub with_reply : (p q : PortView) (e : Event) (r r' : Reply) → MakesEvent p e r q → r ≡ r' → MakesEvent p e r' q
with_reply p q e r r' m is = record {
  between = m.between;
  others = m.others;
  log = m.log;
  answered = sym is ∙ m.answered;
  own = m.own ∙ ap (λ (x : Reply). port_events p ++ logged_at (length (p.log ++ m.between)) e x ∷ []) is;
  replica = m.replica;
  left = m.left;
  same = m.same;
}

-- An Aim is replied so.
pub aimed : (p q : PortView) (caller addr : ℕ) (r : Reply) → MakesEvent p (events.Aim caller addr) r q → caller ≡ p.number → MakesEvent p (events.Aim p.number addr) replies.Aimed q
aimed p q caller addr r m own = subst (λ (n : ℕ). MakesEvent p (events.Aim n addr) replies.Aimed q) own (with_reply p q (events.Aim caller addr) r replies.Aimed m m.answered)
