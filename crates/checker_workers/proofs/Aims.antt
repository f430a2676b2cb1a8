-- Where a caller aims: at the address of the last Aim among its own events. So a port's Wide finds the
-- address of the Aim before it, whatever others did between.
use Rattle.std.proofs.Common.{◌≡◌, ℕ, suc, ◌+◌, ◌^◌, ◌<◌, ◌≤◌, Bool, true, false, cond, List, [], ◌∷◌, ◌++◌, length, set, Option, Some, None, eqb, refl, sym, ap, ◌∙◌, arith}
use Rattle.std.specs.Prelude.{slice_index, if◌then◌else◌}
use Rattle.std.proofs.lemmas.Bool.{eqb-true, eq-eqb, le-leb}
use Rattle.std.proofs.lemmas.List.{get_or-set_same, get_or-set_other, length-replicate}
use Rattle.event_words.specs.declared.access.Access.{Access}
use Rattle.event_words.specs.declared.event.Event.{Event}
use Rattle.event_words.specs.declared.event.Event.TheVariants as events
use Rattle.event_words.specs.declared.reply.Reply.{Reply}
use Rattle.event_words.specs.declared.record.LoggedEvent.{LoggedEvent}
use Rattle.event_words.specs.Events.{caller_of}
use Rattle.event_words.specs.Records.{events_by, wide_event}
use Rattle.event_words.specs.Runs.{run_from, logged_from, logged_first}
use Rattle.event_words.specs.Word.{event_of_word}
use Rattle.event_words.proofs.Runs.{events-of-beginning}
use Rattle.event_words.proofs.Cases.{by_test}
use Rattle.unit_core.specs.Units.{FabricState, aim_of, aims_after, no_aims, submission_of, taken_step, fabric_step, decoded_step}
use Rattle.unit_core.specs.Fabrics.{state_after_word, reply_to_word}
use Rattle.checker_workers.specs.Ports.{PortView, IsAtReset, MakesEvent, port_events, state_after, unit_count}
use Rattle.checker_workers.proofs.Making.{Answers, answers, ComesAs}
use Rattle.history_laws.proofs.AimLaw.{after_len}

abbrev Events : Type 0
Events = List LoggedEvent

-- ---- the last Aim among events

abbrev pub aim_in : ℕ → Event → ℕ
aim_in addr (events.Aim caller next) = next
aim_in addr _ = addr

abbrev pub last_aim : ℕ → Events → ℕ
last_aim addr [] = addr
last_aim addr (x ∷ xs) = last_aim (aim_in addr x.event) xs

last_aim-append : (addr : ℕ) (xs : Events) (x : LoggedEvent) → last_aim addr (xs ++ x ∷ []) ≡ aim_in (last_aim addr xs) x.event
last_aim-append addr [] x = refl
last_aim-append addr (y ∷ ys) x = last_aim-append (aim_in addr y.event) ys x

-- ---- one event

own_aim : (aims : List ℕ) (c : ℕ) (e : Event) → c < length aims → caller_of e ≡ c → aim_of (aims_after aims e) c ≡ aim_in (aim_of aims c) e
own_aim aims c (events.Aim d a) h is = ap (λ (n : ℕ). slice_index (set aims n a) c) is ∙ get_or-set_same aims c a 0 h
own_aim aims c _ h is = refl

other_aim : (aims : List ℕ) (c : ℕ) (e : Event) → (caller_of e ≡ c → ⊥) → aim_of (aims_after aims e) c ≡ aim_of aims c
other_aim aims c (events.Aim d a) ne = get_or-set_other aims d c a 0 (λ s. ne (sym s))
other_aim aims c _ ne = refl

-- ---- words

abbrev logs : ℕ → FabricState → List ℕ → Events
logs k s words = logged_from state_after_word reply_to_word k s words

-- After words a caller aims at its last Aim among its events of them.
abbrev AimsSo : ℕ → ℕ → FabricState → List ℕ → Type 0
AimsSo c k s words = aim_of (run_from state_after_word k s words).aims c ≡ last_aim (aim_of s.aims c) (events_by c (logs k s words))

abbrev Goes : ℕ → ℕ → FabricState → ℕ → List ℕ → Option Event → Type 0
Goes c k s w ws o =
    aim_of (run_from state_after_word (suc k) (decoded_step k s o).0 ws).aims c
    ≡ last_aim (aim_of s.aims c) (events_by c (logged_first k (reply_to_word s k w) o (logs (suc k) (decoded_step k s o).0 ws)))

kept : (c k : ℕ) (s : FabricState) (w : ℕ) (ws : List ℕ) (e : Event) (b : Bool) → eqb (caller_of e) c ≡ b → AimsSo c (suc k) (fabric_step k s e).0 ws
    → aim_of (aims_after s.aims e) c ≡ (if b then aim_in (aim_of s.aims c) e else aim_of s.aims c) → Goes c k s w ws (Some e)
kept c k s w ws e b is rest here =
    let x : LoggedEvent = record { place = k; event = e; reply = reply_to_word s k w } in
    let more : Events = events_by c (logs (suc k) (fabric_step k s e).0 ws) in
    rest ∙ ap (λ (n : ℕ). last_aim n more) here ∙ turned b ∙ ap (λ (t : Bool). last_aim (aim_of s.aims c) (cond t (x ∷ more) more)) (sym is)
  where
    turned : (t : Bool) → last_aim (if t then aim_in (aim_of s.aims c) e else aim_of s.aims c) (events_by c (logs (suc k) (fabric_step k s e).0 ws))
        ≡ last_aim (aim_of s.aims c) (cond t (record { place = k; event = e; reply = reply_to_word s k w } ∷ events_by c (logs (suc k) (fabric_step k s e).0 ws)) (events_by c (logs (suc k) (fabric_step k s e).0 ws)))
    turned true = refl
    turned false = refl

goes : (c k : ℕ) (s : FabricState) (w : ℕ) (ws : List ℕ) → c < length s.aims → ((next : FabricState) → c < length next.aims → AimsSo c (suc k) next ws) → (o : Option Event) → Goes c k s w ws o
goes c k s w ws h rest None = rest s h
goes c k s w ws h rest (Some e) =
    let later : AimsSo c (suc k) (fabric_step k s e).0 ws = rest (fabric_step k s e).0 (let l = after_len s.aims e in omega arith) in
    by_test (eqb (caller_of e) c) _
    (λ own. kept c k s w ws e true own later (own_aim s.aims c e h (eqb-true (caller_of e) c own)))
    (λ other. kept c k s w ws e false other later (other_aim s.aims c e (λ is. let n : true ≡ false = sym (eq-eqb (caller_of e) c is) ∙ other in cc)))

aims_by : (c k : ℕ) (s : FabricState) (words : List ℕ) → c < length s.aims → AimsSo c k s words
aims_by c k s [] h = refl
aims_by c k s (w ∷ ws) h = goes c k s w ws h (λ next l. aims_by c (suc k) next ws l) (event_of_word w)

-- ---- at a port

many_aims : (s : FabricState) → IsAtReset s → length s.aims ≡ 32
many_aims s r = ap (λ (x : FabricState). length x.aims) r.is ∙ length-replicate {A = ℕ} 32 0

no_aim : (s : FabricState) (c : ℕ) → IsAtReset s → aim_of s.aims c ≡ aim_of no_aims c
no_aim s c r = ap (λ (x : FabricState). aim_of x.aims c) r.is

-- An event of a port, of whose own events before it the last is an Aim, finds the address of that Aim.
pub aims_there : (p q : PortView) (e : Event) (r : Reply) (m : MakesEvent p e r q) (earlier : Events) (x : LoggedEvent) (c addr : ℕ) → IsAtReset p.first → p.number < 32 → port_events p ≡ earlier ++ x ∷ [] → x.event ≡ events.Aim c addr
    → aim_of (state_after p (p.log ++ m.between)).aims p.number ≡ addr
aims_there p q e r m earlier x c addr reset small own is =
    aims_by p.number 0 p.first (p.log ++ m.between) (let l = many_aims p.first reset in omega arith)
    ∙ ap (last_aim (aim_of p.first.aims p.number)) (events-of-beginning state_after_word reply_to_word p.number p.first p.log m.between m.others ∙ own)
    ∙ last_aim-append (aim_of p.first.aims p.number) earlier x
    ∙ ap (aim_in (last_aim (aim_of p.first.aims p.number) earlier)) is

-- ---- a Wide comes to its unit as the submission of its access

access_with : (a : Access) (addr : ℕ) → addr ≡ a.addr → (let b : Access = record { rrid = a.rrid; kind = a.kind; addr = addr; len = a.len } in b) ≡ a
access_with a addr is = ap (λ (n : ℕ). let b : Access = record { rrid = a.rrid; kind = a.kind; addr = n; len = a.len } in b) is

pub wide_comes : (k : ℕ) (s : FabricState) (unit caller : ℕ) (a : Access) → a.addr + a.len ≤ 2 ^ 52 → aim_of s.aims caller ≡ a.addr → ComesAs k s (wide_event unit caller a) (events.Submit unit caller a)
wide_comes k s unit caller a fits aims =
    ap (λ (b : Access). (taken_step k s.units (submission_of unit caller b)).1) (access_with a (aim_of s.aims caller) aims)
    ∙ ap (λ (t : Bool). (taken_step k s.units (if t then Some (events.Submit unit caller a) else None)).1) (le-leb (a.addr + a.len) (2 ^ 52) fits)

-- What a port's Wide replies, where an Aim of its address is the port's event before it.
pub wide_answers : (p q : PortView) (unit caller : ℕ) (a : Access) (r : Reply) (m : MakesEvent p (wide_event unit caller a) r q) (earlier : Events) (x : LoggedEvent) (c : ℕ) → IsAtReset p.first → p.number < 32 → caller ≡ p.number → a.addr + a.len ≤ 2 ^ 52
    → port_events p ≡ earlier ++ x ∷ [] → x.event ≡ events.Aim c a.addr → unit < unit_count p → Answers p (p.log ++ m.between) (events.Submit unit caller a) unit r
wide_answers p q unit caller a r m earlier x c reset small own_number fits own is there =
    let words : List ℕ = p.log ++ m.between in
    let aims : aim_of (state_after p words).aims caller ≡ a.addr = ap (aim_of (state_after p words).aims) own_number ∙ aims_there p q (wide_event unit caller a) r m earlier x c a.addr reset small own is in
    answers p q (wide_event unit caller a) (events.Submit unit caller a) unit r m (wide_comes (length words) (state_after p words) unit caller a fits aims) refl there
