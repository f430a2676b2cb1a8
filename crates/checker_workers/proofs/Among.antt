-- An event among those that a port made: its unit answered it at its place.
use Rattle.std.proofs.Common.{◌≡◌, ℕ, suc, ◌+◌, ◌≤◌, Bool, true, false, cond, List, [], ◌∷◌, ◌++◌, length, Option, eqb, refl, sym, ap, ◌∙◌, subst, arith, zero-add, length-append, append_assoc, append-nil, eqb-true}
use Rattle.std.proofs.lemmas.List.{append_cancel_left}
use Rattle.event_words.specs.declared.event.Event.{Event}
use Rattle.event_words.specs.declared.record.LoggedEvent.{LoggedEvent}
use Rattle.event_words.specs.Events.{caller_of}
use Rattle.event_words.specs.Records.{events_by}
use Rattle.event_words.specs.Runs.{run, run_from, logged_from, logged_first, IsEventWord}
use Rattle.event_words.specs.Valid.{IsValidEvent}
use Rattle.event_words.specs.Word.{word_of}
use Rattle.event_words.proofs.Runs.{run_from-append, run-snoc, logged_from-append, events_by-append}
use Rattle.unit_core.specs.Units.{FabricState}
use Rattle.unit_core.specs.Fabrics.{FabricView, state_after_word, reply_to_word}
use Rattle.shared_log.specs.Callers.{AfterCall}
use Rattle.shared_log.specs.Words.{AllEventWords}
use Rattle.shared_log.proofs.WordLists.{AllEventWords-left}
use Rattle.event_words.proofs.EventWords.{HasEvent, word_event}
use Rattle.event_words.proofs.Cases.{by_test}
use Rattle.event_words.proofs.ListItems.{all_after}
use Rattle.checker_workers.specs.Ports.{PortView, MakesEvent, port_events}
use Rattle.checker_workers.proofs.Making.{makes_event}

-- ---- one caller's events of words

abbrev Events : Type 0
Events = List LoggedEvent

abbrev logs : ℕ → FabricState → List ℕ → Events
logs k st words = logged_from state_after_word reply_to_word k st words

abbrev state_from : ℕ → FabricState → List ℕ → FabricState
state_from k st words = run_from state_after_word k st words

-- The words cut at the word of an event of caller c.
record CutAt (c k : ℕ) (st : FabricState) (words : List ℕ) (before : Events) (x : LoggedEvent) (later : Events) : Type 0 where
  earlier : List ℕ
  rest : List ℕ
  is : words ≡ earlier ++ word_of x.event ∷ rest
  before_is : events_by c (logs k st earlier) ≡ before
  place : x.place ≡ k + length earlier
  valid : IsValidEvent x.event
  bears : caller_of x.event ≡ c
  answered : x.reply ≡ reply_to_word (state_from k st earlier) x.place (word_of x.event)
  later_is : events_by c (logs (suc x.place) (state_after_word (state_from k st earlier) x.place (word_of x.event)) rest) ≡ later

-- one word more before it
cut_later : (c k : ℕ) (st : FabricState) (w : ℕ) (words : List ℕ) (before before' : Events) (x : LoggedEvent) (later : Events) → (t : CutAt c (suc k) (state_after_word st k w) words before' x later)
    → events_by c (logs k st (w ∷ t.earlier)) ≡ before → CutAt c k st (w ∷ words) before x later
cut_later c k st w words before before' x later t own = record {
  earlier = w ∷ t.earlier;
  rest = t.rest;
  is = ap (λ (l : List ℕ). w ∷ l) t.is;
  before_is = own;
  place = let p = t.place in omega arith;
  valid = t.valid;
  bears = t.bears;
  answered = t.answered;
  later_is = t.later_is;
}

-- the events from a word on, by whether it is the caller's
with_first : (c k : ℕ) (st : FabricState) (w : ℕ) (words : List ℕ) (e : HasEvent w) (b : Bool) → eqb (caller_of e.event) c ≡ b
    → events_by c (logs k st (w ∷ words)) ≡ cond b (record { place = k; event = e.event; reply = reply_to_word st k w } ∷ events_by c (logs (suc k) (state_after_word st k w) words)) (events_by c (logs (suc k) (state_after_word st k w) words))
with_first c k st w words e b is =
    let x : LoggedEvent = record { place = k; event = e.event; reply = reply_to_word st k w } in
    let more : Events = logs (suc k) (state_after_word st k w) words in
    ap (λ (o : Option Event). events_by c (logged_first k (reply_to_word st k w) o more)) e.back
    ∙ ap (λ (t : Bool). cond t (x ∷ events_by c more) (events_by c more)) is

record SameEnds (x y : LoggedEvent) (xs ys : Events) : Type 0 where
  first : x ≡ y
  rest : xs ≡ ys

same_ends : (x y : LoggedEvent) (xs ys : Events) → x ∷ xs ≡ y ∷ ys → SameEnds x y xs ys
same_ends x y xs ys h = record { first = cc; rest = cc }

-- the first of the caller's events
cut_here : (c k : ℕ) (st : FabricState) (w : ℕ) (words : List ℕ) (e : HasEvent w) (x : LoggedEvent) (later : Events) → eqb (caller_of e.event) c ≡ true
    → SameEnds (record { place = k; event = e.event; reply = reply_to_word st k w }) x (events_by c (logs (suc k) (state_after_word st k w) words)) later → CutAt c k st (w ∷ words) [] x later
cut_here c k st w words e x later own same =
    subst (λ (y : LoggedEvent). CutAt c k st (w ∷ words) [] y later) same.first (record {
      earlier = [];
      rest = words;
      is = ap (λ (n : ℕ). n ∷ words) e.is;
      before_is = refl;
      place = omega arith;
      valid = e.valid;
      bears = eqb-true (caller_of e.event) c own;
      answered = ap (reply_to_word st k) e.is;
      later_is = ap (λ (n : ℕ). events_by c (logs (suc k) (state_after_word st k n) words)) (sym e.is) ∙ same.rest;
    })

cut_at : (c k : ℕ) (st : FabricState) (words : List ℕ) (before : Events) (x : LoggedEvent) (later : Events) → AllEventWords words → events_by c (logs k st words) ≡ before ++ x ∷ later → CutAt c k st words before x later
cut_at c k st [] [] x later all h = absurd (let z : [] ≡ x ∷ later = h in cc)
cut_at c k st [] (b ∷ bs) x later all h = absurd (let z : [] ≡ b ∷ (bs ++ x ∷ later) = h in cc)
cut_at c k st (w ∷ words) [] x later all h =
    let e = word_event w all.0 in
    by_test (eqb (caller_of e.event) c) _
    (λ own. cut_here c k st w words e x later own (same_ends _ x _ later (sym (with_first c k st w words e true own) ∙ h)))
    (λ other.
    let t = cut_at c (suc k) (state_after_word st k w) words [] x later all.1 (sym (with_first c k st w words e false other) ∙ h) in
    cut_later c k st w words [] [] x later t (with_first c k st w t.earlier e false other ∙ t.before_is))
cut_at c k st (w ∷ words) (b ∷ bs) x later all h =
    let e = word_event w all.0 in
    by_test (eqb (caller_of e.event) c) _
    (λ own.
    let s = same_ends _ b _ (bs ++ x ∷ later) (sym (with_first c k st w words e true own) ∙ h) in
    let t = cut_at c (suc k) (state_after_word st k w) words bs x later all.1 s.rest in
    cut_later c k st w words (b ∷ bs) bs x later t
    (with_first c k st w t.earlier e true own ∙ ap (λ (l : Events). record { place = k; event = e.event; reply = reply_to_word st k w } ∷ l) t.before_is ∙ ap (λ (y : LoggedEvent). y ∷ bs) s.first))
    (λ other.
    let t = cut_at c (suc k) (state_after_word st k w) words (b ∷ bs) x later all.1 (sym (with_first c k st w words e false other) ∙ h) in
    cut_later c k st w words (b ∷ bs) (b ∷ bs) x later t (with_first c k st w t.earlier e false other ∙ t.before_is))

-- ---- at a port

-- The port's log became longer, and these are the own events of the words that came.
pub record Extends (p : PortView) (made : Events) (q : PortView) : Type 0 where
  pub words : List ℕ
  pub log : q.log ≡ p.log ++ words
  pub own : events_by p.number (logs (length p.log) (run state_after_word p.first p.log) words) ≡ made
  pub number : q.number ≡ p.number
  pub first : q.first ≡ p.first

-- the own events of a longer log
own_of : (n : ℕ) (st : FabricState) (log words : List ℕ)
    → events_by n (logs 0 st (log ++ words)) ≡ events_by n (logs 0 st log) ++ events_by n (logs (length log) (run state_after_word st log) words)
own_of n st log words =
    ap (events_by n) (logged_from-append state_after_word reply_to_word 0 st log words)
    ∙ events_by-append state_after_word reply_to_word n (logs 0 st log) (logs (0 + length log) (run state_after_word st log) words)
    ∙ ap (λ (k : ℕ). events_by n (logs 0 st log) ++ events_by n (logs k (run state_after_word st log) words)) (zero-add (length log))

pub extends : (p q : PortView) (made : Events) (words : List ℕ) → port_events q ≡ port_events p ++ made → q.log ≡ p.log ++ words → q.number ≡ p.number → q.first ≡ p.first → Extends p made q
extends p q made words own log number first = record {
  words = words;
  log = log;
  own = append_cancel_left (port_events p) _ made
      (sym (own_of p.number p.first p.log words)
      ∙ ap (λ (l : List ℕ). events_by p.number (logs 0 p.first l)) (sym log)
      ∙ ap (λ (st : FabricState). events_by p.number (logs 0 st q.log)) (sym first)
      ∙ ap (λ (n : ℕ). events_by n (logs 0 q.first q.log)) (sym number)
      ∙ own);
  number = number;
  first = first;
}

-- The event stands among those that were made: from one port to the next it is the only one.
pub record StandsAmong (p q : PortView) (before : Events) (x : LoggedEvent) (later : Events) : Type 0 where
  pub at : PortView
  pub next : PortView
  pub own : port_events at ≡ port_events p ++ before
  pub number : at.number ≡ p.number
  pub first : at.first ≡ p.first
  pub grown : length p.log ≤ x.place
  pub event : MakesEvent at x.event x.reply next
  pub valid : IsValidEvent x.event
  pub place : x.place + 1 ≡ length next.log
  pub all : AllEventWords next.log
  pub more : Extends next later q

pub stands : (p q : PortView) (before : Events) (x : LoggedEvent) (later : Events) → Extends p (before ++ x ∷ later) q → AllEventWords q.log → StandsAmong p q before x later
stands p q before x later h all =
    let s : FabricState = run state_after_word p.first p.log in
    let t = cut_at p.number (length p.log) s h.words before x later (all_after IsEventWord p.log h.words (subst AllEventWords h.log all)) h.own in
    let w : ℕ = word_of x.event in
    let log : List ℕ = p.log ++ t.earlier in
    let longer : List ℕ = log ++ w ∷ [] in
    let at : PortView = record p { log = log; left = 1 } in
    let units : FabricView = record p.machine { state = run state_after_word p.first longer } in
    let next : PortView = record p { log = longer; left = 0; machine = units } in
    let state_is : run state_after_word p.first log ≡ state_from (length p.log) s t.earlier =
    run_from-append state_after_word 0 p.first p.log t.earlier ∙ ap (λ (n : ℕ). run_from state_after_word n s t.earlier) (zero-add (length p.log)) in
    let place_is : x.place ≡ length log = t.place ∙ sym (length-append p.log t.earlier) in
    let last : length longer ≡ suc x.place = omega (arith, length-append log (w ∷ [])) in
    let whole : q.log ≡ longer ++ t.rest =
    h.log ∙ ap (λ (l : List ℕ). p.log ++ l) t.is ∙ sym (append_assoc p.log t.earlier (w ∷ t.rest)) ∙ sym (append_assoc log (w ∷ []) t.rest) in
    let call : AfterCall state_after_word reply_to_word at w x.reply next = record {
      between = [];
      others = refl;
      log = ap (λ (l : List ℕ). l ++ w ∷ []) (sym (append-nil log));
      left = refl;
      answered = t.answered ∙ ap (λ (st : FabricState). reply_to_word st x.place w) (sym state_is) ∙ ap (λ (n : ℕ). reply_to_word (run state_after_word p.first log) n w) place_is
          ∙ ap (λ (l : List ℕ). reply_to_word (run state_after_word p.first l) (length l) w) (sym (append-nil log));
      same = refl;
    } in record {
      at = at;
      next = next;
      own = own_of p.number p.first p.log t.earlier ∙ ap (λ (l : Events). port_events p ++ l) t.before_is;
      number = refl;
      first = refl;
      grown = let k = t.place in omega arith;
      event = makes_event at next x.event x.reply call refl t.valid t.bears;
      valid = t.valid;
      place = omega arith;
      all = AllEventWords-left longer t.rest (subst AllEventWords whole all);
      more = record {
        words = t.rest;
        log = whole;
        own = ap (λ (n : ℕ). events_by p.number (logs n (run state_after_word p.first longer) t.rest)) last
            ∙ ap (λ (st : FabricState). events_by p.number (logs (suc x.place) st t.rest))
            (run-snoc state_after_word p.first log w ∙ ap (λ (st : FabricState). state_after_word st (length log) w) state_is ∙ ap (λ (n : ℕ). state_after_word (state_from (length p.log) s t.earlier) n w) (sym place_is))
            ∙ t.later_is;
        number = h.number;
        first = h.first;
      };
    }
