-- The events of a port that plays a lane, and the loops of a command: up to `max` reads or judgements.
use Rattle.std.proofs.Common.{◌≡◌, ◌≢◌, ℕ, zero, suc, ◌+◌, ◌-◌, ◌<◌, ◌≤◌, true, false, List, [], ◌∷◌, ◌++◌, length, refl, sym, ap, ◌∙◌, subst, arith, length-append, append_assoc, append-nil, ne_eqb}
use Rattle.std.specs.Prelude.{◌==◌, nat_lt}
use Rattle.std.specs.List.{list_any}
use Rattle.std.proofs.lemmas.Bool.{and_left, and_right, or_from}
use Rattle.std.proofs.lemmas.List.Folds.{list_any-append}
use Rattle.event_words.specs.declared.event.Event.{Event}
use Rattle.event_words.specs.declared.event.Event.TheVariants as events
use Rattle.event_words.specs.declared.reply.Reply.{Reply}
use Rattle.event_words.specs.declared.reply.Reply.TheVariants as replies
use Rattle.event_words.specs.declared.reply.Verdict.{Verdict}
use Rattle.event_words.specs.declared.record.LoggedEvent.{LoggedEvent}
use Rattle.event_words.specs.Word.{word_of}
use Rattle.event_words.specs.Events.{same_event}
use Rattle.event_words.specs.Records.{polls, hits, is_verdict}
use Rattle.shared_log.specs.Callers.{SharedView, Belongs}
use Rattle.cascade_path.proofs.Repeats.{judgements_left, judgements-held, judgements-last, some_judgements}
use Rattle.checker_workers.specs.declared.ticket.Judged.TheVariants.{Done, Held}
use Rattle.checker_workers.specs.Ports.{PortView, EndWhole, MakesEvent, port_events, logged_at, unit_count}
use Rattle.checker_workers.specs.TicketViews.{TicketView}
use Rattle.checker_workers.specs.Tickets.{IsOpenTicket, Judges, is_end}
use Rattle.checker_workers.specs.Pieces.{MakesEvents, Polls, SettlesTicket}
use Rattle.checker_workers.proofs.Resting.{ends_one}
use Rattle.checker_workers.proofs.Standing.{judgement}
use Rattle.checker_workers.proofs.PolledReads.{polls_left, polls-missed, polls-hit}

-- ---- events one after another

pub makes_none : (p : PortView) → MakesEvents p [] p
makes_none p = record { own = sym (append-nil (port_events p)); later = []; log = sym (append-nil p.log); left = omega arith; same = refl }

-- the event that a call made
abbrev pub made_by : (p q : PortView) (e : Event) (r : Reply) → MakesEvent p e r q → LoggedEvent
made_by p q e r m = logged_at (length (p.log ++ m.between)) e r

pub makes_more : (p q s : PortView) (made : List LoggedEvent) (e : Event) (r : Reply) → MakesEvents p made q → (m : MakesEvent q e r s) → MakesEvents p (made ++ made_by q s e r m ∷ []) s
makes_more p q s made e r a m =
    let x : LoggedEvent = made_by q s e r m in record {
      own = m.own ∙ ap (λ (l : List LoggedEvent). l ++ x ∷ []) a.own ∙ append_assoc (port_events p) made (x ∷ []);
      later = (a.later ++ m.between) ++ word_of e ∷ [];
      log = m.log ∙ ap (λ (l : List ℕ). (l ++ m.between) ++ word_of e ∷ []) a.log ∙ ap (λ (l : List ℕ). l ++ word_of e ∷ []) (append_assoc p.log a.later m.between)
          ∙ append_assoc p.log (a.later ++ m.between) (word_of e ∷ []);
      left = let b = a.left in let d = m.left in omega (arith, length-append made (x ∷ []));
      same = m.same ∙ ap (λ (v : PortView). let w : PortView = record v { log = s.log; left = s.left; machine = s.machine } in w) a.same;
    }

pub makes_one : (p q : PortView) (e : Event) (r : Reply) → (m : MakesEvent p e r q) → MakesEvents p (made_by p q e r m ∷ []) q
makes_one p q e r m = makes_more p p q [] e r (makes_none p) m

pub makes_both : (p q s : PortView) (made more : List LoggedEvent) → MakesEvents p made q → MakesEvents q more s → MakesEvents p (made ++ more) s
makes_both p q s made more a b = record {
  own = b.own ∙ ap (λ (l : List LoggedEvent). l ++ more) a.own ∙ append_assoc (port_events p) made more;
  later = a.later ++ b.later;
  log = b.log ∙ ap (λ (l : List ℕ). l ++ b.later) a.log ∙ append_assoc p.log a.later b.later;
  left = let c = a.left in let d = b.left in omega (arith, length-append made more);
  same = b.same ∙ ap (λ (v : PortView). let w : PortView = record v { log = s.log; left = s.left; machine = s.machine } in w) a.same;
}

pub grown : (p q : PortView) (made : List LoggedEvent) → MakesEvents p made q → length p.log ≤ length q.log
grown p q made a = let l : length q.log ≡ length (p.log ++ a.later) = ap length a.log in omega (arith, length-append p.log a.later)

pub same_number : (p q : PortView) (made : List LoggedEvent) → MakesEvents p made q → q.number ≡ p.number
same_number p q made a = ap (λ (v : PortView). v.number) a.same

pub same_count : (p q : PortView) (made : List LoggedEvent) → MakesEvents p made q → unit_count q ≡ unit_count p
same_count p q made a = ap (λ (v : PortView). unit_count v) a.same

pub belongs_still : (p q : PortView) (made : List LoggedEvent) (s : SharedView) → MakesEvents p made q → Belongs p s → Belongs q s
belongs_still p q made s a b = (ap (λ (v : PortView). v.table) a.same ∙ b.0, ap (λ (v : PortView). v.callers) a.same ∙ b.1, ap (λ (v : PortView). v.budget) a.same ∙ b.2)

-- ---- events that end no ticket

pub ends_other : (u : TicketView) (x : LoggedEvent) → same_event (judgement u) x.event ≡ false → is_end u x ≡ false
ends_other u x h = and_right (nat_lt u.place x.place) _ (and_left (same_event (judgement u) x.event) (is_verdict x.reply) h)

pub none_more : (u : TicketView) (made : List LoggedEvent) (x : LoggedEvent) → list_any (is_end u) made ≡ false → is_end u x ≡ false → list_any (is_end u) (made ++ x ∷ []) ≡ false
none_more u made x h e = list_any-append (is_end u) made (x ∷ []) ∙ or_from (list_any (is_end u) made) _ h (or_from (is_end u x) false e refl)

pub other_place : (u t : TicketView) → (u.place ≡ t.place → ⊥) → same_event (judgement u) (judgement t) ≡ false
other_place u t ne = and_right (u.unit == t.unit) _ (and_right (u.caller == t.caller) (u.place == t.place) (ne_eqb u.place t.place ne))

-- ---- reads until one hits

pub record Polling (p : PortView) (event : Event) (mask value max i : ℕ) (q : PortView) : Type 0 where
  pub made : List LoggedEvent
  pub adds : MakesEvents p made q
  pub whole : EndWhole made
  pub count : length made ≡ i
  pub so_far : (rest : List LoggedEvent) → polls_left max event mask value (made ++ rest) ≡ polls_left (max - i) event mask value rest
  pub others : (u : TicketView) → list_any (is_end u) made ≡ false

pub polling_none : (p : PortView) (event : Event) (mask value max : ℕ) → Polling p event mask value max 0 p
polling_none p event mask value max = record {
  made = [];
  adds = makes_none p;
  whole = refl;
  count = refl;
  so_far = λ rest. let e : max ≡ max - 0 = omega arith in ap (λ (n : ℕ). polls_left n event mask value rest) e;
  others = λ u. refl;
}

step_down : (max i : ℕ) → i < max → max - i ≡ suc (max - (i + 1))
step_down max i h = omega arith

-- a read by the port after the events so far
own_read : (p q s : PortView) (made : List LoggedEvent) (unit index : ℕ) (r : Reply) → MakesEvents p made q → MakesEvent q (events.RegRead unit q.number index) r s → MakesEvent q (events.RegRead unit p.number index) r s
own_read p q s made unit index r a m = subst (λ (n : ℕ). MakesEvent q (events.RegRead unit n index) r s) (same_number p q made a) m

polled : (p q s : PortView) (event : Event) (mask value max i : ℕ) (r : Reply) (b : Polling p event mask value max i q) → i < max → (m : MakesEvent q event r s) → (rest : List LoggedEvent)
    → polls_left max event mask value ((b.made ++ made_by q s event r m ∷ []) ++ rest) ≡ polls_left (suc (max - (i + 1))) event mask value (made_by q s event r m ∷ rest)
polled p q s event mask value max i r b h m rest =
    let x : LoggedEvent = made_by q s event r m in
    ap (polls_left max event mask value) (append_assoc b.made (x ∷ []) rest) ∙ b.so_far (x ∷ rest) ∙ ap (λ (n : ℕ). polls_left n event mask value (x ∷ rest)) (step_down max i h)

-- the reads so far and one more, which may hit
record OneRead (p : PortView) (event : Event) (mask value max i : ℕ) (r : Reply) (q : PortView) : Type 0 where
  made : List LoggedEvent
  last : LoggedEvent
  is : last.event ≡ event
  replied : last.reply ≡ r
  adds : MakesEvents p made q
  whole : EndWhole made
  count : length made ≡ i + 1
  so_far : (rest : List LoggedEvent) → polls_left max event mask value (made ++ rest) ≡ polls_left (suc (max - (i + 1))) event mask value (last ∷ rest)
  others : (u : TicketView) → list_any (is_end u) made ≡ false

one_read : (p q s : PortView) (unit index mask value max i : ℕ) (r : Reply) → Polling p (events.RegRead unit p.number index) mask value max i q → i < max → MakesEvent q (events.RegRead unit q.number index) r s
    → OneRead p (events.RegRead unit p.number index) mask value max i r s
one_read p q s unit index mask value max i r b h read =
    let event : Event = events.RegRead unit p.number index in
    let m : MakesEvent q event r s = own_read p q s b.made unit index r b.adds read in
    let x : LoggedEvent = made_by q s event r m in record {
      made = b.made ++ x ∷ [];
      last = x;
      is = refl;
      replied = refl;
      adds = makes_more p q s b.made event r b.adds m;
      whole = ends_one b.made x refl;
      count = let c = b.count in omega (arith, length-append b.made (x ∷ []));
      so_far = λ rest. polled p q s event mask value max i r b h m rest;
      others = λ u. none_more u b.made x (b.others u) (ends_other u x refl);
    }

pub polling_missed : (p q s : PortView) (unit index mask value max i : ℕ) (r : Reply) → Polling p (events.RegRead unit p.number index) mask value max i q → i < max → MakesEvent q (events.RegRead unit q.number index) r s → hits mask value r ≡ false
    → Polling p (events.RegRead unit p.number index) mask value max (i + 1) s
polling_missed p q s unit index mask value max i r b h read miss =
    let event : Event = events.RegRead unit p.number index in
    let o = one_read p q s unit index mask value max i r b h read in record {
      made = o.made;
      adds = o.adds;
      whole = o.whole;
      count = o.count;
      so_far = λ rest. o.so_far rest ∙ polls-missed (max - (i + 1)) event mask value o.last rest o.is (ap (hits mask value) o.replied ∙ miss);
      others = o.others;
    }

some_polls : (max : ℕ) (event : Event) (mask value : ℕ) (xs : List LoggedEvent) → 1 ≤ max → polls max event mask value xs ≡ polls_left max event mask value xs
some_polls zero event mask value xs h = absurd (omega arith)
some_polls (suc n) event mask value xs h = refl

pub polling_hit : (p q s : PortView) (unit index mask value max i : ℕ) (r : Reply) → Polling p (events.RegRead unit p.number index) mask value max i q → i < max → MakesEvent q (events.RegRead unit q.number index) r s → hits mask value r ≡ true
    → Polls p (events.RegRead unit p.number index) mask value max true s
polling_hit p q s unit index mask value max i r b h read hit =
    let event : Event = events.RegRead unit p.number index in
    let o = one_read p q s unit index mask value max i r b h read in record {
      made = o.made;
      adds = o.adds;
      whole = o.whole;
      few = let c = o.count in omega (arith, c, h);
      record_is = λ rest. some_polls max event mask value (o.made ++ rest) (omega (arith, h)) ∙ o.so_far rest ∙ polls-hit (max - (i + 1)) event mask value o.last rest o.is (ap (hits mask value) o.replied ∙ hit);
      others = o.others;
    }

pub polling_end : (p q : PortView) (event : Event) (mask value max i : ℕ) → Polling p event mask value max i q → max ≤ i → i ≤ max → 1 ≤ max → Polls p event mask value max false q
polling_end p q event mask value max i b low high some = record {
  made = b.made;
  adds = b.adds;
  whole = b.whole;
  few = let c = b.count in omega arith;
  record_is = λ rest. some_polls max event mask value (b.made ++ rest) some ∙ b.so_far rest ∙ (let e : max - i ≡ 0 = omega arith in ap (λ (n : ℕ). polls_left n event mask value rest) e);
  others = b.others;
}

-- ---- judgements until the reply isn't Held

pub record Settling (p : PortView) (t : TicketView) (max i : ℕ) (q : PortView) (again : TicketView) : Type 0 where
  pub made : List LoggedEvent
  pub adds : MakesEvents p made q
  pub whole : EndWhole made
  pub count : length made ≡ i
  pub so_far : (rest : List LoggedEvent) → judgements_left max (judgement t) (made ++ rest) ≡ judgements_left (max - i) (judgement t) rest
  pub others : (u : TicketView) → u.place ≢ t.place → list_any (is_end u) made ≡ false
  pub ticket : again ≡ t
  pub still : IsOpenTicket q t

pub settling_none : (p : PortView) (t : TicketView) (max : ℕ) → IsOpenTicket p t → Settling p t max 0 p t
settling_none p t max h = record {
  made = [];
  adds = makes_none p;
  whole = refl;
  count = refl;
  so_far = λ rest. let e : max ≡ max - 0 = omega arith in ap (λ (n : ℕ). judgements_left n (judgement t) rest) e;
  others = λ u ne. refl;
  ticket = refl;
  still = h;
}

judged_next : (p q s : PortView) (t again : TicketView) (max i : ℕ) (r : Reply) (b : Settling p t max i q again) → i < max → (m : MakesEvent q (judgement t) r s) → (rest : List LoggedEvent)
    → judgements_left max (judgement t) ((b.made ++ made_by q s (judgement t) r m ∷ []) ++ rest) ≡ judgements_left (suc (max - (i + 1))) (judgement t) (made_by q s (judgement t) r m ∷ rest)
judged_next p q s t again max i r b h m rest =
    let x : LoggedEvent = made_by q s (judgement t) r m in
    ap (judgements_left max (judgement t)) (append_assoc b.made (x ∷ []) rest) ∙ b.so_far (x ∷ rest) ∙ ap (λ (n : ℕ). judgements_left n (judgement t) (x ∷ rest)) (step_down max i h)

pub settling_held : (p q s : PortView) (t again next : TicketView) (max i : ℕ) → Settling p t max i q again → i < max → Judges q again (Held next) s → Settling p t max (i + 1) s next
settling_held p q s t again next max i b h judges =
    let j : Judges q t (Held next) s = subst (λ (v : TicketView). Judges q v (Held next) s) b.ticket judges in
    let x : LoggedEvent = made_by q s (judgement t) replies.Held j.event in record {
      made = b.made ++ x ∷ [];
      adds = makes_more p q s b.made (judgement t) replies.Held b.adds j.event;
      whole = ends_one b.made x refl;
      count = let c = b.count in omega (arith, length-append b.made (x ∷ []));
      so_far = λ rest. judged_next p q s t again max i replies.Held b h j.event rest ∙ judgements-held (max - (i + 1)) (judgement t) x rest refl refl;
      others = λ u ne. none_more u b.made x (b.others u ne) (ends_other u x (other_place u t ne));
      ticket = j.ticket.0;
      still = subst (IsOpenTicket s) j.ticket.0 (subst (λ (v : TicketView). IsOpenTicket s v) (sym j.ticket.0) j.ticket.1);
    }

pub settling_done : (p q s : PortView) (t again : TicketView) (v : Verdict) (max i : ℕ) → Settling p t max i q again → i < max → Judges q again (Done v) s → SettlesTicket p t max (Done v) s
settling_done p q s t again v max i b h judges =
    let j : Judges q t (Done v) s = subst (λ (u : TicketView). Judges q u (Done v) s) b.ticket judges in
    let x : LoggedEvent = made_by q s (judgement t) (replies.Verdict v) j.event in record {
      made = b.made ++ x ∷ [];
      adds = makes_more p q s b.made (judgement t) (replies.Verdict v) b.adds j.event;
      whole = ends_one b.made x refl;
      few = let c = b.count in omega (arith, length-append b.made (x ∷ []));
      record_is = λ rest. some_judgements max (judgement t) ((b.made ++ x ∷ []) ++ rest) (omega arith) ∙ judged_next p q s t again max i (replies.Verdict v) b h j.event rest ∙ judgements-last (max - (i + 1)) (judgement t) x rest refl refl;
      others = λ u ne. none_more u b.made x (b.others u ne) (ends_other u x (other_place u t ne));
      ticket = tt;
    }

pub settling_end : (p q : PortView) (t again : TicketView) (max i : ℕ) → Settling p t max i q again → max ≤ i → i ≤ max → 1 ≤ max → SettlesTicket p t max (Held again) q
settling_end p q t again max i b low high some = record {
  made = b.made;
  adds = b.adds;
  whole = b.whole;
  few = let c = b.count in omega arith;
  record_is = λ rest. some_judgements max (judgement t) (b.made ++ rest) some ∙ b.so_far rest ∙ (let e : max - i ≡ 0 = omega arith in ap (λ (n : ℕ). judgements_left n (judgement t) rest) e);
  others = b.others;
  ticket = (b.ticket, b.still);
}
