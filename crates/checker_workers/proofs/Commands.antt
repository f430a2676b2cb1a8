-- What each command adds to the record of a section.
use Rattle.std.proofs.Common.{◌≡◌, ℕ, zero, suc, ◌+◌, ◌-◌, ◌*◌, ◌<◌, ◌≤◌, Bool, false, not, List, [], ◌∷◌, ◌++◌, length, take, get_or, set, Option, Some, None, refl, sym, ap, ◌∙◌, subst, arith, length-append, if◌then◌else◌, inl, inr}
use Rattle.std.proofs.Math.Nat.{mul-le-mul_right}
use Rattle.std.proofs.lemmas.List.{set-get_or}
use Rattle.event_words.specs.declared.access.Access.{Access}
use Rattle.event_words.specs.declared.event.Event.{Event}
use Rattle.event_words.specs.declared.event.Event.TheVariants as events
use Rattle.event_words.specs.declared.reply.Reply.{Reply}
use Rattle.event_words.specs.declared.reply.Reply.TheVariants as replies
use Rattle.event_words.specs.declared.reply.Verdict.{Verdict}
use Rattle.event_words.specs.declared.record.LoggedEvent.{LoggedEvent}
use Rattle.event_words.specs.declared.section.Command.{Command}
use Rattle.event_words.specs.declared.section.Command.TheVariants as commands
use Rattle.event_words.specs.declared.section.Stages.{Stages}
use Rattle.event_words.specs.Records.{OpenSlot, Cut, take_event, take_event_after, take_submission, wide_event, is_taken, one_piece, submit_piece, settle_piece, settled, until_piece, through_piece, opened_slot, slot_of, judgements, piece}
use Rattle.event_words.specs.Sections.{NamesUnits, stage_units, submission_events, most_events}
use Rattle.event_words.specs.Events.{same_event}
use Rattle.cascade_path.specs.declared.chain.ChainReply.{ChainReply}
use Rattle.cascade_path.specs.Stages.{IsSubmission}
use Rattle.cascade_path.proofs.Submitting.{submission_count}
use Rattle.checker_workers.specs.declared.ticket.Submitted.{Submitted}
use Rattle.checker_workers.specs.declared.ticket.Submitted.TheVariants as submitted
use Rattle.checker_workers.specs.declared.ticket.Judged.TheVariants.{Done, Held}
use Rattle.cascade_path.proofs.Repeats.{take_event-cons}
use Rattle.checker_workers.specs.Ports.{PortView, MakesEvent, is_aim, unit_count}
use Rattle.checker_workers.specs.TicketViews.{TicketView}
use Rattle.checker_workers.specs.Tickets.{IsOpenTicket, MakesSubmission, HandsOut, submitted_reply, last_ticket}
use Rattle.checker_workers.specs.Slots.{slots_of, slot_of_ticket, IsJudgeable, IsTicketTable}
use Rattle.checker_workers.specs.Pieces.{Polls, SettlesTicket, PlaysThrough, PlaysSlot, PlaysCommand, cut_to, ticket_of}
use Rattle.checker_workers.proofs.Chains.{before_end, submission_ends}
use Rattle.checker_workers.proofs.Resting.{ends_one}
use Rattle.checker_workers.proofs.Submitting.{SubmissionMade, submission_made}
use Rattle.checker_workers.proofs.Tables.{slot_of-slots, slots_of-append, slots_of-set, set_back, table_without, table_kept, table_back, table_pushed, others_apart, IsNewSlot}
use Rattle.checker_workers.proofs.Turns.{made_by, makes_none, makes_one, ends_other, none_more}
use Rattle.checker_workers.proofs.Standing.{judgement}

abbrev Table : Type 0
Table = List (Option TicketView)

abbrev Slots : Type 0
Slots = List (Option OpenSlot)

-- ---- writes and reads

-- a command of one event, which ends no ticket
plays_one : (p q : PortView) (table : Table) (command : Command) (e : Event) (r : Reply) → MakesEvent p e r q → IsTicketTable p table → is_aim e ≡ false → ((t : TicketView) → same_event (judgement t) e ≡ false) → 1 ≤ most_events command
    → ((xs : List LoggedEvent) → piece p.number (slots_of table) command xs ≡ one_piece (slots_of table) (take_event e xs)) → PlaysCommand p table command q table false
plays_one p q table command e r m h aims judges some is =
    let x : LoggedEvent = made_by p q e r m in
    let a = makes_one p q e r m in record {
      made = x ∷ [];
      adds = a;
      whole = aims;
      few = some;
      record_is = λ rest. is (x ∷ rest) ∙ ap (one_piece (slots_of table)) (take_event-cons e x rest refl);
      tickets = table_kept p q (x ∷ []) table a (λ i t g. none_more t [] x refl (ends_other t x (judges t))) h;
    }

pub plays_write : (p q : PortView) (table : Table) (unit index value : ℕ) (r : Reply) → MakesEvent p (events.RegWrite unit p.number index value) r q → IsTicketTable p table → PlaysCommand p table (commands.Write unit index value) q table false
plays_write p q table unit index value r m h =
    plays_one p q table (commands.Write unit index value) (events.RegWrite unit p.number index value) r m h refl (λ t. refl) (omega arith) (λ xs. refl)

pub plays_read : (p q : PortView) (table : Table) (unit index : ℕ) (r : Reply) → MakesEvent p (events.RegRead unit p.number index) r q → IsTicketTable p table → PlaysCommand p table (commands.Read unit index) q table false
plays_read p q table unit index r m h =
    plays_one p q table (commands.Read unit index) (events.RegRead unit p.number index) r m h refl (λ t. refl) (omega arith) (λ xs. refl)

-- ---- submissions

abbrev by_width : Bool → ℕ → ℕ → Access → List LoggedEvent → Option (LoggedEvent × List LoggedEvent)
by_width narrow unit n a xs = if narrow then take_event (events.Submit unit n a) xs else take_event_after (wide_event unit n a) (take_event (events.Aim n a.addr) xs)

-- its last event is no Aim
no_aim : (unit n : ℕ) (a : Access) (before : List LoggedEvent) (x : LoggedEvent) → IsSubmission unit n a before x → is_aim x.event ≡ false
no_aim unit n a before x (inl s) = ap is_aim s.event
no_aim unit n a before x (inr s) = ap is_aim s.event

-- The first events are those of the submission.
submission_first : (unit n : ℕ) (a : Access) (before : List LoggedEvent) (x : LoggedEvent) (rest : List LoggedEvent) → IsSubmission unit n a before x → take_submission unit n a ((before ++ x ∷ []) ++ rest) ≡ Some (x, rest)
submission_first unit n a before x rest (inl s) =
    ap (λ (l : List LoggedEvent). take_submission unit n a ((l ++ x ∷ []) ++ rest)) s.alone
    ∙ ap (λ (z : Bool). by_width z unit n a (x ∷ rest)) s.narrow
    ∙ take_event-cons (events.Submit unit n a) x rest s.event
submission_first unit n a before x rest (inr s) =
    ap (λ (l : List LoggedEvent). take_submission unit n a ((l ++ x ∷ []) ++ rest)) s.after_aim
    ∙ ap (λ (z : Bool). by_width z unit n a (s.aim ∷ x ∷ rest)) s.wide
    ∙ ap (take_event_after (wide_event unit n a)) (take_event-cons (events.Aim n a.addr) s.aim (x ∷ rest) s.aims)
    ∙ take_event-cons (wide_event unit n a) x rest s.event

-- the slot that is opened is that of the ticket
same_slot : (p q : PortView) (unit : ℕ) (a : Access) (s : Submitted) (m : SubmissionMade p unit a (submitted_reply s) q) → HandsOut q unit s → opened_slot unit m.last ≡ slot_of_ticket (ticket_of s)
same_slot p q unit a s m h =
    ap (λ (r : Reply). opened_by r m.last.place) m.reply ∙ by s h
  where
    opened_by : Reply → ℕ → Option OpenSlot
    opened_by r place = if is_taken r then Some (record { unit = unit; place = place }) else None

    place_is : length q.log - 1 ≡ m.last.place
    place_is = let l = m.place in omega arith

    ticket_slot : (t : TicketView) → t ≡ last_ticket q unit → Some (record { unit = unit; place = m.last.place }) ≡ slot_of_ticket (Some t)
    ticket_slot t is = sym (ap (λ (v : TicketView). slot_of_ticket (Some v)) is ∙ ap (λ (n : ℕ). let o : OpenSlot = record { unit = unit; place = n } in Some o) place_is)

    by : (s : Submitted) → HandsOut q unit s → opened_by (submitted_reply s) m.last.place ≡ slot_of_ticket (ticket_of s)
    by (submitted.Passed t) h = ticket_slot t h.0
    by (submitted.Queued t) h = ticket_slot t h.0
    by submitted.Busy h = refl
    by (submitted.Stalled d) h = refl

opened_now : (p q : PortView) (unit : ℕ) (a : Access) (r : Reply) (t u : TicketView) → SubmissionMade p unit a r q → unit < unit_count p → t ≡ last_ticket q unit → IsOpenTicket q t → Some t ≡ Some u → IsJudgeable q u × (length p.log ≤ u.place)
opened_now p q unit a r t u m there is h same =
    let e : u ≡ t = cc in
    let place = m.place in
    let past = m.past in
    let last : t.place ≡ length q.log - 1 = ap (λ (v : TicketView). v.place) is in
    let own : t.unit ≡ unit = ap (λ (v : TicketView). v.unit) is in
    let count : unit_count q ≡ unit_count p = ap (λ (v : PortView). unit_count v) m.adds.same in
    subst (λ (v : TicketView). IsJudgeable q v × (length p.log ≤ v.place)) (sym e) (record { ticket = h; unit = omega arith; past = omega arith }, omega arith)

new_slot : (p q : PortView) (unit : ℕ) (a : Access) (s : Submitted) → SubmissionMade p unit a (submitted_reply s) q → unit < unit_count p → HandsOut q unit s → IsNewSlot p q (ticket_of s)
new_slot p q unit a (submitted.Passed t) m there h = record { judgeable = λ u e. (opened_now p q unit a replies.Passed t u m there h.0 h.1 e).0; later = λ u e. (opened_now p q unit a replies.Passed t u m there h.0 h.1 e).1 }
new_slot p q unit a (submitted.Queued t) m there h = record { judgeable = λ u e. (opened_now p q unit a replies.Queued t u m there h.0 h.1 e).0; later = λ u e. (opened_now p q unit a replies.Queued t u m there h.0 h.1 e).1 }
new_slot p q unit a submitted.Busy m there h = record { judgeable = λ u e. absurd (let n : None ≡ Some u = e in cc); later = λ u e. absurd (let n : None ≡ Some u = e in cc) }
new_slot p q unit a (submitted.Stalled d) m there h = record { judgeable = λ u e. absurd (let n : None ≡ Some u = e in cc); later = λ u e. absurd (let n : None ≡ Some u = e in cc) }

pub plays_submit : (p q : PortView) (table : Table) (unit slot : ℕ) (a : Access) (s : Submitted) → MakesSubmission p unit a (submitted_reply s) q → unit < unit_count p → HandsOut q unit s → IsTicketTable p table
    → PlaysCommand p table (commands.Submit unit a slot) q (table ++ ticket_of s ∷ []) false
plays_submit p q table unit slot a s makes there h tickets =
    let m : SubmissionMade p unit a (submitted_reply s) q = submission_made p q unit a (submitted_reply s) makes in
    let made : List LoggedEvent = m.before ++ m.last ∷ [] in
    let slots : slots_of table ++ opened_slot unit m.last ∷ [] ≡ slots_of (table ++ ticket_of s ∷ []) = ap (λ (o : Option OpenSlot). slots_of table ++ o ∷ []) (same_slot p q unit a s m h) ∙ sym (slots_of-append table (ticket_of s)) in
    let kept : IsTicketTable q table = table_kept p q made table m.adds
    (λ i t g. none_more t m.before m.last (before_end t unit p.number a m.before m.last m.is) (submission_ends t unit p.number a m.before m.last m.is)) tickets in record {
      made = made;
      adds = m.adds;
      whole = ends_one m.before m.last (no_aim unit p.number a m.before m.last m.is);
      few = let n = submission_count unit p.number a m.before m.last m.is in omega (arith, length-append m.before (m.last ∷ []));
      record_is = λ rest. ap (submit_piece (slots_of table) unit) (submission_first unit p.number a m.before m.last rest m.is) ∙ ap (λ (ss : Slots). let cut : Cut = record { slots = ss; rest = rest; stops = false } in Some cut) slots;
      tickets = table_pushed p q table (ticket_of s) tickets kept (new_slot p q unit a s m there h);
    }

pub plays_submit_as : (p q : PortView) (table after : Table) (unit slot : ℕ) (a : Access) (s : Submitted) (command : Command) → command ≡ commands.Submit unit a slot → after ≡ table ++ ticket_of s ∷ []
    → MakesSubmission p unit a (submitted_reply s) q → NamesUnits (unit_count p) command → HandsOut q unit s → IsTicketTable p table → PlaysCommand p table command q after false
plays_submit_as p q table after unit slot a s command is grown m there h tickets =
    let unit_there : unit < unit_count p = subst (NamesUnits (unit_count p)) is there in
    subst (λ (k : Command). PlaysCommand p table k q after false) (sym is) (subst (λ (ts : Table). PlaysCommand p table (commands.Submit unit a slot) q ts false) (sym grown) (plays_submit p q table unit slot a s m unit_there h tickets))

-- ---- judgements

-- a slot without a ticket
pub plays_no_ticket : (p : PortView) (table : Table) (i max : ℕ) → get_or table i None ≡ None → IsTicketTable p table → PlaysSlot p table i max p (set table i None)
plays_no_ticket p table i max e h =
    let same : set table i None ≡ table = ap (set table i) (sym e) ∙ set-get_or table i None in
    let none : slot_of (slots_of table) i ≡ None = slot_of-slots table i ∙ ap slot_of_ticket e in
    subst (PlaysSlot p table i max p) (sym same) (record {
      made = [];
      adds = makes_none p;
      whole = refl;
      few = omega arith;
      record_is = λ rest. ap (λ (o : Option OpenSlot). settle_piece p.number max (slots_of table) i o rest) none;
      tickets = h;
    })

abbrev settled_record : PortView → Table → ℕ → ℕ → TicketView → List LoggedEvent → Option Cut
settled_record p table i max t xs = settled (slots_of table) i (judgements max (events.Judge t.unit t.caller t.place) xs)

slot_record : (p : PortView) (table : Table) (i max : ℕ) (t : TicketView) (xs : List LoggedEvent) → get_or table i None ≡ Some t → t.caller ≡ p.number → settle_piece p.number max (slots_of table) i (slot_of (slots_of table) i) xs ≡ settled_record p table i max t xs
slot_record p table i max t xs e own =
    ap (λ (o : Option OpenSlot). settle_piece p.number max (slots_of table) i o xs) (slot_of-slots table i ∙ ap slot_of_ticket e)
    ∙ ap (λ (n : ℕ). settled (slots_of table) i (judgements max (events.Judge t.unit n t.place) xs)) (sym own)

-- a verdict closes the slot
pub plays_done : (p q : PortView) (table : Table) (i max : ℕ) (t : TicketView) (v : Verdict) → get_or table i None ≡ Some t → IsTicketTable p table → SettlesTicket p t max (Done v) q → PlaysSlot p table i max q (set table i None)
plays_done p q table i max t v e h s = record {
  made = s.made;
  adds = s.adds;
  whole = s.whole;
  few = s.few;
  record_is = λ rest. slot_record p table i max t (s.made ++ rest) e (h.each i t e).ticket.caller ∙ ap (settled (slots_of table) i) (s.record_is rest)
      ∙ ap (λ (ss : Slots). let cut : Cut = record { slots = ss; rest = rest; stops = false } in Some cut) (sym (slots_of-set table i));
  tickets = table_kept p q s.made (set table i None) s.adds (λ j u f. s.others u (others_apart p table i j t u h e f)) (table_without p table i h);
}

-- and Held leaves it open
pub plays_held : (p q : PortView) (table : Table) (i max : ℕ) (t again : TicketView) → get_or table i None ≡ Some t → IsTicketTable p table → SettlesTicket p t max (Held again) q → PlaysSlot p table i max q (set (set table i None) i (Some again))
plays_held p q table i max t again e h s =
    subst (λ (u : TicketView). PlaysSlot p table i max q (set (set table i None) i (Some u))) (sym s.ticket.0) (record {
      made = s.made;
      adds = s.adds;
      whole = s.whole;
      few = s.few;
      record_is = λ rest. slot_record p table i max t (s.made ++ rest) e (h.each i t e).ticket.caller ∙ ap (settled (slots_of table) i) (s.record_is rest)
          ∙ ap (λ (ts : Table). let cut : Cut = cut_to ts false rest in Some cut) (sym (set_back table i t e));
      tickets = table_back p q s.made table i t s.adds e s.others (subst (IsOpenTicket q) s.ticket.0 (subst (IsOpenTicket q) (sym s.ticket.0) s.ticket.1)) h;
    })

pub plays_settle : (p q : PortView) (table after : Table) (i max : ℕ) → PlaysSlot p table i max q after → PlaysCommand p table (commands.Settle i max) q after false
plays_settle p q table after i max s = record { made = s.made; adds = s.adds; whole = s.whole; few = s.few; record_is = s.record_is; tickets = s.tickets }

pub plays_judge : (p q : PortView) (table after : Table) (i : ℕ) → PlaysSlot p table i 1 q after → PlaysCommand p table (commands.Judge i) q after false
plays_judge p q table after i s = record { made = s.made; adds = s.adds; whole = s.whole; few = s.few; record_is = s.record_is; tickets = s.tickets }

-- ---- reads until one hits

pub plays_until : (p q : PortView) (table : Table) (unit index mask value max : ℕ) (hit : Bool) → Polls p (events.RegRead unit p.number index) mask value max hit q → IsTicketTable p table → PlaysCommand p table (commands.Until unit index mask value max) q table (not hit)
plays_until p q table unit index mask value max hit s h = record {
  made = s.made;
  adds = s.adds;
  whole = s.whole;
  few = s.few;
  record_is = λ rest. ap (until_piece (slots_of table)) (s.record_is rest);
  tickets = table_kept p q s.made table s.adds (λ i t e. s.others t) h;
}

-- ---- accesses that are sent through units

few_taken : (n : ℕ) (units : List ℕ) → length (take n units) ≤ n
few_taken zero units = omega arith
few_taken (suc n) [] = omega arith
few_taken (suc n) (u ∷ us) = let h = few_taken n us in omega arith

-- the events of as many stages as stand
pub few_stages : (stages : Stages) (n : ℕ) → length (stage_units stages) * n ≤ stages.count * n
few_stages stages n = mul-le-mul_right n (few_taken stages.count stages.units)

pub plays_through : (p q : PortView) (table : Table) (stages : Stages) (a : Access) (max : ℕ) (answer : ChainReply) → PlaysThrough p (stage_units stages) a max answer q → IsTicketTable p table → PlaysCommand p table (commands.Through stages a max) q table false
plays_through p q table stages a max answer s h = record {
  made = s.made;
  adds = s.adds;
  whole = s.whole;
  few = let few = s.few in let most = few_stages stages (submission_events a + max) in omega arith;
  record_is = λ rest. ap (through_piece (slots_of table)) (s.record_is rest);
  tickets = table_kept p q s.made table s.adds (λ i t e. s.others t (h.each i t e).past) h;
}
