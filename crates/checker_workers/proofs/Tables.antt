-- Tables of tickets: taking one out, putting one back, one more, and events that come.
use Rattle.std.proofs.Common.{◌≡◌, ◌≢◌, ℕ, zero, suc, ◌<◌, ◌≤◌, false, List, [], ◌∷◌, ◌++◌, length, get_or, set, Option, Some, None, refl, sym, ap, ◌∙◌, subst, arith, ⊎_elim, ◌⊎◌, inl, inr}
use Rattle.std.specs.List.{list_any}
use Rattle.std.proofs.lemmas.Bool.{cases_eq, cases_lt}
use Rattle.std.proofs.lemmas.List.{get_or-set_same, get_or-set_other, get_or_past, map-append, map-set, set-get_or, length-set, set-set}
use Rattle.event_words.specs.declared.record.LoggedEvent.{LoggedEvent}
use Rattle.event_words.specs.Records.{slot_of}
use Rattle.checker_workers.specs.Ports.{PortView, unit_count}
use Rattle.checker_workers.specs.TicketViews.{TicketView}
use Rattle.checker_workers.specs.Tickets.{IsOpenTicket, is_end}
use Rattle.checker_workers.specs.Slots.{slot_of_ticket, slots_of, IsJudgeable, IsTicketTable}
use Rattle.checker_workers.specs.Pieces.{MakesEvents}
use Rattle.checker_workers.proofs.OpenTickets.{ticket_kept}
use Rattle.checker_workers.proofs.Turns.{grown}

abbrev Table : Type 0
Table = List (Option TicketView)

-- ---- slots

-- the slot with a number is that of the ticket with that number
pub slot_of-slots : (table : Table) (i : ℕ) → slot_of (slots_of table) i ≡ slot_of_ticket (get_or table i None)
slot_of-slots [] i = refl
slot_of-slots (x ∷ xs) zero = slot_at x where
  slot_at : (x : Option TicketView) → slot_of (slots_of (x ∷ xs)) 0 ≡ slot_of_ticket x
  slot_at x = refl
slot_of-slots (x ∷ xs) (suc i) = slot_of-slots xs i

pub slots_of-append : (table : Table) (x : Option TicketView) → slots_of (table ++ x ∷ []) ≡ slots_of table ++ slot_of_ticket x ∷ []
slots_of-append table x = map-append slot_of_ticket table (x ∷ [])

pub slots_of-set : (table : Table) (i : ℕ) → slots_of (set table i None) ≡ set (slots_of table) i None
slots_of-set table i = map-set slot_of_ticket table i None

-- ---- a ticket out of the table, and back

pub set_back : (table : Table) (i : ℕ) (t : TicketView) → get_or table i None ≡ Some t → set (set table i None) i (Some t) ≡ table
set_back table i t e = set-set table i None (Some t) ∙ ap (set table i) (sym e) ∙ set-get_or table i None

within : (table : Table) (i : ℕ) (t : TicketView) → get_or table i None ≡ Some t → i < length table
within table i t e = ⊎_elim (λ (l : i < length table). l) (λ (l : length table ≤ i). absurd (let n : None ≡ Some t = sym (get_or_past table i None l) ∙ e in cc)) (cases_lt i (length table))

out : (table : Table) (i j : ℕ) (t : TicketView) → get_or (set table i None) j None ≡ Some t → (i ≢ j) × (get_or table j None ≡ Some t)
out table i j t e = ⊎_elim
    (λ (same : i ≡ j). absurd (none_at same))
    (λ (ne : i ≡ j → ⊥). (ne, sym (get_or-set_other table i j None None (λ s. ne (sym s))) ∙ e))
    (cases_eq i j)
  where
    none_at : i ≡ j → ⊥
    none_at same = ⊎_elim
        (λ (l : i < length table). let n : None ≡ Some t = sym (get_or-set_same table i None None l) ∙ ap (λ (k : ℕ). get_or (set table i None) k None) same ∙ e in cc)
        (λ (l : length table ≤ i). let n : None ≡ Some t = sym (get_or_past (set table i None) i None (let s = length-set table i None in omega arith)) ∙ ap (λ (k : ℕ). get_or (set table i None) k None) same ∙ e in cc)
        (cases_lt i (length table))

pub table_without : (p : PortView) (table : Table) (i : ℕ) → IsTicketTable p table → IsTicketTable p (set table i None)
table_without p table i h = record {
  each = λ j t e. h.each j t (out table i j t e).1;
  apart = λ j k t u e f s. h.apart j k t u (out table i j t e).1 (out table i k u f).1 s;
}

-- ---- events that come

judgeable_kept : (p q : PortView) (made : List LoggedEvent) (t : TicketView) → MakesEvents p made q → list_any (is_end t) made ≡ false → IsJudgeable p t → IsJudgeable q t
judgeable_kept p q made t m none h = record {
  ticket = ticket_kept p q made t m.own (ap (λ (v : PortView). v.number) m.same) none h.ticket;
  unit = subst (λ (n : ℕ). t.unit < n) (sym (ap (λ (v : PortView). unit_count v) m.same)) h.unit;
  past = let a = h.past in let b = grown p q made m in omega arith;
}

pub table_kept : (p q : PortView) (made : List LoggedEvent) (table : Table) → MakesEvents p made q → ((i : ℕ) (t : TicketView) → get_or table i None ≡ Some t → list_any (is_end t) made ≡ false) → IsTicketTable p table → IsTicketTable q table
table_kept p q made table m none h = record {
  each = λ i t e. judgeable_kept p q made t m (none i t e) (h.each i t e);
  apart = h.apart;
}

-- the other tickets of the table are of other places
pub others_apart : (p : PortView) (table : Table) (i j : ℕ) (t u : TicketView) → IsTicketTable p table → get_or table i None ≡ Some t → get_or (set table i None) j None ≡ Some u → u.place ≢ t.place
others_apart p table i j t u h e f s = let o = out table i j u f in o.0 (h.apart i j t u e o.1 (sym s))

-- a ticket comes back to its place in the table
pub table_back : (p q : PortView) (made : List LoggedEvent) (table : Table) (i : ℕ) (t : TicketView) → MakesEvents p made q → get_or table i None ≡ Some t → ((u : TicketView) → u.place ≢ t.place → list_any (is_end u) made ≡ false)
    → IsOpenTicket q t → IsTicketTable p table → IsTicketTable q (set (set table i None) i (Some t))
table_back p q made table i t m e others open_still h =
    subst (IsTicketTable q) (sym (set_back table i t e)) (record {
      each = λ j u f. ⊎_elim
          (λ (same : u.place ≡ t.place). it j u f (h.apart j i u t f e same))
          (λ (ne : u.place ≡ t.place → ⊥). judgeable_kept p q made u m (others u ne) (h.each j u f))
          (cases_eq u.place t.place);
      apart = h.apart;
    })
  where
    it : (j : ℕ) (u : TicketView) → get_or table j None ≡ Some u → j ≡ i → IsJudgeable q u
    it j u f same =
        let is : u ≡ t = let s : Some u ≡ Some t = sym f ∙ ap (λ (k : ℕ). get_or table k None) same ∙ e in cc in
        subst (IsJudgeable q) (sym is) (record {
          ticket = open_still;
          unit = subst (λ (n : ℕ). t.unit < n) (sym (ap (λ (v : PortView). unit_count v) m.same)) (h.each i t e).unit;
          past = let a = (h.each i t e).past in let b = grown p q made m in omega arith;
        })

-- ---- one slot more

-- a slot that was just opened, or none
pub record IsNewSlot (p q : PortView) (slot : Option TicketView) : Type 0 where
  pub judgeable : (t : TicketView) → slot ≡ Some t → IsJudgeable q t
  pub later : (t : TicketView) → slot ≡ Some t → length p.log ≤ t.place

at_end : (table : Table) (slot : Option TicketView) (i : ℕ) (t : TicketView) → get_or (table ++ slot ∷ []) i None ≡ Some t → ((i ≡ length table) × (slot ≡ Some t)) ⊎ (get_or table i None ≡ Some t)
at_end [] slot zero t e = inl (refl, e)
at_end [] slot (suc i) t e = absurd (let n : None ≡ Some t = e in cc)
at_end (x ∷ xs) slot zero t e = inr e
at_end (x ∷ xs) slot (suc i) t e = ⊎_elim
    (λ (h : (i ≡ length xs) × (slot ≡ Some t)). inl (ap suc h.0, h.1))
    (λ (h : get_or xs i None ≡ Some t). inr h)
    (at_end xs slot i t e)

pub table_pushed : (p q : PortView) (table : Table) (slot : Option TicketView) → IsTicketTable p table → IsTicketTable q table → IsNewSlot p q slot → IsTicketTable q (table ++ slot ∷ [])
table_pushed p q table slot before h new = record {
  each = λ i t e. ⊎_elim (λ (n : (i ≡ length table) × (slot ≡ Some t)). new.judgeable t n.1) (λ (o : get_or table i None ≡ Some t). h.each i t o) (at_end table slot i t e);
  apart = λ i j t u e f s. ⊎_elim
      (λ (n : (i ≡ length table) × (slot ≡ Some t)). ⊎_elim
      (λ (m : (j ≡ length table) × (slot ≡ Some u)). n.0 ∙ sym m.0)
      (λ (o : get_or table j None ≡ Some u). absurd (let a = new.later t n.1 in let b = (before.each j u o).past in omega arith))
      (at_end table slot j u f))
      (λ (o : get_or table i None ≡ Some t). ⊎_elim
      (λ (m : (j ≡ length table) × (slot ≡ Some u)). absurd (let a = new.later u m.1 in let b = (before.each i t o).past in omega arith))
      (λ (r : get_or table j None ≡ Some u). h.apart i j t u o r s)
      (at_end table slot j u f))
      (at_end table slot i t e);
}

pub table_empty : (p : PortView) → IsTicketTable p []
table_empty p = record {
  each = λ i t e. absurd (let n : None ≡ Some t = e in cc);
  apart = λ i j t u e f s. absurd (let n : None ≡ Some t = e in cc);
}
