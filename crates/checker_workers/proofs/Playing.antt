-- The record of a section as its commands are played.
use Rattle.std.proofs.Common.{◌≡◌, ℕ, ◌+◌, ◌<◌, ◌≤◌, Bool, true, false, not, List, [], ◌∷◌, ◌++◌, length, drop, sum_by, count_by, Option, Some, if◌then◌else◌, refl, sym, ap, ◌∙◌, subst, arith, append_assoc, append-nil}
use Rattle.std.specs.List.{AllByRecursion}
use Rattle.std.proofs.lemmas.List.{drop_all}
use Rattle.std.proofs.lemmas.List.Sums.{sum_by-cons}
use Rattle.unit_core.proofs.Lists.{count_cons}
use Rattle.event_words.specs.declared.record.LoggedEvent.{LoggedEvent}
use Rattle.event_words.specs.declared.record.SectionEnd.TheVariants as ends
use Rattle.event_words.specs.declared.section.Command.{Command}
use Rattle.event_words.specs.Records.{end_of_commands, piece, after_piece}
use Rattle.event_words.specs.Sections.{IsValidCommand, AreValidCommands, NamesUnits, most_events, is_submit}
use Rattle.checker_workers.specs.declared.lane.LaneEnd.TheVariants.{Done, Stopped}
use Rattle.checker_workers.specs.Ports.{PortView, EndWhole, unit_count}
use Rattle.checker_workers.specs.TicketViews.{TicketView}
use Rattle.checker_workers.specs.Slots.{slots_of, IsTicketTable}
use Rattle.checker_workers.specs.Pieces.{MakesEvents, PlaysCommand, cut_to}
use Rattle.checker_workers.specs.Lanes.{PlaysCommands}
use Rattle.checker_workers.proofs.Resting.{ends_both}
use Rattle.checker_workers.proofs.Tables.{table_empty}
use Rattle.checker_workers.proofs.Turns.{makes_none, makes_both, same_number, same_count}

abbrev Table : Type 0
Table = List (Option TicketView)

-- After the commands before number i, of `all`.
pub record Playing (p : PortView) (all : List Command) (i : ℕ) (q : PortView) (table : Table) (count capacity : ℕ) : Type 0 where
  pub made : List LoggedEvent
  pub adds : MakesEvents p made q
  pub whole : EndWhole made
  pub so_far : (rest : List LoggedEvent) → end_of_commands p.number all [] (made ++ rest) ≡ end_of_commands p.number (drop i all) (slots_of table) rest
  pub tickets : IsTicketTable q table
  pub valid : AreValidCommands count (drop i all)
  pub units : AllByRecursion (NamesUnits (unit_count p)) (drop i all)
  pub enough : sum_by most_events (drop i all) ≤ q.left
  pub room : count + count_by is_submit (drop i all) ≤ capacity

pub playing_none : (p : PortView) (all : List Command) (table : Table) (count capacity : ℕ) → table ≡ [] → count ≡ 0 → AreValidCommands 0 all → AllByRecursion (NamesUnits (unit_count p)) all
    → sum_by most_events all ≤ p.left → count_by is_submit all ≤ capacity → Playing p all 0 p table count capacity
playing_none p all table count capacity empty zeroth valid units enough room = record {
  made = [];
  adds = makes_none p;
  whole = refl;
  so_far = λ rest. ap (λ (ts : Table). end_of_commands p.number all (slots_of ts) rest) (sym empty);
  tickets = subst (IsTicketTable p) (sym empty) (table_empty p);
  valid = subst (λ (n : ℕ). AreValidCommands n all) (sym zeroth) valid;
  units = units;
  enough = enough;
  room = omega arith;
}

-- ---- the next command

-- what holds of the next command
pub record MayBeNext (q : PortView) (command : Command) (count capacity : ℕ) : Type 0 where
  pub valid : IsValidCommand count command
  pub units : NamesUnits (unit_count q) command
  pub enough : most_events command ≤ q.left
  pub room : is_submit command ≡ true → count < capacity

submits_one : (command : Command) (rest : List Command) → is_submit command ≡ true → count_by is_submit (command ∷ rest) ≡ 1 + count_by is_submit rest
submits_one command rest e = count_cons is_submit command rest ∙ ap (λ (b : Bool). (if b then 1 else 0) + count_by is_submit rest) e

pub may_be_next : (p q : PortView) (all : List Command) (i : ℕ) (table : Table) (count capacity : ℕ) (command : Command) → Playing p all i q table count capacity → drop i all ≡ command ∷ drop (i + 1) all → MayBeNext q command count capacity
may_be_next p q all i table count capacity command b e = record {
  valid = (subst (AreValidCommands count) e b.valid).0;
  units = subst (λ (n : ℕ). NamesUnits n command) (sym (same_count p q b.made b.adds)) (subst (AllByRecursion (NamesUnits (unit_count p))) e b.units).0;
  enough = let s = subst (λ (cs : List Command). sum_by most_events cs ≤ q.left) e b.enough in omega (arith, sum_by-cons most_events command (drop (i + 1) all));
  room = λ t. let s = subst (λ (cs : List Command). count + count_by is_submit cs ≤ capacity) e b.room in omega (arith, submits_one command (drop (i + 1) all) t);
}

counted : (command : Command) (rest : List Command) (count capacity : ℕ) → count + count_by is_submit (command ∷ rest) ≤ capacity → (if is_submit command then count + 1 else count) + count_by is_submit rest ≤ capacity
counted command rest count capacity h = by (is_submit command) (count_by is_submit (command ∷ rest)) (count_cons is_submit command rest) h where
  by : (b : Bool) (n : ℕ) → n ≡ (if b then 1 else 0) + count_by is_submit rest → count + n ≤ capacity → (if b then count + 1 else count) + count_by is_submit rest ≤ capacity
  by true n e l = omega arith
  by false n e l = omega arith

-- the record after one command more
cut_record : (p q s : PortView) (all : List Command) (i : ℕ) (table after : Table) (count capacity : ℕ) (command : Command) (stops : Bool) (b : Playing p all i q table count capacity) (k : PlaysCommand q table command s after stops)
    → drop i all ≡ command ∷ drop (i + 1) all → (rest : List LoggedEvent) → end_of_commands p.number all [] ((b.made ++ k.made) ++ rest) ≡ after_piece (end_of_commands p.number (drop (i + 1) all)) (Some (cut_to after stops rest))
cut_record p q s all i table after count capacity command stops b k e rest =
    ap (end_of_commands p.number all []) (append_assoc b.made k.made rest) ∙ b.so_far (k.made ++ rest)
    ∙ ap (λ (cs : List Command). end_of_commands p.number cs (slots_of table) (k.made ++ rest)) e
    ∙ ap (after_piece (end_of_commands p.number (drop (i + 1) all)))
    (ap (λ (n : ℕ). piece n (slots_of table) command (k.made ++ rest)) (sym (same_number p q b.made b.adds)) ∙ k.record_is rest)

pub playing_next : (p q s : PortView) (all : List Command) (i : ℕ) (table after : Table) (count capacity count' capacity' : ℕ) (command : Command) → Playing p all i q table count capacity → drop i all ≡ command ∷ drop (i + 1) all
    → PlaysCommand q table command s after false → count' ≡ (if is_submit command then count + 1 else count) → capacity' ≡ capacity → Playing p all (i + 1) s after count' capacity'
playing_next p q s all i table after count capacity count' capacity' command b e k counts same = record {
  made = b.made ++ k.made;
  adds = makes_both p q s b.made k.made b.adds k.adds;
  whole = ends_both b.made k.made b.whole k.whole;
  so_far = λ rest. cut_record p q s all i table after count capacity command false b k e rest;
  tickets = k.tickets;
  valid = subst (λ (n : ℕ). AreValidCommands n (drop (i + 1) all)) (sym counts) (subst (AreValidCommands count) e b.valid).1;
  units = (subst (AllByRecursion (NamesUnits (unit_count p))) e b.units).1;
  enough = let t = subst (λ (cs : List Command). sum_by most_events cs ≤ q.left) e b.enough in let f = k.few in let l = k.adds.left in omega (arith, sum_by-cons most_events command (drop (i + 1) all));
  room = let t = counted command (drop (i + 1) all) count capacity (subst (λ (cs : List Command). count + count_by is_submit cs ≤ capacity) e b.room) in omega arith;
}

-- the answer whether the section goes on
pub goes_as : (q s : PortView) (table after : Table) (command : Command) (goes b : Bool) → goes ≡ b → PlaysCommand q table command s after (not goes) → PlaysCommand q table command s after (not b)
goes_as q s table after command goes b is k = subst (λ (t : Bool). PlaysCommand q table command s after (not t)) is k

-- ---- the end

pub playing_stopped : (p q s : PortView) (all : List Command) (i : ℕ) (table after : Table) (count capacity : ℕ) (command : Command) → Playing p all i q table count capacity → drop i all ≡ command ∷ drop (i + 1) all
    → PlaysCommand q table command s after true → PlaysCommands p all s Stopped
playing_stopped p q s all i table after count capacity command b e k = record {
  made = b.made ++ k.made;
  adds = makes_both p q s b.made k.made b.adds k.adds;
  how = ends.Stopped;
  record_is = ap (end_of_commands p.number all []) (sym (append-nil (b.made ++ k.made))) ∙ cut_record p q s all i table after count capacity command true b k e [];
  ended_so = refl;
}

pub playing_done : (p q : PortView) (all : List Command) (i : ℕ) (table : Table) (count capacity : ℕ) → Playing p all i q table count capacity → length all ≤ i → PlaysCommands p all q Done
playing_done p q all i table count capacity b h = record {
  made = b.made;
  adds = b.adds;
  how = ends.Done;
  record_is = ap (end_of_commands p.number all []) (sym (append-nil b.made)) ∙ b.so_far [] ∙ ap (λ (cs : List Command). end_of_commands p.number cs (slots_of table) []) (drop_all i all h);
  ended_so = refl;
}
