-- Lanes that play the sections of a script make a legal history.
use Rattle.std.proofs.Common.{◌≡◌, ℕ, suc, ◌+◌, ◌*◌, ◌<◌, ◌≤◌, List, [], ◌∷◌, ◌++◌, length, map, get_or, refl, sym, ap, ◌∙◌, subst, arith, zero-add, Some, Option, ◌/◌, max, length-append}
use Rattle.std.proofs.Math.ListN.{get_or-append}
use Rattle.std.proofs.Math.Seq.{get_or-append_seam}
use Rattle.std.proofs.lemmas.List.{length-map, map-append}
use Rattle.std.proofs.Math.Nat.{mul-div_cancel_left}
use native.Mathlib.Decide.{ℕ_discrete, dec_le}
use Rattle.std.specs.Prelude.{slice_index_or, IsSome, All}
use Rattle.std.specs.List.{AllByRecursion}
use Rattle.event_words.specs.declared.shape.Shape.{Shape}
use Rattle.event_words.specs.declared.record.LoggedEvent.{LoggedEvent}
use Rattle.event_words.specs.declared.record.SectionEnd.{SectionEnd}
use Rattle.event_words.specs.Runs.{caller_of_word, logged}
use Rattle.event_words.specs.Records.{section_end, events_by}
use Rattle.event_words.specs.Sections.{SectionOf, most_section_events, IsValidSection, NamesOnlyUnits}
use Rattle.event_words.proofs.ListItems.{all_after}
use Rattle.script_reader.specs.Scripts.{ScriptOf, most_from, need_of, HasAtMost}
use Rattle.script_reader.proofs.Needs.{at_least, each_within}
use Rattle.unit_core.specs.Units.{FabricState, fabric_at_reset}
use Rattle.unit_core.specs.Fabrics.{FabricView, state_after_word, reply_to_word}
use Rattle.unit_core.specs.Histories.{IsBoot, IsOfLane, BootComesFirst, HasRecord, HaveRecords, IsLegalHistory, logged_in}
use Rattle.shared_log.specs.Words.{words_by, AllEventWords}
use Rattle.shared_log.specs.Callers.{SharedView, Belongs}
use Rattle.shared_log.specs.Histories.{HoldsCaller}
use Rattle.shared_log.proofs.WordLists.{words-append, append-none-right}
use Rattle.shared_log.proofs.Counting.{words-own, words-other, below, tail_none}
use Rattle.shared_log.proofs.Histories.{own_events-in-history, own_events-at-first}
use Rattle.checker_workers.specs.Ports.{PortView, IsAtReset, port_events}
use Rattle.checker_workers.specs.Lanes.{LaneView, MayPlay, MayRun, Runs}
use Rattle.checker_workers.specs.declared.lane.LaneEnd.TheVariants.{Fresh}
use Rattle.checker_workers.proofs.Turns.{belongs_still}
use Rattle.shared_log.specs.Callers.{KeepsBudget}
use Rattle.script_player.specs.declared.players.Player.{Player}
use Rattle.script_player.specs.PlayedSections.{section_of, IsPlayer, IsReadyPlayer, MayAllPlay, MayBePlayed, HasPlayed, IsFirstCaller, MaySplit, IsReadyLane, AreReadyLanes, RunsTo}

-- ---- the record of a caller, in the history

record_in : (shapes : List Shape) (history : List ℕ) (number : ℕ) (section : SectionOf) (c : PortView)
    → HasPlayed (fabric_at_reset shapes) number section c → HoldsCaller history c → HasRecord (logged_in shapes history) number section
record_in shapes history number section c p h =
    let us : FabricState = fabric_at_reset shapes in
    let own : (n : ℕ) (s : FabricState) → Type 0 = λ n s. events_by n (logged state_after_word reply_to_word s history) ≡ events_by n (logged state_after_word reply_to_word s c.log) in
    let e : own c.number c.first = own_events-in-history state_after_word reply_to_word history c h in
    let f : own number us = subst (λ s. own number s) p.first_is (subst (λ n. own n c.first) p.number_is e) in
    subst (λ xs. IsSome (section_end number section xs)) (sym f) p.record_is

-- the records of all lanes, of which the first has the number i
records : (events : List LoggedEvent) (i : ℕ) (ss : List SectionOf) → ((k : ℕ) (d : SectionOf) → k < length ss → HasRecord events (k + i) (slice_index_or ss k d)) → HaveRecords events i ss
records events i [] h = tt
records events i (s ∷ ss) h = (
  subst (λ n. HasRecord events n s) (zero-add i) (h 0 s (omega arith)),
  records events (i + 1) ss (λ k d lt. let e : suc k + i ≡ k + (i + 1) = omega arith in subst (λ n. HasRecord events n (slice_index_or ss k d)) e (h (suc k) d (omega arith))),
)

-- ---- whose events come first

tail_at : (c w : ℕ) (ws : List ℕ) → words_by c (w ∷ ws) ≡ [] → Dec (caller_of_word w ≡ c) → words_by c ws ≡ []
tail_at c w ws none (yes h) = let e : w ∷ words_by c ws ≡ [] = sym (words-own c w ws h) ∙ none in cc
tail_at c w ws none (no h) = sym (words-other c w ws h) ∙ none

tail_of : (c w : ℕ) (ws : List ℕ) → words_by c (w ∷ ws) ≡ [] → words_by c ws ≡ []
tail_of c w ws none = tail_at c w ws none (ℕ_discrete (caller_of_word w) c)

other : (w : ℕ) (ws : List ℕ) → words_by 0 (w ∷ ws) ≡ [] → Dec (caller_of_word w ≡ 0) → 1 ≤ caller_of_word w
other w ws none (yes h) = let e : w ∷ words_by 0 ws ≡ [] = sym (words-own 0 w ws h) ∙ none in cc
other w ws none (no h) = omega arith

pub boot_words : (ws : List ℕ) → ((c : ℕ) → 1 ≤ c → words_by c ws ≡ []) → AllByRecursion IsBoot ws
boot_words [] none = tt
boot_words (w ∷ ws) none = (let lt = below 1 w ws none (dec_le 1 (caller_of_word w)) in omega arith, boot_words ws (tail_none 1 w ws (below 1 w ws none (dec_le 1 (caller_of_word w))) none))

lane_words : (n : ℕ) (ws : List ℕ) → words_by 0 ws ≡ [] → ((c : ℕ) → n + 1 ≤ c → words_by c ws ≡ []) → AllByRecursion (IsOfLane n) ws
lane_words n [] first none = tt
lane_words n (w ∷ ws) first none =
    let lt = below (n + 1) w ws none (dec_le (n + 1) (caller_of_word w)) in
    ((other w ws first (ℕ_discrete (caller_of_word w) 0), omega arith), lane_words n ws (tail_of 0 w ws first) (tail_none (n + 1) w ws lt none))

boot_first : (n : ℕ) (history log rest : List ℕ) → history ≡ log ++ rest → ((c : ℕ) → 1 ≤ c → words_by c log ≡ []) → words_by 0 rest ≡ [] → ((c : ℕ) → n + 1 ≤ c → words_by c history ≡ []) → BootComesFirst n history
boot_first n history log rest is own none others = record {
  boot = log;
  others = rest;
  is = is;
  of_boot = boot_words log own;
  of_lanes = lane_words n rest none (λ c h. append-none-right (words_by c log) (words_by c rest) (sym (words-append c log rest) ∙ ap (words_by c) (sym is) ∙ others c h));
}

-- ---- the history

pub legal : (shapes : List Shape) (boot : SectionOf) (lanes : List SectionOf) (history : List ℕ) (first : PortView) (rest : List PortView)
    → AllEventWords history → HoldsCaller history first → ((k : ℕ) (d : PortView) → k < length rest → HoldsCaller history (slice_index_or rest k d))
    → ((c : ℕ) → length rest < c → words_by c history ≡ [])
    → HasPlayed (fabric_at_reset shapes) 0 boot first → ((c : ℕ) → 1 ≤ c → words_by c first.log ≡ [])
    → length rest ≡ length lanes
    → ((k : ℕ) (s : SectionOf) (d : PortView) → k < length rest → HasPlayed (fabric_at_reset shapes) (k + 1) (slice_index_or lanes k s) (slice_index_or rest k d))
    → IsLegalHistory shapes boot lanes history
legal shapes boot lanes history first rest events holds hold others played own count all = record {
  events = events;
  order = boot_first (length lanes) history first.log holds.log.rest holds.log.begins own
      (subst (λ n. words_by n holds.log.rest ≡ []) played.number_is holds.log.no_more) (λ c h. others c (omega arith));
  boot_record = record_in shapes history 0 boot first played holds;
  lane_records = records (logged_in shapes history) 1 lanes (λ k s lt. record_in shapes history (k + 1) (slice_index_or lanes k s) (slice_index_or rest k first) (all k s first (omega arith)) (hold k first (omega arith)));
}

-- ---- lanes

-- a lane whose caller made no event before it ran
played : (first : FabricState) (number : ℕ) (section : SectionOf) (l m : LaneView) → l.section ≡ section → l.port.number ≡ number → l.port.first ≡ first → port_events l.port ≡ []
    → Runs l m → HasPlayed first number section m.port
played first number section l m section_is number_is first_is none r =
    let own : (n : ℕ) (s : FabricState) → Type 0 = λ n s. events_by n (logged state_after_word reply_to_word s m.port.log) ≡ r.made in
    let n : m.port.number ≡ number = ap (λ (v : PortView). v.number) r.adds.same ∙ number_is in
    let f : m.port.first ≡ first = ap (λ (v : PortView). v.first) r.adds.same ∙ first_is in
    let e : own m.port.number m.port.first = r.adds.own ∙ ap (λ xs. xs ++ r.made) none in
    let made : own number first = subst (λ s. own number s) f (subst (λ k. own k m.port.first) n e) in
    let ended : section_end number section r.made ≡ Some r.how =
    subst (λ s. section_end number s r.made ≡ Some r.how) section_is (subst (λ k. section_end k l.section r.made ≡ Some r.how) number_is r.record_is) in
    record {
      number_is = n;
      first_is = f;
      record_is = subst (λ xs. IsSome (section_end number section xs)) (sym made) (subst (λ (o : Option SectionEnd). IsSome o) (sym ended) refl);
    }

pub no_events : (p : PortView) → p.log ≡ [] → port_events p ≡ []
no_events p none = ap (λ (words : List ℕ). events_by p.number (logged state_after_word reply_to_word p.first words)) none

pub boot_first_still : (shared : SharedView) (p : PortView) (section : SectionOf) (l m : LaneView) → IsFirstCaller shared p → l ≡ record { section = section; port = p; ended = Fresh } → Runs l m
    → IsFirstCaller shared m.port × (m.port.first ≡ p.first)
boot_first_still shared p section l m first is r =
    let port : l.port ≡ p = ap (λ (v : LaneView). v.port) is in
    let same : m.port ≡ record p { log = m.port.log; left = m.port.left; machine = m.port.machine } =
    r.adds.same ∙ ap (λ (v : PortView). let w : PortView = record v { log = m.port.log; left = m.port.left; machine = m.port.machine } in w) port in
    let f : m.port.first ≡ p.first = ap (λ (v : PortView). v.first) same in (
      record {
        belongs = belongs_still l.port m.port r.made shared r.adds (subst (λ v. Belongs v shared) (sym port) first.belongs);
        number = ap (λ (v : PortView). v.number) same ∙ first.number;
        made = ap (λ (v : PortView). v.made) same ∙ first.made;
        reset = subst IsAtReset (sym f) first.reset;
      },
      f,
    )

pub boot_played : (p : PortView) (section : SectionOf) (l m : LaneView) → p.number ≡ 0 → p.log ≡ [] → l ≡ record { section = section; port = p; ended = Fresh } → Runs l m → HasPlayed p.first 0 section m.port
boot_played p section l m zeroth none is r =
    let port : l.port ≡ p = ap (λ (v : LaneView). v.port) is in
    played p.first 0 section l m (ap (λ (v : LaneView). v.section) is) (ap (λ (v : PortView). v.number) port ∙ zeroth) (ap (λ (v : PortView). v.first) port)
    (no_events l.port (ap (λ (v : PortView). v.log) port ∙ none)) r

-- a lane of a caller that was just split off
pub ready : (shared : SharedView) (first : FabricState) (number : ℕ) (section : SectionOf) (c : PortView) (lane : LaneView) → lane ≡ record { section = section; port = c; ended = Fresh }
    → Belongs c shared → c.number ≡ number → c.first ≡ first → c.left ≡ shared.budget → KeepsBudget c → IsReadyLane shared first number section lane
ready shared first number section c lane is belongs number_is first_is left budget =
    let port : lane.port ≡ c = ap (λ (v : LaneView). v.port) is in record {
      fresh = ap (λ (v : LaneView). v.ended) is;
      section_is = ap (λ (v : LaneView). v.section) is;
      number_is = ap (λ (v : PortView). v.number) port ∙ number_is;
      first_is = ap (λ (v : PortView). v.first) port ∙ first_is;
      belongs = subst (λ v. Belongs v shared) (sym port) belongs;
      none = ap port_events port ∙ own_events-at-first state_after_word reply_to_word c budget (left ∙ sym belongs.2);
    }

pub ran : (shared : SharedView) (first : FabricState) (number : ℕ) (section : SectionOf) (lane : LaneView) (c : PortView) → IsReadyLane shared first number section lane → RunsTo lane c
    → HasPlayed first number section c × Belongs c shared
ran shared first number section lane c r to = (
  subst (HasPlayed first number section) (sym to.caller_is) (played first number section lane to.after r.section_is r.number_is r.first_is r.none to.runs),
  subst (λ v. Belongs v shared) (sym to.caller_is) (belongs_still lane.port to.after.port to.runs.made shared to.runs.adds r.belongs),
)

pub may_run : (shared : SharedView) (first : FabricState) (sections : List SectionOf) (lanes : List LaneView) → AreReadyLanes shared first sections lanes → All (λ l. MayRun shared l) lanes
may_run shared first sections lanes r k d lt = let x = r.each k (record { commands = []; slots = 0 }) d lt in (x.fresh, x.belongs)

pub may_split : (shared : SharedView) (p q : PortView) (n : ℕ) → q ≡ record p { made = n } → IsFirstCaller shared p → n < shared.callers → MaySplit shared q
may_split shared p q n e first more = record {
  belongs = (ap (λ (v : PortView). v.table) e ∙ first.belongs.0, ap (λ (v : PortView). v.callers) e ∙ first.belongs.1, ap (λ (v : PortView). v.budget) e ∙ first.belongs.2);
  number = ap (λ (v : PortView). v.number) e ∙ first.number;
  more = subst (λ k. k < shared.callers) (sym (ap (λ (v : PortView). v.made) e)) more;
  reset = subst IsAtReset (sym (ap (λ (v : PortView). v.first) e)) first.reset;
}

-- what holds of all items of a list holds of the one behind the first of them
pub item_behind : {A : Type 0} (P : A → Type 0) (before : List A) (x : A) (after all : List A) → before ++ x ∷ after ≡ all → AllByRecursion P all → P x
item_behind P before x after all is h = (all_after P before (x ∷ after) (subst (AllByRecursion P) (sym is) h)).0

pub none_ready : (shared : SharedView) (first : FabricState) → AreReadyLanes shared first [] []
none_ready shared first = record { count = refl; each = λ k s d lt. absurd (omega arith) }

-- one ready lane more
pub more_ready : (shared : SharedView) (first : FabricState) (sections : List SectionOf) (lanes : List LaneView) (section : SectionOf) (lane : LaneView)
    → AreReadyLanes shared first sections lanes → IsReadyLane shared first (length lanes + 1) section lane → AreReadyLanes shared first (sections ++ section ∷ []) (lanes ++ lane ∷ [])
more_ready shared first sections lanes section lane r l = record {
  count = let e = r.count in omega (arith, length-append lanes (lane ∷ []), length-append sections (section ∷ []));
  each = λ k s d lt. ready_at k s d lt (ℕ_discrete k (length lanes));
} where
  ready_at : (k : ℕ) (s : SectionOf) (d : LaneView) → k < length (lanes ++ lane ∷ []) → Dec (k ≡ length lanes) → IsReadyLane shared first (k + 1) (get_or (sections ++ section ∷ []) k s) (get_or (lanes ++ lane ∷ []) k d)
  ready_at k s d lt (yes h) =
      let e : k ≡ length sections = h ∙ r.count in
      let x : get_or (sections ++ section ∷ []) k s ≡ section = ap (λ i. get_or (sections ++ section ∷ []) i s) e ∙ get_or-append_seam sections section [] s in
      let y : get_or (lanes ++ lane ∷ []) k d ≡ lane = ap (λ i. get_or (lanes ++ lane ∷ []) i d) h ∙ get_or-append_seam lanes lane [] d in
      subst (λ v. IsReadyLane shared first (k + 1) v (get_or (lanes ++ lane ∷ []) k d)) (sym x)
      (subst (λ v. IsReadyLane shared first (k + 1) section v) (sym y) (subst (λ i. IsReadyLane shared first (i + 1) section lane) (sym h) l))
  ready_at k s d lt (no h) =
      let less : k < length lanes = omega (arith, length-append lanes (lane ∷ [])) in
      let fewer : k < length sections = let e = r.count in omega arith in
      subst (λ v. IsReadyLane shared first (k + 1) v (get_or (lanes ++ lane ∷ []) k d)) (sym (get_or-append sections (section ∷ []) s k fewer))
      (subst (λ v. IsReadyLane shared first (k + 1) (get_or sections k s) v) (sym (get_or-append lanes (lane ∷ []) d k less)) (r.each k s d less))

-- so after one turn more
pub more_ready_for : (shared : SharedView) (first : FabricState) (players : List Player) (player : Player) (lanes after : List LaneView) (lane : LaneView) (n : ℕ)
    → AreReadyLanes shared first (map section_of players) lanes → after ≡ lanes ++ lane ∷ [] → n ≡ length players + 1 → IsReadyLane shared first n player.section lane
    → AreReadyLanes shared first (map section_of (players ++ player ∷ [])) after
more_ready_for shared first players player lanes after lane n r pushed number l =
    let e : n ≡ length lanes + 1 = let many = r.count in omega (arith, many, length-map players section_of) in
    subst (λ v. AreReadyLanes shared first v after) (sym (map-append section_of players (player ∷ []))) (subst (λ v. AreReadyLanes shared first (map section_of players ++ player.section ∷ []) v) (sym pushed)
    (more_ready shared first (map section_of players) lanes player.section lane r (subst (λ k. IsReadyLane shared first k player.section lane) e l)))

-- ---- the budget

-- the need divided by the callers
pub shared_need : (script : ScriptOf) (count need : ℕ) → count ≡ length script.lanes → need ≡ need_of script → need / (count + 1) ≡ most_from (max 1 (most_section_events script.boot)) script.lanes
shared_need script count need c n =
    let most : ℕ = most_from (max 1 (most_section_events script.boot)) script.lanes in
    let some : 0 < length script.lanes + 1 = omega arith in
    ap (λ k. need / (k + 1)) c ∙ ap (λ v. v / (length script.lanes + 1)) n ∙ mul-div_cancel_left most some

-- and no section has more
pub budgeted : (script : ScriptOf) (count need : ℕ) → count ≡ length script.lanes → need ≡ need_of script
    → (1 ≤ need / (count + 1)) × (most_section_events script.boot ≤ need / (count + 1)) × AllByRecursion (HasAtMost (need / (count + 1))) script.lanes
budgeted script count need c n =
    let e = shared_need script count need c n in
    let h = at_least (max 1 (most_section_events script.boot)) script.lanes in
    (omega arith, omega arith, subst (λ most. AllByRecursion (HasAtMost most) script.lanes) (sym e) (each_within (max 1 (most_section_events script.boot)) script.lanes))

-- ---- from the opening to the end

pub may_play : (section boot : SectionOf) (p : PortView) (n budget : ℕ) → boot ≡ section → length p.first.units ≡ n → p.left ≡ budget → MayBePlayed n budget section → MayPlay boot p
may_play section boot p n budget is count left may =
    subst (λ s. MayPlay s p) (sym is) (record {
      valid = may.valid;
      units = subst (λ k. NamesOnlyUnits k section) (sym count) may.units_there;
      enough = let e = may.enough in omega arith;
    })

pub all_may_play : (units budget : ℕ) (ss : List SectionOf) → AllByRecursion IsValidSection ss → AllByRecursion (NamesOnlyUnits units) ss → AllByRecursion (HasAtMost budget) ss → MayAllPlay units budget ss
all_may_play units budget [] valid there few = tt
all_may_play units budget (s ∷ ss) valid there few = (record { valid = valid.0; units_there = there.0; enough = few.0 }, all_may_play units budget ss valid.1 there.1 few.1)

pub players_ready : (shared : SharedView) (shapes : List Shape) (places budget : ℕ) (first : FabricState) (players : List Player) → first ≡ fabric_at_reset shapes → shared.callers * shared.budget ≤ places → shared.budget ≡ budget
    → MayAllPlay (length first.units) shared.budget (map section_of players) → AllByRecursion (IsPlayer shapes places budget) players → AllByRecursion (IsReadyPlayer shared first) players
players_ready shared shapes places budget first [] is fits same may made = tt
players_ready shared shapes places budget first (p ∷ ps) is fits same may made = (
  record {
    replica = record {
      state = ap (λ (f : FabricView). f.state) made.0.replica ∙ sym is;
      next = ap (λ (f : FabricView). f.next) made.0.replica;
      enough = let e : p.replica.places ≡ places = ap (λ (f : FabricView). f.places) made.0.replica in omega (arith, e, fits);
    };
    may = may.0;
    empty = made.0.empty;
    room = let room = made.0.room in omega (arith, room, same);
  },
  players_ready shared shapes places budget first ps is fits same may.1 made.1,
)

pub all_ran : (shared : SharedView) (first : FabricState) (sections : List SectionOf) (lanes : List LaneView) (rest : List PortView) → AreReadyLanes shared first sections lanes
    → ((k : ℕ) (l : LaneView) (c : PortView) → k < length lanes → RunsTo (slice_index_or lanes k l) (slice_index_or rest k c))
    → (k : ℕ) (s : SectionOf) (d : PortView) → k < length lanes → HasPlayed first (k + 1) (slice_index_or sections k s) (slice_index_or rest k d) × Belongs (slice_index_or rest k d) shared
all_ran shared first sections lanes rest r runs k s d lt =
    let lane : LaneView = record { section = s; port = d; ended = Fresh } in
    ran shared first (k + 1) (slice_index_or sections k s) (slice_index_or lanes k lane) (slice_index_or rest k d) (r.each k s lane lt) (runs k lane d lt)

still_played : (us : FabricState) (boot : SectionOf) (p q : PortView) (n : ℕ) → q ≡ record p { made = n } → HasPlayed us 0 boot p → HasPlayed us 0 boot q
still_played us boot p q n e h = subst (HasPlayed us 0 boot) (sym e) (record { number_is = h.number_is; first_is = h.first_is; record_is = h.record_is })

pub finished : (shapes : List Shape) (boot : SectionOf) (sections : List SectionOf) (history : List ℕ) (shared : SharedView) (p q : PortView) (n : ℕ) (lanes : List LaneView) (rest : List PortView)
    → q ≡ record p { made = n } → HasPlayed (fabric_at_reset shapes) 0 boot p → ((c : ℕ) → 1 ≤ c → words_by c p.log ≡ [])
    → AreReadyLanes shared (fabric_at_reset shapes) sections lanes → length rest ≡ length lanes
    → ((k : ℕ) (l : LaneView) (c : PortView) → k < length lanes → RunsTo (slice_index_or lanes k l) (slice_index_or rest k c))
    → AllEventWords history → HoldsCaller history q → ((k : ℕ) (d : PortView) → k < length rest → HoldsCaller history (slice_index_or rest k d))
    → ((c : ℕ) → length rest < c → words_by c history ≡ [])
    → IsLegalHistory shapes boot sections history
finished shapes boot sections history shared p q n lanes rest e boot_played own r count runs events holds hold others =
    let us : FabricState = fabric_at_reset shapes in
    legal shapes boot sections history q rest events holds hold others (still_played us boot p q n e boot_played)
    (λ c h. ap (λ (v : PortView). words_by c v.log) e ∙ own c h) (count ∙ r.count)
    (λ k s d lt. (all_ran shared us sections lanes rest r runs k s d (omega arith)).0)
