-- What contracts see of a shared log and of its callers.
use Rattle.std.specs.Prelude.{◌≡◌, ℕ, ◌+◌, ◌*◌, ◌<◌, ◌≤◌, true, List, [], ◌∷◌, ◌++◌, length}
use Rattle.atomic_table.specs.Seated.{TableId}
use Rattle.event_words.specs.Runs.{run}
use Rattle.event_words.specs.declared.reply.Reply.{Reply}
use Rattle.shared_log.specs.declared.seat_view.SeatView.{SeatView}
use Rattle.shared_log.specs.SeatViews.{IsSeatView}
use Rattle.shared_log.specs.Words.{words_by, AllEventWords}

-- Its words lie in this table. There may be so many callers, each with so many events.
pub record SharedView : Type 0 where
  pub table : TableId
  pub callers : ℕ
  pub budget : ℕ

-- A caller of the log in this table, with a machine of type M whose states are of type S. `made` is
-- told of the caller with number 0: how many callers were made, itself included. `first` is the state
-- of the machine before any event.
pub record CallerView (M S : Type 0) : Type 0 where
  pub table : TableId
  pub callers : ℕ
  pub budget : ℕ
  pub number : ℕ
  pub log : List ℕ
  pub left : ℕ
  pub made : ℕ
  pub machine : M
  pub first : S

-- The caller belongs to the log.
abbrev pub Belongs : {M S : Type 0} → CallerView M S → SharedView → Type 0
Belongs c s = (c.table ≡ s.table) × (c.callers ≡ s.callers) × (c.budget ≡ s.budget)

-- The events that are left and the calls that were made add up to the budget.
abbrev pub KeepsBudget : {M S : Type 0} → CallerView M S → Type 0
KeepsBudget c = c.left + length (words_by c.number c.log) ≡ c.budget

module _ {M S : Type 0} (state : M → S) (next_place places : M → ℕ) (after : S → ℕ → ℕ → S) where
  -- What holds of every caller.
  pub record IsCaller (c : CallerView M S) : Type 0 where
    pub number : c.number < c.callers
    pub most_callers : c.callers ≤ 32
    pub most_events : c.callers * c.budget ≤ 1048576
    pub events : AllEventWords c.log
    pub budget : KeepsBudget c
    pub within : (n : ℕ) → length (words_by n c.log) ≤ c.budget
    pub above : (n : ℕ) → c.callers ≤ n → words_by n c.log ≡ []
    pub unmade : c.number ≡ 0 → (n : ℕ) → c.made ≤ n → words_by n c.log ≡ []
    pub room : length c.log ≤ c.callers * c.budget
    pub more_room : 0 < c.left → length c.log < c.callers * c.budget
    pub replica : state c.machine ≡ run after c.first c.log
    pub next : next_place c.machine ≡ length c.log
    pub enough : c.callers * c.budget ≤ places c.machine

module _ {M S : Type 0} (after : S → ℕ → ℕ → S) (reply : S → ℕ → ℕ → Reply) where
  -- A call with this word. The log has events of other callers alone more, and then this word, whose
  -- reply is the machine's at its place. Nothing else changes but the machine and what is left.
  pub record AfterCall (c : CallerView M S) (word : ℕ) (answer : Reply) (d : CallerView M S) : Type 0 where
    pub between : List ℕ
    pub others : words_by c.number between ≡ []
    pub log : d.log ≡ (c.log ++ between) ++ word ∷ []
    pub left : d.left + 1 ≡ c.left
    pub answered : answer ≡ reply (run after c.first (c.log ++ between)) (length (c.log ++ between)) word
    pub same : d ≡ record c { log = d.log; left = d.left; machine = d.machine }

-- ---- the caller's fields

-- a caller with this seat
abbrev pub caller_view : {M S : Type 0} → TableId → SeatView → ℕ → M → S → CallerView M S
caller_view table v left machine first =
    record { table = table; callers = v.callers; budget = v.budget; number = v.number; log = v.log; left = left; made = v.made; machine = machine; first = first }

module _ {M S : Type 0} (state : M → S) (next_place places : M → ℕ) (after : S → ℕ → ℕ → S) where
  -- what holds of a caller's fields
  pub record HasCallerFields (words : ℕ) (v : SeatView) (number place left budget made : ℕ) (machine : M) (first : S) : Type 0 where
    pub live : v.live ≡ true
    pub none_joined : v.joined ≡ []
    pub number_is : v.number ≡ number
    pub place_is : place ≡ length v.log
    pub words_are : words ≡ v.callers * v.budget
    pub lot : v.callers ≤ 32
    pub few : v.callers * v.budget ≤ 1048576
    pub valid : IsSeatView v
    pub left_is : left + length (words_by number v.log) ≡ v.budget
    pub small : place ≤ words
    pub room : 0 < left → place < words
    pub state_is : state machine ≡ run after first v.log
    pub next_is : next_place machine ≡ length v.log
    pub budget_is : budget ≡ v.budget
    pub made_is : made ≡ v.made
    pub fits : v.callers * v.budget ≤ places machine

-- from c to d, only events of other callers were seen
pub record AfterOthers {M S : Type 0} (c d : CallerView M S) : Type 0 where
  pub between : List ℕ
  pub others : words_by c.number between ≡ []
  pub log : d.log ≡ c.log ++ between
  pub same : d ≡ record c { log = d.log; machine = d.machine }
