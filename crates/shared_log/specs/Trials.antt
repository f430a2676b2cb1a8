-- What the trial with threads asks of its callers.
use Rattle.std.specs.Prelude.{◌≡◌, ℕ, ◌+◌, ◌<◌, List, length, slice_index_or}
use Rattle.shared_log.specs.Callers.{SharedView, CallerView, Belongs}

-- callers of the log, with the numbers 1, 2 and so on
abbrev pub AreCallers : {M S : Type 0} → SharedView → List (CallerView M S) → Type 0
AreCallers s callers =
    (k : ℕ) (d : _) → k < length callers → Belongs (slice_index_or callers k d) s × ((slice_index_or callers k d).number ≡ k + 1)

-- calls were made, and what belongs together stays
abbrev pub Stays : {M S : Type 0} → CallerView M S → CallerView M S → Type 0
Stays c d = (d.table ≡ c.table) × (d.callers ≡ c.callers) × (d.budget ≡ c.budget) × (d.number ≡ c.number)

-- each may make so many events
abbrev pub HaveLeft : {M S : Type 0} → ℕ → List (CallerView M S) → Type 0
HaveLeft n callers = (k : ℕ) (d : _) → k < length callers → (slice_index_or callers k d).left ≡ n
