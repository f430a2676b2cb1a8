-- What a decision needs of the entries that touch or cover a transaction.
use Rattle.std.specs.Prelude.{◌≡◌, ℕ, ◌+◌, List, slice_get}
use Rattle.std.specs.List.{list_any}
use Rattle.event_words.specs.declared.access.Access.{Access}
use Rattle.event_words.specs.Word.{kind_code}
use Rattle.event_words.specs.Registers.{Registers}
use Rattle.event_words.specs.Decisions.{entry_grants, mutes}
use Rattle.match_rules.specs.declared.covering.Summary.{Summary}

-- what the decision needs of the entries that cover a transaction
pub record IsSummary (r : Registers) (a : Access) (covering : List ℕ) (summary : Summary) : Type 0 where
  pub first : summary.first ≡ slice_get covering 0
  pub grants : summary.grants ≡ list_any (entry_grants r a.rrid a.kind) covering
  pub mute_irq : summary.mute_irq ≡ mutes r (5 + kind_code a.kind) covering
  pub mute_err : summary.mute_err ≡ mutes r (8 + kind_code a.kind) covering
