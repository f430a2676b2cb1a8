-- What callers kept and saw of a history: the replies to their own events, and their units.
use Rattle.std.specs.Prelude.{◌≡◌, ◌⊎◌, List, [], ◌∷◌, Option, IfSome, length}
use Rattle.std.specs.Global.{Vec}
use Rattle.event_words.specs.declared.reply.Reply.{Reply}
use Rattle.unit_core.specs.Reports.{unit_lines}
use Rattle.checker_workers.specs.Ports.{PortView, units_after}
use Rattle.checker_workers.specs.Told.{own_replies}
use Rattle.script_player.specs.declared.told.Seen.{Seen}

-- A list that a caller kept has the replies to all of its own events.
abbrev pub IsKept : PortView → Option (Vec Reply) → Type 0
IsKept caller kept = IfSome kept (λ replies. replies.items ≡ own_replies caller)

-- so for each of these callers
abbrev pub AreKept : List PortView → List (Option (Vec Reply)) → Type 0
AreKept [] [] = Unit {0}
AreKept (c ∷ cs) (k ∷ ks) = IsKept c k × AreKept cs ks
AreKept _ _ = ⊥

abbrev pub IsOneOf : PortView → List PortView → Type 0
IsOneOf c [] = ⊥
IsOneOf c (d ∷ ds) = (c ≡ d) ⊎ IsOneOf c ds

-- One of these callers saw so many events, and these are the lines of its units' error registers after them.
pub record IsSeenBy (callers : List PortView) (seen : Seen) : Type 0 where
  pub caller : PortView
  pub one : IsOneOf caller callers
  pub count : seen.events ≡ length caller.log
  pub errors : seen.errors.items ≡ unit_lines 0 (units_after caller caller.log)
