-- The replies to the events of a port's caller, where they are kept.
use Rattle.std.specs.Prelude.{◌≡◌, ◌+◌, ◌≤◌, List, [], ◌∷◌, ◌++◌, Option, None, Some, IfSome, map, vec_len, vec_capacity}
use Rattle.std.specs.Global.{Vec}
use Rattle.event_words.specs.declared.record.LoggedEvent.{LoggedEvent}
use Rattle.event_words.specs.declared.reply.Reply.{Reply}
use Rattle.checker_workers.specs.Ports.{PortView, IsAtReset, port_events}

abbrev pub reply_in : LoggedEvent → Reply
reply_in x = x.reply

abbrev pub own_replies : PortView → List Reply
own_replies p = map reply_in (port_events p)

-- These are all of them, and there is room for those to the events that are left.
pub record Tells (p : PortView) (replies : Vec Reply) : Type 0 where
  pub all : replies.items ≡ own_replies p
  pub room : vec_len replies + p.left ≤ vec_capacity replies

-- what holds of a port's fields
pub record IsPort (p : PortView) (kept : Option (Vec Reply)) : Type 0 where
  pub reset : IsAtReset p.first
  pub told : IfSome kept (Tells p)

-- ---- one reply more

abbrev pub HasRoom : Option (Vec Reply) → Type 0
HasRoom told = IfSome told (λ replies. vec_len replies + 1 ≤ vec_capacity replies)

abbrev pub IsTold : Option (Vec Reply) → Reply → Option (Vec Reply) → Type 0
IsTold None reply None = Unit {0}
IsTold (Some old) reply (Some new) = (new.items ≡ old.items ++ reply ∷ []) × (vec_len new ≡ vec_len old + 1) × (vec_capacity new ≡ vec_capacity old)
IsTold _ reply _ = ⊥
