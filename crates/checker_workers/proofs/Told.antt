-- One reply more is kept.
use Rattle.std.proofs.Common.{◌≤◌, ◌++◌, [], ◌∷◌, Option, None, Some, map, ap, sym, subst, ◌∙◌, arith}
use Rattle.std.proofs.lemmas.List.{map-append}
use Rattle.std.specs.Prelude.{IfSome}
use Rattle.std.specs.Global.{Vec}
use Rattle.event_words.specs.declared.event.Event.{Event}
use Rattle.event_words.specs.declared.reply.Reply.{Reply}
use Rattle.checker_workers.specs.Ports.{PortView, IsAtReset, MakesEvent, port_events}
use Rattle.checker_workers.specs.Told.{reply_in, Tells, IsPort, HasRoom, IsTold}

pub has_room : (p : PortView) (told : Option (Vec Reply)) → 1 ≤ p.left → IfSome told (Tells p) → HasRoom told
has_room p None l t = tt
has_room p (Some v) l t = let room = t.room in omega (arith, room, l)

told_more : (p q : PortView) (e : Event) (r : Reply) (old new : Option (Vec Reply)) → MakesEvent p e r q → IfSome old (Tells p) → IsTold old r new → IfSome new (Tells q)
told_more p q e r None None m t n = tt
told_more p q e r (Some v) (Some w) m t n = record {
  all = n.0 ∙ ap (λ xs. xs ++ r ∷ []) t.all ∙ sym (ap (map reply_in) m.own ∙ map-append reply_in (port_events p) _);
  room = let room = t.room in let left = m.left in omega (arith, room, left, n.1, n.2);
}
told_more p q e r None (Some w) m t n = absurd n
told_more p q e r (Some v) None m t n = absurd n

pub port_after : (p q : PortView) (e : Event) (r : Reply) (old new : Option (Vec Reply)) → MakesEvent p e r q → IsPort p old → IsTold old r new → IsPort q new
port_after p q e r old new m i n = record {
  reset = subst IsAtReset (sym (ap (λ (v : PortView). v.first) m.same)) i.reset;
  told = told_more p q e r old new m i.told n;
}
