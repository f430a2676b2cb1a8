-- The caller's call makes the port's event, and there is room for its reply.
use Rattle.std.proofs.Common.{◌≡◌, ◌≤◌, sym, subst}
use Rattle.event_words.specs.Events.{caller_of}
use Rattle.event_words.specs.Word.{word_of}
use Rattle.unit_core.specs.Fabrics.{state_after_word, reply_to_word}
use Rattle.shared_log.specs.Callers.{AfterCall}
use Rattle.checker_workers.specs.Ports.{PortView}
use Rattle.checker_workers.proofs.Making.{makes_event}
use Rattle.checker_workers.proofs.Told.{has_room, port_after}
use Rattle.checker_workers.proofs.port.Port.make.Goals as goal

pub returns-clause-event : goal.returns-clause-event
returns-clause-event c =
    makes_event c.args.self.now c.call-reply.new.self c.args.event c.call-reply.result
    (subst (λ (p : PortView). AfterCall state_after_word reply_to_word p (word_of c.args.event) c.call-reply.result c.call-reply.new.self) c.self.view_is c.call-reply.ensures.call) c.call-reply.ensures.caller.replica c.requires.event c.requires.caller

pub keep_reply-requires : goal.keep_reply-requires
keep_reply-requires c =
    has_room c.self.inside.caller c.self.inside.told (subst (λ (p : PortView). 1 ≤ p.left) (sym c.self.view_is) c.requires.left) c.self.invariant.told

pub invariant_of-self : goal.invariant_of-self
invariant_of-self c =
    let p = c.self.inside.caller in
    let made = makes_event p c.call-reply.new.self c.args.event c.call-reply.result c.call-reply.ensures.call c.call-reply.ensures.caller.replica c.requires.event
    (subst (λ (v : PortView). caller_of c.args.event ≡ v.number) (sym c.self.view_is) c.requires.caller) in
    port_after p c.call-reply.new.self c.args.event c.call-reply.result c.self.inside.told c.keep_reply.new.told made c.self.invariant c.keep_reply.ensures
