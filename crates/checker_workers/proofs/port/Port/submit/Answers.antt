-- The answer is that of the submission's reply, with its ticket.
use Rattle.std.proofs.Common.{sym, subst}
use Rattle.event_words.specs.declared.reply.Reply.{Reply}
use Rattle.checker_workers.specs.Tickets.{MakesSubmission}
use Rattle.checker_workers.proofs.OpenTickets.{handed_out}
use Rattle.checker_workers.proofs.port.Port.submit.Goals as goal

pub returns : goal.returns
returns c = record {
  event = subst (λ (r : Reply). MakesSubmission c.args.self.now c.args.unit c.args.access r c.make_submission-reply.new.self) (sym c.answer.ensures.reply) c.make_submission-reply.ensures.event;
  ticket = handed_out c.args.self.now c.make_submission-reply.new.self c.args.unit c.args.access c.make_submission-reply.result c.answer.result c.make_submission-reply.ensures.event c.answer.ensures.reply c.answer.ensures.ticket;
}
