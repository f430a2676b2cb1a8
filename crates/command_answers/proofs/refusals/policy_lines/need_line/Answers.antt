-- The formatted line is the named one.
use Rattle.std.proofs.Common.{Some, ap, sym}
use Rattle.command_answers.proofs.refusals.policy_lines.need_line.Goals as goal

pub returns-in_ok-line-in-TooManyDomains : goal.returns-in_ok-line-in-TooManyDomains
returns-in_ok-line-in-TooManyDomains c = rw (c.in-TooManyDomains.is, sym c.which_text-which.ensures) (ap Some (sym c.in_ok-line-in-TooManyDomains.ensures.ok))

pub returns-in_ok-line-in-TooManyEntries : goal.returns-in_ok-line-in-TooManyEntries
returns-in_ok-line-in-TooManyEntries c = rw (c.in-TooManyEntries.is, sym c.which_text-which.ensures) (ap Some (sym c.in_ok-line-in-TooManyEntries.ensures.ok))
