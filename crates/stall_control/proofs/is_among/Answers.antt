use Rattle.stall_control.proofs.Selects.{among_by}
use Rattle.stall_control.proofs.is_among.Goals as goal

pub returns : goal.returns
returns c = among_by c.args.regs.now c.args.domains c.args.rrid c.known_domains_of.result c.known_domains_of.ensures
