use Rattle.std.proofs.Common.{ap, arith}
use Rattle.unit_core.specs.KeptWords.{KeptView}
use Rattle.unit_core.proofs.KeptWords.{wide_valid}
use Rattle.unit_core.proofs.kept.KeptEvents.open_access.Goals as goal

pub returns-then-word-ne-SUBMIT_KIND-clause-valid : goal.returns-then-word-ne-SUBMIT_KIND-clause-valid
returns-then-word-ne-SUBMIT_KIND-clause-valid c =
    rw (c.wide_access.ensures, c.as_slice.ensures.value)
    (wide_valid c.args.unit c.args.caller c.self.inside.wide.items c.self.inside.words.items c.args.self.now.items c.args.place c.index-word.result.now (ap (λ (v : KeptView). v.items) c.self.view_is)
    c.requires (omega arith) (cc) c.if-word-ne-SUBMIT_KIND.true)
