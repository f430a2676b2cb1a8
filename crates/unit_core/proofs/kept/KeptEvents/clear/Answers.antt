use Rattle.std.proofs.Common.{length, refl, ap}
use Rattle.unit_core.specs.KeptWords.{KeptView}
use Rattle.unit_core.specs.Places.{nothing_kept}
use Rattle.unit_core.proofs.KeptWords.{stand_set, stands_by_none, kept_set}
use Rattle.unit_core.proofs.kept.KeptEvents.clear.Goals as goal

pub invariant_of-self : goal.invariant_of-self
invariant_of-self c = record {
  stand = stand_set (length c.self.inside.wide.items) c.self.inside.words.items c.args.place 0 c.self.invariant.stand (stands_by_none (length c.self.inside.wide.items));
  rooms = c.self.invariant.rooms;
}

pub returns-clause-items : goal.returns-clause-items
returns-clause-items c =
    kept_set c.self.inside.wide.items c.self.inside.words.items c.args.place 0 c.args.self.now.items nothing_kept (ap (λ (v : KeptView). v.items) c.self.view_is) refl
