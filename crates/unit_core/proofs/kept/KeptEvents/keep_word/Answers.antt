use Rattle.std.proofs.Common.{length, ap}
use Rattle.event_words.specs.Word.{event_of_word}
use Rattle.unit_core.specs.KeptWords.{KeptView, kept_of_event}
use Rattle.unit_core.proofs.KeptWords.{stand_set, kept_set, stands_by_submit, kept_by_submit}
use Rattle.unit_core.proofs.kept.KeptEvents.keep_word.Goals as goal

pub invariant_of-self : goal.invariant_of-self
invariant_of-self c = record {
  stand = stand_set (length c.self.inside.wide.items) c.self.inside.words.items c.args.place c.args.word c.self.invariant.stand (stands_by_submit (length c.self.inside.wide.items) c.args.word c.requires.kind c.requires.submit);
  rooms = c.self.invariant.rooms;
}

pub returns-clause-items : goal.returns-clause-items
returns-clause-items c =
    kept_set c.self.inside.wide.items c.self.inside.words.items c.args.place c.args.word c.args.self.now.items (kept_of_event (event_of_word c.args.word)) (ap (λ (v : KeptView). v.items) c.self.view_is)
    (kept_by_submit c.self.inside.wide.items c.args.word c.requires.kind)
