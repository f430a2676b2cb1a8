use Rattle.std.proofs.Common.{◌≡◌, ◌+◌, ◌≤◌, ◌∙◌, length, length-append, [], ◌∷◌, ◌++◌, ap, sym, subst, arith}
use Rattle.unit_core.specs.KeptWords.{KeptView, Stands}
use Rattle.unit_core.proofs.KeptWords.{stand_set, stand_more, stands_by_number, kept_set, kept_by_number, keep_more}
use Rattle.unit_core.proofs.kept.KeptEvents.keep_wide.Goals as goal

pub invariant_of-self : goal.invariant_of-self
invariant_of-self c =
    let wide = c.self.inside.wide.items in
    let words = c.self.inside.words.items in
    let more : length c.push_reserved.new.self.items ≡ length wide + 1 = ap length c.push_reserved.ensures.items ∙ length-append wide (c.args.submission ∷ []) in
    let number : c.len.result ≡ length wide + 1 = omega (arith, c.len.ensures, more) in
    record {
      stand = rw more (stand_set (length wide + 1) words c.args.place c.len.result (stand_more (length wide) words c.self.invariant.stand)
          (subst (Stands (length wide + 1)) (sym number) (stands_by_number (length wide + 1) (omega (arith, more, c.requires.place, c.requires.room.wides, c.requires.room.places, c.requires.room.few, ap (λ (v : KeptView). v.wides) c.self.view_is)))));
      rooms = subst (λ n. c.self.inside.words.cap ≤ n) (sym c.push_reserved.ensures.capacity) c.self.invariant.rooms;
    }

pub returns-clause-items : goal.returns-clause-items
returns-clause-items c =
    let wide = c.self.inside.wide.items in
    let words = c.self.inside.words.items in
    let more : length c.push_reserved.new.self.items ≡ length wide + 1 = ap length c.push_reserved.ensures.items ∙ length-append wide (c.args.submission ∷ []) in
    let number : c.len.result ≡ length wide + 1 = omega (arith, c.len.ensures, more) in
    rw c.push_reserved.ensures.items
    (kept_set (wide ++ c.args.submission ∷ []) words c.args.place c.len.result c.args.self.now.items c.args.submission
    (keep_more wide c.args.submission words c.self.invariant.stand ∙ ap (λ (v : KeptView). v.items) c.self.view_is)
    (kept_by_number wide c.args.submission c.len.result number (omega (arith, more, c.requires.place, c.requires.room.wides, c.requires.room.places, c.requires.room.few, ap (λ (v : KeptView). v.wides) c.self.view_is))))
