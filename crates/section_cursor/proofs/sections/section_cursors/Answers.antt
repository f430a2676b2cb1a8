-- A fresh cursor for the boot section, and one for each lane.
use Rattle.std.proofs.Common.{◌≡◌, ◌+◌, ◌++◌, ◌∷◌, [], List, length, take, length-append, arith, ap, sym, subst, ◌∙◌}
use Rattle.std.proofs.lemmas.List.{take_more}
use Rattle.event_words.specs.Sections.{SectionOf}
use Rattle.section_cursor.specs.Cursors.{CursorOf}
use Rattle.section_cursor.specs.Fresh.{IsFresh, AreFresh}
use Rattle.section_cursor.proofs.Fresh.{fresh_more}
use Rattle.section_cursor.proofs.sections.section_cursors.Goals as goal

pub loop-i-init : goal.loop-i-init
loop-i-init c =
    let new = c.in_ok-new.field-0 in
    let boot = c.args.boot.now in
    let pushed : c.push.new.self.items ≡ new ∷ [] = c.in_ok-push.ensures.items ∙ ap (λ (cs : List CursorOf). cs ++ new ∷ []) c.in_ok-cursors.ensures.items in
    let first : IsFresh 0 boot new = record { number = c.in_ok-new.ensures.caller; whole = c.in_ok-new.ensures.whole; tries = c.in_ok-new.ensures.tries; valid = c.in_ok-new.ensures.valid } in
    record {
      fresh = subst (λ (cs : List CursorOf). AreFresh 0 cs (boot ∷ [])) (sym pushed) (first, tt);
      count = ap length pushed;
    }

pub loop-i-preserved : goal.loop-i-preserved
loop-i-preserved c =
    let i = c.loop-i.i in
    let lanes = c.args.lanes.now in
    let lane = c.index-lanes-i.result in
    let new = c.in_ok-new-2.field-0 in
    let pushed : c.push-in-loop-i.new.self.items ≡ c.loop-i.cursors.items ++ new ∷ [] = c.in_ok-push-2.ensures.items in
    let taken = take_more lanes i lane c.loop-i-test.true ∙ ap (λ (s : SectionOf). take i lanes ++ s ∷ []) (sym c.index-lanes-i.is) in
    let count = c.loop-i.invariant.count in
    let next : IsFresh (i + 1) lane new = record { number = c.in_ok-new-2.ensures.caller; whole = c.in_ok-new-2.ensures.whole; tries = c.in_ok-new-2.ensures.tries; valid = c.in_ok-new-2.ensures.valid } in
    record {
      fresh = rw (pushed, taken) (fresh_more c.loop-i.cursors.items (c.args.boot.now ∷ take i lanes) 0 (i + 1) new lane (omega (arith, count)) c.loop-i.invariant.fresh next);
      count = rw pushed (simp length-append (omega (arith, count)));
    }
