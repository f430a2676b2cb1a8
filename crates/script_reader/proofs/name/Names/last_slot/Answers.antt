-- The last name has the last slot, and is a name as all are.
use Rattle.std.proofs.Common.{◌≡◌, ◌-◌, Some, sym, subst, ◌∙◌, ℕ, List, true}
use Rattle.std.specs.List.{list_all}
use Rattle.script_reader.specs.Names.{is_name, slot_of}
use Rattle.script_reader.proofs.Keys.{last_is, named_is}
use Rattle.script_reader.proofs.name.Names.last_slot.Goals as goal

pub returns-then-eq-clause-slot : goal.returns-then-eq-clause-slot
returns-then-eq-clause-slot c =
    last_is c.self.inside.words.items c.args.self.now c.index.result.now c.args.word.now c.len-count.result c.self.view_is (cc) c.if-count-ne0.true c.index.ensures (sym c.eq.ensures ∙ c.if-eq.true)
    c.self.invariant.last

pub returns-then-eq-clause-named : goal.returns-then-eq-clause-named
returns-then-eq-clause-named c =
    let slot : slot_of c.args.self.now c.args.word.now ≡ Some (c.len-count.result - 1) =
    last_is c.self.inside.words.items c.args.self.now c.index.result.now c.args.word.now c.len-count.result c.self.view_is (cc) c.if-count-ne0.true c.index.ensures (sym c.eq.ensures ∙ c.if-eq.true)
    c.self.invariant.last in
    named_is c.args.self.now c.args.word.now (c.len-count.result - 1) (subst (λ (names : List (List ℕ)). list_all is_name names ≡ true) c.self.view_is c.self.invariant.named) slot
