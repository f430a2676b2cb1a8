use Rattle.std.proofs.Common.{drop, length, ◌∙◌, arith, sym, ap}
use Rattle.unit_core.specs.Units.{FabricState, word_step}
use Rattle.unit_core.specs.Fabrics.{FabricView}
use Rattle.unit_core.proofs.Applied.{found, may_step, has_room, word_taken}
use Rattle.unit_core.proofs.fabric.Fabric.take.Goals as goal

pub step_word-requires-clause-ready : goal.step_word-requires-clause-ready
step_word-requires-clause-ready c =
    let f = c.self.inside in
    may_step c.args.place f.units.items c.as_mut_slice.result.now f.kept c.add.new.self c.self.invariant (c.requires.place ∙ sym (ap (λ (v : FabricView). v.next) c.self.view_is))
    (omega (arith, c.requires.room, ap (λ (v : FabricView). v.places) c.self.view_is)) c.as_mut_slice.ensures.value (record { items = c.add.ensures.items; places = c.add.ensures.places; wides = c.add.ensures.wides })

pub step_word-requires-clause-room : goal.step_word-requires-clause-room
step_word-requires-clause-room c =
    let f = c.self.inside in
    has_room c.args.place f.units.items f.kept c.add.new.self c.self.invariant (c.requires.place ∙ sym (ap (λ (v : FabricView). v.next) c.self.view_is))
    (omega (arith, c.requires.room, ap (λ (v : FabricView). v.places) c.self.view_is)) (record { items = c.add.ensures.items; places = c.add.ensures.places; wides = c.add.ensures.wides })

pub returns-clause-state : goal.returns-clause-state
returns-clause-state c =
    let f = c.self.inside in
    let s = c.step_word in
    word_taken c.args.place c.args.word f.units.items c.as_mut_slice.result.now s.new.units (drop (length s.new.units) f.units.items) f.units.len f.aims s.new.aims
    f.kept c.add.new.self s.new.kept.items c.args.self.now c.self.view_is c.as_mut_slice.ensures.value (record { items = c.add.ensures.items; places = c.add.ensures.places; wides = c.add.ensures.wides })
    (s.auto.units ∙ c.as_mut_slice.ensures.len) (sym (ap (λ (t : FabricState). t.units) s.ensures.taken.state)) (sym (ap (λ (t : FabricState). t.aims) s.ensures.taken.state))

pub returns-clause-reply : goal.returns-clause-reply
returns-clause-reply c =
    let f = c.self.inside in
    λ a. c.step_word.ensures.reply a ∙ ap (λ t. (word_step c.args.place t c.args.word).1)
    (found f.units.items c.as_mut_slice.result.now f.aims f.kept c.add.new.self c.args.self.now c.self.view_is c.as_mut_slice.ensures.value (record { items = c.add.ensures.items; places = c.add.ensures.places; wides = c.add.ensures.wides }))
