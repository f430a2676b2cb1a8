-- A slot among the keys that rise is one among all.
use Rattle.std.proofs.Common.{sym, ap, take, ◌∙◌}
use Rattle.script_reader.specs.KeySlots.{key_slot}
use Rattle.script_reader.proofs.KeySlots.{slot_rising}
use Rattle.script_reader.proofs.key_slots.KeySlots.slot.Goals as goal

pub returns-in-Some-clause-value : goal.returns-in-Some-clause-value
returns-in-Some-clause-value c =
    let rising = c.self.inside.rising in
    let keys = ap (λ ks. key_slot (take rising ks) c.args.key) c.deref.ensures.value in
    sym (ap (λ ks. key_slot ks c.args.key) (sym c.self.view_is) ∙ slot_rising c.self.inside.keys.items rising c.args.key c.in-Some.slot (sym keys ∙ sym c.in-Some.ensures))
