-- A new key's slot is the number of keys before it, and the slots of these stay.
use Rattle.std.proofs.Common.{◌≡◌, ◌<◌, ◌≤◌, ◌++◌, ◌∷◌, [], ◌+◌, ◌^◌, ℕ, List, None, true, length, is_none, is_some, take, ap, sym, subst, ◌∙◌, arith}
use Rattle.std.proofs.lemmas.Grind.{common_steps}
use Rattle.std.specs.BTreeMap.{get}
use Rattle.std.specs.BTreeMap.Entry.{map_with_value, entry_value}
use Rattle.std.specs.Ordering.{nat_cmp}
use Rattle.script_reader.specs.KeySlots.{key_slot, is_above, IsRising, AreIndexed}
use Rattle.script_reader.proofs.Slots.{is_none as none_is}
use Rattle.script_reader.proofs.KeySlots.{above_new, taken_rising, indexed_above, indexed_other, given_new}
use Rattle.script_reader.proofs.key_slots.KeySlots.add.Goals as goal

pub invariant_of-self-then-is_above : goal.invariant_of-self-then-is_above
invariant_of-self-then-is_above c =
    let keys = c.self.inside.keys.items in
    let few : length keys < 2 ^ 32 = omega (arith, c.requires, ap (λ (ks : List ℕ). length ks) c.self.view_is) in
    let all : c.self.inside.rising ≡ length keys = cc in
    let above : is_above keys c.args.key ≡ true = ap (λ ks. is_above ks c.args.key) (sym c.deref.ensures.value) ∙ sym c.is_above.ensures ∙ c.if-is_above.true in
    subst (λ ks. AreIndexed ks (c.self.inside.rising + 1) c.self.inside.others) (sym c.in_ok-push.ensures.items)
    (indexed_above keys c.self.inside.rising c.self.inside.others c.self.invariant few c.args.key all above)

pub returns-then-is_above-clause-value : goal.returns-then-is_above-clause-value
returns-then-is_above-clause-value c =
    let keys = c.self.inside.keys.items in
    let all : c.self.inside.rising ≡ length keys = cc in
    let above : is_above keys c.args.key ≡ true = ap (λ ks. is_above ks c.args.key) (sym c.deref.ensures.value) ∙ sym c.is_above.ensures ∙ c.if-is_above.true in
    sym (ap (λ ks. is_none (key_slot ks c.args.key)) (sym c.self.view_is) ∙ ap is_none (above_new keys c.self.inside.rising c.self.inside.others c.args.key c.self.invariant all above))

pub returns-then-is_some-clause-value : goal.returns-then-is_some-clause-value
returns-then-is_some-clause-value c =
    let keys = c.self.inside.keys.items in
    let taken : is_some (key_slot (take c.self.inside.rising keys) c.args.key) ≡ true =
    ap (λ ks. is_some (key_slot (take c.self.inside.rising ks) c.args.key)) (sym c.deref-2.ensures.value) ∙ ap is_some (sym c.rising_slot.ensures) ∙ sym c.is_some.ensures ∙ c.if-is_some.true in
    sym (ap (λ ks. is_none (key_slot ks c.args.key)) (sym c.self.view_is) ∙ taken_rising keys c.self.inside.rising c.args.key taken)

pub invariant_of-self-else-slot-next : goal.invariant_of-self-else-slot-next
invariant_of-self-else-slot-next c =
    let keys = c.self.inside.keys.items in
    let few : length keys < 2 ^ 32 = omega (arith, c.requires, ap (λ (ks : List ℕ). length ks) c.self.view_is) in
    let absent : key_slot (take c.self.inside.rising keys) c.args.key ≡ None =
    none_is _ (ap (λ ks. is_some (key_slot (take c.self.inside.rising ks) c.args.key)) (sym c.deref-2.ensures.value) ∙ ap is_some (sym c.rising_slot.ensures) ∙ sym c.is_some.ensures ∙ c.if-is_some.false) in
    let slot = c.or_insert-slot.result.now in
    let given : slot ≡ c.len-next.result = c.if-slot-next.false in
    let count : c.len-next.result ≡ length keys = cc in
    let old : entry_value c.in-Ok.entry ≡ key_slot keys c.args.key =
    c.in-Ok.ensures.value ∙ ap (get nat_cmp c.self.inside.others) c.rank.ensures ∙ c.self.invariant.mapped c.args.key c.ranges.key.fits absent in
    let new : key_slot keys c.args.key ≡ None = given_new keys c.args.key (entry_value c.in-Ok.entry) slot c.len-next.result old c.or_insert-slot.ensures.value given count in
    let added = indexed_other keys c.self.inside.rising c.self.inside.others c.self.invariant few (map_with_value c.in-Ok.entry slot) c.args.key slot c.rank.result c.ranges.key.fits new c.rank.ensures (given ∙ count) (c.in-Ok.ensures.update.0 slot) in
    let more : keys ++ c.args.key ∷ [] ≡ c.push-2.new.self.items = sym c.in_ok-push-2.ensures.items in
    record {
      few = subst (λ ks. length ks ≤ 2 ^ 32) more added.few;
      within = subst (λ ks. c.self.inside.rising ≤ length ks) more added.within;
      rise = subst (λ ks. IsRising (take c.self.inside.rising ks)) more added.rise;
      mapped = λ q fits absent. grind (arith, common_steps, added.mapped q fits (ap (λ ks. key_slot (take c.self.inside.rising ks) q) more ∙ absent), ap (λ ks. key_slot ks q) more);
    }
