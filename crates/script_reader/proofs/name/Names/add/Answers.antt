-- A new name's number is added too.
use Rattle.std.proofs.Common.{◌≡◌, ◌<◌, ◌^◌, ℕ, List, [], ◌∷◌, ◌++◌, None, true, is_none, if◌then◌else◌, length, map, ap, sym, subst, ◌∙◌, arith}
use Rattle.std.proofs.lemmas.List.{map_push}
use Rattle.script_reader.specs.Names.{is_name, slot_of, key_of, AreKeysOf}
use Rattle.script_reader.specs.KeySlots.{key_slot}
use Rattle.script_reader.proofs.Keys.{keys_more, key_named, key_is, none_is}
use Rattle.script_reader.proofs.name.Names.add.Goals as goal

pub invariant_of-self-in-Ok-true : goal.invariant_of-self-in-Ok-true
invariant_of-self-in-Ok-true c =
    let words = c.self.inside.words.items in
    let names : List (List ℕ) = map (λ x. x.now) words in
    let keys = c.self.inside.slots in
    let name : is_name c.args.word.now ≡ true = key_named c.args.word.now c.in-Some.key (sym c.in-Some.ensures) in
    let key : c.in-Some.key ≡ key_of c.args.word.now = key_is c.args.word.now c.in-Some.key (sym c.in-Some.ensures) in
    let new : is_none (key_slot keys c.in-Some.key) ≡ true = sym c.in-Ok-true.ensures.value ∙ c.in-Ok-true.field-0-test in
    let none : slot_of names c.args.word.now ≡ None = none_is _ (sym (ap is_none (ap (key_slot keys) key ∙ c.self.invariant.all c.args.word.now name)) ∙ new) in
    let few : length names < 2 ^ 32 = omega (arith, c.requires, ap (λ (ns : List (List ℕ)). length ns) c.self.view_is) in
    let more : map (λ x. x.now) c.push.new.self.items ≡ names ++ c.args.word.now ∷ [] = ap (map (λ x. x.now)) c.in_ok-push.ensures.items ∙ map_push (λ x. x.now) words c.args.word in
    let added : c.add.new.self ≡ keys ++ key_of c.args.word.now ∷ [] =
    c.in-Ok-true.ensures.keys ∙ ap (λ t. if t then keys ++ c.in-Some.key ∷ [] else keys) c.in-Ok-true.field-0-test ∙ ap (λ k. keys ++ k ∷ []) key in
    subst (λ ns. AreKeysOf c.add.new.self ns) (sym more) (subst (λ ks. AreKeysOf ks (names ++ c.args.word.now ∷ [])) (sym added) (keys_more keys names c.args.word.now c.self.invariant name none few))
