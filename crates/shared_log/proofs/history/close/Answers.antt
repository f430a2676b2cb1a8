-- One caller's log more is joined, and at the end only the first caller is left.
use Rattle.std.proofs.Common.{◌≡◌, ℕ, ◌+◌, ◌<◌, [], ◌∷◌, ◌++◌, length, get_or, map, vec_len, sym, refl, ap, ◌∙◌, subst, arith, length-append, append_assoc, append-nil, add-one}
use mathlib.Core.Option.{some}
use mathlib.Core.List.{map-append}
use lib.ListN.{get_elem?}
use Rattle.std.proofs.lemmas.List.{length-map, nil_from_length}
use Rattle.std.specs.Vec.Iter.{into_iter_items}
use Rattle.std.specs.Mem.Slots.{slots_items}
use Rattle.atomic_table.proofs.Lists.{at_map}
use Rattle.std.specs.List.{AllByRecursion}
use Rattle.shared_log.specs.Words.{BeginsWithLog}
use Rattle.shared_log.specs.SeatViews.{with_joined_log, with_joined}
use Rattle.shared_log.specs.Callers.{KeepsBudget}
use Rattle.shared_log.proofs.LogSteps.{join_allowed}
use Rattle.shared_log.proofs.Callers.{caller_of_fields}
use Rattle.shared_log.proofs.Closing.{at-item, finishes, item-behind, holds_caller}
use Rattle.shared_log.proofs.history.close.Goals as goal
use Rattle.event_words.proofs.ListItems.{all_at, all_push}

pub loop-caller-init : goal.loop-caller-init
loop-caller-init g c =
    let i = c.first.invariant.1 in
    let gives = c.into_iter-caller-iterator.ensures.into_iter_gives in
    let ok = c.args.rest.ok in record {
      items = refl;
      len = gives.1 ∙ ok.0 ∙ ap length (sym gives.0);
      table = refl;
      budgets = tt;
      me = λ k. (with_joined c.first.inside.seat.me.0 (i.none_joined k), c.first.invariant.0 k);
    }

pub join_seat-requires : goal.join_seat-requires
join_seat-requires g c =
    let i = c.first.invariant.1 in
    let u = c.caller.invariant.1 in
    let v = c.loop-caller.invariant in
    let k = c.shared.inside.table.shared in
    let t = c.shared.invariant in
    let x = c.in-Some.caller in
    let n : ℕ = length c.loop-caller.yielded in
    let shared : c.args.shared.table ≡ k.table_id = sym (ap (λ l. l.table) c.shared.view_is) in
    let steps = c.in-Some.ensures.steps.0 in
    let all = ap (λ l. c.loop-caller.yielded ++ l) (sym steps) ∙ v.items ∙ c.into_iter-caller-iterator.ensures.into_iter_gives.0 in
    let here : get_or c.args.rest.items n x ≡ x = item-behind c.loop-caller.yielded (into_iter_items c.next.new.self) x c.args.rest.items x all in
    let ok = c.args.rest.ok in
    let below : n < vec_len c.args.rest = omega (arith, ap length all, length-append c.loop-caller.yielded (x ∷ into_iter_items c.next.new.self)) in
    let asked = c.requires.rest n x below in
    let joined : c.loop-caller.seat.me.0.joined ≡ map (λ z. z.log) c.loop-caller.yielded = ap (λ m. m.0.joined) v.me in
    let many : length c.loop-caller.seat.me.0.joined ≡ n = ap length joined ∙ length-map c.loop-caller.yielded (λ z. z.log) in
    let number : c.caller.inside.seat.me.0.number ≡ n + 1 = ap (λ z. z.number) (c.caller.view_is ∙ sym here) ∙ asked.1 in (
      v.table ∙ ap (λ z. z.table) c.first.view_is ∙ c.requires.belongs.0 ∙ shared,
      ap (λ z. z.table) (c.caller.view_is ∙ sym here) ∙ asked.0.0 ∙ shared,
      c.caller.invariant.0,
      t.6,
      join_allowed k.key.callers k.key.budget c.loop-caller.seat.id c.loop-caller.seat.me.0 c.caller.inside.seat.id c.caller.inside.seat.me.0
          (ap (λ m. m.0.live) v.me ∙ i.live) (ap (λ m. m.0.number) v.me ∙ ap (λ z. z.number) c.first.view_is ∙ c.requires.number) u.live (omega arith),
    )

pub loop-caller-preserved : goal.loop-caller-preserved
loop-caller-preserved g c =
    let v = c.loop-caller.invariant in
    let x = c.in-Some.caller in
    let ys = c.loop-caller.yielded in
    let steps = c.in-Some.ensures.steps.0 in
    let gone = c.in-Some.ensures.steps.1 in
    let was = v.len in
    let j = c.join_seat.ensures in
    let log : c.caller.inside.seat.me.0.log ≡ x.log = ap (λ z. z.log) c.caller.view_is in record {
      items = append_assoc ys (x ∷ []) (into_iter_items c.next.new.self) ∙ ap (λ l. ys ++ l) (sym steps) ∙ v.items;
      len = omega (arith, ap length steps);
      table = j.0 ∙ v.table;
      budgets = all_push (λ k. KeepsBudget k) ys x v.budgets (subst (λ k. KeepsBudget k) c.caller.view_is (caller_of_fields g.M.Machine.state g.M.Machine.next_place g.M.Machine.places g.M.Machine.after c.caller.inside.seat.table_id c.caller.invariant.1).budget);
      me = j.2 ∙ ap (λ m. (with_joined_log m.0 c.caller.inside.seat.me.0, m.1)) v.me
          ∙ ap (λ ls. (with_joined c.first.inside.seat.me.0 ls, [])) (ap (λ l. map (λ z. z.log) ys ++ l ∷ []) log ∙ sym (map-append (λ z. z.log) ys (x ∷ [])));
    }

pub close_with-closed-requires : goal.close_with-closed-requires
close_with-closed-requires g c = c.loop-caller.invariant.table ∙ ap (λ z. z.table) c.first.view_is ∙ c.requires.belongs.0 ∙ sym (ap (λ l. l.table) c.shared.view_is)

pub returns : goal.returns
returns g c =
    let i = c.first.invariant.1 in
    let v = c.loop-caller.invariant in
    let k = c.shared.inside.table.shared in
    let f = c.close_with-closed.ensures.values.2 in
    let view = c.loop-caller.seat.me.0 in
    let none = c.in-None.ensures.steps in
    let ok = c.args.rest.ok in
    let empty : into_iter_items c.loop-caller.caller-iterator ≡ [] = nil_from_length (into_iter_items c.loop-caller.caller-iterator) (sym v.len ∙ none.0) in
    let all : c.loop-caller.yielded ≡ c.args.rest.items = sym (append-nil c.loop-caller.yielded) ∙ ap (λ l. c.loop-caller.yielded ++ l) (sym empty) ∙ v.items ∙ c.into_iter-caller-iterator.ensures.into_iter_gives.0 in
    let joined : view.joined ≡ map (λ z. z.log) c.args.rest.items = ap (λ m. m.0.joined) v.me ∙ ap (map (λ z. z.log)) all in
    let log : view.log ≡ c.args.first.log = ap (λ m. m.0.log) v.me ∙ ap (λ z. z.log) c.first.view_is in
    let made : view.made ≡ c.args.first.made = ap (λ m. m.0.made) v.me ∙ ap (λ z. z.made) c.first.view_is in
    let many = c.requires.all in
    let fin = finishes k.key.callers k.key.budget f.0.words f.0.views f.1.0 c.loop-caller.seat.id view f.1.1
    (ap (λ m. m.0.live) v.me ∙ i.live) (ap (λ m. m.0.number) v.me ∙ ap (λ z. z.number) c.first.view_is ∙ c.requires.number)
    (slots_items c.close_with-closed.result.words) c.gather.new.room.items f.2 c.gather.ensures in record {
      events = fin.events;
      first = holds_caller c.gather.new.room.items c.args.first (subst (λ n. BeginsWithLog n c.gather.new.room.items c.args.first.log) (sym c.requires.number) (subst (λ l. BeginsWithLog 0 c.gather.new.room.items l) log fin.first))
          (subst (λ k. KeepsBudget k) c.first.view_is (caller_of_fields g.M.Machine.state g.M.Machine.next_place g.M.Machine.places g.M.Machine.after c.first.inside.seat.table_id i).budget);
      rest = λ n d below.
          let x = get_or c.args.rest.items n d in
          let there : get_elem? view.joined n ≡ some x.log = ap (λ ls. get_elem? ls n) joined ∙ at_map (λ z. z.log) c.args.rest.items n x (at-item c.args.rest.items n d (omega arith)) in
          let number : x.number ≡ n + 1 = (c.requires.rest n d below).1 in
          let budget : KeepsBudget x = all_at (λ k. KeepsBudget k) c.args.rest.items n d (subst (λ l. AllByRecursion (λ k. KeepsBudget k) l) all v.budgets) (omega arith) in
          holds_caller c.gather.new.room.items x (subst (λ m. BeginsWithLog m c.gather.new.room.items x.log) (sym (add-one n) ∙ sym number) (fin.rest n x.log there)) budget;
      others = λ n above. fin.others n (omega arith);
    }
