-- The replica that was brought up goes on from the log, and the new caller has a number of its own.
use Rattle.std.proofs.Common.{◌≡◌, ◌*◌, ◌<◌, ◌≤◌, [], sym, ap, ◌∙◌, subst, arith}
use Rattle.event_words.specs.Runs.{run}
use Rattle.shared_log.specs.Words.{words_by}
use Rattle.shared_log.specs.SeatViews.{new_caller}
use Rattle.shared_log.proofs.Callers.{new_caller_fields, caller_of_fields}
use Rattle.shared_log.proofs.Counting.{only_first}
use Rattle.shared_log.proofs.LogSteps.{split_allowed}
use Rattle.shared_log.proofs.shared.split.Goals as goal

pub bring_up-machine-requires : goal.bring_up-machine-requires
bring_up-machine-requires g c =
    let i = c.first.invariant.1 in
    let end : c.first.inside.place ≤ c.args.shared.now.callers * c.args.shared.now.budget =
    let s = i.small in let w = i.words_are in let v = ap (λ n. n.callers * n.budget) c.first.view_is in let b = ap (λ k. k * c.args.first.now.budget) c.requires.belongs.1 in let d = ap (λ k. c.args.shared.now.callers * k) c.requires.belongs.2 in omega arith in
    let room : c.first.inside.place ≤ g.M.Machine.places c.args.fresh = let e = end in let p = c.requires.machine.1 in omega arith in record {
      seat = (ap (λ n. n.table) c.first.view_is ∙ c.requires.belongs.0, i.live);
      end = (i.place_is, end);
      machine = (c.requires.machine.0, room);
    }

pub split_seat-seat-requires : goal.split_seat-seat-requires
split_seat-seat-requires g c =
    let i = c.first.invariant.1 in
    let t = c.shared.invariant in
    let k = c.shared.inside.table.shared in
    let up = c.bring_up-machine.ensures.seat in
    let me = up.1 in
    let view : c.bring_up-machine.new.seat.me.0 ≡ c.first.inside.seat.me.0 = ap (λ m. m.0) me in
    let same : c.bring_up-machine.new.seat.table_id ≡ k.table_id = up.0 ∙ ap (λ n. n.table) c.first.view_is ∙ c.requires.belongs.0 ∙ sym (ap (λ l. l.table) c.shared.view_is) in
    let zeroth : c.bring_up-machine.new.seat.me.0.number ≡ 0 = ap (λ v. v.number) view ∙ ap (λ n. n.number) c.first.view_is ∙ c.requires.number in
    let made : c.bring_up-machine.new.seat.me.0.made < k.key.callers = let m = c.requires.made in let a = ap (λ v. v.made) view in let e = ap (λ n. n.made) c.first.view_is in let f = ap (λ l. l.callers) c.shared.view_is in let h = t.0 in omega arith in (
      same,
      t.6,
      split_allowed k.key.callers k.key.budget c.bring_up-machine.new.seat.id c.bring_up-machine.new.seat.me.0 (ap (λ v. v.live) view ∙ i.live) zeroth made,
    )

pub invariant_of-result : goal.invariant_of-result
invariant_of-result g c =
    let m = g.M.Machine in
    let i = c.first.invariant.1 in
    let up = c.bring_up-machine.ensures in
    let sp = c.split_seat-seat.ensures in
    let v = c.first.inside.seat.me.0 in
    let me = sp.4 ∙ ap (λ x. (new_caller x.0, [])) up.seat.1 in
    let table = sp.3 ∙ up.seat.0 in
    let start : m.state c.first.inside.first.value ≡ m.state c.args.fresh = ap (λ n. n.first) c.first.view_is ∙ sym c.requires.state in
    let few : v.made < v.callers = let a = c.requires.made in let b = c.requires.belongs.1 in let e = ap (λ n. n.made) c.first.view_is in let f = ap (λ n. n.callers) c.first.view_is in omega arith in
    let zeroth : v.number ≡ 0 = ap (λ n. n.number) c.first.view_is ∙ c.requires.number in
    let room : v.callers * v.budget ≤ m.places c.bring_up-machine.result = let a = up.places in let p = c.requires.machine.1 in let e = ap (λ n. n.callers * n.budget) c.first.view_is in let b = ap (λ k. k * c.args.first.now.budget) c.requires.belongs.1 in let d = ap (λ k. c.args.shared.now.callers * k) c.requires.belongs.2 in omega arith in
    let new = new_caller_fields m.state m.next_place m.places m.after i zeroth few c.bring_up-machine.result (up.state ∙ ap (λ s. run m.after s v.log) (sym start)) up.next room in (
      ap (λ x. x.1) me,
      rw (ap (λ x. x.0) me, ap (λ t. t.words) table, c.of-origin.ensures, ← start) new,
    )

pub returns-clause-caller : goal.returns-clause-caller
returns-clause-caller g c =
    let m = g.M.Machine in
    caller_of_fields m.state m.next_place m.places m.after c.split_seat-seat.result.table_id (invariant_of-result g c).1

pub returns-clause-alone : goal.returns-clause-alone
returns-clause-alone g c = λ one.
    let i = c.first.invariant.1 in
    let up = c.bring_up-machine.ensures in
    let log = ap (λ x. x.0.log) (c.split_seat-seat.ensures.4) ∙ ap (λ x. x.0.log) up.seat.1 in
    let zeroth = ap (λ n. n.number) c.first.view_is ∙ c.requires.number in
    let made = ap (λ n. n.made) c.first.view_is in
    subst (λ l. words_by 0 l ≡ l) (sym log) (only_first c.first.inside.seat.me.0.log (λ n h. i.valid.later zeroth n (omega arith)))
