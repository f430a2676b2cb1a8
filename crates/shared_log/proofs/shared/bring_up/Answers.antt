-- The replica takes the next word of the log.
use Rattle.std.proofs.Common.{◌≡◌, ℕ, ◌+◌, ◌*◌, ◌<◌, length, List, take, get_or, sym, ap, ◌∙◌, arith}
use Rattle.event_words.specs.Runs.{run}
use Rattle.event_words.proofs.Runs.{run-take}
use Rattle.std.proofs.Math.Seq.{take-length}
use Rattle.shared_log.proofs.LogSteps.{load_allowed}
use Rattle.shared_log.proofs.shared.bring_up.Goals as goal

pub load-word-requires : goal.load-word-requires
load-word-requires g c =
    let t = c.shared.invariant in
    let k = c.shared.inside.table.shared in
    let v = c.loop-place.invariant in
    let same : c.loop-place.seat.table_id ≡ k.table_id = v.seat.0 ∙ c.requires.seat.0 ∙ sym (ap (λ l. l.table) c.shared.view_is) in
    let before = c.loop-place-test.true in
    let callers = ap (λ l. l.callers * l.budget) c.shared.view_is in
    let e = c.requires.end in let w = t.2 in (
      same,
      omega arith,
      load_allowed k.key.callers k.key.budget k.table_id.slots c.loop-place.seat.id c.loop-place.seat.me c.loop-place.place (ap (λ m. m.0.live) v.seat.1 ∙ c.requires.seat.1) (let h = ap (λ m. length m.0.log) v.seat.1 in omega arith),
    )

pub loop-place-preserved : goal.loop-place-preserved
loop-place-preserved g c =
    let m = g.M.Machine in
    let v = c.loop-place.invariant in
    let ld = c.load-word.ensures in
    let log : List ℕ = c.args.seat.now.me.0.log in
    let s0 = m.state c.args.fresh in
    let below : c.loop-place.place < length log = let b = c.loop-place-test.true in let e = c.requires.end in omega arith in
    let word : c.load-word.result ≡ get_or log c.loop-place.place 0 = ld.2.1 ∙ ap (λ x. get_or x.0.log c.loop-place.place 0) v.seat.1 in record {
      seat = (ld.0 ∙ v.seat.0, ld.2.0 ∙ v.seat.1);
      state = c.advance.ensures.state ∙ ap (λ s. m.after s c.loop-place.place c.load-word.result) v.state ∙ ap (m.after (run m.after s0 (take c.loop-place.place log)) c.loop-place.place) word ∙ sym (run-take m.after s0 log c.loop-place.place below);
      next = c.advance.ensures.next ∙ ap (λ n. n + 1) v.next;
      places = c.advance.ensures.places ∙ v.places;
    }

pub returns-clause-state : goal.returns-clause-state
returns-clause-state g c =
    let m = g.M.Machine in
    let log : List ℕ = c.args.seat.now.me.0.log in
    let end : c.loop-place.place ≡ length log = let a = c.loop-place-test.false in let b = c.loop-place.auto.place-end in let e = c.requires.end in omega arith in
    c.loop-place.invariant.state ∙ ap (λ (n : ℕ). run m.after (m.state c.args.fresh) (take n log)) end ∙ ap (run m.after (m.state c.args.fresh)) (take-length log)
