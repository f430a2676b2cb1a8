-- One lane more, with the replica that came with its section.
use Rattle.std.proofs.Common.{◌≡◌, ◌+◌, ◌++◌, [], ◌∷◌, length, inl, inr, eq-zero-or-pos, sym, ap, ◌∙◌, subst, arith, append_assoc, length-append}
use Rattle.std.proofs.lemmas.Grind.{common_steps}
use Rattle.std.specs.Vec.Iter.{into_iter_items}
use Rattle.shared_log.specs.Words.{words_by}
use Rattle.checker_workers.specs.Ports.{PortView}
use Rattle.script_player.specs.PlayedSections.{IsReadyPlayer, IsReadyLane}
use Rattle.script_player.proofs.PlayedSections.{item_behind, more_ready_for}
use Rattle.script_player.proofs.playing.split_lanes.Goals as goal

pub split_lane-requires-clause-player : goal.split_lane-requires-clause-player
split_lane-requires-clause-player c =
    let inv = c.loop-player.invariant in
    let shared = c.args.shared.now in
    let first = c.args.first.now in
    let all = ap (λ l. c.loop-player.yielded ++ l) (sym c.in-Some.ensures.steps.0) ∙ inv.items ∙ c.into_iter-player-iterator.ensures.into_iter_gives.0 in
    let is : IsReadyPlayer shared first.first c.in-Some.player =
    item_behind (IsReadyPlayer shared first.first) c.loop-player.yielded c.in-Some.player (into_iter_items c.next.new.self) c.args.players.items all c.requires.players in
    subst (λ (p : PortView). IsReadyPlayer shared p.first c.in-Some.player) (sym inv.first) is

pub loop-player-preserved : goal.loop-player-preserved
loop-player-preserved c =
    let inv = c.loop-player.invariant in
    let steps = c.in-Some.ensures.steps.0 in
    let shared = c.args.shared.now in
    let many = length-append c.loop-player.yielded (c.in-Some.player ∷ []) in
    let pushed : c.push.new.self.items ≡ c.loop-player.lanes.items ++ c.in_ok-lane.lane ∷ [] = grind (arith, common_steps) in
    let made : c.loop-player.first.made ≡ length c.loop-player.yielded + 1 = ap (λ (v : PortView). v.made) inv.first in
    let one : c.split_lane.new.first ≡ _ = c.split_lane.ensures.first ∙ ap (λ (v : PortView). let w : PortView = record v { made = v.made + 1 } in w) inv.first in
    let more : (length c.loop-player.yielded + 1) + 1 ≡ length (c.loop-player.yielded ++ c.in-Some.player ∷ []) + 1 = omega (arith, many) in
    let lane : IsReadyLane shared c.args.first.now.first c.loop-player.first.made c.in-Some.player.section c.in_ok-lane.lane =
    subst (λ us. IsReadyLane shared us c.loop-player.first.made c.in-Some.player.section c.in_ok-lane.lane) (ap (λ (v : PortView). v.first) inv.first) c.in_ok-lane.ensures.ready in
    record {
      items = append_assoc c.loop-player.yielded (c.in-Some.player ∷ []) (into_iter_items c.next.new.self) ∙ ap (λ l. c.loop-player.yielded ++ l) (sym steps) ∙ inv.items;
      len = let was = inv.len in let gone = c.in-Some.ensures.steps.1 in omega (arith, was, gone, ap length steps);
      first = one ∙ ap (λ n. let w : PortView = record c.args.first.now { made = n } in w) more;
      alone = λ one some. elim (eq-zero-or-pos (length c.loop-player.yielded)) [
        | inl z ↦ subst (λ l. words_by 0 l ≡ l) (ap (λ (v : PortView). v.log) inv.first) (c.split_lane.ensures.alone (omega (arith, made, z)))
        | inr g ↦ inv.alone one g
      ];
      lanes = more_ready_for shared c.args.first.now.first c.loop-player.yielded c.in-Some.player c.loop-player.lanes.items c.push.new.self.items c.in_ok-lane.lane c.loop-player.first.made inv.lanes pushed made lane;
    }
