-- One caller more.
use Rattle.std.proofs.Common.{◌≡◌, ◌++◌, [], ◌∷◌, map, sym, ap, ◌∙◌, subst, arith, append_assoc}
use Rattle.std.proofs.lemmas.Grind.{common_steps}
use Rattle.std.proofs.lemmas.List.{map-append}
use Rattle.std.specs.Vec.Iter.{into_iter_items}
use Rattle.checker_workers.specs.Ports.{PortView}
use Rattle.script_player.specs.PlayedSections.{port_of}
use Rattle.script_player.specs.KeptReplies.{IsKept, AreKept}
use Rattle.script_player.proofs.MergedReplies.{kept_more}
use Rattle.script_player.proofs.playing.into_callers.Goals as goal

pub loop-lane-preserved : goal.loop-lane-preserved
loop-lane-preserved c =
    let inv = c.loop-lane.invariant in
    let steps = c.in-Some.ensures.steps.0 in
    let lane = c.in-Some.lane in
    let caller = c.into_told-caller.result.0 in
    let kept = c.into_told-caller.result.1 in
    let port : caller ≡ lane.port = c.into_told-caller.ensures.caller ∙ c.into_port.ensures in
    let pushed : c.push.new.self.items ≡ c.loop-lane.rest.items ++ caller ∷ [] = grind (arith, common_steps) in
    let more : c.push-else-is_err.new.self.items ≡ c.loop-lane.kept.items ++ kept ∷ [] = grind (arith, common_steps) in
    let is : IsKept caller kept = subst (λ (p : PortView). IsKept p kept) (sym c.into_told-caller.ensures.caller) c.into_told-caller.ensures.told in
    let are : AreKept (c.loop-lane.rest.items ++ caller ∷ []) (c.loop-lane.kept.items ++ kept ∷ []) = kept_more c.loop-lane.rest.items c.loop-lane.kept.items caller kept inv.kept is in
    record {
      items = append_assoc c.loop-lane.yielded (lane ∷ []) (into_iter_items c.next.new.self) ∙ ap (λ l. c.loop-lane.yielded ++ l) (sym steps) ∙ inv.items;
      callers = pushed ∙ ap (λ l. l ++ caller ∷ []) inv.callers ∙ ap (λ p. map port_of c.loop-lane.yielded ++ p ∷ []) port ∙ sym (map-append port_of c.loop-lane.yielded (lane ∷ []));
      kept = subst (λ cs. AreKept cs c.push-else-is_err.new.self.items) (sym pushed) (subst (λ ks. AreKept (c.loop-lane.rest.items ++ caller ∷ []) ks) (sym more) are);
    }
