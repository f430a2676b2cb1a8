-- The parts of a run make a legal history, of which what its callers kept and saw tells.
use Rattle.std.proofs.Common.{◌≡◌, ℕ, ◌+◌, ◌*◌, ◌≤◌, [], ◌∷◌, length, vec_len, map, refl, sym, ap, subst, ◌∙◌, arith}
use Rattle.std.proofs.lemmas.Grind.{common_steps}
use Rattle.std.proofs.lemmas.List.{length-map}
use Rattle.unit_core.specs.Units.{FabricState, unit_at_reset, fabric_at_reset}
use Rattle.unit_core.specs.Fabrics.{FabricView}
use Rattle.shared_log.specs.Words.{words_by, BeginsWithLog}
use Rattle.shared_log.specs.Callers.{Belongs}
use Rattle.checker_workers.specs.Ports.{PortView}
use Rattle.script_player.specs.PlayedSections.{section_of, MayAllPlay, HasPlayed, AreReadyLanes}
use Rattle.script_player.specs.KeptReplies.{IsSeenBy}
use Rattle.script_player.specs.MergedReplies.{IsToldBy}
use Rattle.script_player.proofs.BootWords.{boot_alone}
use Rattle.script_player.proofs.PlayedSections.{may_play, may_run, players_ready, all_ran, finished}
use Rattle.script_player.proofs.MergedReplies.{finished_told}
use Rattle.script_player.proofs.HistoryLengths.{few_events}
use Rattle.script_player.proofs.playing.play_sections.Goals as goal

pub play_boot-requires-clause-may : goal.play_boot-requires-clause-may
play_boot-requires-clause-may g c =
    let shapes = c.args.shapes.now in
    let units : c.in_ok-shared.first.first ≡ fabric_at_reset shapes = c.in_ok-shared.ensures.machine.1 ∙ ap (λ (f : FabricView). f.state) c.in_ok-units.ensures in
    may_play c.args.boot.now _ c.in_ok-shared.first (length shapes) c.args.budget refl (ap (λ (f : FabricState). length f.units) units ∙ length-map shapes unit_at_reset) c.in_ok-shared.ensures.first.2 c.requires.boot

pub split_lanes-requires-clause-players : goal.split_lanes-requires-clause-players
split_lanes-requires-clause-players g c =
    let shapes = c.args.shapes.now in
    let shared = c.in_ok-shared.shared in
    let p = c.in_ok-first.first in
    let players = c.in_ok-players.players.items in
    let units : p.first ≡ fabric_at_reset shapes = c.in_ok-first.ensures.first.1 ∙ c.in_ok-shared.ensures.machine.1 ∙ ap (λ (f : FabricView). f.state) c.in_ok-units.ensures in
    let budget : shared.budget ≡ c.args.budget = c.in_ok-shared.ensures.shared.1 in
    let room : shared.callers * shared.budget ≡ (c.len.result + 1) * c.args.budget =
    ap (λ k. k * shared.budget) c.in_ok-shared.ensures.shared.0 ∙ ap (λ k. (c.len.result + 1) * k) budget in
    let count : length shapes ≡ length p.first.units = sym (ap (λ (f : FabricState). length f.units) units ∙ length-map shapes unit_at_reset) in
    let may : MayAllPlay (length p.first.units) shared.budget (map section_of players) =
    subst (λ ss. MayAllPlay (length p.first.units) shared.budget ss) (sym c.in_ok-players.ensures.sections)
    (subst (λ n. MayAllPlay n shared.budget c.args.lanes.items) count (subst (λ b. MayAllPlay (length shapes) b c.args.lanes.items) (sym budget) c.requires.sections)) in
    players_ready shared shapes ((c.len.result + 1) * c.args.budget) c.args.budget p.first players units (omega arith) budget may c.in_ok-players.ensures.made

pub run_all-requires-clause-ready : goal.run_all-requires-clause-ready
run_all-requires-clause-ready g c κs within = may_run c.in_ok-shared.shared _ _ c.in_ok-lanes.lanes.items c.in_ok-lanes.ensures.ready

pub close-history-requires-clause-rest : goal.close-history-requires-clause-rest
close-history-requires-clause-rest g c = λ k d lt.
    let rest = c.in_ok-rest.field-0.rest in
    let n : vec_len rest ≡ length rest.items = grind (arith, common_steps) in
    let m = c.in_ok-rest.ensures.count in
    let r = all_ran c.in_ok-shared.shared c.in_ok-first.first.first (map section_of c.in_ok-players.players.items) c.in_ok-lanes.lanes.items rest.items c.in_ok-lanes.ensures.ready c.in_ok-rest.ensures.ran
    k (record { commands = []; slots = 0 }) d (omega arith) in
    (r.1, r.0.number_is)

pub returns : goal.returns
returns g c =
    let shapes = c.args.shapes.now in
    let boot = c.args.boot.now in
    let sections = c.args.lanes.items in
    let shared = c.in_ok-shared.shared in
    let p = c.in_ok-first.first in
    let q = c.split_lanes.new.first in
    let n = length c.in_ok-players.players.items + 1 in
    let lanes = c.in_ok-lanes.lanes.items in
    let rest = c.in_ok-rest.field-0.rest in
    let kept = c.in_ok-rest.field-0.kept.items in
    let history = c.close-history.result in
    let seen = c.in_ok-seen.seen in
    let long : vec_len rest ≡ length rest.items = grind (arith, common_steps) in
    let units : c.in_ok-shared.first.first ≡ fabric_at_reset shapes = c.in_ok-shared.ensures.machine.1 ∙ ap (λ (f : FabricView). f.state) c.in_ok-units.ensures in
    let booted : HasPlayed (fabric_at_reset shapes) 0 boot p = subst (λ us. HasPlayed us 0 boot p) units c.in_ok-first.ensures.played in
    let ready : AreReadyLanes shared (fabric_at_reset shapes) sections lanes =
    subst (λ us. AreReadyLanes shared us sections lanes) (c.in_ok-first.ensures.first.1 ∙ units) (subst (λ l. AreReadyLanes shared p.first l lanes) c.in_ok-players.ensures.sections c.in_ok-lanes.ensures.ready) in
    let made = c.in_ok-first.ensures.first.0.made in
    let inserted : c.insert.new.self.items ≡ c.in_ok-first.own ∷ kept = grind (arith, common_steps) in
    let saw : IsSeenBy (q ∷ rest.items) seen = subst (λ cs. IsSeenBy (q ∷ cs) seen) c.deref.ensures.value c.in_ok-seen.ensures in
    let many : length rest.items ≡ length sections = c.in_ok-rest.ensures.count ∙ ready.count in
    let budget : shared.budget ≡ c.args.budget = c.in_ok-shared.ensures.shared.1 in
    let few : length history ≤ (length rest.items + 1) * shared.budget = few_events shared history q rest.items (record {
      belongs = subst (λ (v : PortView). Belongs v shared) (sym c.in_ok-lanes.ensures.first) c.in_ok-first.ensures.first.0.belongs;
      number = ap (λ (v : PortView). v.number) c.in_ok-lanes.ensures.first ∙ c.in_ok-first.ensures.first.0.number;
      holds = c.close-history.ensures.first;
      are = λ k d lt. let r = all_ran shared p.first (map section_of c.in_ok-players.players.items) lanes rest.items c.in_ok-lanes.ensures.ready c.in_ok-rest.ensures.ran k (record { commands = []; slots = 0 }) d (omega arith) in (r.1, r.0.number_is);
      hold = λ k d lt. c.close-history.ensures.rest k d (omega arith);
      others = λ i h. c.close-history.ensures.others i (omega arith);
    }) in
    let same_log : q.log ≡ p.log = ap (λ (v : PortView). v.log) c.in_ok-lanes.ensures.first in
    let count : length c.in_ok-players.players.items ≡ length sections = sym (length-map c.in_ok-players.players.items section_of) ∙ ap length c.in_ok-players.ensures.sections in
    let own : (i : ℕ) → 1 ≤ i → words_by i p.log ≡ [] = boot_alone history p.log q.number (length rest.items)
    (subst (λ l. BeginsWithLog q.number history l) same_log c.close-history.ensures.first.log) (λ i h. c.close-history.ensures.others i (omega arith))
    (λ some. c.in_ok-lanes.ensures.alone made (omega (arith, some, many, count))) in
    let told : IsToldBy shapes history (c.in_ok-first.own ∷ kept) seen =
    finished_told shapes boot sections history shared p q n lanes rest.items c.in_ok-first.own kept seen c.in_ok-lanes.ensures.first booted ready c.in_ok-rest.ensures.count c.in_ok-rest.ensures.ran
    c.close-history.ensures.events c.close-history.ensures.first (λ k d lt. c.close-history.ensures.rest k d (omega arith)) c.in_ok-first.ensures.kept c.in_ok-rest.ensures.kept saw in
    record {
      legal = finished shapes boot sections history shared p q n lanes rest.items
          c.in_ok-lanes.ensures.first booted own ready c.in_ok-rest.ensures.count c.in_ok-rest.ensures.ran
          c.close-history.ensures.events c.close-history.ensures.first (λ k d lt. c.close-history.ensures.rest k d (omega arith)) (λ i h. c.close-history.ensures.others i (omega arith));
      few = subst (λ b. length history ≤ (length sections + 1) * b) budget (subst (λ k. length history ≤ (k + 1) * shared.budget) many few);
      told = subst (λ ks. IsToldBy shapes history ks seen) (sym inserted) told;
    }
