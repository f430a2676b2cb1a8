-- The caller that was split off made no event.
use Rattle.std.proofs.Common.{◌∙◌, ap, sym}
use Rattle.unit_core.specs.Fabrics.{state_after_word, reply_to_word}
use Rattle.shared_log.proofs.Histories.{own_events-at-first}
use Rattle.checker_workers.specs.Ports.{PortView}
use Rattle.checker_workers.specs.Lanes.{LaneView}
use Rattle.checker_workers.specs.declared.lane.LaneEnd.TheVariants.{Fresh}
use Rattle.script_player.proofs.PlayedSections.{ready}
use Rattle.script_player.proofs.playing.split_lane.Goals as goal

pub telling-requires-clause-none : goal.telling-requires-clause-none
telling-requires-clause-none c =
    own_events-at-first state_after_word reply_to_word c.split-caller.result c.split-caller.ensures.caller.budget (c.split-caller.ensures.left ∙ sym c.split-caller.ensures.belongs.2)

pub returns-clause-ready : goal.returns-clause-ready
returns-clause-ready c =
    let section = c.args.player.section in
    let lane : PortView → LaneView = λ p. record { section = section; port = p; ended = Fresh } in
    ready c.args.shared.now c.args.first.now.first c.args.first.now.made section c.split-caller.result c.in_ok-new.field-0 (c.in_ok-new.ensures ∙ ap lane c.telling.ensures)
    c.split-caller.ensures.belongs c.split-caller.ensures.number c.split-caller.ensures.state c.split-caller.ensures.left c.split-caller.ensures.caller.budget
