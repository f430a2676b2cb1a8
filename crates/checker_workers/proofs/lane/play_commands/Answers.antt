-- One command more is played, and the section stops or goes on.
use Rattle.std.proofs.Common.{arith}
use Rattle.std.proofs.lemmas.List.{drop_more}
use Rattle.event_words.specs.declared.section.Command.TheVariants.{Write}
use Rattle.checker_workers.proofs.Playing.{playing_none, playing_next, playing_stopped, playing_done, goes_as}
use Rattle.checker_workers.proofs.Resting.{rests_first, rests_after}
use Rattle.checker_workers.proofs.lane.play_commands.Goals as goal

pub loop-command-init : goal.loop-command-init
loop-command-init g c = record {
  playing = playing_none c.args.port.now c.args.commands.now c.args.table.now.items _ _ c.requires.empty.0 c.requires.empty.1 c.requires.valid c.requires.units c.requires.enough c.requires.room;
  first = c.left-first.ensures;
}

pub returns-then-not-play_command : goal.returns-then-not-play_command
returns-then-not-play_command g c =
    playing_stopped c.args.port.now c.loop-command.port c.play_command.new.port c.args.commands.now c.loop-command.command-index c.loop-command.table.items c.play_command.new.table.items _ _ _ c.loop-command.invariant.playing
    (drop_more c.args.commands.now c.loop-command.command-index (Write 0 0 0) c.loop-command-test.true)
    (goes_as c.loop-command.port c.play_command.new.port c.loop-command.table.items c.play_command.new.table.items _ c.play_command.result _ c.if-not-play_command.true c.play_command.ensures.plays)

pub loop-command-preserved : goal.loop-command-preserved
loop-command-preserved g c = record {
  playing = playing_next c.args.port.now c.loop-command.port c.play_command.new.port c.args.commands.now c.loop-command.command-index c.loop-command.table.items c.play_command.new.table.items _ _ _ _ _ c.loop-command.invariant.playing
      (drop_more c.args.commands.now c.loop-command.command-index (Write 0 0 0) c.loop-command-test.true)
      (goes_as c.loop-command.port c.play_command.new.port c.loop-command.table.items c.play_command.new.table.items _ c.play_command.result _ c.if-not-play_command.false c.play_command.ensures.plays)
      c.play_command.ensures.count c.play_command.ensures.capacity;
  first = c.loop-command.invariant.first;
}

pub returns : goal.returns
returns g c = playing_done c.args.port.now c.loop-command.port c.args.commands.now c.loop-command.command-index c.loop-command.table.items _ _ c.loop-command.invariant.playing c.loop-command-test.false

pub play_command-requires-clause-rests : goal.play_command-requires-clause-rests
play_command-requires-clause-rests g c =
    let b = c.loop-command.invariant.playing in
    let since = c.left-first.ensures in
    rests_after c.left-first.result c.args.port.now c.loop-command.port b.made (rests_first c.left-first.result c.args.port.now (omega arith)) b.adds b.whole

pub tell-requires-clause-rests : goal.tell-requires-clause-rests
tell-requires-clause-rests g c =
    let b = c.loop-command.invariant.playing in
    let k = c.play_command.ensures.plays in
    let since = c.left-first.ensures in
    rests_after c.left-first.result c.loop-command.port c.play_command.new.port k.made
    (rests_after c.left-first.result c.args.port.now c.loop-command.port b.made (rests_first c.left-first.result c.args.port.now (omega arith)) b.adds b.whole) k.adds k.whole

pub tell-requires-2-clause-rests : goal.tell-requires-2-clause-rests
tell-requires-2-clause-rests g c =
    let b = c.loop-command.invariant.playing in
    let since = c.left-first.ensures in
    rests_after c.left-first.result c.args.port.now c.loop-command.port b.made (rests_first c.left-first.result c.args.port.now (omega arith)) b.adds b.whole
