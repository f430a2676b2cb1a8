-- The replies of the replay are those of the history.
use Rattle.std.proofs.Common.{◌≡◌, length, ap, ◌∙◌}
use Rattle.event_words.specs.Runs.{run_from}
use Rattle.unit_core.specs.Units.{FabricState, fabric_at_reset}
use Rattle.unit_core.specs.Fabrics.{FabricView, state_after_word}
use Rattle.unit_core.specs.Reports.{unit_lines}
use Rattle.script_player.specs.ToldHistories.{replies_from, logged_with}
use Rattle.script_player.proofs.ReplayedReplies.{as_many_replies, logged_replies}
use Rattle.script_player.proofs.told.replayed.Goals as goal

pub returns : goal.returns
returns c =
    let words = c.args.words.now in
    let s : FabricState = fabric_at_reset c.args.shapes.now in
    let at : c.in_ok-units.units.state ≡ s = ap (λ (v : FabricView). v.state) c.in_ok-units.ensures in
    let replies = c.in_ok-replies.ensures.0 ∙ ap (λ u. replies_from 0 u words) at in
    let after = c.in_ok-replies.ensures.1 ∙ ap (λ u. run_from state_after_word 0 u words) at in
    record {
      count = ap length replies ∙ as_many_replies 0 s words;
      events = ap (logged_with 0 words) replies ∙ logged_replies 0 s words;
      units = c.in_ok-errors.ensures ∙ ap (λ (v : FabricState). unit_lines 0 v.units) after;
    }
