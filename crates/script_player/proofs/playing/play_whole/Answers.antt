-- Each section of a script may be played with the script's budget.
use Rattle.std.proofs.Common.{◌≡◌, length, sym, ap, subst, ◌∙◌}
use Rattle.script_reader.specs.Scripts.{ScriptOf}
use Rattle.script_player.specs.PlayedSections.{MayAllPlay}
use Rattle.script_player.proofs.PlayedSections.{all_may_play}
use Rattle.script_player.proofs.playing.play_whole.Goals as goal

pub play_sections-requires-clause-sections : goal.play_sections-requires-clause-sections
play_sections-requires-clause-sections g c κs within =
    let s = c.args.script in
    let budget = c.budget-budget.result in
    let shapes : c.deref.result.now ≡ s.shapes = c.deref.ensures.value ∙ ap (λ (v : ScriptOf). v.shapes) c.script.view_is in
    let lanes : c.script.inside.lanes.items ≡ s.lanes = ap (λ (v : ScriptOf). v.lanes) c.script.view_is in
    let formed = c.requires.formed in
    subst (λ ss. MayAllPlay (length c.deref.result.now) budget ss) (sym lanes)
    (subst (λ l. MayAllPlay (length l) budget s.lanes) (sym shapes) (all_may_play (length s.shapes) budget s.lanes formed.lanes formed.lanes_units c.budget-budget.ensures.lanes))
