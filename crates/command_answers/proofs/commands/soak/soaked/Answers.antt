-- The generated script can be run, and its history is summarized by what its tables decide.
use Rattle.std.proofs.Common.{◌≡◌, sym, ap, subst, ◌∙◌}
use Rattle.std.specs.Prelude.{filter_map}
use Rattle.script_reader.specs.Scripts.{ScriptOf}
use Rattle.unit_core.specs.Histories.{IsLegalHistory, logged_in}
use Rattle.script_generator.specs.GeneratedScripts.{generated_script}
use Rattle.script_generator.specs.Summaries.{summary_text, reply_code, verdict_codes}
use Rattle.script_player.specs.ToldHistories.{logged_with}
use Rattle.command_answers.proofs.ToldCodes.{codes_told}
use Rattle.command_answers.specs.SoakCommand.{IsSoaked}
use Rattle.command_answers.proofs.CommandAnswers.{told}
use Rattle.command_answers.proofs.commands.soak.soaked.Goals as goal

pub play_whole-requires-clause-formed : goal.play_whole-requires-clause-formed
play_whole-requires-clause-formed g c κs within = c.in_ok-script.ensures.readable.formed

pub play_whole-requires-clause-few : goal.play_whole-requires-clause-few
play_whole-requires-clause-few g c κs within = c.in_ok-script.ensures.readable.few

pub returns : goal.returns
returns g c =
    let n = c.args.number in
    let history = c.in_ok-history.field-0.history in
    let is = c.in_ok-script.ensures.script in
    let legal = c.in_ok-history.ensures.legal in
    let whole = c.law_soak.ensures n history (subst (λ (s : ScriptOf). IsLegalHistory s.shapes s.boot s.lanes history) is legal) in
    let replies = c.in_ok-history.field-0.told.replies.items in
    let told_of = c.in_ok-history.ensures.told in
    let events : logged_with 0 history replies ≡ logged_in (generated_script n).shapes history = told_of.events ∙ ap (λ (s : ScriptOf). logged_in s.shapes history) is in
    let codes : c.deref-2.result.now ≡ verdict_codes (logged_in (generated_script n).shapes history) =
    c.deref-2.ensures.value ∙ c.in_ok-codes.ensures ∙ ap (filter_map reply_code) c.deref.ensures.value ∙ codes_told 0 history replies legal.events told_of.count ∙ ap verdict_codes events in
    told (IsSoaked n) c.report_answer.result history c.in_ok-text.text c.report_answer.ensures
    (record { soak = whole; printed = c.in_ok-text.ensures ∙ ap (summary_text n) codes ∙ sym whole.counted })
