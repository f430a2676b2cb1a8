use Rattle.std.proofs.Common.{◌+◌, ◌++◌, ◌∷◌, drop, rules, sym, ap, ◌∙◌, arith}
use Rattle.event_words.specs.declared.reply.Reply.TheVariants.{Value}
use Rattle.history_reports.specs.SectionEnds.{cursor_ends}
use Rattle.script_player.specs.ToldHistories.{logged_with}
use Rattle.history_reports.proofs.OnePass.{with_more, text_more}
use Rattle.history_reports.proofs.reports.push_history.Goals as goal

pub loop-place-preserved : goal.loop-place-preserved
loop-place-preserved c =
    let words = c.args.words.now in
    let replies = c.args.replies.now in
    let i = c.loop-place.place in
    let within = c.loop-place-test.true in
    let x = c.take.new.self in
    let came = c.if-not-take.false in
    let more = with_more words replies i (Value 0) x within (omega (arith, within, c.requires.replies)) (c.take.ensures.place came) (c.take.ensures.reply came) (c.take.ensures.event came) in
    let rest = logged_with (i + 1) (drop (i + 1) words) (drop (i + 1) replies) in
    record {
      text = text_more _ _ x _ _ (c.in_ok-extend_from_slice.ensures.items ∙ ap (λ t. c.loop-place.out.items ++ t) c.bytes.ensures) more ∙ c.loop-place.invariant.text;
      ends = c.note.ensures.ends rest ∙ ap (λ e. cursor_ends 0 c.loop-place.cursors (e ∷ rest)) c.logged.ensures ∙ ap (λ xs. cursor_ends 0 c.loop-place.cursors xs) (sym more) ∙ c.loop-place.invariant.ends;
      count = search rules;
    }
