-- Each word takes the next reply of its caller.
use Rattle.std.proofs.Common.{◌≡◌, ◌≤◌, ◌<◌, length, take, refl, sym, ap, subst, ◌∙◌, arith}
use Rattle.std.proofs.lemmas.Grind.{common_steps}
use Rattle.std.proofs.lemmas.List.{take_all}
use Rattle.script_player.specs.MergedReplies.{replies_by, list_of}
use Rattle.script_player.proofs.MergedReplies.{counts_within, merged_more}
use Rattle.script_player.proofs.merged.merged.Goals as goal
use Rattle.unit_core.proofs.Openings.{get_zero}

pub loop-word-init : goal.loop-word-init
loop-word-init c = record {
  count = ap length c.in_ok-replies.ensures.items;
  len = c.in_ok-replies.ensures.len;
  room = grind (arith, common_steps);
  callers = refl;
  within = λ k lt. subst (λ n. n ≤ 0) (sym (get_zero 32 k)) (omega arith);
  each = λ k lt. sym (ap (λ n. take n (list_of c.args.kept.now k)) (get_zero 32 k));
}

pub loop-word-preserved : goal.loop-word-preserved
loop-word-preserved c =
    let inv = c.loop-word.invariant in
    let by = c.caller_of_word-caller.result in
    let few : by < length c.loop-word.next = let n = inv.callers in let small = c.caller_of_word-caller.ensures.small in omega (arith, n, small) in
    let there = sym c.kept_at.ensures ∙ c.in-Some.is in
    record {
      count = grind (arith, common_steps);
      len = grind (arith, common_steps);
      room = c.push_reserved.ensures.capacity ∙ inv.room;
      callers = grind (arith, common_steps);
      within = λ k lt. counts_within c.loop-word.next by k c.loop-word.word-index few (inv.within k lt);
      each = λ k lt. merged_more c.args.kept.now c.args.words.now c.loop-word.next c.loop-word.replies.items c.push_reserved.new.self.items by c.loop-word.word-index k c.in-Some.reply c.loop-word-test.true few inv.count
          c.caller_of_word-caller.ensures.caller there c.push_reserved.ensures.items (inv.each k lt);
    }

pub returns : goal.returns
returns c =
    let inv = c.loop-word.invariant in
    let words = c.args.words.now in
    let all : c.loop-word.word-index ≡ length words = omega arith in
    let whole : take c.loop-word.word-index words ≡ words = take_all c.loop-word.word-index words (omega arith) in
    record {
      count = inv.count ∙ all;
      each = λ k lt. (_, ap (λ ws. replies_by k ws c.loop-word.replies.items) (sym whole) ∙ inv.each k lt);
    }
