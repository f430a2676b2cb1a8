-- The codes of the verdicts among a history's replies are the codes of its verdicts.
use Rattle.std.proofs.Common.{◌≡◌, ℕ, suc, zero, List, [], ◌∷◌, length, refl, sym, ap, ◌∙◌, arith}
use Rattle.std.specs.Prelude.{filter_map}
use Rattle.std.specs.List.{AllByRecursion, cons_option}
use Rattle.event_words.specs.declared.reply.Reply.{Reply}
use Rattle.event_words.specs.Runs.{IsEventWord, logged_first}
use Rattle.event_words.proofs.EventWords.{word_event}
use Rattle.script_generator.specs.Summaries.{reply_code, verdict_codes}
use Rattle.script_player.specs.ToldHistories.{logged_with}

pub codes_told : (k : ℕ) (ws : List ℕ) (rs : List Reply) → AllByRecursion IsEventWord ws → length rs ≡ length ws → filter_map reply_code rs ≡ verdict_codes (logged_with k ws rs)
codes_told k [] [] all same = refl
codes_told k [] (r ∷ rs) all same = absurd (let e : suc (length rs) ≡ zero = same in cc)
codes_told k (w ∷ ws) [] all same = absurd (let e : zero ≡ suc (length ws) = same in cc)
codes_told k (w ∷ ws) (r ∷ rs) all same =
    let rest = codes_told (suc k) ws rs all.1 (let e : suc (length rs) ≡ suc (length ws) = same in omega (arith, e)) in
    ap (cons_option (reply_code r)) rest ∙ sym (ap (λ o. verdict_codes (logged_first k r o (logged_with (suc k) ws rs))) (word_event w all.0).back)
