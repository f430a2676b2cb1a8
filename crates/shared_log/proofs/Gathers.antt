-- A loop that copies the words before the first 0.
use Rattle.std.proofs.Common.{◌≡◌, ◌≢◌, ℕ, zero, suc, ◌+◌, ◌<◌, List, [], ◌∷◌, ◌++◌, length, take, drop, set, refl, sym, ap, ◌∙◌, append_assoc, append-nil, add-one}
use Rattle.std.proofs.Math.Seq.{take-suc-set, take-length, drop-length}
use mathlib.Core.Option.{some}
use lib.ListN.{get_elem?, replicate}
use Rattle.atomic_table.proofs.Lists.{drop_at}
use Rattle.event_words.proofs.Runs.{word-nonzero}
use Rattle.shared_log.specs.Words.{words_before_zero, AllEventWords}

words_before_zero-cons : (w : ℕ) (ws : List ℕ) → w ≢ 0 → words_before_zero (w ∷ ws) ≡ w ∷ words_before_zero ws
words_before_zero-cons zero ws h = absurd (h refl)
words_before_zero-cons (suc n) ws h = refl

pub copies : (room ws : List ℕ) (n w : ℕ) → get_elem? ws n ≡ some w → w ≢ 0 → n < length room → take n room ++ words_before_zero (drop n ws) ≡ words_before_zero ws → take (n + 1) (set room n w) ++ words_before_zero (drop (n + 1) ws) ≡ words_before_zero ws
copies room ws n w at full lt e =
    let a : take (n + 1) (set room n w) ≡ take n room ++ w ∷ [] = ap (λ (k : ℕ). take k (set room n w)) (add-one n) ∙ take-suc-set room n w lt in
    let d : words_before_zero (drop n ws) ≡ w ∷ words_before_zero (drop (n + 1) ws) = ap words_before_zero (drop_at ws n w at) ∙ words_before_zero-cons w (drop (suc n) ws) full ∙ ap (λ (k : ℕ). w ∷ words_before_zero (drop k ws)) (sym (add-one n)) in
    ap (λ (l : List ℕ). l ++ words_before_zero (drop (n + 1) ws)) a ∙ append_assoc (take n room) (w ∷ []) (words_before_zero (drop (n + 1) ws)) ∙ ap (λ (l : List ℕ). take n room ++ l) (sym d) ∙ e

pub stops : (room ws : List ℕ) (n w : ℕ) → get_elem? ws n ≡ some w → w ≡ 0 → take n room ++ words_before_zero (drop n ws) ≡ words_before_zero ws → take n room ≡ words_before_zero ws
stops room ws n w at none e =
    let d : words_before_zero (drop n ws) ≡ [] = ap words_before_zero (drop_at ws n w at ∙ ap (λ (k : ℕ). k ∷ drop (suc n) ws) none) in
    sym (append-nil (take n room)) ∙ ap (λ (l : List ℕ). take n room ++ l) (sym d) ∙ e

pub ends : (room ws : List ℕ) (n : ℕ) → n ≡ length room → n ≡ length ws → take n room ++ words_before_zero (drop n ws) ≡ words_before_zero ws → room ≡ words_before_zero ws
ends room ws n r w e =
    let t : take n room ≡ room = ap (λ (k : ℕ). take k room) r ∙ take-length room in
    let d : words_before_zero (drop n ws) ≡ [] = ap (λ (k : ℕ). words_before_zero (drop k ws)) w ∙ ap words_before_zero (drop-length ws) in
    sym t ∙ sym (append-nil (take n room)) ∙ ap (λ (l : List ℕ). take n room ++ l) (sym d) ∙ e

words_before_zero-zeros : (empty_words : ℕ) → words_before_zero (replicate empty_words zero) ≡ []
words_before_zero-zeros zero = refl
words_before_zero-zeros (suc n) = refl

-- what was copied is the log
pub words_before_zero-log : (log : List ℕ) (empty_words : ℕ) → AllEventWords log → words_before_zero (log ++ replicate empty_words zero) ≡ log
words_before_zero-log [] empty_words all = words_before_zero-zeros empty_words
words_before_zero-log (w ∷ ws) empty_words all = words_before_zero-cons w (ws ++ replicate empty_words zero) (word-nonzero w all.0) ∙ ap (λ (l : List ℕ). w ∷ l) (words_before_zero-log ws empty_words all.1)
