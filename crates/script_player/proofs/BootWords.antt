-- Before another caller was made, the words of a log are the first caller's.
use Rattle.std.proofs.Common.{◌≡◌, ℕ, ◌+◌, ◌<◌, ◌≤◌, ◌==◌, not, List, [], ◌∷◌, length, drop, inl, inr, eq-zero-or-pos, refl, sym, ap, ◌∙◌, arith}
use Rattle.std.proofs.lemmas.List.Filters.{length-filter_both}
use native.Mathlib.Decide.{ℕ_discrete}
use Rattle.event_words.specs.Runs.{caller_of_word}
use Rattle.shared_log.specs.Words.{words_by, BeginsWithLog}
use Rattle.shared_log.proofs.Counting.{words-own, words-other}
use Rattle.shared_log.proofs.WordLists.{words-prefix-none}

few : (c : ℕ) (ws : List ℕ) → length (words_by c ws) ≤ length ws
few c ws = let both = length-filter_both (λ w. caller_of_word w == c) (λ w. not (caller_of_word w == c)) (λ w. refl) ws in omega (arith, both)

own_first : (w : ℕ) (ws : List ℕ) → words_by 0 (w ∷ ws) ≡ w ∷ ws → Dec (caller_of_word w ≡ 0) → (caller_of_word w ≡ 0) × (words_by 0 ws ≡ ws)
own_first w ws e (yes h) = (h, let f : w ∷ words_by 0 ws ≡ w ∷ ws = sym (words-own 0 w ws h) ∙ e in ap (drop 1) f)
own_first w ws e (no h) = absurd (let f : words_by 0 ws ≡ w ∷ ws = sym (words-other 0 w ws h) ∙ e in let n = ap length f in let m = few 0 ws in omega (arith, n, m))

only_own : (ws : List ℕ) → words_by 0 ws ≡ ws → (c : ℕ) → 1 ≤ c → words_by c ws ≡ []
only_own [] e c h = refl
only_own (w ∷ ws) e c h =
    let own = own_first w ws e (ℕ_discrete (caller_of_word w) 0) in
    let zero = own.0 in
    words-other c w ws (λ q. omega (arith, q, zero, h)) ∙ only_own ws own.1 c h

-- In the log of the first caller, before others were made, no other's word stands: where there are others, since the
-- first of them found it so, and else since the history has none.
pub boot_alone : (history log : List ℕ) (number others : ℕ) → BeginsWithLog number history log → ((c : ℕ) → others < c → words_by c history ≡ []) → (1 ≤ others → words_by 0 log ≡ log) → (c : ℕ) → 1 ≤ c → words_by c log ≡ []
boot_alone history log number others begins none alone c h =
    elim (eq-zero-or-pos others) [
      | inl z ↦ words-prefix-none c log begins.rest (ap (words_by c) (sym begins.begins) ∙ none c (omega (arith, z, h)))
      | inr g ↦ only_own log (alone g) c h
    ]
