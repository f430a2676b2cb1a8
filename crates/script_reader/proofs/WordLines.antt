-- A line that is written of words is read as these words.
use Rattle.std.proofs.Common.{◌≡◌, ℕ, ◌+◌, ◌≤◌, ◌==◌, not, Bool, true, false, if◌then◌else◌, List, [], ◌∷◌, ◌++◌, Ok, Err, length, slice_index, refl, ap, sym, ◌∙◌, arith, append_assoc}
use Rattle.std.proofs.lemmas.Bool.{or_from, and_from, and_parts}
use Rattle.std.proofs.lemmas.List.Folds.{list_all-append}
use Rattle.std.proofs.lemmas.Bool.Decides.{nat_tests}
use Rattle.std.specs.List.{list_all, AllByRecursion}
use Rattle.script_reader.specs.Codes.{not_plain}
use Rattle.script_reader.specs.Text.{is_line_feed, is_blank, is_plain, lines_of, words_of}
use Rattle.script_reader.specs.Words.{word_at}
use Rattle.script_reader.specs.declared.reader.LinesOf.TheVariants.{Script}
use Rattle.script_reader.specs.Lines.{State, is_skipped, place_step, words_step, line_step}
use Rattle.script_reader.specs.Scripts.{at_line, lines_from}
use Rattle.script_reader.proofs.Parts.{lines_of_line, words_of_word, words_of_last}
use Rattle.script_reader.proofs.Written.{is_solid, IsWord, differs}

-- words with one space between them, a line feed, and then more text
abbrev pub ended : List (List ℕ) → List ℕ → List ℕ
ended [] rest = 10 ∷ rest
ended (w ∷ []) rest = w ++ 10 ∷ rest
ended (w ∷ (v ∷ ws)) rest = w ++ 32 ∷ ended (v ∷ ws) rest

abbrev joined : List (List ℕ) → List ℕ
joined [] = []
joined (w ∷ []) = w
joined (w ∷ (v ∷ ws)) = w ++ 32 ∷ joined (v ∷ ws)

abbrev pub AreWords : List (List ℕ) → Type 0
AreWords ws = AllByRecursion IsWord ws

ended_is : (ws : List (List ℕ)) (rest : List ℕ) → ended ws rest ≡ joined ws ++ 10 ∷ rest
ended_is [] rest = refl
ended_is (w ∷ []) rest = refl
ended_is (w ∷ (v ∷ ws)) rest = ap (λ l. w ++ 32 ∷ l) (ended_is (v ∷ ws) rest) ∙ sym (append_assoc w (32 ∷ joined (v ∷ ws)) (10 ∷ rest))

-- ---- bytes of words

solid_plain : (b : ℕ) → is_solid b ≡ true → is_plain b ≡ true
solid_plain b h = grind (arith, nat_tests)

solid_dark : (b : ℕ) → is_solid b ≡ true → not (is_blank b) ≡ true
solid_dark b h = grind (arith, nat_tests)

solid_stays : (b : ℕ) → is_solid b ≡ true → not (is_line_feed b) ≡ true
solid_stays b h = grind (arith, nat_tests)

every : (p : ℕ → Bool) (w : List ℕ) → ((b : ℕ) → is_solid b ≡ true → p b ≡ true) → list_all is_solid w ≡ true → list_all p w ≡ true
every p [] implies h = refl
every p (b ∷ bs) implies h = and_from _ _ (implies b (and_parts (is_solid b) _ h).0) (every p bs implies (and_parts (is_solid b) _ h).1)

every_joined : (p : ℕ → Bool) (ws : List (List ℕ)) → ((b : ℕ) → is_solid b ≡ true → p b ≡ true) → p 32 ≡ true → AreWords ws → list_all p (joined ws) ≡ true
every_joined p [] implies space words = refl
every_joined p (w ∷ []) implies space words = every p w implies words.0.solid
every_joined p (w ∷ (v ∷ ws)) implies space words =
    list_all-append p w (32 ∷ joined (v ∷ ws)) ∙ and_from _ _ (every p w implies words.0.solid) (and_from _ _ space (every_joined p (v ∷ ws) implies space words.1))

words_of_joined : (ws : List (List ℕ)) → AreWords ws → words_of (joined ws) ≡ ws
words_of_joined [] words = refl
words_of_joined (w ∷ []) words = words_of_last w words.0.some (every (λ b. not (is_blank b)) w solid_dark words.0.solid)
words_of_joined (w ∷ (v ∷ ws)) words =
    words_of_word w 32 (joined (v ∷ ws)) words.0.some (every (λ b. not (is_blank b)) w solid_dark words.0.solid) refl ∙ ap (λ l. w ∷ l) (words_of_joined (v ∷ ws) words.1)

-- ---- lines

lines_of_ended : (ws : List (List ℕ)) (rest : List ℕ) → AreWords ws → lines_of (ended ws rest) ≡ joined ws ∷ lines_of rest
lines_of_ended ws rest words = ap lines_of (ended_is ws rest) ∙ lines_of_line (joined ws) rest (every_joined (λ b. not (is_line_feed b)) ws solid_stays refl words)

line_read : (s : State) (ws : List (List ℕ)) → AreWords ws → line_step Script s (joined ws) ≡ words_step s ws
unfolding line_step
line_read s ws words =
    ap (λ b. if b then words_step s (words_of (joined ws)) else Err not_plain) (every_joined is_plain ws solid_plain refl words) ∙ ap (words_step s) (words_of_joined ws words)

-- a line with a word that begins with another byte than `#`
pub stands : (ws : List (List ℕ)) → 1 ≤ length ws → (slice_index (word_at ws 0) 0 == 35) ≡ false → is_skipped ws ≡ false
stands ws some first = or_from _ _ (differs (length ws) 0 (λ e. omega (arith, some, e))) first

words_read : (s : State) (ws : List (List ℕ)) → is_skipped ws ≡ false → words_step s ws ≡ place_step s.place s ws
unfolding words_step
words_read s ws first = ap (λ b. if b then Ok s else place_step s.place s ws) first

-- a line of these words takes the reading from one state to another
pub line_more : (s t : State) (n : ℕ) (ws : List (List ℕ)) (rest : List ℕ) → AreWords ws → is_skipped ws ≡ false → place_step s.place s ws ≡ Ok t
    → lines_from s n (lines_of (ended ws rest)) ≡ lines_from t (n + 1) (lines_of rest)
line_more s t n ws rest words first step =
    ap (lines_from s n) (lines_of_ended ws rest words)
    ∙ ap (λ r. at_line n r (λ u. lines_from u (n + 1) (lines_of rest))) (line_read s ws words ∙ words_read s ws first ∙ step)
