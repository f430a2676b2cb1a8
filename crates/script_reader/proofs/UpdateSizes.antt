-- How long the parts of an update's input are, and in which lines they stand.
use Rattle.std.proofs.Common.{◌≡◌, ℕ, ◌+◌, ◌≤◌, ◌==◌, ◌&&◌, not, Bool, true, false, List, [], ◌∷◌, ◌++◌, Ok, Err, Result, length, codes, if◌then◌else◌, refl, sym, ap, subst, ◌∙◌, ◌-◌, nat_le, slice_index, take, arith, length-append, sum_by}
use Rattle.std.proofs.lemmas.Bool.{leb-true, not-false, and_parts}
use Rattle.std.proofs.lemmas.List.Sums.{sum_by-cons}
use Rattle.std.proofs.lemmas.List.{length-take-le}
use Rattle.std.proofs.lemmas.List.Splits.{slice_split-cons_yes, slice_split-cons_no, length-slice_split}
use Rattle.std.specs.Result.{IfOk}
use Rattle.std.specs.List.{list_all, slice_split, onto_first}
use Rattle.script_reader.specs.declared.update_text.ExpectedPart.{ExpectedPart}
use Rattle.script_reader.specs.declared.update_text.ExpectedPart.TheVariants.{Old, New, Polls, Lanes, Nothing, Rest}
use Rattle.script_reader.specs.Text.{is_line_feed, is_plain, lines_of, words_of, without_last_line_feed}
use Rattle.script_reader.specs.Numbers.{ranged, number_at}
use Rattle.script_reader.specs.Words.{word_at}
use Rattle.script_reader.specs.Lines.{is_skipped}
use Rattle.script_reader.specs.UpdateSizes.{HasNoLanes, Fits, FitsState}
use Rattle.script_reader.specs.UpdateTexts.{UpdateTextOf, UpdateState, is_heading, is_polls_heading, with_line, old_step, new_step, polls_step, lanes_step, nothing_step, rest_step, wanted_step, update_step, after_polls, update_start}
use Rattle.script_reader.proofs.Writeless.{bound}

-- with one line more
abbrev Onward : ℕ → ℕ → List ℕ → UpdateState → Type 0
Onward size n line s = FitsState s (size + (length line + 1)) (n + 1)

chosen : {A E : Type 0} (Q : A → Type 0) (b : Bool) (r t : Result A E) → (b ≡ true → IfOk r Q) → (b ≡ false → IfOk t Q) → IfOk (if b then r else t) Q
chosen Q true r t here there = here refl
chosen Q false r t here there = there refl

-- a line with words has a byte
heading_long : (line name : List ℕ) → is_heading (words_of line) name ≡ true → 1 ≤ length line
heading_long [] name h = absurd (let n : false ≡ true = h in cc)
heading_long (x ∷ xs) name h = omega arith

polls_long : (line : List ℕ) → is_polls_heading (words_of line) ≡ true → 1 ≤ length line
polls_long [] h = absurd (let n : false ≡ true = h in cc)
polls_long (x ∷ xs) h = omega arith

old_fits : (t : UpdateTextOf) (size n : ℕ) (line : List ℕ) → Fits Old t size n → IfOk (old_step t line) (Onward size n line)
unfolding old_step
old_fits t size n line h =
    chosen (Onward size n line) (not (list_all is_plain line)) _ _ (λ _. tt)
    (λ _. chosen (Onward size n line) (is_skipped (words_of line)) _ _ (λ _. (omega (arith, h.0), h.1))
    (λ _. chosen (Onward size n line) (is_heading (words_of line) (codes "old")) _ _ (λ e. (omega (arith, h.0, heading_long line (codes "old") e), h.1)) (λ _. tt)))

new_fits : (t : UpdateTextOf) (size n : ℕ) (line : List ℕ) → Fits New t size n → IfOk (new_step t line) (Onward size n line)
unfolding new_step
new_fits t size n line h =
    chosen (Onward size n line) (is_heading (words_of line) (codes "new")) _ _ (λ e. (omega (arith, h.0, heading_long line (codes "new") e), h.1)) (λ _. (omega (arith, h.0), h.1))

ranged_within : (low high : ℕ) (word : List ℕ) → IfOk (ranged low high word) (λ n. (low ≤ n) × (n ≤ high))
unfolding ranged
ranged_within low high word =
    bound (λ n. Unit {0}) _ (number_at word) _ (any (number_at word)) (λ n _. chosen _ (nat_le low n && nat_le n high) _ _
    (λ e. let both = and_parts (nat_le low n) (nat_le n high) e in (leb-true low n both.0, leb-true n high both.1)) (λ _. tt))
  where
    any : (r : Result ℕ ℕ) → IfOk r (λ n. Unit {0})
    any (Ok n) = tt
    any (Err c) = tt

polls_fits : (after : ExpectedPart) (lanes : Bool) (t : UpdateTextOf) (size n : ℕ) (line : List ℕ) → after ≡ after_polls lanes → Fits Polls t size n → IfOk (polls_step after t line) (Onward size n line)
unfolding polls_step
polls_fits after lanes t size n line e h =
    chosen (Onward size n line) (not (is_polls_heading (words_of line))) _ _ (λ _. (omega (arith, h.0), h.1))
    (λ p. chosen (Onward size n line) (not (list_all is_plain line)) _ _ (λ _. tt)
    (λ _. bound (λ m. (1 ≤ m) × (m ≤ 4096)) (Onward size n line) (ranged 1 4096 (word_at (words_of line) 2)) _ (ranged_within 1 4096 (word_at (words_of line) 2))
    (λ m within. subst (λ w. Fits w (record t { polls = m }) (size + (length line + 1)) (n + 1)) (sym e)
    (both lanes (record t { polls = m }) (size + (length line + 1)) (n + 1) (omega (arith, h.0, polls_long line (not-false _ p))) h.1 within))))
  where
    both : (lanes : Bool) (t : UpdateTextOf) (size n : ℕ) → n + 2 ≤ size → HasNoLanes t → (1 ≤ t.polls) × (t.polls ≤ 4096) → Fits (after_polls lanes) t size n
    both true t size n h l p = (h, l, p)
    both false t size n h l p = (h, l, p)

lanes_fits : (t : UpdateTextOf) (size n : ℕ) (line : List ℕ) → Fits Lanes t size n → IfOk (lanes_step t n line) (Onward size n line)
unfolding lanes_step
lanes_fits t size n line h =
    let none : length t.lanes ≡ 0 = ap length h.1.0 in
    chosen (Onward size n line) (not (list_all is_plain line)) _ _ (λ _. tt)
    (λ _. chosen (Onward size n line) (is_skipped (words_of line)) _ _ (λ _. (omega (arith, h.0), h.1, h.2))
    (λ _. chosen (Onward size n line) (is_heading (words_of line) (codes "lanes")) _ _
    (λ e. (omega (arith, h.0, heading_long line (codes "lanes") e), omega (arith, h.0, none, heading_long line (codes "lanes") e), h.2)) (λ _. tt)))

nothing_fits : (t : UpdateTextOf) (size n : ℕ) (line : List ℕ) → Fits Nothing t size n → IfOk (nothing_step t line) (Onward size n line)
unfolding nothing_step
nothing_fits t size n line h =
    chosen (Onward size n line) (not (list_all is_plain line)) _ _ (λ _. tt)
    (λ _. chosen (Onward size n line) (is_skipped (words_of line)) _ _ (λ _. (omega (arith, h.0), h.1, h.2)) (λ _. tt))

rest_fits : (t : UpdateTextOf) (size n : ℕ) (line : List ℕ) → Fits Rest t size n → IfOk (rest_step t line) (Onward size n line)
rest_fits t size n line h =
    let longer : length (with_line t.lanes line) ≡ length t.lanes + (length line + 1) = length-append t.lanes (line ++ 10 ∷ []) ∙ ap (λ k. length t.lanes + k) (length-append line (10 ∷ [])) in
    (omega (arith, h.0), omega (arith, h.1, longer), h.2)

pub step_fits : (lanes : Bool) (s : UpdateState) (size n : ℕ) (line : List ℕ) → FitsState s size n → IfOk (update_step (after_polls lanes) s n line) (Onward size n line)
step_fits lanes s size n line h = by s.wanted s.text h
  where
    by : (w : ExpectedPart) (t : UpdateTextOf) → Fits w t size n → IfOk (wanted_step w (after_polls lanes) t n line) (Onward size n line)
    by Old t h = old_fits t size n line h
    by New t h = new_fits t size n line h
    by Polls t h = polls_fits (after_polls lanes) lanes t size n line refl h
    by Lanes t h = lanes_fits t size n line h
    by Nothing t h = nothing_fits t size n line h
    by Rest t h = rest_fits t size n line h

-- ---- how many bytes the lines have

abbrev pub line_size : List ℕ → ℕ
line_size line = length line + 1

onto_sum : (x : ℕ) (parts : List (List ℕ)) → 1 ≤ length parts → sum_by line_size (onto_first x parts) ≡ sum_by line_size parts + 1
onto_sum x [] h = absurd (omega (arith, h))
onto_sum x (part ∷ parts) h = omega (arith, sum_by-cons line_size (x ∷ part) parts, sum_by-cons line_size part parts)

split_size : (p : ℕ → Bool) (xs : List ℕ) → sum_by line_size (slice_split p xs) ≡ length xs + 1
split_size p [] = refl
split_size p (x ∷ xs) = by (split_size p xs) (p x) refl
  where
    by : sum_by line_size (slice_split p xs) ≡ length xs + 1 → (b : Bool) → p x ≡ b → sum_by line_size (slice_split p (x ∷ xs)) ≡ length (x ∷ xs) + 1
    by rest true e = omega (arith, ap (sum_by line_size) (slice_split-cons_yes p x xs e), sum_by-cons line_size [] (slice_split p xs), rest)
    by rest false e = omega (arith, ap (sum_by line_size) (slice_split-cons_no p x xs e), onto_sum x (slice_split p xs) (omega (arith, length-slice_split p xs)), rest)

shorter : (text : List ℕ) → length (without_last_line_feed text) ≤ length text
shorter text = by (slice_index text (length text - 1) == 10)
  where
    by : (b : Bool) → length (if b then take (length text - 1) text else text) ≤ length text
    by true = omega (arith, length-take-le (length text - 1) text (omega arith))
    by false = omega arith

-- The lines of a text have at most as many bytes, each with one more for its end.
pub lines_size : (text : List ℕ) → sum_by line_size (lines_of text) ≤ length text + 1
lines_size text = by (length text == 0)
  where
    by : (b : Bool) → sum_by line_size (if b then [] else slice_split is_line_feed (without_last_line_feed text)) ≤ length text + 1
    by true = omega arith
    by false = omega (arith, split_size is_line_feed (without_last_line_feed text), shorter text)

-- ---- one line more of those that are left

-- so many bytes of the lines of a text were read
abbrev pub Fitted : ℕ → List (List ℕ) → UpdateState → ℕ → Type 0
Fitted size left s n = (sum_by line_size left ≤ size) × FitsState s (size - sum_by line_size left) n

pub onward : (lanes : Bool) (after : ExpectedPart) (s t : UpdateState) (size n : ℕ) (line : List ℕ) (before left : List (List ℕ)) → after ≡ after_polls lanes → before ≡ line ∷ left → Fitted size before s n
    → update_step after s n line ≡ Ok t → Fitted size left t (n + 1)
onward lanes after s t size n line before left a first fits e =
    let sum : sum_by line_size before ≡ line_size line + sum_by line_size left = ap (sum_by line_size) first ∙ sum_by-cons line_size line left in
    let more : size - sum_by line_size left ≡ size - sum_by line_size before + line_size line = omega (arith, fits.0, sum) in
    let next : FitsState t (size - sum_by line_size before + line_size line) (n + 1) =
    subst (λ r. IfOk r (Onward (size - sum_by line_size before) n line)) (ap (λ w. update_step w s n line) (sym a) ∙ e) (step_fits lanes s (size - sum_by line_size before) n line fits.1) in
    (omega (arith, fits.0, sum), subst (λ k. FitsState t k (n + 1)) (sym more) next)

-- before the first line
pub begins : (s : UpdateState) (text : List ℕ) (lines : List (List ℕ)) → s ≡ update_start → lines ≡ lines_of text → Fitted (length text + 1) lines s 1
begins s text lines b e =
    let few : sum_by line_size lines ≤ length text + 1 = omega (arith, ap (sum_by line_size) e, lines_size text) in
    (few, subst (λ t. FitsState t (length text + 1 - sum_by line_size lines) 1) (sym b) (omega arith, (refl, refl)))
