-- The lines that are left, one line after another.
use Rattle.std.proofs.Common.{◌≡◌, ℕ, ◌+◌, ◌≤◌, List, [], ◌∷◌, Ok, Err, Result, length, sum_by, ap, sym, ◌∙◌, subst, arith}
use Rattle.std.proofs.lemmas.List.Sums.{sum_by-cons}
use Rattle.script_reader.specs.declared.step.StepError.{StepError}
use Rattle.script_reader.specs.declared.step.StepError.TheVariants.{Code, NoMemory}
use Rattle.script_reader.specs.declared.update_text.ExpectedPart.{ExpectedPart}
use Rattle.script_reader.specs.Text.{lines_of}
use Rattle.script_reader.specs.declared.reader.LinesOf.TheVariants.{Script, Lanes}
use Rattle.script_reader.specs.Lines.{State, line_step}
use Rattle.script_reader.specs.Scripts.{Bad, lines_from, at_line}
use Rattle.script_reader.specs.LiveLanes.{lanes_from}
use Rattle.script_reader.specs.UpdateTexts.{UpdateState, update_step, update_from}
use Rattle.script_reader.specs.Answers.{refusal_of, Reads}
use Rattle.script_reader.specs.Outcomes.{Fails}
use Rattle.script_reader.proofs.UpdateSizes.{line_size, lines_size}

refuses_at : {A B : Type 0} (n : ℕ) (e : StepError) (read : Result A ℕ) (next : A → Result B Bad) → Fails e read → Reads (Err (refusal_of n e)) (at_line n read next)
refuses_at n (Code c) read next h = ap (λ r. at_line n r next) h
refuses_at n NoMemory read next h = tt

-- ---- scripts

pub lines_ok : (s t : State) (n : ℕ) (line : List ℕ) (before after : List (List ℕ)) → before ≡ line ∷ after → line_step Script s line ≡ Ok t → lines_from s n before ≡ lines_from t (n + 1) after
lines_ok s t n line before after first e = ap (lines_from s n) first ∙ ap (λ r. at_line n r (λ u. lines_from u (n + 1) after)) e

pub lines_err : (s : State) (n : ℕ) (line : List ℕ) (before after : List (List ℕ)) (e : StepError) → before ≡ line ∷ after → Fails e (line_step Script s line) → Reads (Err (refusal_of n e)) (lines_from s n before)
lines_err s n line before after e first f = subst (Reads (Err (refusal_of n e))) (ap (lines_from s n) (sym first)) (refuses_at n e _ _ f)

-- ---- lanes

pub lanes_ok : (s t : State) (n : ℕ) (line : List ℕ) (before after : List (List ℕ)) → before ≡ line ∷ after → line_step Lanes s line ≡ Ok t → lanes_from s n before ≡ lanes_from t (n + 1) after
lanes_ok s t n line before after first e = ap (lanes_from s n) first ∙ ap (λ r. at_line n r (λ u. lanes_from u (n + 1) after)) e

pub lanes_err : (s : State) (n : ℕ) (line : List ℕ) (before after : List (List ℕ)) (e : StepError) → before ≡ line ∷ after → Fails e (line_step Lanes s line) → Reads (Err (refusal_of n e)) (lanes_from s n before)
lanes_err s n line before after e first f = subst (Reads (Err (refusal_of n e))) (ap (lanes_from s n) (sym first)) (refuses_at n e _ _ f)

-- ---- the input of an update

pub update_ok : (wanted : ExpectedPart) (s t : UpdateState) (n : ℕ) (line : List ℕ) (before after : List (List ℕ)) → before ≡ line ∷ after → update_step wanted s n line ≡ Ok t
    → update_from wanted s n before ≡ update_from wanted t (n + 1) after
update_ok wanted s t n line before after first e = ap (update_from wanted s n) first ∙ ap (λ r. at_line n r (λ u. update_from wanted u (n + 1) after)) e

pub update_err : (wanted : ExpectedPart) (s : UpdateState) (n : ℕ) (line : List ℕ) (before after : List (List ℕ)) (e : StepError) → before ≡ line ∷ after → Fails e (update_step wanted s n line)
    → Reads (Err (refusal_of n e)) (update_from wanted s n before)
update_err wanted s n line before after e first f = subst (Reads (Err (refusal_of n e))) (ap (update_from wanted s n) (sym first)) (refuses_at n e _ _ f)

-- ---- how many lines there are

-- a line fewer is left
pub fewer : (line : List ℕ) (before after : List (List ℕ)) → before ≡ line ∷ after → length before ≡ length after + 1
fewer line before after first = ap length first ∙ omega arith

sizes_long : (lines : List (List ℕ)) → length lines ≤ sum_by line_size lines
sizes_long [] = omega arith
sizes_long (line ∷ lines) = omega (arith, sizes_long lines, sum_by-cons line_size line lines)

pub few_lines : (text : List ℕ) → length (lines_of text) ≤ length text + 1
few_lines text = omega (arith, sizes_long (lines_of text), lines_size text)
