-- What is known once only the first caller is left.
use Rattle.std.proofs.Common.{◌≡◌, ℕ, zero, suc, ◌+◌, ◌<◌, ◌≤◌, true, List, [], ◌∷◌, ◌++◌, length, get_or, refl, sym, ap, ◌∙◌, subst, arith, append-nil}
use Rattle.std.proofs.Math.Seq.{get_or-append_seam}
use mathlib.Core.Option.{some}
use lib.ListN.{get_elem?}
use Rattle.shared_log.specs.declared.seat_view.SeatView.{SeatView}
use Rattle.shared_log.specs.Words.{AllEventWords, BeginsWithLog, words_by, words_before_zero}
use Rattle.shared_log.specs.Rule.{IsSharedLog}
use Rattle.shared_log.specs.Callers.{CallerView, KeepsBudget}
use Rattle.shared_log.specs.Histories.{HoldsCaller}
use Rattle.shared_log.proofs.WordLists.{words-append}
use Rattle.shared_log.proofs.Gathers.{words_before_zero-log}

pub record Finished (result : List ℕ) (v : SeatView) : Type 0 where
  pub events : AllEventWords result
  pub first : BeginsWithLog 0 result v.log
  pub rest : (k : ℕ) (l : List ℕ) → get_elem? v.joined k ≡ some l → BeginsWithLog (suc k) result l
  pub others : (c : ℕ) → v.made ≤ c → words_by c result ≡ []

pub finishes : (C B : ℕ) (words : List ℕ) (views : List SeatView) → IsSharedLog C B words views → (id : ℕ) (v : SeatView) → get_elem? views id ≡ some v → v.live ≡ true → v.number ≡ 0
    → (ws result : List ℕ) → words ≡ ws → result ≡ words_before_zero ws → Finished result v
finishes C B words views r id v at live is_first ws result same is =
    let q = r.seated id v at live in
    let log : result ≡ r.log = is ∙ ap words_before_zero (sym same ∙ r.words_are) ∙ words_before_zero-log r.log r.empty_words r.events in
    subst (λ (l : List ℕ). Finished l v) (sym log) record {
      events = r.events;
      first = subst (λ (k : ℕ). BeginsWithLog k r.log v.log) is_first q.has;
      rest = λ k l at'. (r.done k l (subst (λ (ls : List (List ℕ)). get_elem? ls k ≡ some l) (q.first is_first).1 at')).2;
      others = λ c h. (r.unmade c (let m = (q.first is_first).0 in omega arith)).0;
    }

-- the item of a list behind others
pub item-behind : {A : Type 0} (xs ys : List A) (x : A) (all : List A) (d : A) → xs ++ x ∷ ys ≡ all → get_or all (length xs) d ≡ x
item-behind xs ys x all d e = ap (λ l. get_or l (length xs) d) (sym e) ∙ get_or-append_seam xs x ys d

pub at-item : {A : Type 0} (l : List A) (n : ℕ) (d : A) → n < length l → get_elem? l n ≡ some (get_or l n d)
at-item [] n d h = absurd (omega arith)
at-item (x ∷ xs) zero d h = refl
at-item (x ∷ xs) (suc n) d h = at-item xs n d (omega arith)

-- the own words of a list that begins with a log and has no own word after it
pub own_words : (c : ℕ) (words log : List ℕ) → BeginsWithLog c words log → words_by c words ≡ words_by c log
own_words c words log h = ap (words_by c) h.begins ∙ words-append c log h.rest ∙ ap (λ (l : List ℕ). words_by c log ++ l) h.no_more ∙ append-nil (words_by c log)

pub holds_caller : {M S : Type 0} (history : List ℕ) (c : CallerView M S) → BeginsWithLog c.number history c.log → KeepsBudget c → HoldsCaller history c
holds_caller history c h b = record {
  log = h;
  own = own_words c.number history c.log h;
  budget = ap (λ (l : List ℕ). c.left + length l) (own_words c.number history c.log h) ∙ b;
}
