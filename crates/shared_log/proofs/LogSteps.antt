-- Each step keeps the rule.
use Rattle.std.proofs.Common.{◌≡◌, ◌≢◌, ℕ, zero, suc, ◌+◌, ◌*◌, ◌<◌, ◌≤◌, true, List, [], ◌∷◌, ◌++◌, length, get_or, set, refl, sym, ap, ◌∙◌, subst, arith, cond, Bool, ⊎_elim, eqb, eq-eqb, ne_eqb, append_assoc}
use Rattle.std.proofs.Math.ListN.{get_or-append}
use Rattle.std.proofs.lemmas.List.{set-get_or}
use Rattle.std.specs.Prelude.{replicate}
use mathlib.Core.Option.{some, none, some-ne-none}
use lib.ListN.{get_elem?}
use prog.Atomic.{either}
use Rattle.atomic_table.specs.Table.{State, Me, Act, Valid, carried_after, keeps, stepped, Allows, Splits, Joins}
use Rattle.atomic_table.proofs.Lists.{set_here, set_again}
use Rattle.shared_log.specs.declared.seat_view.SeatView.{SeatView}
use Rattle.event_words.specs.Runs.{caller_of_word, IsEventWord}
use Rattle.event_words.proofs.Runs.{word-nonzero}
use Rattle.event_words.proofs.ListItems.{all_after}
use Rattle.shared_log.specs.Words.{words_by, AllEventWords}
use Rattle.shared_log.specs.SeatViews.{with_word, with_caller, new_caller, with_joined_log, spent_view, opening_view}
use Rattle.shared_log.specs.Rule.{IsCallerSeat, IsSharedLog}
use Rattle.shared_log.specs.Exchanges.{AfterExchange}
use Rattle.shared_log.proofs.WordLists.{at_end, at-below, get-behind}
use Rattle.shared_log.proofs.RuleKept.{view_kept, won, lost, not_own, split_kept, join_kept}

abbrev St : Type 0
St = State (Unit {0}) SeatView

module _ (C B : ℕ) where
  abbrev Holds : St → Type 0
  Holds s = IsSharedLog C B s.words s.views

  zeros-first : (n : ℕ) → get_or (replicate n (zero)) 0 0 ≡ zero
  zeros-first zero = refl
  zeros-first (suc n) = refl

  -- the word at the place of a view
  next-word : (s : St) (r : Holds s) (id : ℕ) (v : SeatView) (q : IsCallerSeat C B r.log r.seat r.made r.joined id v) → get_or s.words (length v.log) 0 ≡ get_or (q.has.rest ++ replicate r.empty_words 0) 0 0
  next-word s r id v q = ap (λ (l : List ℕ). get_or l (length v.log) 0) (r.words_are ∙ ap (λ (l : List ℕ). l ++ replicate r.empty_words 0) q.has.begins ∙ append_assoc v.log q.has.rest (replicate r.empty_words 0)) ∙ get-behind v.log (q.has.rest ++ replicate r.empty_words 0)

  there : (views : List SeatView) (id : ℕ) (v w : SeatView) → get_elem? views id ≡ some v → get_elem? (set views id w) id ≡ some w
  there views id v w at = set_here views id w (at-below views id v at)

  module _ (slots id : ℕ) (me : Me (Unit {0}) SeatView) (word : ℕ) (live : me.0.live ≡ true) (mine : caller_of_word word ≡ me.0.number) (event : IsEventWord word) (less : length (words_by me.0.number me.0.log) < me.0.budget) where
    abbrev Then : ℕ → Me (Unit {0}) SeatView → Type 0
    Then n me' = (me'.1 ≡ me.1) × AfterExchange word me.0 n me'.0

    abbrev place : ℕ
    place = length me.0.log

    exchange_by : (s : St) (r : Holds s) → get_elem? s.views id ≡ some me.0 → (q : IsCallerSeat C B r.log r.seat r.made r.joined id me.0) (rest : List ℕ) → q.has.rest ≡ rest
        → (w : SeatView) × (a : Act (Unit {0})) × Valid s.homes me.1 a × Holds (stepped s place (either (eqb (get_or s.words place 0) 0) word (get_or s.words place 0)) id me.1 w a) × Then (get_or s.words place 0) (w, carried_after me.1 a)
    exchange_by s r at q [] over =
        let F : ℕ = get_or s.words place 0 in
        let found : F ≡ zero = next-word s r id me.0 q ∙ ap (λ (l : List ℕ). get_or (l ++ replicate r.empty_words 0) 0 0) over ∙ zeros-first r.empty_words in
        let kept : IsSharedLog C B (set s.words place word) (set s.views id (with_word me.0 word)) = won C B s.words s.views r id me.0 at live q over word mine event (let e = q.budget_is in omega arith) in (
          with_word me.0 word,
          keeps,
          tt,
          subst (λ (t : Bool). IsSharedLog C B (set s.words place (either t word F)) (set s.views id (with_word me.0 word))) (sym (eq-eqb F 0 found)) kept,
          (
            refl,
            record {
              valid = view_kept C B (set s.words place word) (set s.views id (with_word me.0 word)) kept id (with_word me.0 word) (there s.views id me.0 (with_word me.0 word) at) live;
              won = λ _. refl;
              lost = λ not. absurd (not found);
            },
          ),
        )
    exchange_by s r at q (x ∷ xs) more =
        let F : ℕ = get_or s.words place 0 in
        let found : F ≡ x = next-word s r id me.0 q ∙ ap (λ (l : List ℕ). get_or (l ++ replicate r.empty_words 0) 0 0) more in
        let is_word : AllEventWords (x ∷ xs) = subst (AllEventWords) more (all_after IsEventWord me.0.log q.has.rest (subst (AllEventWords) q.has.begins r.events)) in
        let full : F ≢ zero = λ e. word-nonzero x is_word.0 (sym found ∙ e) in
        let kept : IsSharedLog C B s.words (set s.views id (with_word me.0 x)) = lost C B s.words s.views r id me.0 at q x xs more in (
          with_word me.0 x,
          keeps,
          tt,
          subst (λ (t : Bool). IsSharedLog C B (set s.words place (either t word F)) (set s.views id (with_word me.0 x))) (sym (ne_eqb F 0 full))
              (subst (λ (l : List ℕ). IsSharedLog C B l (set s.views id (with_word me.0 x))) (sym (set-get_or s.words place 0)) kept),
          (
            refl,
            record {
              valid = view_kept C B s.words (set s.views id (with_word me.0 x)) kept id (with_word me.0 x) (there s.views id me.0 (with_word me.0 x) at) live;
              won = λ e. absurd (full e);
              lost = λ _. (ap (with_word me.0) (sym found), subst (λ (k : ℕ). caller_of_word k ≢ me.0.number) (sym found) (not_own C B s.words s.views r id me.0 q x xs more));
            },
          ),
        )

    pub exchange_allowed : Allows Holds slots id me place (λ n. either (eqb n 0) word n) Then
    exchange_allowed s r homes at small = let q = r.seated id me.0 at live in exchange_by s r at q q.has.rest refl

  pub load_allowed : (slots id : ℕ) (me : Me (Unit {0}) SeatView) (i : ℕ) → me.0.live ≡ true → i < length me.0.log → Allows Holds slots id me i (λ n. n) (λ n me'. (me' ≡ me) × (n ≡ get_or me.0.log i 0))
  load_allowed slots id me i live below s r homes at small =
      let q = r.seated id me.0 at live in (
        me.0,
        keeps,
        tt,
        subst (λ (l : List ℕ). IsSharedLog C B l (set s.views id me.0)) (sym (set-get_or s.words i 0)) (subst (IsSharedLog C B s.words) (sym (set_again s.views id me.0 at)) r),
        (refl, ap (λ (l : List ℕ). get_or l i 0) (r.words_are ∙ ap (λ (l : List ℕ). l ++ replicate r.empty_words 0) q.has.begins ∙ append_assoc me.0.log q.has.rest (replicate r.empty_words 0)) ∙ get_or-append me.0.log (q.has.rest ++ replicate r.empty_words 0) 0 i below),
      )

  pub split_allowed : (id : ℕ) (v : SeatView) → v.live ≡ true → v.number ≡ 0 → v.made < C → Splits Holds id v (with_caller v) (new_caller v)
  split_allowed id v live is_first few s r at = split_kept C B s.words s.views r id v at live is_first few

  pub join_allowed : (id : ℕ) (v : SeatView) (other : ℕ) (u : SeatView) → v.live ≡ true → v.number ≡ 0 → u.live ≡ true → u.number ≡ length v.joined + 1 → Joins Holds id v other u (with_joined_log v u) spent_view
  join_allowed id v other u live is_first live' next s r at not at' = join_kept C B s.words s.views r id v at live is_first other u not at' live' next

  only-first : (c : ℕ) → 1 ≤ c → cond (eqb c 0) (some zero) none ≡ none
  only-first c h = ap (λ (t : Bool). cond t (some zero) none) (ne_eqb c 0 (λ e. omega arith))

  pub opening_kept : 1 ≤ C → IsSharedLog C B (replicate (C * B) 0) (opening_view C B ∷ [])
  opening_kept one = record {
    log = [];
    empty_words = C * B;
    seat = λ c. cond (eqb c 0) (some 0) none;
    made = 1;
    joined = [];
    words_are = refl;
    word_count = omega arith;
    events = tt;
    few = one;
    first = record { view = opening_view C B; seat = refl; live = refl; number = refl };
    within = λ c. omega arith;
    unmade = λ c h. (refl, only-first c h);
    done = λ c l e. absurd (some-ne-none l (sym e));
    seated = λ j u at live. ⊎_elim (λ e. absurd (some-ne-none u (sym e)))
        (λ e. let P : ℕ × SeatView → Type 0 = λ z. IsCallerSeat C B [] (λ c. cond (eqb c 0) (some 0) none) 1 [] z.0 z.1 in subst P {x = (0, opening_view C B)} {y = (j, u)} (λ i. (sym e.0 i, e.1 i)) record {
          callers_is = refl;
          budget_is = refl;
          seat_is = refl;
          has = record { rest = []; begins = refl; no_more = refl };
          first = λ _. (refl, refl);
        })
        (at_end [] (opening_view C B) u j at);
  }
