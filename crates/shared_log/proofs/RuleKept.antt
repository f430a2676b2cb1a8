-- An exchange keeps the rule.
use Rattle.std.proofs.Common.{◌≡◌, ◌≢◌, ℕ, suc, ◌+◌, ◌*◌, ◌-◌, ◌<◌, ◌≤◌, ⊎_elim, true, false, Bool, List, [], ◌∷◌, ◌++◌, length, set, refl, sym, ap, ◌∙◌, subst, eqb, eq-eqb, ne_eqb, arith, length-append, append_assoc, append-nil, lt_of_not-le, cond}
use Rattle.std.proofs.Math.Seq.{set-append_seam}
use Rattle.std.specs.Prelude.{replicate}
use mathlib.Core.Logic.{dite}
use mathlib.Core.Option.{Option, none, some, some-injective, some-ne-none}
use native.Mathlib.Decide.{ℕ_discrete, dec_le}
use lib.ListN.{get_elem?}
use Rattle.atomic_table.proofs.Lists.{at_set, set_here, set_else, at_longer}
use Rattle.shared_log.specs.declared.seat_view.SeatView.{SeatView}
use Rattle.event_words.specs.Runs.{caller_of_word, IsEventWord}
use Rattle.event_words.proofs.ListItems.{all_push}
use Rattle.shared_log.specs.Words.{words_by, AllEventWords, BeginsWithLog}
use Rattle.shared_log.specs.SeatViews.{IsSeatView, with_word, with_caller, new_caller, with_joined_log, spent_view}
use Rattle.shared_log.specs.Rule.{IsCallerSeat, HasLiveFirst, IsSharedLog}
use Rattle.shared_log.proofs.Counting.{words-own, below_all}
use Rattle.shared_log.proofs.WordLists.{at_end, at-below, append-none-right, AllEventWords-left, words-append, words-prefix-none, words-prefix-length, words-snoc-other, words-snoc-length}

-- the first caller stays live when the view of one seat changes, if it does in that view
first_kept : (views : List SeatView) (i : ℕ) (v w : SeatView) → get_elem? views i ≡ some v → (v.live ≡ true → v.number ≡ 0 → (w.live ≡ true) × (w.number ≡ 0)) → HasLiveFirst views → HasLiveFirst (set views i w)
first_kept views i v w at keeps h = dite (ℕ_discrete 0 i)
    (λ here. let same : h.view ≡ v = some-injective h.view v (sym h.seat ∙ ap (get_elem? views) here ∙ at) in
    let k = keeps (ap (λ (x : SeatView). x.live) (sym same) ∙ h.live) (ap (λ (x : SeatView). x.number) (sym same) ∙ h.number) in record {
      view = w;
      seat = ap (get_elem? (set views i w)) here ∙ set_here views i w (at-below views i v at);
      live = k.0;
      number = k.1;
    })
    (λ away. record { view = h.view; seat = set_else views i 0 w away ∙ h.seat; live = h.live; number = h.number })

module _ (C B : ℕ) where
  -- another caller's word more
  has-more : (c : ℕ) (log l : List ℕ) (w : ℕ) → BeginsWithLog c log l → caller_of_word w ≢ c → BeginsWithLog c (log ++ w ∷ []) l
  has-more c log l w h not = record {
    rest = h.rest ++ w ∷ [];
    begins = ap (λ (k : List ℕ). k ++ w ∷ []) h.begins ∙ append_assoc l h.rest (w ∷ []);
    no_more = words-snoc-other c h.rest w not ∙ h.no_more;
  }

  made_above : (words : List ℕ) (views : List SeatView) (r : IsSharedLog C B words views) (c id : ℕ) → r.seat c ≡ some id → Dec (r.made ≤ c) → c < r.made
  made_above words views r c id is (yes h) = absurd (some-ne-none id (sym is ∙ (r.unmade c h).1))
  made_above words views r c id is (no h) = lt_of_not-le h

  pub number_made : (words : List ℕ) (views : List SeatView) (r : IsSharedLog C B words views) (c id : ℕ) → r.seat c ≡ some id → c < r.made
  number_made words views r c id is = made_above words views r c id is (dec_le r.made c)

  -- what a live view knows
  pub view_kept : (words : List ℕ) (views : List SeatView) (r : IsSharedLog C B words views) (id : ℕ) (v : SeatView) → get_elem? views id ≡ some v → v.live ≡ true → IsSeatView v
  view_kept words views r id v at live =
      let q = r.seated id v at live in
      let n = number_made words views r v.number id q.seat_is in
      let few = r.few in
      let bud = q.budget_is in
      let cal = q.callers_is in
      let none : (c : ℕ) → r.made ≤ c → words_by c v.log ≡ [] = λ c h. words-prefix-none c v.log q.has.rest (ap (words_by c) (sym q.has.begins) ∙ (r.unmade c h).0) in
      record {
        number = omega arith;
        events = AllEventWords-left v.log q.has.rest (subst (AllEventWords) q.has.begins r.events);
        within = λ c. omega (arith, words-prefix-length c v.log q.has.rest, ap (λ (l : List ℕ). length (words_by c l)) q.has.begins, r.within c);
        above = λ c h. none c (omega arith);
        later = λ z c h. none c (let e = (q.first z).0 in omega arith);
      }

  -- a live view with budget left has room for one word more
  pub room_of : (v : SeatView) → IsSeatView v → (k : ℕ) → k < v.callers → length (words_by k v.log) < v.budget → length v.log < v.callers * v.budget
  room_of v h k lt less = below_all v.callers v.budget k v.log h.above h.within lt less

  -- a seat may have any view that fits its place in the log
  pub replaced : (words : List ℕ) (views : List SeatView) (r : IsSharedLog C B words views) (id : ℕ) (v : SeatView) → (v.live ≡ true → IsCallerSeat C B r.log r.seat r.made r.joined id v) → HasLiveFirst (set views id v) → IsSharedLog C B words (set views id v)
  replaced words views r id v q first = record {
    first = first;
    log = r.log;
    empty_words = r.empty_words;
    seat = r.seat;
    made = r.made;
    joined = r.joined;
    words_are = r.words_are;
    word_count = r.word_count;
    events = r.events;
    few = r.few;
    within = r.within;
    unmade = r.unmade;
    done = r.done;
    seated = λ j u at live. ⊎_elim
        (λ e. let P : ℕ × SeatView → Type 0 = λ z. IsCallerSeat C B r.log r.seat r.made r.joined z.0 z.1 in subst P {x = (id, v)} {y = (j, u)} (λ i. (sym e.0 i, e.1 i)) (q (ap (λ (x : SeatView). x.live) e.1 ∙ live)))
        (λ e. r.seated j u e.1 live)
        (at_set views id j v u at);
  }

  -- two live seats have two numbers
  pub apart : (words : List ℕ) (views : List SeatView) (r : IsSharedLog C B words views) (i j : ℕ) (v u : SeatView) → IsCallerSeat C B r.log r.seat r.made r.joined i v → IsCallerSeat C B r.log r.seat r.made r.joined j u → j ≢ i → u.number ≢ v.number
  apart words views r i j v u q p not e = not (some-injective j i (sym p.seat_is ∙ ap r.seat e ∙ q.seat_is))

  -- the next word is empty: it becomes the caller's own
  pub won : (words : List ℕ) (views : List SeatView) (r : IsSharedLog C B words views) (id : ℕ) (v : SeatView) → get_elem? views id ≡ some v → (live : v.live ≡ true) (q : IsCallerSeat C B r.log r.seat r.made r.joined id v) → q.has.rest ≡ []
      → (w : ℕ) → caller_of_word w ≡ v.number → IsEventWord w → length (words_by v.number v.log) < B
      → IsSharedLog C B (set words (length v.log) w) (set views id (with_word v w))
  won words views r id v at live q over w mine event less =
      let same : r.log ≡ v.log = q.has.begins ∙ ap (λ (l : List ℕ). v.log ++ l) over ∙ append-nil v.log in
      let size : v.callers * v.budget ≡ C * B = ap (λ (k : ℕ). k * v.budget) q.callers_is ∙ ap (λ (k : ℕ). C * k) q.budget_is in
      let bud = q.budget_is in
      let room : length v.log < C * B = let h = view_kept words views r id v at live in let m = room_of v h v.number h.number (omega arith) in omega arith in
      let long : length r.log ≡ length v.log = ap length same in
      let f : ℕ = r.empty_words - 1 in
      let one : r.empty_words ≡ suc f = let t = r.word_count in omega arith in
      let laid : words ≡ v.log ++ 0 ∷ replicate f 0 = r.words_are ∙ ap (λ (k : ℕ). r.log ++ replicate k 0) one ∙ ap (λ (l : List ℕ). l ++ 0 ∷ replicate f 0) same in
      let below = number_made words views r v.number id q.seat_is in
      let fewer : length (words_by v.number r.log) < B = subst (λ (l : List ℕ). length (words_by v.number l) < B) (sym same) less in
      record {
        log = r.log ++ w ∷ [];
        empty_words = f;
        seat = r.seat;
        made = r.made;
        joined = r.joined;
        first = first_kept views id v (with_word v w) at (λ l z. (l, z)) r.first;
        words_are = ap (λ (l : List ℕ). set l (length v.log) w) laid ∙ set-append_seam v.log 0 (replicate f 0) w ∙ sym (append_assoc v.log (w ∷ []) (replicate f 0)) ∙ ap (λ (l : List ℕ). (l ++ w ∷ []) ++ replicate f 0) (sym same);
        word_count = let t = r.word_count in omega (arith, length-append r.log (w ∷ []));
        events = all_push IsEventWord r.log w r.events event;
        few = r.few;
        within = λ c. dite (ℕ_discrete (caller_of_word w) c)
            (λ is. let m : length (words_by c r.log) < B = subst (λ (z : ℕ). length (words_by z r.log) < B) (sym mine ∙ is) fewer in let k = words-snoc-length c r.log w in omega arith)
            (λ not. let k = ap length (words-snoc-other c r.log w not) in let m = r.within c in omega arith);
        unmade = λ c h. let u = r.unmade c h in (words-snoc-other c r.log w (λ e. omega arith) ∙ u.0, u.1);
        done = λ c l at'. let d = r.done c l at' in (d.0, d.1, has-more (suc c) r.log l w d.2 (λ e. some-ne-none id (sym q.seat_is ∙ ap r.seat (sym mine ∙ e) ∙ d.1)));
        seated = λ j u at' live'. ⊎_elim
            (λ e. let P : ℕ × SeatView → Type 0 = λ z. IsCallerSeat C B (r.log ++ w ∷ []) r.seat r.made r.joined z.0 z.1 in subst P {x = (id, with_word v w)} {y = (j, u)} (λ i. (sym e.0 i, e.1 i)) record {
              callers_is = q.callers_is;
              budget_is = q.budget_is;
              seat_is = q.seat_is;
              first = q.first;
              has = record { rest = []; begins = ap (λ (l : List ℕ). l ++ w ∷ []) same ∙ sym (append-nil (v.log ++ w ∷ [])); no_more = refl };
            })
            (λ e. let p = r.seated j u e.1 live' in record {
              callers_is = p.callers_is;
              budget_is = p.budget_is;
              seat_is = p.seat_is;
              first = p.first;
              has = has-more u.number r.log u.log w p.has (λ is. apart words views r id j v u q p e.0 (sym is ∙ mine));
            })
            (at_set views id j (with_word v w) u at');
      }

  -- the next word is another caller's: it becomes known
  pub lost : (words : List ℕ) (views : List SeatView) (r : IsSharedLog C B words views) (id : ℕ) (v : SeatView) → get_elem? views id ≡ some v → (q : IsCallerSeat C B r.log r.seat r.made r.joined id v) (x : ℕ) (xs : List ℕ) → q.has.rest ≡ x ∷ xs
      → IsSharedLog C B words (set views id (with_word v x))
  lost words views r id v at q x xs more = replaced words views r id (with_word v x) (λ _. record {
    callers_is = q.callers_is;
    budget_is = q.budget_is;
    seat_is = q.seat_is;
    first = q.first;
    has = record {
      rest = xs;
      begins = q.has.begins ∙ ap (λ (l : List ℕ). v.log ++ l) more ∙ sym (append_assoc v.log (x ∷ []) xs);
      no_more = append-none-right (words_by v.number (x ∷ [])) (words_by v.number xs) (sym (words-append v.number (x ∷ []) xs) ∙ ap (words_by v.number) (sym more) ∙ q.has.no_more);
    };
  }) (first_kept views id v (with_word v x) at (λ l z. (l, z)) r.first)

  pub not_own : (words : List ℕ) (views : List SeatView) (r : IsSharedLog C B words views) (id : ℕ) (v : SeatView) (q : IsCallerSeat C B r.log r.seat r.made r.joined id v) (x : ℕ) (xs : List ℕ) → q.has.rest ≡ x ∷ xs → caller_of_word x ≢ v.number
  not_own words views r id v q x xs more is = let e : x ∷ words_by v.number xs ≡ [] = sym (words-own v.number x xs is) ∙ ap (words_by v.number) (sym more) ∙ q.has.no_more in cc

  -- one caller more
  abbrev seat_more : (ℕ → Option ℕ) → ℕ → ℕ → ℕ → Option ℕ
  seat_more seat c n k = cond (eqb k c) (some n) (seat k)

  seat_more-same : (seat : ℕ → Option ℕ) (c n k : ℕ) → k ≢ c → seat_more seat c n k ≡ seat k
  seat_more-same seat c n k not = ap (λ (t : Bool). cond t (some n) (seat k)) (ne_eqb k c not)

  seat_more-here : (seat : ℕ → Option ℕ) (c n : ℕ) → seat_more seat c n c ≡ some n
  seat_more-here seat c n = ap (λ (t : Bool). cond t (some n) (seat c)) (eq-eqb c c refl)

  pub split_kept : (words : List ℕ) (views : List SeatView) (r : IsSharedLog C B words views) (id : ℕ) (v : SeatView) → get_elem? views id ≡ some v → v.live ≡ true → v.number ≡ 0 → v.made < C
      → IsSharedLog C B words (set views id (with_caller v) ++ new_caller v ∷ [])
  split_kept words views r id v at live is_first few =
      let q = r.seated id v at live in
      let below = number_made words views r v.number id q.seat_is in
      let made : v.made ≡ r.made = (q.first is_first).0 in
      let n : ℕ = length (set views id (with_caller v)) in
      let seat' : ℕ → Option ℕ = seat_more r.seat r.made n in
      let first = first_kept views id v (with_caller v) at (λ l z. (l, z)) r.first in
      record {
        first = record { view = first.view; seat = at_longer (set views id (with_caller v)) (new_caller v ∷ []) 0 first.view first.seat; live = first.live; number = first.number };
        log = r.log;
        empty_words = r.empty_words;
        seat = seat';
        made = r.made + 1;
        joined = r.joined;
        words_are = r.words_are;
        word_count = r.word_count;
        events = r.events;
        within = r.within;
        few = omega arith;
        unmade = λ c h. let u = r.unmade c (omega arith) in (u.0, seat_more-same r.seat r.made n c (λ e. omega arith) ∙ u.1);
        done = λ c l at'. let d = r.done c l at' in let lt = d.0 in (omega arith, seat_more-same r.seat r.made n (suc c) (λ e. omega arith) ∙ d.1, d.2);
        seated = λ j u at' live'. ⊎_elim
            (λ old. ⊎_elim
            (λ e. let P : ℕ × SeatView → Type 0 = λ z. IsCallerSeat C B r.log seat' (r.made + 1) r.joined z.0 z.1 in subst P {x = (id, with_caller v)} {y = (j, u)} (λ i. (sym e.0 i, e.1 i)) record {
              callers_is = q.callers_is;
              budget_is = q.budget_is;
              has = q.has;
              seat_is = seat_more-same r.seat r.made n v.number (λ e. omega arith) ∙ q.seat_is;
              first = λ z. (ap (λ (k : ℕ). k + 1) made, (q.first z).1);
            })
            (λ e. let p = r.seated j u e.1 live' in let lt = number_made words views r u.number j p.seat_is in record {
              callers_is = p.callers_is;
              budget_is = p.budget_is;
              has = p.has;
              seat_is = seat_more-same r.seat r.made n u.number (λ e. omega arith) ∙ p.seat_is;
              first = λ z. absurd (apart words views r id j v u q p e.0 (z ∙ sym is_first));
            })
            (at_set views id j (with_caller v) u old))
            (λ e. let P : ℕ × SeatView → Type 0 = λ z. IsCallerSeat C B r.log seat' (r.made + 1) r.joined z.0 z.1 in subst P {x = (n, new_caller v)} {y = (j, u)} (λ i. (sym e.0 i, e.1 i)) record {
              callers_is = q.callers_is;
              budget_is = q.budget_is;
              seat_is = ap seat' made ∙ seat_more-here r.seat r.made n;
              has = record { rest = q.has.rest; begins = q.has.begins; no_more = append-none-right (words_by v.made v.log) (words_by v.made q.has.rest) (sym (words-append v.made v.log q.has.rest) ∙ ap (words_by v.made) (sym q.has.begins) ∙ (r.unmade v.made (omega arith)).0) };
              first = λ z. absurd (omega arith);
            })
            (at_end (set views id (with_caller v)) (new_caller v) u j at');
      }

  cond-none : (t : Bool) (o : Option ℕ) → o ≡ none → cond t none o ≡ none
  cond-none true o e = refl
  cond-none false o e = e

  -- one caller less
  abbrev seat_less : (ℕ → Option ℕ) → ℕ → ℕ → Option ℕ
  seat_less seat c k = cond (eqb k c) none (seat k)

  seat_less-same : (seat : ℕ → Option ℕ) (c k : ℕ) → k ≢ c → seat_less seat c k ≡ seat k
  seat_less-same seat c k not = ap (λ (t : Bool). cond t none (seat k)) (ne_eqb k c not)

  seat_less-none : (seat : ℕ → Option ℕ) (c k : ℕ) → seat k ≡ none → seat_less seat c k ≡ none
  seat_less-none seat c k e = cond-none (eqb k c) (seat k) e

  seat_less-here : (seat : ℕ → Option ℕ) (c : ℕ) → seat_less seat c c ≡ none
  seat_less-here seat c = ap (λ (t : Bool). cond t none (seat c)) (eq-eqb c c refl)

  pub join_kept : (words : List ℕ) (views : List SeatView) (r : IsSharedLog C B words views) (id : ℕ) (v : SeatView) → get_elem? views id ≡ some v → v.live ≡ true → v.number ≡ 0
      → (other : ℕ) (u : SeatView) → other ≢ id → get_elem? (set views id (with_joined_log v u)) other ≡ some u → u.live ≡ true → u.number ≡ length v.joined + 1
      → IsSharedLog C B words (set (set views id (with_joined_log v u)) other spent_view)
  join_kept words views r id v at live is_first other u not at' live' next =
      let q = r.seated id v at live in
      let there : get_elem? views other ≡ some u = sym (set_else views id other (with_joined_log v u) not) ∙ at' in
      let p = r.seated other u there live' in
      let kept : v.joined ≡ r.joined = (q.first is_first).1 in
      let long : length v.joined ≡ length r.joined = ap length kept in
      let seat' : ℕ → Option ℕ = seat_less r.seat u.number in
      let joined' : List (List ℕ) = r.joined ++ u.log ∷ [] in
      record {
        first = first_kept (set views id (with_joined_log v u)) other u spent_view at' (λ l z. absurd (omega arith)) (first_kept views id v (with_joined_log v u) at (λ l z. (l, z)) r.first);
        log = r.log;
        empty_words = r.empty_words;
        seat = seat';
        made = r.made;
        joined = joined';
        words_are = r.words_are;
        word_count = r.word_count;
        events = r.events;
        within = r.within;
        few = r.few;
        unmade = λ c h. let e = r.unmade c h in (e.0, seat_less-none r.seat u.number c e.1);
        done = λ c l ent. ⊎_elim
            (λ old. let d = r.done c l old in (d.0, seat_less-none r.seat u.number (suc c) d.1, d.2))
            (λ e. let is : u.number ≡ suc c = let x = e.0 in omega arith in
            let P : ℕ × List ℕ → Type 0 = λ z. (z.0 < r.made) × (seat' z.0 ≡ none) × BeginsWithLog z.0 r.log z.1 in
            subst P {x = (u.number, u.log)} {y = (suc c, l)} (λ i. (is i, e.1 i)) (number_made words views r u.number other p.seat_is, seat_less-here r.seat u.number, p.has))
            (at_end r.joined (u.log) l c ent);
        seated = λ j w ent live''. ⊎_elim
            (λ e. absurd (let f : false ≡ true = ap (λ (x : SeatView). x.live) e.1 ∙ live'' in cc))
            (λ t. ⊎_elim
            (λ e. let P : ℕ × SeatView → Type 0 = λ z. IsCallerSeat C B r.log seat' r.made joined' z.0 z.1 in subst P {x = (id, with_joined_log v u)} {y = (j, w)} (λ i. (sym e.0 i, e.1 i)) record {
              callers_is = q.callers_is;
              budget_is = q.budget_is;
              has = q.has;
              seat_is = seat_less-same r.seat u.number v.number (λ e. omega arith) ∙ q.seat_is;
              first = λ z. ((q.first z).0, ap (λ (k : List (List ℕ)). k ++ u.log ∷ []) kept);
            })
            (λ e. let o = r.seated j w e.1 live'' in record {
              callers_is = o.callers_is;
              budget_is = o.budget_is;
              has = o.has;
              seat_is = seat_less-same r.seat u.number w.number (apart words views r other j u w p o t.0) ∙ o.seat_is;
              first = λ z. absurd (apart words views r id j v w q o e.0 (z ∙ sym is_first));
            })
            (at_set views id j (with_joined_log v u) w t.1))
            (at_set (set views id (with_joined_log v u)) other j spent_view w ent);
      }
