-- How a caller goes on by one word.
use Rattle.std.proofs.Common.{◌≡◌, ◌≢◌, ℕ, ◌+◌, ◌*◌, ◌<◌, ◌≤◌, List, [], ◌∷◌, ◌++◌, length, refl, sym, ap, ◌∙◌, subst, arith, length-append, append_assoc, append-nil}
use Rattle.event_words.specs.Runs.{caller_of_word, run}
use Rattle.event_words.proofs.Runs.{run-snoc}
use Rattle.event_words.specs.declared.reply.Reply.{Reply}
use Rattle.atomic_table.specs.Seated.{TableId}
use Rattle.shared_log.specs.declared.seat_view.SeatView.{SeatView}
use Rattle.shared_log.specs.Words.{words_by}
use Rattle.shared_log.specs.SeatViews.{IsSeatView, with_word, new_caller}
use Rattle.shared_log.specs.Callers.{CallerView, HasCallerFields, IsCaller, AfterOthers, AfterCall, caller_view}
use Rattle.shared_log.proofs.Counting.{at_most, below_all}
use Rattle.shared_log.proofs.WordLists.{words-snoc-other}

pub place_within : (words : ℕ) (v : SeatView) (place : ℕ) → IsSeatView v → place ≡ length v.log → words ≡ v.callers * v.budget → place ≤ words
place_within words v place h p w = let m = at_most v.callers v.budget v.log h.above h.within in omega arith

pub place_below : (words : ℕ) (v : SeatView) (number place left : ℕ) → IsSeatView v → v.number ≡ number → place ≡ length v.log → words ≡ v.callers * v.budget → left + length (words_by number v.log) ≡ v.budget → 0 < left → place < words
place_below words v number place left h n p w l some_left =
    let lt = h.number in
    let m = below_all v.callers v.budget number v.log h.above h.within (omega arith) (omega arith) in omega arith

-- no event was seen
pub no_others : {M S : Type 0} (c : CallerView M S) → AfterOthers c c
no_others c = let same : c.log ≡ c.log ++ [] = sym (append-nil c.log) in record { between = []; others = refl; log = same; same = refl }

module _ {M S : Type 0} (state : M → S) (next_place places : M → ℕ) (after : S → ℕ → ℕ → S) where
  pub own_words_below_budget : {words : ℕ} {v : SeatView} {number place left budget made : ℕ} {m : M} {f : S} → HasCallerFields state next_place places after words v number place left budget made m f → 0 < left → length (words_by v.number v.log) < v.budget
  own_words_below_budget {v} {number} i some_left =
      let e : length (words_by v.number v.log) ≡ length (words_by number v.log) = ap (λ (k : ℕ). length (words_by k v.log)) i.number_is in
      let l = i.left_is in omega arith

  pub one_word_more : {words : ℕ} {v : SeatView} {number place left budget made : ℕ} {m : M} {f : S} → HasCallerFields state next_place places after words v number place left budget made m f
      → (x : ℕ) (v' : SeatView) (left' : ℕ) (m' : M) (words' : ℕ) → v' ≡ with_word v x → IsSeatView v' → words' ≡ words → state m' ≡ after (state m) place x → next_place m' ≡ next_place m + 1 → places m' ≡ places m
      → left' + length (words_by number (v.log ++ x ∷ [])) ≡ v.budget
      → HasCallerFields state next_place places after words' v' number (place + 1) left' budget made m' f
  one_word_more {words} {v} {number} {place} {left} {budget} {made} {m} {f} i x v' left' m' words' e knows same st nx pl owned =
      let knows' = subst (IsSeatView) e knows in
      let place' : place + 1 ≡ length (v.log ++ x ∷ []) = let p = i.place_is in omega (arith, length-append v.log (x ∷ [])) in
      let P : SeatView → Type 0 = λ u. HasCallerFields state next_place places after words' u number (place + 1) left' budget made m' f in
      subst P (sym e) record {
        live = i.live;
        none_joined = i.none_joined;
        number_is = i.number_is;
        few = i.few;
        lot = i.lot;
        place_is = place';
        words_are = same ∙ i.words_are;
        valid = knows';
        small = place_within words' (with_word v x) (place + 1) knows' place' (same ∙ i.words_are);
        room = place_below words' (with_word v x) number (place + 1) left' knows' i.number_is place' (same ∙ i.words_are) owned;
        left_is = owned;
        budget_is = i.budget_is;
        made_is = i.made_is;
        state_is = st ∙ ap (λ (k : ℕ). after (state m) k x) i.place_is ∙ ap (λ (s : S). after s (length v.log) x) i.state_is ∙ sym (run-snoc after f v.log x);
        next_is = let n = i.next_is in omega (arith, length-append v.log (x ∷ []));
        fits = let n = i.fits in omega arith;
      }

  -- another caller's word more
  pub word_of_others_more : {c : CallerView M S} (table : TableId) (v : SeatView) (left : ℕ) (m : M) (f : S) → AfterOthers c (caller_view table v left m f) → (x : ℕ) (v' : SeatView) (table' : TableId) (m' : M) → v' ≡ with_word v x → caller_of_word x ≢ v.number → table' ≡ table
      → AfterOthers c (caller_view table' v' left m' f)
  word_of_others_more {c} table v left m f h x v' table' m' e not same =
      let log : v'.log ≡ v.log ++ x ∷ [] = ap (λ (u : SeatView). u.log) e in record {
        between = h.between ++ x ∷ [];
        others = words-snoc-other c.number h.between x (λ q. not (q ∙ sym (ap (λ (d : CallerView M S). d.number) h.same))) ∙ h.others;
        log = log ∙ ap (λ (l : List ℕ). l ++ x ∷ []) h.log ∙ append_assoc c.log h.between (x ∷ []);
        same = ap (λ (u : SeatView). caller_view table' u left m' f) e
            ∙ ap (λ (t : TableId). caller_view t (with_word v x) left m' f) same
            ∙ ap (λ (d : CallerView M S). record d { log = v.log ++ x ∷ []; machine = m' }) h.same
            ∙ ap (λ (l : List ℕ). record c { log = l; machine = m' }) (sym log);
      }

  pub after_call : (reply : S → ℕ → ℕ → Reply) {words : ℕ} {c : CallerView M S} (table : TableId) {v : SeatView} {number place left budget made : ℕ} {m : M} {f : S} → HasCallerFields state next_place places after words v number place left budget made m f
      → AfterOthers c (caller_view table v left m f)
      → (w : ℕ) (v' : SeatView) (left' : ℕ) (m' : M) (table' : TableId) (answer : Reply) → v' ≡ with_word v w → table' ≡ table → left' + 1 ≡ left → answer ≡ reply (state m) place w
      → AfterCall after reply c w answer (caller_view table' v' left' m' f)
  after_call reply {c} table {v} {place} {left} {m} {f} i h w v' left' m' table' answer e same less is =
      let log : v'.log ≡ v.log ++ w ∷ [] = ap (λ (u : SeatView). u.log) e in
      let logs : v.log ≡ c.log ++ h.between = h.log in record {
        between = h.between;
        others = h.others;
        log = log ∙ ap (λ (l : List ℕ). l ++ w ∷ []) logs;
        left = less ∙ ap (λ (d : CallerView M S). d.left) h.same;
        answered = is ∙ ap (λ (k : ℕ). reply (state m) k w) (i.place_is ∙ ap length logs)
            ∙ ap (λ (s : S). reply s (length (c.log ++ h.between)) w) (i.state_is ∙ ap (run after f) logs ∙ ap (λ (y : S). run after y (c.log ++ h.between)) (ap (λ (d : CallerView M S). d.first) h.same));
        same = ap (λ (u : SeatView). caller_view table' u left' m' f) e
            ∙ ap (λ (t : TableId). caller_view t (with_word v w) left' m' f) same
            ∙ ap (λ (d : CallerView M S). record d { log = v.log ++ w ∷ []; left = left'; machine = m' }) h.same
            ∙ ap (λ (l : List ℕ). record c { log = l; left = left'; machine = m' }) (sym log);
      }

  -- what a caller's fields say to the crates above
  pub caller_of_fields : {words : ℕ} {v : SeatView} {number place left budget made : ℕ} {m : M} {f : S} (table : TableId) → HasCallerFields state next_place places after words v number place left budget made m f
      → IsCaller state next_place places after (caller_view table v left m f)
  caller_of_fields {v} {number} {left} table i = let h = i.valid in record {
    number = h.number;
    most_callers = i.lot;
    most_events = i.few;
    events = h.events;
    budget = ap (λ (k : ℕ). left + length (words_by k v.log)) i.number_is ∙ i.left_is;
    within = h.within;
    above = h.above;
    unmade = h.later;
    room = let s = i.small in let p = i.place_is in let w = i.words_are in omega arith;
    more_room = λ some_left. let s = i.room some_left in let p = i.place_is in let w = i.words_are in omega arith;
    replica = i.state_is;
    next = i.next_is;
    enough = i.fits;
  }

  -- the new caller, whose machine was brought up
  pub new_caller_fields : {words : ℕ} {v : SeatView} {number place left budget made : ℕ} {m : M} {f : S} → HasCallerFields state next_place places after words v number place left budget made m f → v.number ≡ 0 → v.made < v.callers
      → (m' : M) → state m' ≡ run after f v.log → next_place m' ≡ place → v.callers * v.budget ≤ places m'
      → HasCallerFields state next_place places after words (new_caller v) made place budget budget 0 m' f
  new_caller_fields {words} {v} {number} {place} {left} {budget} {made} i z few m' st nx pl = let h = i.valid in
      let none : words_by made v.log ≡ [] = h.later z made (let e = i.made_is in omega arith) in
      let owned : budget + length (words_by made v.log) ≡ v.budget = let e = i.budget_is in let n = ap length none in omega arith in
      let knows' : IsSeatView (new_caller v) = record { number = few; events = h.events; within = h.within; above = h.above; later = λ y c le. h.later z c (omega arith) } in record {
        live = refl;
        none_joined = refl;
        number_is = sym i.made_is;
        place_is = i.place_is;
        words_are = i.words_are;
        few = i.few;
        lot = i.lot;
        budget_is = i.budget_is;
        made_is = refl;
        left_is = owned;
        small = i.small;
        room = place_below words (new_caller v) made place budget knows' (sym i.made_is) i.place_is i.words_are owned;
        state_is = st;
        next_is = nx ∙ i.place_is;
        fits = pl;
        valid = knows';
      }
