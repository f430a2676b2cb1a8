-- What is merged of the replies that all callers kept is what the units reply at each place.
use Rattle.std.proofs.Common.{◌≡◌, ℕ, zero, suc, ◌+◌, ◌<◌, get_or, set, add-one, ◌≤◌, Bool, true, false, cond, List, [], ◌∷◌, ◌++◌, Option, None, Some, length, map, take, refl, sym, ap, subst, ◌∙◌, arith, eq-eqb, append-nil, length-append, inl, inr}
use Rattle.std.proofs.lemmas.Bool.{eqb-true}
use Rattle.std.proofs.lemmas.List.{take_more, take_all, length-take-le, get_or-set_same, get_or-set_other}
use Rattle.std.specs.Prelude.{◌==◌, IfSome, slice_get, slice_index_or}
use Rattle.std.specs.Global.{Vec}
use Rattle.event_words.specs.declared.record.LoggedEvent.{LoggedEvent}
use Rattle.event_words.specs.declared.reply.Reply.{Reply}
use Rattle.event_words.specs.declared.shape.Shape.{Shape}
use Rattle.event_words.specs.Events.{caller_of}
use Rattle.event_words.specs.Records.{events_by}
use Rattle.event_words.specs.Runs.{caller_of_word, logged, logged_from, logged_first, run}
use Rattle.event_words.proofs.Runs.{event-caller}
use Rattle.event_words.proofs.EventWords.{word_event}
use Rattle.unit_core.specs.Units.{FabricState, fabric_at_reset}
use Rattle.unit_core.specs.Fabrics.{state_after_word, reply_to_word}
use Rattle.unit_core.specs.Reports.{unit_lines}
use Rattle.event_words.specs.Sections.{SectionOf}
use Rattle.shared_log.specs.Words.{AllEventWords}
use Rattle.shared_log.specs.Callers.{SharedView}
use Rattle.shared_log.specs.Histories.{HoldsCaller}
use Rattle.shared_log.proofs.Histories.{own_events-in-history}
use Rattle.checker_workers.specs.Ports.{PortView}
use Rattle.checker_workers.specs.Lanes.{LaneView}
use Rattle.checker_workers.specs.Told.{reply_in, own_replies}
use Rattle.script_player.specs.declared.told.Seen.{Seen}
use Rattle.script_player.specs.KeptReplies.{IsKept, AreKept, IsOneOf, IsSeenBy}
use Rattle.script_player.specs.MergedReplies.{replies_by, list_of, AreFirstOf, AreRepliesTo, IsToldBy}
use Rattle.script_player.specs.ToldHistories.{replies_from, logged_with}
use Rattle.script_player.specs.PlayedSections.{HasPlayed, AreReadyLanes, RunsTo}
use Rattle.script_player.proofs.PlayedSections.{all_ran}
use Rattle.script_player.proofs.ReplayedReplies.{as_many_replies, logged_replies}

-- ---- a caller's own replies are those to its words

with_test : (b : Bool) (x : LoggedEvent) (ys : List LoggedEvent) (rs : List Reply) → map reply_in ys ≡ rs → map reply_in (cond b (x ∷ ys) ys) ≡ cond b (x.reply ∷ rs) rs
with_test true x ys rs e = ap (λ l. x.reply ∷ l) e
with_test false x ys rs e = e

own_are_by : (c k : ℕ) (s : FabricState) (ws : List ℕ) → AllEventWords ws → map reply_in (events_by c (logged_from state_after_word reply_to_word k s ws)) ≡ replies_by c ws (replies_from k s ws)
own_are_by c k s [] all = refl
own_are_by c k s (w ∷ ws) all =
    let e = word_event w all.0 in
    let t : FabricState = state_after_word s k w in
    let r : Reply = reply_to_word s k w in
    let rest : List LoggedEvent = logged_from state_after_word reply_to_word (suc k) t ws in
    let left : List Reply = replies_by c ws (replies_from (suc k) t ws) in
    let x : LoggedEvent = record { place = k; event = e.event; reply = r } in
    let same : caller_of e.event ≡ caller_of_word w = subst (λ o. IfSome o (λ v. caller_of v ≡ caller_of_word w)) e.back (event-caller w) in
    ap (λ o. map reply_in (events_by c (logged_first k r o rest))) e.back
    ∙ with_test (caller_of e.event == c) x (events_by c rest) left (own_are_by c (suc k) t ws all.1)
    ∙ ap (λ n. cond (n == c) (r ∷ left) left) same

-- ---- replies to words, by those of each caller

first_is : (n : ℕ) (r : Reply) (rs : List Reply) (q : Reply) (qs : List Reply) → r ∷ rs ≡ take n (q ∷ qs) → (r ≡ q) × AreFirstOf rs qs
first_is zero r rs q qs e = absurd (let f : r ∷ rs ≡ [] = e in cc)
first_is (suc n) r rs q qs e = let f : r ∷ rs ≡ q ∷ take n qs = e in (cc, (n, cc))

behind_first : (b : Bool) (r : Reply) (rs : List Reply) (q : Reply) (qs : List Reply) → AreFirstOf (cond b (r ∷ rs) rs) (cond b (q ∷ qs) qs) → AreFirstOf rs qs
behind_first true r rs q qs h = (first_is h.0 r rs q qs h.1).1
behind_first false r rs q qs h = h

small : (w : ℕ) → caller_of_word w < 32
unfolding caller_of_word
small w = omega arith

same_replies : (ws : List ℕ) (rs qs : List Reply) → length rs ≡ length ws → length qs ≡ length ws → ((c : ℕ) → c < 32 → AreFirstOf (replies_by c ws rs) (replies_by c ws qs)) → rs ≡ qs
same_replies [] [] [] m n each = refl
same_replies [] (r ∷ rs) qs m n each = absurd (let e : suc (length rs) ≡ zero = m in cc)
same_replies [] [] (q ∷ qs) m n each = absurd (let e : suc (length qs) ≡ zero = n in cc)
same_replies (w ∷ ws) [] qs m n each = absurd (let e : zero ≡ suc (length ws) = m in cc)
same_replies (w ∷ ws) (r ∷ rs) [] m n each = absurd (let e : zero ≡ suc (length ws) = n in cc)
same_replies (w ∷ ws) (r ∷ rs) (q ∷ qs) m n each =
    let c : ℕ = caller_of_word w in
    let here : AreFirstOf (r ∷ replies_by c ws rs) (q ∷ replies_by c ws qs) =
    subst (λ b. AreFirstOf (cond b (r ∷ replies_by c ws rs) (replies_by c ws rs)) (cond b (q ∷ replies_by c ws qs) (replies_by c ws qs))) (eq-eqb c c refl) (each c (small w)) in
    let first : r ≡ q = (first_is here.0 r (replies_by c ws rs) q (replies_by c ws qs) here.1).0 in
    let rest : rs ≡ qs =
    same_replies ws rs qs (let e : suc (length rs) ≡ suc (length ws) = m in omega (arith, e)) (let e : suc (length qs) ≡ suc (length ws) = n in omega (arith, e))
    (λ d lt. behind_first (caller_of_word w == d) r (replies_by d ws rs) q (replies_by d ws qs) (each d lt)) in
    ap (λ x. x ∷ rs) first ∙ ap (λ l. q ∷ l) rest

-- ---- the replies of one caller that has all words

few_by : (c : ℕ) (ws : List ℕ) (rs : List Reply) → length (replies_by c ws rs) ≤ length ws
few_by c [] rs = omega arith
few_by c (w ∷ ws) [] = omega arith
few_by c (w ∷ ws) (r ∷ rs) = at (caller_of_word w == c) (few_by c ws rs)
  where
    at : (b : Bool) → length (replies_by c ws rs) ≤ length ws → length (cond b (r ∷ replies_by c ws rs) (replies_by c ws rs)) ≤ suc (length ws)
    at true few = omega (arith, few)
    at false few = omega (arith, few)

whole_by : (c : ℕ) (ws : List ℕ) (rs : List Reply) → length rs ≡ length ws → length ws ≤ length (replies_by c ws rs) → replies_by c ws rs ≡ rs
whole_by c [] [] m l = refl
whole_by c [] (r ∷ rs) m l = absurd (let e : suc (length rs) ≡ zero = m in cc)
whole_by c (w ∷ ws) [] m l = refl
whole_by c (w ∷ ws) (r ∷ rs) m l = at (caller_of_word w == c) (whole_by c ws rs (let e : suc (length rs) ≡ suc (length ws) = m in omega (arith, e))) l
  where
    at : (b : Bool) → (length ws ≤ length (replies_by c ws rs) → replies_by c ws rs ≡ rs) → suc (length ws) ≤ length (cond b (r ∷ replies_by c ws rs) (replies_by c ws rs))
        → cond b (r ∷ replies_by c ws rs) (replies_by c ws rs) ≡ r ∷ rs
    at true again more = ap (λ xs. r ∷ xs) (again (omega (arith, more)))
    at false again more = absurd (omega (arith, more, few_by c ws rs))

short_first : (n : ℕ) (ys : List Reply) → length (take n ys) ≤ length ys
short_first zero ys = omega arith
short_first (suc n) [] = omega arith
short_first (suc n) (y ∷ ys) = omega (arith, short_first n ys)

whole_first : (n : ℕ) (ys : List Reply) → length ys ≤ length (take n ys) → take n ys ≡ ys
whole_first zero [] l = refl
whole_first zero (y ∷ ys) l = absurd (omega (arith, l))
whole_first (suc n) [] l = refl
whole_first (suc n) (y ∷ ys) l = ap (λ xs. y ∷ xs) (whole_first n ys (omega (arith, l)))

first_of_all : {xs ys : List Reply} → xs ≡ ys → AreFirstOf xs ys
first_of_all {xs} {ys} e = (length ys, e ∙ sym (take_all (length ys) ys (omega arith)))

-- As many as the words are all of them.
all_of_first : (c : ℕ) (ws : List ℕ) (xs rs : List Reply) → length xs ≡ length ws → length rs ≡ length ws → AreFirstOf xs (replies_by c ws rs) → xs ≡ rs
all_of_first c ws xs rs m k f =
    let e = ap length f.1 in
    let s = short_first f.0 (replies_by c ws rs) in
    let few = few_by c ws rs in
    f.1 ∙ whole_first f.0 (replies_by c ws rs) (omega (arith, e, m, few)) ∙ whole_by c ws rs k (omega (arith, e, m, s))

-- ---- what all callers kept

abbrev no_replies : List Reply
no_replies = []

none_first : (n : ℕ) → take n no_replies ≡ no_replies
none_first zero = refl
none_first (suc n) = refl

-- the first of a caller's list are the first of its own replies
first_of_own : (own : ℕ → List Reply) (c : ℕ) (callers : List PortView) (kept : List (Option (Vec Reply))) → AreKept callers kept
    → ((k : ℕ) (d : PortView) → k < length callers → own_replies (slice_index_or callers k d) ≡ own k) → (xs : List Reply) → AreFirstOf xs (list_of kept c) → AreFirstOf xs (own c)
first_of_own own c [] [] are each xs f = (0, f.1 ∙ none_first f.0)
first_of_own own c [] (o ∷ os) are each xs f = absurd are
first_of_own own c (p ∷ ps) [] are each xs f = absurd are
first_of_own own zero (p ∷ ps) (None ∷ os) are each xs f = (0, f.1 ∙ none_first f.0)
first_of_own own zero (p ∷ ps) (Some list ∷ os) are each xs f = (f.0, f.1 ∙ ap (take f.0) (are.0 ∙ each 0 p (omega arith)))
first_of_own own (suc c) (p ∷ ps) (o ∷ os) are each xs f = first_of_own (λ k. own (suc k)) c ps os are.1 (λ k d lt. each (suc k) d (omega (arith, lt))) xs f

-- ---- callers of a history

-- caller k of a history, on units that were in this state at first
pub record IsHeld (s : FabricState) (history : List ℕ) (k : ℕ) (caller : PortView) : Type 0 where
  pub number : caller.number ≡ k
  pub first : caller.first ≡ s
  pub holds : HoldsCaller history caller

own_in : (s : FabricState) (history : List ℕ) (k : ℕ) (c : PortView) → AllEventWords history → IsHeld s history k c → own_replies c ≡ replies_by k history (replies_from 0 s history)
own_in s history k c events held =
    sym (ap (map reply_in) (own_events-in-history state_after_word reply_to_word history c held.holds))
    ∙ ap (λ n. map reply_in (events_by n (logged state_after_word reply_to_word c.first history))) held.number
    ∙ ap (λ u. map reply_in (events_by k (logged state_after_word reply_to_word u history))) held.first
    ∙ own_are_by k 0 s history events

one_of : (P : PortView → Type 0) (c : PortView) (callers : List PortView) → ((k : ℕ) (d : PortView) → k < length callers → P (slice_index_or callers k d)) → IsOneOf c callers → P c
one_of P c [] each one = absurd one
one_of P c (d ∷ ds) each (inl same) = subst P (sym same) (each 0 d (omega arith))
one_of P c (d ∷ ds) each (inr one) = one_of P c ds (λ k e lt. each (suc k) e (omega (arith, lt))) one

no_more : (xs ys : List ℕ) → length (xs ++ ys) ≡ length xs → xs ++ ys ≡ xs
no_more xs [] e = append-nil xs
no_more xs (y ∷ ys) e = absurd (omega (arith, e, length-append xs (y ∷ ys)))

-- a caller that has seen all events has the history as its log
whole_log : (history : List ℕ) (c : PortView) → HoldsCaller history c → length c.log ≡ length history → history ≡ c.log
whole_log history c holds all =
    let b = holds.log in
    b.begins ∙ no_more c.log b.rest (sym (ap length b.begins) ∙ sym all)

-- the errors that were seen, where all events were
errors_of : (s : FabricState) (history : List ℕ) (callers : List PortView) (seen : Seen) → ((k : ℕ) (d : PortView) → k < length callers → IsHeld s history k (slice_index_or callers k d))
    → IsSeenBy callers seen → seen.events ≡ length history → seen.errors.items ≡ unit_lines 0 (run state_after_word s history).units
errors_of s history callers seen held is all =
    let c = is.caller in
    let one = one_of (λ (d : PortView). (d.first ≡ s) × HoldsCaller history d) c callers (λ k d lt. ((held k d lt).first, (held k d lt).holds)) is.one in
    let log = whole_log history c one.1 (sym is.count ∙ all) in
    is.errors ∙ ap (λ u. unit_lines 0 (run state_after_word u c.log).units) one.0 ∙ ap (λ ws. unit_lines 0 (run state_after_word s ws).units) (sym log)

pub told_by : (shapes : List Shape) (history : List ℕ) (callers : List PortView) (kept : List (Option (Vec Reply))) (seen : Seen) → AllEventWords history
    → ((k : ℕ) (d : PortView) → k < length callers → IsHeld (fabric_at_reset shapes) history k (slice_index_or callers k d))
    → AreKept callers kept → IsSeenBy callers seen → IsToldBy shapes history kept seen
told_by shapes history callers kept seen events held are saw replies given all =
    let same = are_told given in
    record {
      count = ap length same ∙ as_many_replies 0 s history;
      events = ap (logged_with 0 history) same ∙ logged_replies 0 s history;
      units = errors_of s history callers seen held saw all;
    }
  where
    s : FabricState
    s = fabric_at_reset shapes

    told : List Reply
    told = replies_from 0 s history

    own_first : (c : ℕ) (xs : List Reply) → AreFirstOf xs (list_of kept c) → AreFirstOf xs (replies_by c history told)
    own_first c = first_of_own (λ k. replies_by k history told) c callers kept are (λ k d h. own_in s history k _ events (held k d h))

    are_told : AreRepliesTo kept history replies.items → replies.items ≡ told
    are_told (inl one) = all_of_first 0 history replies.items told one.count (as_many_replies 0 s history) (own_first 0 replies.items (first_of_all one.first))
    are_told (inr merged) = same_replies history replies.items told merged.count (as_many_replies 0 s history) (λ c lt. own_first c (replies_by c history replies.items) (merged.each c lt))

-- ---- one word more

next_test : (b : Bool) (x : Reply) (xs ys : List Reply) → cond b (x ∷ (xs ++ ys)) (xs ++ ys) ≡ cond b (x ∷ xs) xs ++ ys
next_test true x xs ys = refl
next_test false x xs ys = refl

replies_more : (c : ℕ) (ws : List ℕ) (rs : List Reply) (w : ℕ) (r : Reply) → length rs ≡ length ws → replies_by c (ws ++ w ∷ []) (rs ++ r ∷ []) ≡ replies_by c ws rs ++ cond (caller_of_word w == c) (r ∷ []) []
replies_more c [] [] w r e = refl
replies_more c [] (x ∷ rs) w r e = absurd (let f : suc (length rs) ≡ zero = e in cc)
replies_more c (v ∷ ws) [] w r e = absurd (let f : zero ≡ suc (length ws) = e in cc)
replies_more c (v ∷ ws) (x ∷ rs) w r e =
    ap (λ l. cond (caller_of_word v == c) (x ∷ l) l) (replies_more c ws rs w r (let f : suc (length rs) ≡ suc (length ws) = e in omega (arith, f)))
    ∙ next_test (caller_of_word v == c) x (replies_by c ws rs) (cond (caller_of_word w == c) (r ∷ []) [])

next_reply : (list : List Reply) (n : ℕ) (r : Reply) → slice_get list n ≡ Some r → take n list ++ r ∷ [] ≡ take (suc n) list
next_reply [] n r e = absurd (let f : None ≡ Some r = e in cc)
next_reply (x ∷ xs) zero r e = let f : Some x ≡ Some r = e in cc
next_reply (x ∷ xs) (suc n) r e = ap (λ l. x ∷ l) (next_reply xs n r e)

-- caller c after a word of the caller by, whose next reply was taken
one_word_more : (c by n i : ℕ) (words : List ℕ) (replies list : List Reply) (r : Reply) → i < length words → length replies ≡ i → caller_of_word (get_or words i 0) ≡ by
    → replies_by c (take i words) replies ≡ take n list → (by ≡ c → slice_get list n ≡ Some r)
    → replies_by c (take (i + 1) words) (replies ++ r ∷ []) ≡ take (cond (by == c) (n + 1) n) list
one_word_more c by n i words replies list r lt count is so next =
    ap (λ ws. replies_by c ws (replies ++ r ∷ [])) (take_more words i 0 lt)
    ∙ replies_more c (take i words) replies (get_or words i 0) r (count ∙ sym (length-take-le i words (omega (arith, lt))))
    ∙ ap (λ b. replies_by c (take i words) replies ++ cond (b == c) (r ∷ []) []) is
    ∙ ap (λ l. l ++ cond (by == c) (r ∷ []) []) so
    ∙ at (by == c) refl
  where
    at : (b : Bool) → (by == c) ≡ b → take n list ++ cond b (r ∷ []) [] ≡ take (cond b (n + 1) n) list
    at true e = next_reply list n r (next (eqb-true by c e)) ∙ ap (λ k. take k list) (sym (add-one n))
    at false e = append-nil (take n list)

-- how many replies each caller gave, after one more of the caller by
counted : (next : List ℕ) (by c : ℕ) → by < length next → get_or (set next by (get_or next by 0 + 1)) c 0 ≡ cond (by == c) (get_or next c 0 + 1) (get_or next c 0)
counted next by c lt = at (by == c) refl
  where
    at : (b : Bool) → (by == c) ≡ b → get_or (set next by (get_or next by 0 + 1)) c 0 ≡ cond b (get_or next c 0 + 1) (get_or next c 0)
    at true e =
        let same : by ≡ c = eqb-true by c e in
        ap (λ k. get_or (set next by (get_or next by 0 + 1)) k 0) (sym same) ∙ get_or-set_same next by (get_or next by 0 + 1) 0 lt ∙ ap (λ k. get_or next k 0 + 1) same
    at false e = get_or-set_other next by c (get_or next by 0 + 1) 0 (λ same. let f : true ≡ false = sym (eq-eqb by c (sym same)) ∙ e in cc)

pub counts_within : (next : List ℕ) (by c i : ℕ) → by < length next → get_or next c 0 ≤ i → get_or (set next by (get_or next by 0 + 1)) c 0 ≤ i + 1
counts_within next by c i lt most = subst (λ n. n ≤ i + 1) (sym (counted next by c lt)) (at (by == c))
  where
    at : (b : Bool) → cond b (get_or next c 0 + 1) (get_or next c 0) ≤ i + 1
    at true = omega (arith, most)
    at false = omega (arith, most)

pub merged_more : (kept : List (Option (Vec Reply))) (words next : List ℕ) (replies after : List Reply) (by i c : ℕ) (r : Reply) → i < length words → by < length next → length replies ≡ i
    → by ≡ caller_of_word (get_or words i 0) → slice_get (list_of kept by) (get_or next by 0) ≡ Some r → after ≡ replies ++ r ∷ []
    → replies_by c (take i words) replies ≡ take (get_or next c 0) (list_of kept c)
    → replies_by c (take (i + 1) words) after ≡ take (get_or (set next by (get_or next by 0 + 1)) c 0) (list_of kept c)
merged_more kept words next replies after by i c r lt few count is there pushed so =
    ap (replies_by c (take (i + 1) words)) pushed
    ∙ one_word_more c by (get_or next c 0) i words replies (list_of kept c) r lt count (sym is) so (λ same. subst (λ k. slice_get (list_of kept k) (get_or next k 0) ≡ Some r) same there)
    ∙ ap (λ n. take n (list_of kept c)) (sym (counted next by c few))

-- an item of a list is one of it
pub item_is_one : (callers : List PortView) (i : ℕ) (c : PortView) → i < length callers → c ≡ get_or callers i c → IsOneOf c callers
item_is_one [] i c lt is = absurd (omega (arith, lt))
item_is_one (d ∷ ds) zero c lt is = inl is
item_is_one (d ∷ ds) (suc i) c lt is = inr (item_is_one ds i c (omega (arith, lt)) is)

-- ---- from the opening to the end

pub kept_more : (callers : List PortView) (kept : List (Option (Vec Reply))) (c : PortView) (own : Option (Vec Reply)) → AreKept callers kept → IsKept c own → AreKept (callers ++ c ∷ []) (kept ++ own ∷ [])
kept_more [] [] c own are is = (is, tt)
kept_more [] (o ∷ os) c own are is = absurd are
kept_more (p ∷ ps) [] c own are is = absurd are
kept_more (p ∷ ps) (o ∷ os) c own are is = (are.0, kept_more ps os c own are.1 is)

held_all : (s : FabricState) (history : List ℕ) (first : PortView) (rest : List PortView) → IsHeld s history 0 first → ((k : ℕ) (d : PortView) → k < length rest → IsHeld s history (k + 1) (slice_index_or rest k d))
    → (k : ℕ) (d : PortView) → k < length (first ∷ rest) → IsHeld s history k (slice_index_or (first ∷ rest) k d)
held_all s history first rest one more zero d lt = one
held_all s history first rest one more (suc k) d lt = subst (λ n. IsHeld s history n (slice_index_or rest k d)) (add-one k) (more k d (omega (arith, lt)))

pub finished_told : (shapes : List Shape) (boot : SectionOf) (sections : List SectionOf) (history : List ℕ) (shared : SharedView) (p q : PortView) (n : ℕ) (lanes : List LaneView) (rest : List PortView) (own : Option (Vec Reply)) (kept : List (Option (Vec Reply))) (seen : Seen)
    → q ≡ record p { made = n } → HasPlayed (fabric_at_reset shapes) 0 boot p
    → AreReadyLanes shared (fabric_at_reset shapes) sections lanes → length rest ≡ length lanes
    → ((k : ℕ) (l : LaneView) (c : PortView) → k < length lanes → RunsTo (slice_index_or lanes k l) (slice_index_or rest k c))
    → AllEventWords history → HoldsCaller history q → ((k : ℕ) (d : PortView) → k < length rest → HoldsCaller history (slice_index_or rest k d))
    → IsKept p own → AreKept rest kept → IsSeenBy (q ∷ rest) seen → IsToldBy shapes history (own ∷ kept) seen
finished_told shapes boot sections history shared p q n lanes rest own kept seen e played r count runs events holds hold is are saw =
    let s : FabricState = fabric_at_reset shapes in
    let none : SectionOf = record { commands = []; slots = 0 } in
    let first : IsHeld s history 0 q = record {
      number = ap (λ (v : PortView). v.number) e ∙ played.number_is;
      first = ap (λ (v : PortView). v.first) e ∙ played.first_is;
      holds = holds;
    } in
    let others : (k : ℕ) (d : PortView) → k < length rest → IsHeld s history (k + 1) (slice_index_or rest k d) = λ k d lt.
    let ran = (all_ran shared s sections lanes rest r runs k none d (omega (arith, lt, count))).0 in
    record { number = ran.number_is; first = ran.first_is; holds = hold k d lt } in
    told_by shapes history (q ∷ rest) (own ∷ kept) seen events (held_all s history q rest first others) (subst (λ (c : PortView). IsKept c own) (sym e) is, are) saw
