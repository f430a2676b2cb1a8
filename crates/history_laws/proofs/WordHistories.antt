-- A list of event words as a history: what stands at each place, and what is logged of it.
use Rattle.std.proofs.Common.{◌≡◌, ℕ, suc, zero, ◌+◌, List, [], ◌∷◌, Option, Some, None, length, take, refl, sym, ap, ◌∙◌, subst, arith}
use Rattle.std.specs.Prelude.{slice_get, option_map, option_and_then}
use Rattle.std.specs.List.{AllByRecursion}
use Rattle.event_words.specs.declared.shape.Shape.{Shape}
use Rattle.event_words.specs.declared.event.Event.{Event}
use Rattle.event_words.specs.declared.reply.Reply.{Reply}
use Rattle.event_words.specs.declared.record.LoggedEvent.{LoggedEvent}
use Rattle.event_words.specs.Word.{word_of, event_of_word}
use Rattle.event_words.specs.Valid.{IsValidEvent}
use Rattle.event_words.specs.Runs.{IsEventWord, run, run_from, logged_first, logged_from}
use Rattle.unit_core.specs.Units.{FabricState, fabric_at_reset, event_step, decoded_step}
use Rattle.unit_core.specs.Fabrics.{state_after_word, reply_to_word}
use Rattle.unit_core.specs.Histories.{History, after_event, units_at, aims_after_event, aims_at, event_at, reply_at, with_event, events_of_words, history_of, logged_in}
use Rattle.event_words.proofs.EventWords.{HasEvent, word_event}
use Rattle.event_words.proofs.Runs.{event_of_word-word_of}

-- ---- events

pub length_events : (words : List ℕ) → AllByRecursion IsEventWord words → length (events_of_words words) ≡ length words
length_events [] all = refl
length_events (w ∷ ws) all =
    let e = word_event w all.0 in
    ap (λ o. length (with_event o (events_of_words ws))) e.back ∙ ap suc (length_events ws all.1)

-- The event at a place is that of the word at the place.
pub events_at_words : (words : List ℕ) → AllByRecursion IsEventWord words → (k : ℕ)
    → slice_get (events_of_words words) k ≡ option_and_then event_of_word (slice_get words k)
events_at_words [] all k = refl
events_at_words (w ∷ ws) all zero =
    let e = word_event w all.0 in
    ap (λ o. slice_get (with_event o (events_of_words ws)) zero) e.back ∙ sym e.back
events_at_words (w ∷ ws) all (suc k) =
    let e = word_event w all.0 in
    ap (λ o. slice_get (with_event o (events_of_words ws)) (suc k)) e.back ∙ events_at_words ws all.1 k

pub word_at_place : (words : List ℕ) → AllByRecursion IsEventWord words → (k w : ℕ) → slice_get words k ≡ Some w → HasEvent w
word_at_place [] all k w q = absurd (let n : None ≡ Some w = q in cc)
word_at_place (v ∷ ws) all zero w q = let same : v ≡ w = cc in subst HasEvent same (word_event v all.0)
word_at_place (v ∷ ws) all (suc k) w q = word_at_place ws all.1 k w q

pub event_at_words : (shapes : List Shape) (words : List ℕ) → AllByRecursion IsEventWord words → (k w : ℕ) (e : Event)
    → slice_get words k ≡ Some w → event_of_word w ≡ Some e → event_at (history_of shapes words) k ≡ Some e
event_at_words shapes words all k w e q r = events_at_words words all k ∙ ap (option_and_then event_of_word) q ∙ r

pub event_at_word_of : (shapes : List Shape) (words : List ℕ) → AllByRecursion IsEventWord words → (k : ℕ) (e : Event) → IsValidEvent e
    → slice_get words k ≡ Some (word_of e) → event_at (history_of shapes words) k ≡ Some e
event_at_word_of shapes words all k e valid q = event_at_words shapes words all k (word_of e) e q (event_of_word-word_of e valid)

-- ---- the fabric

-- the fabric before the event at a place
abbrev pub fabric_at : History → ℕ → FabricState
fabric_at h k = record { units = units_at h k; aims = aims_at h k }

abbrev after_word_at : ℕ → FabricState → Option ℕ → FabricState
after_word_at k f None = f
after_word_at k f (Some w) = state_after_word f k w

one_more : (j : ℕ) (f : FabricState) (words : List ℕ) (k : ℕ)
    → run_from state_after_word j f (take (suc k) words)
    ≡ after_word_at (j + k) (run_from state_after_word j f (take k words)) (slice_get words k)
one_more j f [] zero = refl
one_more j f [] (suc k) = refl
one_more j f (w ∷ ws) zero = let q : j ≡ j + 0 = omega arith in ap (λ n. state_after_word f n w) q
one_more j f (w ∷ ws) (suc k) =
    let q : suc j + k ≡ j + suc k = omega arith in
    one_more (suc j) (state_after_word f j w) ws k
    ∙ ap (λ n. after_word_at n (run_from state_after_word (suc j) (state_after_word f j w) (take k ws)) (slice_get ws k)) q

abbrev after_event_at : ℕ → FabricState → Option Event → FabricState
after_event_at k f o = record { units = after_event k f.aims f.units o; aims = aims_after_event f.aims o }

same_fabric : (k : ℕ) (f : FabricState) (o : Option Event) → after_event_at k f o ≡ (decoded_step k f o).0
same_fabric k f None = refl
same_fabric k f (Some e) = refl

same_step : (k : ℕ) (f : FabricState) (o : Option ℕ) → after_event_at k f (option_and_then event_of_word o) ≡ after_word_at k f o
same_step k f None = refl
same_step k f (Some w) = same_fabric k f (event_of_word w)

-- The fabric before a place is that after the words before it.
pub fabric_at_words : (shapes : List Shape) (words : List ℕ) → AllByRecursion IsEventWord words → (k : ℕ)
    → fabric_at (history_of shapes words) k ≡ run state_after_word (fabric_at_reset shapes) (take k words)
fabric_at_words shapes words all zero = refl
fabric_at_words shapes words all (suc k) =
    let f = run state_after_word (fabric_at_reset shapes) (take k words) in
    let z : k ≡ 0 + k = omega arith in
    ap (after_event_at k (fabric_at (history_of shapes words) k)) (events_at_words words all k)
    ∙ ap (λ g. after_event_at k g (option_and_then event_of_word (slice_get words k))) (fabric_at_words shapes words all k)
    ∙ same_step k f (slice_get words k)
    ∙ ap (λ n. after_word_at n f (slice_get words k)) z
    ∙ sym (one_more 0 (fabric_at_reset shapes) words k)

pub units_at_words : (shapes : List Shape) (words : List ℕ) → AllByRecursion IsEventWord words → (k : ℕ)
    → units_at (history_of shapes words) k ≡ (run state_after_word (fabric_at_reset shapes) (take k words)).units
units_at_words shapes words all k = ap (λ (f : FabricState). f.units) (fabric_at_words shapes words all k)

pub aims_at_words : (shapes : List Shape) (words : List ℕ) → AllByRecursion IsEventWord words → (k : ℕ)
    → aims_at (history_of shapes words) k ≡ (run state_after_word (fabric_at_reset shapes) (take k words)).aims
aims_at_words shapes words all k = ap (λ (f : FabricState). f.aims) (fabric_at_words shapes words all k)

-- ---- replies

-- The reply at a place is that to the word at the place.
pub reply_at_words : (shapes : List Shape) (words : List ℕ) → AllByRecursion IsEventWord words → (k w : ℕ) → slice_get words k ≡ Some w
    → reply_at (history_of shapes words) k ≡ Some (reply_to_word (run state_after_word (fabric_at_reset shapes) (take k words)) k w)
reply_at_words shapes words all k w q =
    let e = word_at_place words all k w q in
    let f = run state_after_word (fabric_at_reset shapes) (take k words) in
    ap (option_map (λ (e : Event). (event_step k (aims_at (history_of shapes words) k) (units_at (history_of shapes words) k) e).1)) (event_at_words shapes words all k w e.event q e.back)
    ∙ ap (λ (g : FabricState). Some (event_step k g.aims g.units e.event).1) (fabric_at_words shapes words all k)
    ∙ ap (λ o. Some (decoded_step k f o).1) (sym e.back)

-- ---- what is logged

abbrev pub entry : ℕ → Option Event → Option Reply → Option LoggedEvent
entry k (Some e) (Some r) = Some (record { place = k; event = e; reply = r })
entry k _ _ = None

-- the reply to the word at place k of words whose places begin at j
abbrev reply_in : ℕ → FabricState → List ℕ → ℕ → Option Reply
reply_in j f words k = option_map (reply_to_word (run_from state_after_word j f (take k words)) (j + k)) (slice_get words k)

logged_at : (j : ℕ) (f : FabricState) (words : List ℕ) → AllByRecursion IsEventWord words → (k : ℕ)
    → slice_get (logged_from state_after_word reply_to_word j f words) k
    ≡ entry (j + k) (option_and_then event_of_word (slice_get words k)) (reply_in j f words k)
logged_at j f [] all k = refl
logged_at j f (w ∷ ws) all zero =
    let e = word_event w all.0 in
    let z : j ≡ j + 0 = omega arith in
    subst (λ o. slice_get (logged_first j (reply_to_word f j w) o (logged_from state_after_word reply_to_word (suc j) (state_after_word f j w) ws)) 0 ≡ entry (j + 0) o (Some (reply_to_word f (j + 0) w))) (sym e.back)
    (ap (λ n. Some (record { place = n; event = e.event; reply = reply_to_word f n w })) z)
logged_at j f (w ∷ ws) all (suc k) =
    let e = word_event w all.0 in
    let q : suc j + k ≡ j + suc k = omega arith in
    ap (λ o. slice_get (logged_first j (reply_to_word f j w) o (logged_from state_after_word reply_to_word (suc j) (state_after_word f j w) ws)) (suc k)) e.back
    ∙ logged_at (suc j) (state_after_word f j w) ws all.1 k
    ∙ ap (λ n. entry n (option_and_then event_of_word (slice_get ws k)) (option_map (reply_to_word (run_from state_after_word (suc j) (state_after_word f j w) (take k ws)) n) (slice_get ws k))) q

length_from : (j : ℕ) (f : FabricState) (words : List ℕ) → AllByRecursion IsEventWord words
    → length (logged_from state_after_word reply_to_word j f words) ≡ length words
length_from j f [] all = refl
length_from j f (w ∷ ws) all =
    let e = word_event w all.0 in
    ap (λ o. length (logged_first j (reply_to_word f j w) o (logged_from state_after_word reply_to_word (suc j) (state_after_word f j w) ws))) e.back
    ∙ ap suc (length_from (suc j) (state_after_word f j w) ws all.1)

-- There is an entry for each word.
pub length_logged : (shapes : List Shape) (words : List ℕ) → AllByRecursion IsEventWord words
    → length (logged_in shapes words) ≡ length words
length_logged shapes words all = length_from 0 (fabric_at_reset shapes) words all

-- The entry of a place has the place, its event and its reply, and there are no others.
pub logged_in_at : (shapes : List Shape) (words : List ℕ) → AllByRecursion IsEventWord words → (k : ℕ)
    → slice_get (logged_in shapes words) k ≡ entry k (event_at (history_of shapes words) k) (reply_at (history_of shapes words) k)
logged_in_at shapes words all k =
    let z : 0 + k ≡ k = omega arith in
    let f = fabric_at_reset shapes in
    logged_at 0 f words all k
    ∙ ap (λ n. entry n (option_and_then event_of_word (slice_get words k)) (option_map (reply_to_word (run state_after_word f (take k words)) n) (slice_get words k))) z
    ∙ ap (λ o. entry k o (option_map (reply_to_word (run state_after_word f (take k words)) k) (slice_get words k))) (sym (events_at_words words all k))
    ∙ ap (entry k (event_at (history_of shapes words) k)) (sym (reply_there (slice_get words k) refl))
  where
    reply_there : (o : Option ℕ) → slice_get words k ≡ o
        → reply_at (history_of shapes words) k
        ≡ option_map (reply_to_word (run state_after_word (fabric_at_reset shapes) (take k words)) k) o
    reply_there None q =
        ap (option_map (λ (e : Event). (event_step k (aims_at (history_of shapes words) k) (units_at (history_of shapes words) k) e).1)) (events_at_words words all k ∙ ap (option_and_then event_of_word) q)
    reply_there (Some w) q = reply_at_words shapes words all k w q

-- What an entry at an index says of the history.
pub record IsEntry (shapes : List Shape) (words : List ℕ) (k : ℕ) (x : LoggedEvent) : Type 0 where
  pub place : x.place ≡ k
  pub event : event_at (history_of shapes words) k ≡ Some x.event
  pub reply : reply_at (history_of shapes words) k ≡ Some x.reply

pub is_entry : (shapes : List Shape) (words : List ℕ) → AllByRecursion IsEventWord words → (k : ℕ) (x : LoggedEvent)
    → slice_get (logged_in shapes words) k ≡ Some x → IsEntry shapes words k x
is_entry shapes words all k x q = by_parts (event_at (history_of shapes words) k) (reply_at (history_of shapes words) k) refl refl (sym (logged_in_at shapes words all k) ∙ q)
  where
    by_parts : (o : Option Event) (r : Option Reply) → event_at (history_of shapes words) k ≡ o → reply_at (history_of shapes words) k ≡ r
        → entry k o r ≡ Some x → IsEntry shapes words k x
    by_parts None r p s e = absurd (let n : None ≡ Some x = e in cc)
    by_parts (Some v) None p s e = absurd (let n : None ≡ Some x = e in cc)
    by_parts (Some v) (Some r) p s e =
        let is : record { place = k; event = v; reply = r } ≡ x = some_same _ x e in
        record {
          place = sym (ap (λ (y : LoggedEvent). y.place) is);
          event = p ∙ ap (λ (y : LoggedEvent). Some y.event) is;
          reply = s ∙ ap (λ (y : LoggedEvent). Some y.reply) is;
        }
      where
        some_same : (a b : LoggedEvent) → Some a ≡ Some b → a ≡ b
        some_same a b e = cc

pub has_entry : (shapes : List Shape) (words : List ℕ) → AllByRecursion IsEventWord words → (k : ℕ) (e : Event) (r : Reply)
    → event_at (history_of shapes words) k ≡ Some e → reply_at (history_of shapes words) k ≡ Some r
    → slice_get (logged_in shapes words) k ≡ Some (record { place = k; event = e; reply = r })
has_entry shapes words all k e r p q =
    logged_in_at shapes words all k ∙ ap (λ o. entry k o (reply_at (history_of shapes words) k)) p ∙ ap (entry k (Some e)) q
