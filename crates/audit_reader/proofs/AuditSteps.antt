-- A line that lists the awaited event, and one that lists none that may come.
use Rattle.std.proofs.Common.{◌≡◌, ℕ, zero, suc, ◌<◌, ◌≤◌, ◌++◌, List, [], ◌∷◌, Option, Some, None, length, get_or, set, refl, sym, ap, subst, ◌∙◌, arith, append_assoc, inl, inr, zero-add}
use Rattle.std.specs.Prelude.{IsSome, Any}
use Rattle.std.specs.List.{concat}
use Rattle.event_words.specs.declared.event.Event.{Event}
use Rattle.event_words.specs.declared.record.LoggedEvent.{LoggedEvent}
use Rattle.event_words.specs.declared.reply.Reply.{Reply}
use Rattle.event_words.specs.Events.{caller_of}
use Rattle.event_words.specs.Valid.{IsValidEvent}
use Rattle.event_words.specs.Word.{word_of}
use Rattle.event_words.specs.Runs.{caller_of_word, IsEventWord}
use Rattle.event_words.specs.Records.{section_end}
use Rattle.event_words.proofs.Runs.{caller_of_word-word_of, word_of-is_word}
use Rattle.event_words.proofs.SameEvents.{same_event_is, same_event_self}
use Rattle.section_cursor.specs.Cursors.{CursorOf, rest_end, HasAllTries, Allows}
use Rattle.section_cursor.specs.ValidEvents.{HasValidEvents}
use Rattle.unit_core.specs.Units.{FabricState}
use Rattle.unit_core.specs.Fabrics.{state_after_word, reply_to_word}
use Rattle.unit_core.specs.Histories.{logged_in, HasRecord, IsBoot, IsOfLane}
use Rattle.event_words.specs.ReportLines.{event_line}
use Rattle.event_words.proofs.ListItems.{all_push}
use Rattle.script_reader.specs.Scripts.{ScriptOf}
use Rattle.script_reader.specs.ReportTexts.{fed_lines}
use Rattle.audit_reader.specs.Beginnings.{IsLegalSoFar, BeginRecords, IsOfSomeLane}
use Rattle.audit_reader.specs.Following.{Follow, AreInOrder, IsSeen, IsNext, ListsNone, entry_after, state_after, IsAt, MayCome, IsAwaited, NoneIsAwaited}
use Rattle.audit_reader.proofs.NextEvents.{get_or_same}
use Rattle.audit_reader.proofs.WholeLines.{begins_with}
use Rattle.audit_reader.proofs.OneMore.{logged_on, logged_more, state_more, later, IsAfter, noted, allowed, as_many, follows_at, boot_over, lanes_from, boot_same, is_of_some, boot_first}

-- ---- the order, one event more

more_of_boot : (script : ScriptOf) (words : List ℕ) (cs : List CursorOf) (d : CursorOf) (w : ℕ) → AreInOrder script words → Follow (logged_in script.shapes words) 0 cs (script.boot ∷ script.lanes)
    → caller_of_word w ≡ 0 → (IsSome (rest_end (get_or cs 0 d) []) → ⊥) → AreInOrder script (words ++ w ∷ [])
more_of_boot script words cs d w (inl boot) f h over = inl (all_push IsBoot words w boot h)
more_of_boot script words cs d w (inr lanes) f h over = absurd (over (subst IsSome (sym (boot_over cs script words d f)) lanes.whole))

more_of_lanes : (script : ScriptOf) (words : List ℕ) (w : ℕ) → AreInOrder script words → IsOfLane (length script.lanes) w
    → HasRecord (logged_in script.shapes words) 0 script.boot → AreInOrder script (words ++ w ∷ [])
more_of_lanes script words w o h whole =
    let b = boot_first script words o in
    inr (record {
      order = record {
        boot = b.boot;
        others = b.others ++ w ∷ [];
        is = ap (λ ws. ws ++ w ∷ []) b.is ∙ append_assoc b.boot b.others (w ∷ []);
        of_boot = b.of_boot;
        of_lanes = all_push (IsOfLane (length script.lanes)) b.others w b.of_lanes h;
      };
      whole = subst (λ xs. IsSome (section_end 0 script.boot xs)) (sym (boot_same script (length script.lanes) words (w ∷ []) (h, tt))) whole;
    })

at_first : (cs : List CursorOf) (n : ℕ) (d : CursorOf) → n < length cs → IsAt cs 0 (get_or cs 0 d)
at_first [] n d h = absurd (omega (arith, h))
at_first (c ∷ cs) n d h = (omega arith, refl)

-- the awaited event is valid
pub awaited_valid : (script : ScriptOf) (words : List ℕ) (state : FabricState) (cs : List CursorOf) (caller : ℕ) (event : Event) → IsSeen script words state cs → IsAwaited cs caller event → IsValidEvent event
awaited_valid script words state cs caller event s a =
    let c = a.cursor in
    let own = follows_at cs (script.boot ∷ script.lanes) 0 caller c (logged_in script.shapes words) a.at.0 s.follow in
    (a.valid (subst HasValidEvents (sym a.at.1) own.2)).0

-- ---- the awaited event comes

pub good_step : (script : ScriptOf) (words : List ℕ) (state after : FabricState) (cs : List CursorOf) (caller place : ℕ) (event : Event) (reply : Reply) (left rest : List ℕ) (new d : CursorOf)
    → IsSeen script words state cs → length words ≡ place → (a : IsAwaited cs caller event)
    → after ≡ state_after_word state place (word_of event) → reply ≡ reply_to_word state place (word_of event)
    → fed_lines left ≡ event_line (record { place = place; event = event; reply = reply }) ∷ fed_lines rest
    → IsAfter (get_or cs caller d) new (record { place = place; event = event; reply = reply })
    → IsNext script words left rest after (set cs caller new)
good_step script words state after cs caller place event reply left rest new d s k a p q l n =
    let c = a.cursor in
    let cursor_is : c ≡ get_or cs caller d = a.at.1 ∙ get_or_same cs caller c d a.at.0 in
    let own = follows_at cs (script.boot ∷ script.lanes) 0 caller d (logged_in script.shapes words) a.at.0 s.follow in
    let tries = subst HasAllTries (sym cursor_is) own.1 in
    let valids = subst HasValidEvents (sym cursor_is) own.2 in
    let v = a.valid valids in
    let x : LoggedEvent = record { place = place; event = event; reply = reply } in
    let it : x ≡ entry_after script.shapes words event =
    ap (λ r. record { place = place; event = event; reply = r }) (q ∙ ap (λ us. reply_to_word us place (word_of event)) s.reached)
    ∙ ap (λ m. record { place = m; event = event; reply = reply_to_word (state_after script.shapes words) m (word_of event) }) (sym k) in
    let number : caller_of event ≡ caller = v.1 ∙ ap (λ (b : CursorOf). b.caller) cursor_is ∙ own.0 ∙ zero-add caller in
    let allows = subst (λ (b : CursorOf). Allows b x) cursor_is (a.some tries x (same_event_self event)) in
    let follow = noted cs (script.boot ∷ script.lanes) 0 caller d new (logged_in script.shapes words) x (number ∙ sym (zero-add caller)) a.at.0 n allows s.follow in
    let borne : caller_of_word (word_of event) ≡ caller = caller_of_word-word_of event v.0 ∙ number in
    let lanes : length cs ≡ suc (length script.lanes) = as_many cs (script.boot ∷ script.lanes) 0 (logged_in script.shapes words) s.follow in
    record {
      event = event;
      valid = v.0;
      listed = l ∙ ap (λ y. event_line y ∷ fed_lines rest) it;
      seen = record {
        events = all_push IsEventWord words (word_of event) s.events (word_of-is_word event v.0);
        reached = p ∙ ap (λ us. state_after_word us place (word_of event)) s.reached ∙ ap (λ m. state_after_word (state_after script.shapes words) m (word_of event)) (sym k) ∙ sym (state_more script.shapes words (word_of event));
        order = in_order caller refl borne lanes;
        follow = subst (λ xs. Follow xs 0 (set cs caller new) (script.boot ∷ script.lanes))
            (ap (λ y. logged_in script.shapes words ++ y ∷ []) it ∙ sym (logged_more script.shapes words event v.0)) follow;
      };
    }
  where
    in_order : (m : ℕ) → caller ≡ m → caller_of_word (word_of event) ≡ caller → length cs ≡ suc (length script.lanes) → AreInOrder script (words ++ word_of event ∷ [])
    in_order zero z b e =
        let c = a.cursor in
        let is : c ≡ get_or cs 0 d = a.at.1 ∙ get_or_same cs caller c d a.at.0 ∙ ap (λ m. get_or cs m d) z in
        more_of_boot script words cs d (word_of event) s.order s.follow (b ∙ z) (λ h. a.over (subst (λ (y : CursorOf). IsSome (rest_end y [])) (sym is) h))
    in_order (suc m) z b e =
        let over = a.turn (omega (arith, z)) (get_or cs 0 d) (at_first cs caller d a.at.0) in
        let l = a.at.0 in
        more_of_lanes script words (word_of event) s.order (omega (arith, b, z), omega (arith, b, e, l)) (subst IsSome (boot_over cs script words d s.follow) over)

-- ---- an event that may come is awaited

-- It is of a caller of the script, it is its turn, and its cursor allows it.
pub record MayBe (script : ScriptOf) (cs : List CursorOf) (x : LoggedEvent) : Type 0 where
  pub there : caller_of x.event < length cs
  pub turn : MayCome cs (caller_of x.event)
  pub allows : (d : CursorOf) → Allows (get_or cs (caller_of x.event) d) x

pub may_be : (script : ScriptOf) (words : List ℕ) (state : FabricState) (cs : List CursorOf) (e : Event) (more : List ℕ) → IsSeen script words state cs → IsValidEvent e
    → IsLegalSoFar script (words ++ word_of e ∷ more) → MayBe script cs (entry_after script.shapes words e)
may_be script words state cs e more s v legal =
    let sections = script.boot ∷ script.lanes in
    let logged = logged_in script.shapes words in
    let x = entry_after script.shapes words e in
    let o = legal.order in
    let borne : caller_of_word (word_of e) ≡ caller_of e = caller_of_word-word_of e v in
    let few = is_of_some (length script.lanes) o.boot o.others words (word_of e) more o.is o.of_boot o.of_lanes in
    let many : length cs ≡ suc (length script.lanes) = as_many cs sections 0 logged s.follow in
    let there : caller_of e < length cs = omega (arith, borne, few, many) in
    let records = subst (λ xs. BeginRecords xs 0 sections) (logged_on script.shapes words e more v) (legal.boot_record, legal.lane_records) in
    record {
      there = there;
      turn = λ l b at.
          let lanes = lanes_from (length script.lanes) o.boot o.others words (word_of e) more o.is o.of_boot o.of_lanes (omega (arith, l, borne)) in
          let whole = legal.boot_whole (any_after words (word_of e) more (omega (arith, l, borne))) in
          let here = subst (λ xs. IsSome (section_end 0 script.boot xs)) (boot_same script (length script.lanes) words (word_of e ∷ more) lanes) whole in
          subst (λ (y : CursorOf). IsSome (rest_end y [])) (sym at.1) (subst IsSome (sym (boot_over cs script words b s.follow)) here);
      allows = λ d. allowed cs sections 0 (caller_of e) d logged x (later script.shapes words e more) (sym (zero-add (caller_of e))) there s.follow records;
    }
  where
    any_after : (ws : List ℕ) (w : ℕ) (vs : List ℕ) → IsOfSomeLane w → Any IsOfSomeLane (ws ++ w ∷ vs)
    any_after [] w vs h = (zero, w, omega arith, refl, h)
    any_after (u ∷ ws) w vs h = let r = any_after ws w vs h in (suc r.0, r.1, (let l = r.2 in omega (arith, l)), r.3, r.4)

-- ---- lines that list none that may come

-- whose event the first line lists
abbrev pub Finds : Option ℕ → List ℕ → ℕ → Type 0
Finds caller left place = (x : LoggedEvent) (rest : List ℕ) → x.place ≡ place → caller_of x.event < 17 → left ≡ event_line x ++ rest → caller ≡ Some (caller_of x.event)

few_cursors : (cs : List CursorOf) (e : Event) → caller_of e < length cs → length cs ≤ 17 → caller_of e < 17
few_cursors cs e l k = omega (arith, l, k)

some_is : (m n : ℕ) → Some m ≡ Some n → m ≡ n
some_is m n e = cc

none_some : (n : ℕ) → None ≡ Some n → ⊥
none_some n e = cc

-- no caller
pub no_caller : (script : ScriptOf) (words left : List ℕ) (state : FabricState) (cs : List CursorOf) (place : ℕ) → length cs ≤ 17 → IsSeen script words state cs → length words ≡ place
    → Finds None left place → ListsNone script words left
no_caller script words left state cs place few s k found e more rest v l legal =
    let m = may_be script words state cs e more s v legal in
    none_some (caller_of e) (found (entry_after script.shapes words e) (concat rest) k (few_cursors cs e m.there few) (begins_with left (event_line (entry_after script.shapes words e)) rest l))

caller_is : (script : ScriptOf) (words left : List ℕ) (state : FabricState) (cs : List CursorOf) (place caller : ℕ) → length cs ≤ 17 → IsSeen script words state cs → length words ≡ place
    → Finds (Some caller) left place → (e : Event) (rest : List (List ℕ)) → fed_lines left ≡ event_line (entry_after script.shapes words e) ∷ rest → MayBe script cs (entry_after script.shapes words e) → caller ≡ caller_of e
caller_is script words left state cs place caller few s k found e rest l m = some_is caller (caller_of e) (found (entry_after script.shapes words e) (concat rest) k (few_cursors cs e m.there few) (begins_with left (event_line (entry_after script.shapes words e)) rest l))

-- nothing is awaited of the caller
pub none_awaited : (script : ScriptOf) (words left : List ℕ) (state : FabricState) (cs : List CursorOf) (place caller : ℕ) → length cs ≤ 17 → IsSeen script words state cs → length words ≡ place
    → Finds (Some caller) left place → NoneIsAwaited cs caller → ListsNone script words left
none_awaited script words left state cs place caller few s k found none e more rest v l legal =
    let m = may_be script words state cs e more s v legal in
    let is = caller_is script words left state cs place caller few s k found e rest l m in
    let nobody = subst (NoneIsAwaited cs) is none in
    first cs (caller_of e) m.there (λ d at. nobody d (entry_after script.shapes words e) at m.turn (subst (λ (c : CursorOf). Allows c (entry_after script.shapes words e)) (sym at.1) (m.allows d)))
  where
    first : (bs : List CursorOf) (n : ℕ) → n < length bs → ((d : CursorOf) → IsAt bs n d → ⊥) → ⊥
    first [] n h go = absurd (omega (arith, h))
    first (b ∷ bs) zero h go = go b (omega arith, refl)
    first (b ∷ bs) (suc n) h go = first bs n (omega (arith, h)) (λ d at. go d ((let l = at.0 in omega (arith, l)), at.1))

-- another is awaited
pub other_awaited : (script : ScriptOf) (words left : List ℕ) (state : FabricState) (cs : List CursorOf) (place caller : ℕ) (event : Event) (reply : Reply) → length cs ≤ 17 → IsSeen script words state cs
    → length words ≡ place → Finds (Some caller) left place → IsAwaited cs caller event → reply ≡ reply_to_word state place (word_of event)
    → ((others : List (List ℕ)) → fed_lines left ≡ event_line (record { place = place; event = event; reply = reply }) ∷ others → ⊥) → ListsNone script words left
other_awaited script words left state cs place caller event reply few s k found a q other e more rest v l legal =
    let m = may_be script words state cs e more s v legal in
    let is = caller_is script words left state cs place caller few s k found e rest l m in
    let c = a.cursor in
    let cursor_is : c ≡ get_or cs (caller_of e) c = a.at.1 ∙ ap (λ n. get_or cs n c) is in
    let same = a.only (entry_after script.shapes words e) (subst (λ (b : CursorOf). Allows b (entry_after script.shapes words e)) (sym cursor_is) (m.allows c)) in
    let events : event ≡ e = sym (same_event_is event e same) in
    other rest (l ∙ ap (λ y. event_line y ∷ rest) (sym (it events)))
  where
    it : event ≡ e → record { place = place; event = event; reply = reply } ≡ entry_after script.shapes words e
    it h =
        ap (λ r. record { place = place; event = event; reply = r }) (q ∙ ap (λ us. reply_to_word us place (word_of event)) s.reached)
        ∙ ap (λ n. record { place = n; event = event; reply = reply_to_word (state_after script.shapes words) n (word_of event) }) (sym k)
        ∙ ap (entry_after script.shapes words) h
