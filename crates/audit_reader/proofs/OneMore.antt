-- One event more: the units, what is logged, and each caller's events.
use Rattle.std.proofs.Common.{◌≡◌, ℕ, zero, suc, ◌+◌, ◌<◌, ◌≤◌, true, false, cond, ◌++◌, List, [], ◌∷◌, Option, length, get_or, set, filter, refl, sym, ap, subst, ◌∙◌, arith, ne_eqb, append-nil, append_assoc, zero-add, inl, inr}
use Rattle.std.specs.Prelude.{IsSome, Any, ◌==◌}
use Rattle.std.specs.List.{AllByRecursion}
use Rattle.event_words.specs.declared.event.Event.{Event}
use Rattle.event_words.specs.declared.shape.Shape.{Shape}
use Rattle.event_words.specs.declared.record.LoggedEvent.{LoggedEvent}
use Rattle.event_words.specs.Events.{caller_of}
use Rattle.event_words.specs.Valid.{IsValidEvent}
use Rattle.event_words.specs.Word.{word_of}
use Rattle.event_words.specs.Runs.{caller_of_word, logged_from, logged_first}
use Rattle.event_words.specs.Sections.{SectionOf}
use Rattle.event_words.specs.Records.{section_end, events_by, is_by}
use Rattle.event_words.proofs.Runs.{run-snoc, logged_from-append, events_by-append, event_of_word-word_of, events-of-beginning}
use Rattle.event_words.proofs.OwnEvents.{own, foreign, is_own, is_below, is_above}
use Rattle.event_words.proofs.ListItems.{all_after}
use Rattle.section_cursor.specs.Cursors.{CursorOf, rest_end, HasAllTries, Allows}
use Rattle.section_cursor.specs.ValidEvents.{HasValidEvents}
use Rattle.unit_core.specs.Units.{FabricState, fabric_at_reset}
use Rattle.unit_core.specs.Fabrics.{state_after_word, reply_to_word}
use Rattle.unit_core.specs.Histories.{logged_in, BootComesFirst, HasRecord, IsBoot, IsOfLane}
use Rattle.script_reader.specs.Scripts.{ScriptOf}
use Rattle.audit_reader.specs.Beginnings.{IsLegalSoFar, BeginRecords, IsOfSomeLane}
use Rattle.audit_reader.specs.Following.{Follows, Follow, AreInOrder, IsSeen, entry_after, state_after}
use Rattle.audit_reader.proofs.EqualLines.{first_same, rest_same}

-- ---- what is logged

abbrev pub later : List Shape → List ℕ → Event → List ℕ → List LoggedEvent
later shapes words e more = logged_from state_after_word reply_to_word (suc (length words)) (state_after_word (state_after shapes words) (length words) (word_of e)) more

pub logged_on : (shapes : List Shape) (words : List ℕ) (e : Event) (more : List ℕ) → IsValidEvent e
    → logged_in shapes (words ++ word_of e ∷ more) ≡ logged_in shapes words ++ entry_after shapes words e ∷ later shapes words e more
logged_on shapes words e more v =
    let us = fabric_at_reset shapes in
    logged_from-append state_after_word reply_to_word 0 us words (word_of e ∷ more)
    ∙ ap (λ n. logged_in shapes words ++ logged_from state_after_word reply_to_word n (state_after shapes words) (word_of e ∷ more)) (zero-add (length words))
    ∙ ap (λ o. logged_in shapes words ++ logged_first (length words) (reply_to_word (state_after shapes words) (length words) (word_of e)) o (later shapes words e more)) (event_of_word-word_of e v)

pub logged_more : (shapes : List Shape) (words : List ℕ) (e : Event) → IsValidEvent e → logged_in shapes (words ++ word_of e ∷ []) ≡ logged_in shapes words ++ entry_after shapes words e ∷ []
logged_more shapes words e v = logged_on shapes words e [] v

pub state_more : (shapes : List Shape) (words : List ℕ) (w : ℕ) → state_after shapes (words ++ w ∷ []) ≡ state_after_word (state_after shapes words) (length words) w
state_more shapes words w = run-snoc state_after_word (fabric_at_reset shapes) words w

-- ---- callers

by_others : (i : ℕ) (xs : List LoggedEvent) (x : LoggedEvent) → is_by i x ≡ false → events_by i (xs ++ x ∷ []) ≡ events_by i xs
by_others i xs x h = events_by-append state_after_word reply_to_word i xs (x ∷ []) ∙ ap (λ ys. events_by i xs ++ ys) (foreign i x [] h) ∙ append-nil (events_by i xs)

by_own : (i : ℕ) (xs : List LoggedEvent) (x : LoggedEvent) (left ys : List LoggedEvent) → is_by i x ≡ true → events_by i (xs ++ x ∷ left) ++ ys ≡ events_by i xs ++ (x ∷ (events_by i left ++ ys))
by_own i xs x left ys h =
    ap (λ zs. zs ++ ys) (events_by-append state_after_word reply_to_word i xs (x ∷ left) ∙ ap (λ zs. events_by i xs ++ zs) (own i x left h))
    ∙ append_assoc (events_by i xs) (x ∷ events_by i left) ys

-- ---- cursors

-- the new cursor of the caller of an event
pub record IsAfter (old new : CursorOf) (x : LoggedEvent) : Type 0 where
  pub number : new.caller ≡ old.caller
  pub rest : (xs : List LoggedEvent) → rest_end new xs ≡ rest_end old (x ∷ xs)
  pub tries : HasAllTries old → HasAllTries new
  pub valid : HasValidEvents old → HasValidEvents new

follows_others : (i : ℕ) (s : SectionOf) (xs : List LoggedEvent) (x : LoggedEvent) (c : CursorOf) → is_by i x ≡ false → Follows i s xs c → Follows i s (xs ++ x ∷ []) c
follows_others i s xs x c h f = record {
  number = f.number;
  rest = λ ys. f.rest ys ∙ ap (λ zs. section_end i s (zs ++ ys)) (sym (by_others i xs x h));
  may_end = f.may_end;
  tries = f.tries;
  valid = f.valid;
}

some_same : {A : Type 0} (a b : Option A) → a ≡ b → IsSome a → IsSome b
some_same a b e h = subst IsSome e h

follows_own : (i : ℕ) (s : SectionOf) (xs : List LoggedEvent) (x : LoggedEvent) (c new : CursorOf) → is_by i x ≡ true → IsAfter c new x → Allows c x → Follows i s xs c → Follows i s (xs ++ x ∷ []) new
follows_own i s xs x c new h n a f = record {
  number = n.number ∙ f.number;
  rest = λ ys. n.rest ys ∙ f.rest (x ∷ ys) ∙ ap (section_end i s) (sym (by_own i xs x [] ys h));
  may_end = (a.0, some_same _ _ (sym (n.rest a.0)) a.1);
  tries = n.tries f.tries;
  valid = n.valid f.valid;
}

others_follow : (i : ℕ) (cs : List CursorOf) (ss : List SectionOf) (xs : List LoggedEvent) (x : LoggedEvent) → caller_of x.event < i → Follow xs i cs ss → Follow (xs ++ x ∷ []) i cs ss
others_follow i [] [] xs x h f = tt
others_follow i (c ∷ cs) (s ∷ ss) xs x h f = (follows_others i s xs x c (is_below i x h) f.0, others_follow (i + 1) cs ss xs x (omega (arith, h)) f.1)
others_follow i [] (s ∷ ss) xs x h f = f
others_follow i (c ∷ cs) [] xs x h f = f

-- the event goes to its caller's cursor
pub noted : (cs : List CursorOf) (ss : List SectionOf) (i n : ℕ) (d new : CursorOf) (xs : List LoggedEvent) (x : LoggedEvent) → caller_of x.event ≡ i + n → n < length cs
    → IsAfter (get_or cs n d) new x → Allows (get_or cs n d) x → Follow xs i cs ss → Follow (xs ++ x ∷ []) i (set cs n new) ss
noted [] ss i n d new xs x h l a b f = absurd (omega (arith, l))
noted (c ∷ cs) [] i n d new xs x h l a b f = absurd f
noted (c ∷ cs) (s ∷ ss) i zero d new xs x h l a b f =
    (follows_own i s xs x c new (is_own i x (omega (arith, h))) a b f.0, others_follow (i + 1) cs ss xs x (omega (arith, h)) f.1)
noted (c ∷ cs) (s ∷ ss) i (suc n) d new xs x h l a b f =
    (follows_others i s xs x c (is_above i x (omega (arith, h))) f.0, noted cs ss (i + 1) n d new xs x (omega (arith, h)) (omega (arith, l)) a b f.1)

-- ---- what is allowed

-- An event after which records go on is allowed by its caller's cursor.
pub allowed : (cs : List CursorOf) (ss : List SectionOf) (i n : ℕ) (d : CursorOf) (xs : List LoggedEvent) (x : LoggedEvent) (left : List LoggedEvent) → caller_of x.event ≡ i + n → n < length cs
    → Follow xs i cs ss → BeginRecords (xs ++ x ∷ left) i ss → Allows (get_or cs n d) x
allowed [] ss i n d xs x left h l f b = absurd (omega (arith, l))
allowed (c ∷ cs) [] i n d xs x left h l f b = absurd f
allowed (c ∷ cs) (s ∷ ss) i zero d xs x left h l f b =
    let ys = b.0.0 in (
      events_by i left ++ ys,
      some_same (section_end i s (events_by i (xs ++ x ∷ left) ++ ys)) (rest_end c (x ∷ (events_by i left ++ ys)))
          (ap (section_end i s) (by_own i xs x left ys (is_own i x (omega (arith, h)))) ∙ sym (f.0.rest (x ∷ (events_by i left ++ ys)))) b.0.1,
    )
allowed (c ∷ cs) (s ∷ ss) i (suc n) d xs x left h l f b = allowed cs ss (i + 1) n d xs x left (omega (arith, h)) (omega (arith, l)) f.1 b.1

pub as_many : (cs : List CursorOf) (ss : List SectionOf) (i : ℕ) (xs : List LoggedEvent) → Follow xs i cs ss → length cs ≡ length ss
as_many [] [] i xs f = refl
as_many (c ∷ cs) (s ∷ ss) i xs f = ap suc (as_many cs ss (i + 1) xs f.1)
as_many [] (s ∷ ss) i xs f = absurd f
as_many (c ∷ cs) [] i xs f = absurd f

-- each is that of its number, and keeps its word
pub follows_at : (cs : List CursorOf) (ss : List SectionOf) (i n : ℕ) (d : CursorOf) (xs : List LoggedEvent) → n < length cs → Follow xs i cs ss
    → ((get_or cs n d).caller ≡ i + n) × HasAllTries (get_or cs n d) × HasValidEvents (get_or cs n d)
follows_at [] ss i n d xs l f = absurd (omega (arith, l))
follows_at (c ∷ cs) [] i n d xs l f = absurd f
follows_at (c ∷ cs) (s ∷ ss) i zero d xs l f = (let e = f.0.number in omega (arith, e), f.0.tries, f.0.valid)
follows_at (c ∷ cs) (s ∷ ss) i (suc n) d xs l f = let r = follows_at cs ss (i + 1) n d xs (omega (arith, l)) f.1 in (let e = r.0 in omega (arith, e), r.1, r.2)

pub begin_records : (cs : List CursorOf) (ss : List SectionOf) (i : ℕ) (xs : List LoggedEvent) → Follow xs i cs ss → BeginRecords xs i ss
begin_records cs [] i xs f = tt
begin_records [] (s ∷ ss) i xs f = absurd f
begin_records (c ∷ cs) (s ∷ ss) i xs f =
    ((f.0.may_end.0, some_same _ _ (f.0.rest f.0.may_end.0) f.0.may_end.1), begin_records cs ss (i + 1) xs f.1)

-- the boot section is over where its cursor says so
pub boot_over : (cs : List CursorOf) (script : ScriptOf) (words : List ℕ) (d : CursorOf) → Follow (logged_in script.shapes words) 0 cs (script.boot ∷ script.lanes)
    → rest_end (get_or cs 0 d) [] ≡ section_end 0 script.boot (events_by 0 (logged_in script.shapes words))
boot_over [] script words d f = absurd f
boot_over (c ∷ cs) script words d f = f.0.rest [] ∙ ap (section_end 0 script.boot) (append-nil (events_by 0 (logged_in script.shapes words)))

-- ---- the order

pub no_lane : (words : List ℕ) → AllByRecursion IsBoot words → Any IsOfSomeLane words → ⊥
no_lane [] boot (k, x, l, e, p) = absurd (omega (arith, l))
no_lane (w ∷ ws) boot (zero, x, l, e, p) = let none : caller_of_word x ≡ 0 = ap caller_of_word (sym e) ∙ boot.0 in absurd (omega (arith, none, p))
no_lane (w ∷ ws) boot (suc k, x, l, e, p) = no_lane ws boot.1 (k, x, omega (arith, l), e, p)

-- a lane's word and all after it are lanes'
pub lanes_from : (lanes : ℕ) (boot others ws : List ℕ) (w : ℕ) (more : List ℕ) → ws ++ w ∷ more ≡ boot ++ others → AllByRecursion IsBoot boot → AllByRecursion (IsOfLane lanes) others → 1 ≤ caller_of_word w
    → AllByRecursion (IsOfLane lanes) (w ∷ more)
lanes_from lanes [] others ws w more e b o h = all_after (IsOfLane lanes) ws (w ∷ more) (subst (AllByRecursion (IsOfLane lanes)) (sym e) o)
lanes_from lanes (x ∷ boot) others [] w more e b o h = let z : caller_of_word w ≡ 0 = ap caller_of_word (first_same w x _ _ e) ∙ b.0 in absurd (omega (arith, z, h))
lanes_from lanes (x ∷ boot) others (v ∷ ws) w more e b o h = lanes_from lanes boot others ws w more (rest_same v x _ _ e) b.1 o h

none_of_boot : (lanes : ℕ) (ws : List ℕ) → AllByRecursion (IsOfLane lanes) ws → filter (λ w. caller_of_word w == 0) ws ≡ []
none_of_boot lanes [] h = refl
none_of_boot lanes (w ∷ ws) h =
    let l = h.0.0 in
    ap (λ t. cond t (w ∷ filter (λ v. caller_of_word v == 0) ws) (filter (λ v. caller_of_word v == 0) ws)) (ne_eqb (caller_of_word w) 0 (λ e. omega (arith, e, l))) ∙ none_of_boot lanes ws h.1

-- lanes' words add nothing to the boot section's record
pub boot_same : (script : ScriptOf) (lanes : ℕ) (words more : List ℕ) → AllByRecursion (IsOfLane lanes) more
    → events_by 0 (logged_in script.shapes (words ++ more)) ≡ events_by 0 (logged_in script.shapes words)
boot_same script lanes words more h = events-of-beginning state_after_word reply_to_word 0 (fabric_at_reset script.shapes) words more (none_of_boot lanes more h)

-- each word is the boot section's or a lane's
pub is_of_some : (lanes : ℕ) (boot others ws : List ℕ) (w : ℕ) (more : List ℕ) → ws ++ w ∷ more ≡ boot ++ others → AllByRecursion IsBoot boot → AllByRecursion (IsOfLane lanes) others → caller_of_word w ≤ lanes
is_of_some lanes boot others ws w more e b o = by (caller_of_word w) refl
  where
    by : (n : ℕ) → caller_of_word w ≡ n → caller_of_word w ≤ lanes
    by zero p = omega (arith, p)
    by (suc n) p = (lanes_from lanes boot others ws w more e b o (omega (arith, p))).0.1

-- ---- what is seen is a beginning

pub boot_first : (script : ScriptOf) (words : List ℕ) → AreInOrder script words → BootComesFirst (length script.lanes) words
boot_first script words (inl boot) = record { boot = words; others = []; is = sym (append-nil words); of_boot = boot; of_lanes = tt }
boot_first script words (inr lanes) = lanes.order

boot_whole : (script : ScriptOf) (words : List ℕ) → AreInOrder script words → Any IsOfSomeLane words → HasRecord (logged_in script.shapes words) 0 script.boot
boot_whole script words (inl boot) any = absurd (no_lane words boot any)
boot_whole script words (inr lanes) any = lanes.whole

pub seen_begins : (script : ScriptOf) (words : List ℕ) (state : FabricState) (cs : List CursorOf) → IsSeen script words state cs → IsLegalSoFar script words
seen_begins script words state cs s =
    let records = begin_records cs (script.boot ∷ script.lanes) 0 (logged_in script.shapes words) s.follow in
    record { events = s.events; order = boot_first script words s.order; boot_record = records.0; boot_whole = boot_whole script words s.order; lane_records = records.1 }
