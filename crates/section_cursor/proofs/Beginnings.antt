-- The first event of a piece, and what is left of the piece after it.
use Rattle.std.proofs.Common.{arith, ◌≡◌, if◌then◌else◌, ℕ, zero, suc, ◌&&◌, nat_lt, Bool, true, false, not, List, [], ◌∷◌, Option, Some, None, drop, slice_get, ◌≤◌, ◌-◌, refl, sym, ap, ◌∙◌}
use Rattle.std.proofs.lemmas.Bool.Decides.{nat_tests}
use Rattle.event_words.specs.declared.event.Event.{Event}
use Rattle.event_words.specs.declared.record.LoggedEvent.{LoggedEvent}
use Rattle.event_words.specs.declared.record.SectionEnd.{SectionEnd}
use Rattle.event_words.specs.declared.section.Command.{Command}
use Rattle.event_words.specs.Events.{same_event}
use Rattle.event_words.specs.Sections.{stage_units}
use Rattle.event_words.specs.Records.{OpenSlot, judgements, polls, stage_judged, one_stage, settled, until_piece, through_piece, through_stages, after_piece, end_of_commands, is_held, hits}
use Rattle.section_cursor.specs.declared.ahead.Chain.{Chain}
use Rattle.section_cursor.specs.declared.ahead.Ahead.{Ahead}
use Rattle.section_cursor.specs.declared.ahead.Part.{Part}
use Rattle.section_cursor.specs.declared.ahead.Part.TheVariants.{Polling, StageJudging, Judging}
use Rattle.section_cursor.specs.declared.ahead.Ahead.TheVariants.{Awaiting, Broken}
use Rattle.section_cursor.specs.Cursors.{end_of_rest, end_after, stages_on}

-- a choice inside goes outside
refused : {A B : Type 0} (C : Option A → Option B) → C None ≡ None → (b : Bool) (y : Option A) → (if b then C y else None) ≡ C (if not b then None else y)
refused C none true y = refl
refused C none false y = sym none

-- what comes next with some tries: the first of them, or nothing where there is none
pub first_of_tries : (F : Ahead → Option SectionEnd) (whole : ℕ → Option SectionEnd) (part : ℕ → Part) (event : Event) (tries left : ℕ) (ahead : Ahead)
    → (tries ≡ 0 → ahead ≡ Broken) → (1 ≤ tries → ahead ≡ Awaiting event (part left)) → left ≡ tries - 1
    → F Broken ≡ whole 0 → ((n : ℕ) → F (Awaiting event (part n)) ≡ whole (suc n)) → F ahead ≡ whole tries
first_of_tries F whole part event zero left ahead none some l base next = ap F (none refl) ∙ base
first_of_tries F whole part event (suc n) left ahead none some l base next =
    let one : 1 ≤ suc n = omega arith in
    let same : left ≡ n = omega (arith, l) in
    ap F (some one) ∙ ap (λ k. F (Awaiting event (part k))) same ∙ next n

pub judging_next : (caller : ℕ) (cs : List Command) (slots : List (Option OpenSlot)) (slot : ℕ) (e : Event) (left : ℕ) (xs : List LoggedEvent)
    → end_of_rest caller cs slots (Awaiting e (Judging slot left)) xs ≡ after_piece (end_of_commands caller cs) (settled slots slot (judgements (suc left) e xs))
judging_next caller cs slots slot e left [] = refl
judging_next caller cs slots slot e left (x ∷ xs) = refused (λ o. after_piece (end_of_commands caller cs) (settled slots slot o)) refl (same_event e x.event) _

judging_first : (caller : ℕ) (cs : List Command) (slots : List (Option OpenSlot)) (slot : ℕ) (e : Event) (tries left : ℕ) (xs : List LoggedEvent) → suc left ≡ tries
    → end_of_rest caller cs slots (Awaiting e (Judging slot left)) xs ≡ after_piece (end_of_commands caller cs) (settled slots slot (judgements tries e xs))
judging_first caller cs slots slot e tries left xs h =
    judging_next caller cs slots slot e left xs ∙ ap (λ n. after_piece (end_of_commands caller cs) (settled slots slot (judgements n e xs))) h

pub polling_next : (caller : ℕ) (cs : List Command) (slots : List (Option OpenSlot)) (e : Event) (mask value left : ℕ) (xs : List LoggedEvent)
    → end_of_rest caller cs slots (Awaiting e (Polling mask value left)) xs ≡ after_piece (end_of_commands caller cs) (until_piece slots (polls (suc left) e mask value xs))
polling_next caller cs slots e mask value left [] = refl
polling_next caller cs slots e mask value left (x ∷ xs) = refused (λ o. after_piece (end_of_commands caller cs) (until_piece slots o)) refl (same_event e x.event) _

polling_first : (caller : ℕ) (cs : List Command) (slots : List (Option OpenSlot)) (e : Event) (mask value tries left : ℕ) (xs : List LoggedEvent) → suc left ≡ tries
    → end_of_rest caller cs slots (Awaiting e (Polling mask value left)) xs ≡ after_piece (end_of_commands caller cs) (until_piece slots (polls tries e mask value xs))
polling_first caller cs slots e mask value tries left xs h =
    polling_next caller cs slots e mask value left xs ∙ ap (λ n. after_piece (end_of_commands caller cs) (until_piece slots (polls n e mask value xs))) h

pub stage_judging_next : (caller : ℕ) (cs : List Command) (slots : List (Option OpenSlot)) (e : Event) (left : ℕ) (chain : Chain) (xs : List LoggedEvent)
    → end_of_rest caller cs slots (Awaiting e (StageJudging left chain)) xs
    ≡ after_piece (end_of_commands caller cs) (through_piece slots (stage_judged (stages_on caller chain) (judgements (suc left) e xs)))
stage_judging_next caller cs slots e left chain [] = refl
stage_judging_next caller cs slots e left chain (x ∷ xs) =
    refused (λ o. after_piece (end_of_commands caller cs) (through_piece slots (stage_judged (stages_on caller chain) o))) refl (same_event e x.event) _

stage_judging_first : (caller : ℕ) (cs : List Command) (slots : List (Option OpenSlot)) (e : Event) (tries left : ℕ) (chain : Chain) (xs : List LoggedEvent) → suc left ≡ tries
    → end_of_rest caller cs slots (Awaiting e (StageJudging left chain)) xs
    ≡ after_piece (end_of_commands caller cs) (through_piece slots (stage_judged (stages_on caller chain) (judgements tries e xs)))
stage_judging_first caller cs slots e tries left chain xs h =
    stage_judging_next caller cs slots e left chain xs
    ∙ ap (λ n. after_piece (end_of_commands caller cs) (through_piece slots (stage_judged (stages_on caller chain) (judgements n e xs)))) h

-- ---- tries that are left

pub positive : (n : ℕ) → nat_lt 0 (suc n) ≡ true
positive n = grind (arith, nat_tests)

left_to_try : (b : Bool) (left tries : ℕ) → suc left ≡ tries → b ≡ true → (b && nat_lt 0 tries) ≡ true
left_to_try b left tries t h = rw (h, ← t) (positive left)

-- after a held judgement or a read that misses, with tries left, one try less is left
pub judging_again : (caller : ℕ) (cs : List Command) (slots : List (Option OpenSlot)) (slot : ℕ) (e : Event) (left tries : ℕ) (x : LoggedEvent) (xs : List LoggedEvent)
    → suc left ≡ tries → is_held x.reply ≡ true
    → end_of_rest caller cs slots (Awaiting e (Judging slot left)) xs ≡ end_after caller cs slots e (Judging slot tries) x xs
judging_again caller cs slots slot e left tries x xs t h =
    judging_first caller cs slots slot e tries left xs t
    ∙ ap (λ (b : Bool). after_piece (end_of_commands caller cs) (settled slots slot (if b then judgements tries e xs else Some (x.reply, xs)))) (sym (left_to_try (is_held x.reply) left tries t h))

pub polling_again : (caller : ℕ) (cs : List Command) (slots : List (Option OpenSlot)) (e : Event) (mask value left tries : ℕ) (x : LoggedEvent) (xs : List LoggedEvent)
    → suc left ≡ tries → hits mask value x.reply ≡ false
    → end_of_rest caller cs slots (Awaiting e (Polling mask value left)) xs ≡ end_after caller cs slots e (Polling mask value tries) x xs
polling_again caller cs slots e mask value left tries x xs t h =
    polling_first caller cs slots e mask value tries left xs t
    ∙ ap (λ (b : Bool). after_piece (end_of_commands caller cs) (until_piece slots (if b then polls tries e mask value xs else Some (hits mask value x.reply, xs))))
    (sym (left_to_try (not (hits mask value x.reply)) left tries t (rw h refl)))

pub stage_judging_again : (caller : ℕ) (cs : List Command) (slots : List (Option OpenSlot)) (e : Event) (left tries : ℕ) (chain : Chain) (x : LoggedEvent) (xs : List LoggedEvent)
    → suc left ≡ tries → is_held x.reply ≡ true
    → end_of_rest caller cs slots (Awaiting e (StageJudging left chain)) xs ≡ end_after caller cs slots e (StageJudging tries chain) x xs
stage_judging_again caller cs slots e left tries chain x xs t h =
    stage_judging_first caller cs slots e tries left chain xs t
    ∙ ap (λ (b : Bool). after_piece (end_of_commands caller cs) (through_piece slots (stage_judged (stages_on caller chain) (if b then judgements tries e xs else Some (x.reply, xs)))))
    (sym (left_to_try (is_held x.reply) left tries t h))

-- ---- stages

drop_next : (us : List ℕ) (i u : ℕ) → slice_get us i ≡ Some u → drop i us ≡ u ∷ drop (suc i) us
drop_next [] i u h = cc
drop_next (x ∷ xs) zero u h = cc
drop_next (x ∷ xs) (suc i) u h = drop_next xs i u h

drop_past : (us : List ℕ) (i : ℕ) → slice_get us i ≡ None → drop i us ≡ []
drop_past [] zero h = refl
drop_past [] (suc i) h = refl
drop_past (x ∷ xs) zero h = cc
drop_past (x ∷ xs) (suc i) h = drop_past xs i h

-- no stage is left
pub passing_none : (caller : ℕ) (cs : List Command) (slots : List (Option OpenSlot)) (chain : Chain) (rrid : ℕ) (xs : List LoggedEvent)
    → slice_get (stage_units chain.stages) chain.stage ≡ None
    → end_of_commands caller cs slots xs ≡ after_piece (end_of_commands caller cs) (through_piece slots (stages_on caller chain rrid xs))
passing_none caller cs slots chain rrid xs h =
    ap (λ us. after_piece (end_of_commands caller cs) (through_piece slots (through_stages caller chain.max chain.access us rrid xs))) (sym (drop_past (stage_units chain.stages) chain.stage h))

-- the stages from the next one on are that stage and those after it
pub passing_first : (caller : ℕ) (cs : List Command) (slots : List (Option OpenSlot)) (unit : ℕ) (chain : Chain) (next rrid : ℕ) (xs : List LoggedEvent)
    → slice_get (stage_units chain.stages) chain.stage ≡ Some unit → suc chain.stage ≡ next
    → after_piece (end_of_commands caller cs) (through_piece slots (one_stage caller chain.max unit (record chain.access { rrid = rrid }) (stages_on caller (record chain { stage = next })) xs))
    ≡ after_piece (end_of_commands caller cs) (through_piece slots (stages_on caller chain rrid xs))
passing_first caller cs slots unit chain next rrid xs h n =
    ap (λ us. after_piece (end_of_commands caller cs) (through_piece slots (through_stages caller chain.max chain.access us rrid xs)))
    (ap (λ i. unit ∷ drop i (stage_units chain.stages)) (sym n) ∙ sym (drop_next (stage_units chain.stages) chain.stage unit h))
