-- The unit after a boot section of writes.
use Rattle.std.proofs.Common.{◌≡◌, ℕ, suc, ◌+◌, ◌==◌, Bool, true, false, List, [], ◌∷◌, Option, Some, None, map, filter, cond, replicate, refl, sym, ap, ◌∙◌, subst, add-one}
use Rattle.std.specs.Prelude.{IsSome}
use Rattle.std.specs.List.{AllByRecursion}
use Rattle.std.proofs.lemmas.Bool.{cond-false, ne_eqb}
use Rattle.event_words.specs.declared.register.Register.TheVariants.{Mdstall, Rridscp}
use Rattle.event_words.specs.declared.shape.Shape.{Shape}
use Rattle.event_words.specs.declared.event.Event.{Event}
use Rattle.event_words.specs.declared.record.LoggedEvent.{LoggedEvent}
use Rattle.event_words.specs.declared.record.SectionEnd.{SectionEnd}
use Rattle.event_words.specs.Registers.{Registers, at_reset, index_of}
use Rattle.event_words.specs.Events.{caller_of}
use Rattle.event_words.specs.Word.{event_of_word}
use Rattle.event_words.specs.Runs.{caller_of_word, IsEventWord, run_from}
use Rattle.event_words.specs.Sections.{SectionOf}
use Rattle.event_words.specs.Records.{end_of_commands, events_by, is_by}
use Rattle.event_words.specs.Stalls.{flags_after, flags_after_mdstall, flags_after_rridscp}
use Rattle.event_words.proofs.Runs.{caller_of_word-word_of}
use Rattle.policy_compiler.specs.declared.image.RegPair.{RegPair}
use Rattle.policy_compiler.specs.Commands.{write_command}
use Rattle.policy_compiler.specs.Laws.{after_writes, guarded_write}
use Rattle.unit_core.specs.Units.{UnitState, FabricState, fabric_at_reset, no_aims, fabric_step, decoded_step, state_after}
use Rattle.unit_core.specs.Fabrics.{state_after_word}
use Rattle.unit_core.specs.Histories.{IsLegalHistory, with_event, events_of_words, logged_in}
use Rattle.history_laws.specs.Unwritten.{is_boot, units_after_boot}
use Rattle.event_words.proofs.EventWords.{word_event}
use Rattle.history_laws.proofs.Writes.{all_filter, some_of}
use Rattle.history_laws.proofs.WriteRecords.{event_of, write_by, writes_record}
use Rattle.history_laws.proofs.LiveLists.{events_logged}

-- ---- the boot section's events

abbrev is_first : Event → Bool
is_first e = caller_of e == 0

same_filter : (xs : List LoggedEvent) → map event_of (filter (is_by 0) xs) ≡ filter is_first (map event_of xs)
same_filter [] = refl
same_filter (x ∷ xs) = by (is_by 0 x) (same_filter xs)
  where
    by : (b : Bool) → map event_of (filter (is_by 0) xs) ≡ filter is_first (map event_of xs)
        → map event_of (cond b (x ∷ filter (is_by 0) xs) (filter (is_by 0) xs))
        ≡ cond b (x.event ∷ filter is_first (map event_of xs)) (filter is_first (map event_of xs))
    by true h = ap (λ es. x.event ∷ es) h
    by false h = h

boot_filter : (words : List ℕ) → AllByRecursion IsEventWord words
    → filter is_first (events_of_words words) ≡ events_of_words (filter is_boot words)
boot_filter [] all = refl
boot_filter (w ∷ ws) all =
    let e = word_event w all.0 in
    let same : caller_of_word w ≡ caller_of e.event = ap caller_of_word e.is ∙ caller_of_word-word_of e.event e.valid in
    ap (λ o. filter is_first (with_event o (events_of_words ws))) e.back
    ∙ by e.event (is_first e.event) e.back (boot_filter ws all.1)
    ∙ ap (λ n. events_of_words (cond (n == 0) (w ∷ filter is_boot ws) (filter is_boot ws))) (sym same)
  where
    by : (e : Event) (b : Bool) → event_of_word w ≡ Some e → filter is_first (events_of_words ws) ≡ events_of_words (filter is_boot ws)
        → cond b (e ∷ filter is_first (events_of_words ws)) (filter is_first (events_of_words ws))
        ≡ events_of_words (cond b (w ∷ filter is_boot ws) (filter is_boot ws))
    by e true back h = ap (λ es. e ∷ es) h ∙ ap (λ o. with_event o (events_of_words (filter is_boot ws))) (sym back)
    by e false back h = h

-- The entries of a boot section of writes are these writes.
pub boot_entries : (shapes : List Shape) (boot : SectionOf) (lanes : List SectionOf) (words : List ℕ) (ps : List RegPair)
    → boot.commands ≡ map write_command ps → IsLegalHistory shapes boot lanes words
    → map event_of (events_by 0 (logged_in shapes words)) ≡ map (write_by 0) ps
boot_entries shapes boot lanes words ps commands legal =
    let ended = some_of (end_of_commands 0 boot.commands [] (events_by 0 (logged_in shapes words))) legal.boot_record in
    writes_record 0 ps [] (events_by 0 (logged_in shapes words)) ended.0 (subst (λ cs. end_of_commands 0 cs [] (events_by 0 (logged_in shapes words)) ≡ Some ended.0) commands ended.1)

-- so are its events
pub boot_events : (shapes : List Shape) (boot : SectionOf) (lanes : List SectionOf) (words : List ℕ) (ps : List RegPair)
    → boot.commands ≡ map write_command ps → IsLegalHistory shapes boot lanes words
    → events_of_words (filter is_boot words) ≡ map (write_by 0) ps
boot_events shapes boot lanes words ps commands legal =
    sym (boot_filter words legal.events)
    ∙ ap (filter is_first) (sym (events_logged shapes words))
    ∙ sym (same_filter (logged_in shapes words))
    ∙ boot_entries shapes boot lanes words ps commands legal

-- ---- what they leave

same_state : (k : ℕ) (f : FabricState) (words : List ℕ) → AllByRecursion IsEventWord words
    → run_from state_after_word k f words ≡ state_after k f (events_of_words words)
same_state k f [] all = refl
same_state k f (w ∷ ws) all =
    let e = word_event w all.0 in
    ap (λ o. run_from state_after_word (suc k) (decoded_step k f o).0 ws) e.back
    ∙ same_state (suc k) (fabric_step k f e.event).0 ws all.1
    ∙ ap (λ j. state_after j (fabric_step k f e.event).0 (events_of_words ws)) (sym (add-one k))
    ∙ ap (λ o. state_after k f (with_event o (events_of_words ws))) (sym e.back)

-- a write of neither MDSTALL nor RRIDSCP
pub record LeavesFlags (p : RegPair) : Type 0 where
  pub not_mdstall : p.index ≡ index_of Mdstall → ⊥
  pub not_rridscp : p.index ≡ index_of Rridscp → ⊥

kept_flags : (r : Registers) (flags : List Bool) (p : RegPair) → LeavesFlags p → flags_after r flags p.index p.value ≡ flags
kept_flags r flags p l =
    cond-false (p.index == index_of Mdstall) (flags_after_mdstall r p.value) _ (ne_eqb p.index (index_of Mdstall) l.not_mdstall)
    ∙ cond-false (p.index == index_of Rridscp) (flags_after_rridscp flags p.value) flags (ne_eqb p.index (index_of Rridscp) l.not_rridscp)

-- a unit without open submissions
abbrev pub idle : Registers → List Bool → UnitState
idle r flags = record { registers = r; flags = flags; submissions = [] }

-- a fabric whose one unit is idle
abbrev idle_fabric : List ℕ → Registers → List Bool → FabricState
idle_fabric aims r flags = record { units = idle r flags ∷ []; aims = aims }

writes_leave : (k : ℕ) (aims : List ℕ) (r : Registers) (flags : List Bool) (ps : List RegPair) → AllByRecursion LeavesFlags ps
    → state_after k (idle_fabric aims r flags) (map (write_by 0) ps) ≡ idle_fabric aims (after_writes r ps) flags
writes_leave k aims r flags [] h = refl
writes_leave k aims r flags (p ∷ ps) h =
    ap (λ fs. state_after (k + 1) (idle_fabric aims (guarded_write r p) fs) (map (write_by 0) ps)) (kept_flags r flags p h.0)
    ∙ writes_leave (k + 1) aims (guarded_write r p) flags ps h.1

-- The unit after a boot section of writes that stall nobody.
pub booted_unit : (shape : Shape) (boot : SectionOf) (lanes : List SectionOf) (words : List ℕ) (ps : List RegPair)
    → boot.commands ≡ map write_command ps → AllByRecursion LeavesFlags ps → IsLegalHistory (shape ∷ []) boot lanes words
    → units_after_boot (shape ∷ []) words ≡ idle (after_writes (at_reset shape) ps) (replicate shape.rrids false) ∷ []
booted_unit shape boot lanes words ps commands leave legal =
    ap (λ (f : FabricState). f.units)
    (same_state 0 (fabric_at_reset (shape ∷ [])) (filter is_boot words) (all_filter IsEventWord is_boot words legal.events)
    ∙ ap (state_after 0 (fabric_at_reset (shape ∷ []))) (boot_events (shape ∷ []) boot lanes words ps commands legal)
    ∙ writes_leave 0 no_aims (at_reset shape) (replicate shape.rrids false) ps leave)
