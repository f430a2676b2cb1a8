-- The canonical text of a script is read as the script.
use Rattle.std.proofs.Common.{◌≡◌, ℕ, suc, ◌+◌, ◌^◌, ◌<◌, ◌≤◌, not, nat_lt, Bool, true, false, cond, if◌then◌else◌, List, [], ◌∷◌, ◌++◌, Ok, Err, Result, length, count_by, codes, refl, ap, sym, subst, ◌∙◌, arith, append_assoc, length-append}
use Rattle.std.proofs.lemmas.Bool.{eq-eqb}
use Rattle.std.proofs.lemmas.Bool.Decides.{nat_tests}
use Rattle.std.proofs.lemmas.List.{append-nil}
use Rattle.std.specs.Fmt.{decimal}
use Rattle.std.specs.List.{AllByRecursion}
use Rattle.event_words.specs.declared.access.Access.{Access}
use Rattle.event_words.specs.declared.shape.Shape.{Shape}
use Rattle.event_words.specs.declared.section.Command.{Command}
use Rattle.event_words.specs.declared.section.Command.TheVariants.{Write, Read, Submit, Judge, Settle, Until, Through}
use Rattle.event_words.specs.Valid.{IsValidAccess}
use Rattle.event_words.specs.Sections.{SectionOf, IsValidSection, IsValidCommand, AreValidCommands, NamesUnits, NamesOnlyUnits, is_submit}
use Rattle.script_reader.specs.declared.reader.ScriptPart.{ScriptPart}
use Rattle.script_reader.specs.declared.reader.ScriptPart.TheVariants.{Head, Units, Boot, Lane, Finished}
use Rattle.script_reader.specs.declared.script.ScriptError.TheVariants.{TooManyEvents}
use Rattle.script_reader.specs.Codes.{◌>>=◌, misplaced}
use Rattle.script_reader.specs.Text.{lines_of}
use Rattle.script_reader.specs.Numbers.{number_at}
use Rattle.script_reader.specs.Commands.{submit_at}
use Rattle.script_reader.specs.Lines.{State, OpenSection, new_section, no_commands, section_of, with_submission, closed, next_lane, is_other, is_skipped, start, head_step, boot_step, end_step, lane_step, submit_step, command_step, units_step, section_step, place_step}
use Rattle.script_reader.specs.Scripts.{ScriptOf, Bad, lines_from, script_at, need_of}
use Rattle.script_reader.specs.Answers.{reading_of, judged, most_needed}
use Rattle.script_reader.specs.Sound.{IsInSection}
use Rattle.script_reader.specs.Told.{IsToldWhole, TellsWhole}
use Rattle.script_reader.specs.Canonical.{IsReadableScript, with_lane, text_before_end, AddsLane}
use Rattle.script_reader.specs.Printed.{command_text, command_texts, unit_texts, lane_text, lane_texts, script_text}
use Rattle.script_reader.proofs.Sounds.{counted, count_cons}
use Rattle.script_reader.proofs.Written.{is_less, is_at_most, fixed, decimal_writes}
use Rattle.script_reader.proofs.WordLines.{ended, stands, line_more}
use Rattle.script_reader.proofs.SlotNames.{slot_name, slot_names, length_slot_names, slot_given}
use Rattle.script_reader.proofs.WrittenCommands.{command_words, are_words, command_ended, IsOther, other_read, submit_read}
use Rattle.script_reader.proofs.WrittenUnits.{units_at, units_read}

-- ---- a section that is being read

-- so many commands were read, with the first k names
abbrev open_at : List Command → ℕ → OpenSection
open_at commands k = record { commands = commands; names = slot_names k }

abbrev section_at : ScriptPart → List Shape → SectionOf → List SectionOf → OpenSection → State
section_at p shapes boot lanes o = record { place = p; shapes = shapes; boot = boot; lanes = lanes; section = o }

in_section : (p : ScriptPart) (s : State) (words : List (List ℕ)) → IsInSection p → place_step p s words ≡ section_step s words
in_section Head s words i = absurd i
in_section Units s words i = absurd i
in_section Boot s words i = refl
in_section Lane s words i = refl
in_section Finished s words i = absurd i

plain_command : (s : State) (c : Command) → IsOther c → section_step s (command_words c) ≡ command_step s (command_words c)
unfolding section_step
plain_command s (Write unit index value) other = refl
plain_command s (Read unit index) other = refl
plain_command s (Submit unit access slot) other = absurd other
plain_command s (Judge slot) other = refl
plain_command s (Settle slot max) other = refl
plain_command s (Until unit index mask value max) other = refl
plain_command s (Through stages access max) other = refl

other_step : (p : ScriptPart) (shapes : List Shape) (boot : SectionOf) (lanes : List SectionOf) (done : List Command) (k : ℕ) (c : Command) → IsOther c → k ≤ 10 ^ 7 → IsValidCommand k c → NamesUnits (length shapes) c → IsToldWhole c
    → section_step (section_at p shapes boot lanes (open_at done k)) (command_words c) ≡ Ok (section_at p shapes boot lanes (open_at (done ++ c ∷ []) k))
unfolding command_step
other_step p shapes boot lanes done k c other few valid there whole =
    plain_command (section_at p shapes boot lanes (open_at done k)) c other
    ∙ ap (λ r. r >>= λ command. Ok (section_at p shapes boot lanes (open_at (done ++ command ∷ []) k))) (other_read (length shapes) k c other few valid there whole)

submission_step : (p : ScriptPart) (shapes : List Shape) (boot : SectionOf) (lanes : List SectionOf) (done : List Command) (k unit : ℕ) (access : Access) → k < 10 ^ 7 → unit < 4 → IsValidAccess access → unit < length shapes
    → section_step (section_at p shapes boot lanes (open_at done k)) (command_words (Submit unit access k)) ≡ Ok (section_at p shapes boot lanes (open_at (done ++ Submit unit access k ∷ []) (suc k)))
unfolding section_step submit_step
submission_step p shapes boot lanes done k unit access few small valid there =
    ap (λ n. submit_at (length shapes) n (command_words (Submit unit access k)) >>= λ command.
    with_submission (open_at done k) command (slot_name k) >>= λ o. Ok (section_at p shapes boot lanes o)) (length_slot_names k)
    ∙ ap (λ r. r >>= λ command. with_submission (open_at done k) command (slot_name k) >>= λ o. Ok (section_at p shapes boot lanes o)) (submit_read (length shapes) unit access k small valid there)
    ∙ ap (λ r. (r >>= λ names. Ok (record { commands = done ++ Submit unit access k ∷ []; names = names })) >>= λ o. Ok (section_at p shapes boot lanes o)) (slot_given k few)

-- the number of names after commands
abbrev names_after : ℕ → List Command → ℕ
names_after k [] = k
names_after k (c ∷ cs) = names_after (if is_submit c then k + 1 else k) cs

names_counted : (k : ℕ) (cs : List Command) → names_after k cs ≡ k + count_by is_submit cs
names_counted k [] = omega arith
names_counted k (c ∷ cs) = names_counted (if is_submit c then k + 1 else k) cs ∙ omega (arith, counted (is_submit c) k, count_cons c cs)

-- one command, whatever it is
any_step : (p : ScriptPart) (shapes : List Shape) (boot : SectionOf) (lanes : List SectionOf) (done : List Command) (k : ℕ) (c : Command) → k < 10 ^ 7 → IsValidCommand k c → NamesUnits (length shapes) c → IsToldWhole c
    → section_step (section_at p shapes boot lanes (open_at done k)) (command_words c) ≡ Ok (section_at p shapes boot lanes (open_at (done ++ c ∷ []) (if is_submit c then k + 1 else k)))
any_step p shapes boot lanes done k (Write unit index value) few valid there whole = other_step p shapes boot lanes done k (Write unit index value) tt (omega (arith, few)) valid there whole
any_step p shapes boot lanes done k (Read unit index) few valid there whole = other_step p shapes boot lanes done k (Read unit index) tt (omega (arith, few)) valid there whole
any_step p shapes boot lanes done k (Submit unit access slot) few valid there whole =
    subst (λ j. section_step (section_at p shapes boot lanes (open_at done k)) (command_words (Submit unit access j)) ≡ Ok (section_at p shapes boot lanes (open_at (done ++ Submit unit access j ∷ []) (k + 1)))) (sym valid.2)
    (submission_step p shapes boot lanes done k unit access few valid.0 valid.1 there ∙ ap (λ j. Ok (section_at p shapes boot lanes (open_at (done ++ Submit unit access k ∷ []) j))) (let e : suc k ≡ k + 1 = omega arith in e))
any_step p shapes boot lanes done k (Judge slot) few valid there whole = other_step p shapes boot lanes done k (Judge slot) tt (omega (arith, few)) valid there whole
any_step p shapes boot lanes done k (Settle slot max) few valid there whole = other_step p shapes boot lanes done k (Settle slot max) tt (omega (arith, few)) valid there whole
any_step p shapes boot lanes done k (Until unit index mask value max) few valid there whole = other_step p shapes boot lanes done k (Until unit index mask value max) tt (omega (arith, few)) valid there whole
any_step p shapes boot lanes done k (Through stages access max) few valid there whole = other_step p shapes boot lanes done k (Through stages access max) tt (omega (arith, few)) valid there whole

command_stands : (c : Command) → is_skipped (command_words c) ≡ false
command_stands (Write unit index value) = stands (command_words (Write unit index value)) (omega arith) refl
command_stands (Read unit index) = stands (command_words (Read unit index)) (omega arith) refl
command_stands (Submit unit access slot) = stands (command_words (Submit unit access slot)) (omega arith) refl
command_stands (Judge slot) = stands (command_words (Judge slot)) (omega arith) refl
command_stands (Settle slot max) = stands (command_words (Settle slot max)) (omega arith) refl
command_stands (Until unit index mask value max) = stands (command_words (Until unit index mask value max)) (omega arith) refl
command_stands (Through stages access max) = stands (command_words (Through stages access max)) (omega arith) refl

-- ---- all commands of a section

one_at_most : (b : Bool) → cond b 1 0 ≤ 1
one_at_most true = omega arith
one_at_most false = omega arith

-- The lines of commands take the reading on to where they are read, whatever stands after them.
commands_read : (p : ScriptPart) (shapes : List Shape) (boot : SectionOf) (lanes : List SectionOf) (done cs : List Command) (k n : ℕ) (rest : List ℕ) (answer : Result ScriptOf Bad) → IsInSection p → k + length cs < 10 ^ 7
    → AreValidCommands k cs → AllByRecursion (NamesUnits (length shapes)) cs → AllByRecursion IsToldWhole cs
    → ((m : ℕ) → lines_from (section_at p shapes boot lanes (open_at (done ++ cs) (names_after k cs))) m (lines_of rest) ≡ answer)
    → lines_from (section_at p shapes boot lanes (open_at done k)) n (lines_of (command_texts cs ++ rest)) ≡ answer
commands_read p shapes boot lanes done [] k n rest answer i few valid there whole next =
    ap (λ cs. lines_from (section_at p shapes boot lanes (open_at cs k)) n (lines_of rest)) (sym (append-nil done)) ∙ next n
commands_read p shapes boot lanes done (c ∷ cs) k n rest answer i few valid there whole next =
    let after : ℕ = if is_submit c then k + 1 else k in
    let s : State = section_at p shapes boot lanes (open_at done k) in
    let t : State = section_at p shapes boot lanes (open_at (done ++ c ∷ []) after) in
    let small : k < 10 ^ 7 = omega (arith, few) in
    let few_left : after + length cs < 10 ^ 7 = omega (arith, few, counted (is_submit c) k, one_at_most (is_submit c)) in
    ap (λ l. lines_from s n (lines_of l)) (append_assoc (command_text c) (command_texts cs) rest ∙ command_ended k c (command_texts cs ++ rest) valid.0 whole.0)
    ∙ line_more s t n (command_words c) (command_texts cs ++ rest) (are_words k c small valid.0) (command_stands c)
    (in_section p s (command_words c) i ∙ any_step p shapes boot lanes done k c small valid.0 there.0 whole.0)
    ∙ commands_read p shapes boot lanes (done ++ c ∷ []) cs after (n + 1) rest answer i few_left valid.1 there.1 whole.1
    (λ m. ap (λ l. lines_from (section_at p shapes boot lanes (open_at l (names_after k (c ∷ cs)))) m (lines_of rest)) (append_assoc done (c ∷ []) cs) ∙ next m)

-- the open section is this one
abbrev open_of : SectionOf → OpenSection
open_of section = open_at section.commands (names_after 0 section.commands)

section_back : (section : SectionOf) → IsValidSection section → section_of (open_of section) ≡ section
section_back section valid =
    let slots : length (slot_names (names_after 0 section.commands)) ≡ section.slots = length_slot_names (names_after 0 section.commands) ∙ names_counted 0 section.commands ∙ omega (arith, valid.slots) in
    ap (λ n. record section { slots = n }) slots

-- ---- the end, and the headings of lanes

end_step_read : (s : State) → section_step s (codes "end" ∷ []) ≡ Ok (record (closed s.place s) { place = Finished })
unfolding section_step end_step
end_step_read s = refl

ended_there : (p : ScriptPart) (s : State) (n : ℕ) → IsInSection p → lines_from (record (closed p s) { place = Finished }) n (lines_of []) ≡ Ok (record { shapes = s.shapes; boot = (closed p s).boot; lanes = (closed p s).lanes })
ended_there Head s n i = absurd i
ended_there Units s n i = absurd i
ended_there Boot s n i = refl
ended_there Lane s n i = refl
ended_there Finished s n i = absurd i

end_read : (s : State) (n : ℕ) → IsInSection s.place → lines_from s n (lines_of (codes "end\n")) ≡ Ok (record { shapes = s.shapes; boot = (closed s.place s).boot; lanes = (closed s.place s).lanes })
end_read s n i =
    line_more s (record (closed s.place s) { place = Finished }) n (codes "end" ∷ []) [] (fixed (codes "end") refl, tt) (stands (codes "end" ∷ []) (omega arith) refl)
    (in_section s.place s (codes "end" ∷ []) i ∙ end_step_read s)
    ∙ ended_there s.place s (n + 1) i

abbrev lane_words : ℕ → List (List ℕ)
lane_words i = codes "lane" ∷ decimal i ∷ []

not_other : (i : ℕ) → is_other i (Ok i) ≡ false
not_other i = ap not (eq-eqb i i refl)

is_over : (a b : ℕ) → b ≤ a → nat_lt a b ≡ false
is_over a b h = grind (arith, nat_tests)

lane_step_read : (s : State) (i : ℕ) → next_lane s.place s.lanes ≡ i → i ≤ 16 → section_step s (lane_words i) ≡ Ok (record (closed s.place s) { place = Lane })
unfolding section_step lane_step
lane_step_read s i next few =
    let number : number_at (decimal i) ≡ Ok i = (decimal_writes i (omega (arith, few))).number in
    rw (next, number, not_other i, is_over 16 i few) refl

lane_read : (s : State) (i n : ℕ) (rest : List ℕ) → IsInSection s.place → next_lane s.place s.lanes ≡ i → i ≤ 16
    → lines_from s n (lines_of (ended (lane_words i) rest)) ≡ lines_from (record (closed s.place s) { place = Lane }) (n + 1) (lines_of rest)
lane_read s i n rest here next few =
    line_more s (record (closed s.place s) { place = Lane }) n (lane_words i) rest (fixed (codes "lane") refl, ((decimal_writes i (omega (arith, few))).word, tt)) (stands (lane_words i) (omega arith) refl)
    (in_section s.place s (lane_words i) here ∙ lane_step_read s i next few)

lane_ended : (i : ℕ) (lane : SectionOf) (rest : List ℕ) → lane_text i lane ++ rest ≡ ended (lane_words i) (command_texts lane.commands ++ rest)
lane_ended i lane rest = simp append_assoc

-- ---- the lanes

-- what holds of a lane of a readable script
pub record IsReadableSection (units : ℕ) (section : SectionOf) : Type 0 where
  pub valid : IsValidSection section
  pub there : NamesOnlyUnits units section
  pub whole : TellsWhole section

abbrev AreReadable : ℕ → List SectionOf → Type 0
AreReadable units lanes = AllByRecursion (IsReadableSection units) lanes

-- The lines of a section's commands, read in a place where a section is open.
section_read : (p : ScriptPart) (shapes : List Shape) (boot : SectionOf) (lanes : List SectionOf) (section : SectionOf) (n : ℕ) (rest : List ℕ) (answer : Result ScriptOf Bad) → IsInSection p → IsReadableSection (length shapes) section
    → ((m : ℕ) → lines_from (section_at p shapes boot lanes (open_of section)) m (lines_of rest) ≡ answer)
    → lines_from (section_at p shapes boot lanes new_section) n (lines_of (command_texts section.commands ++ rest)) ≡ answer
section_read p shapes boot lanes section n rest answer i readable next =
    commands_read p shapes boot lanes [] section.commands 0 n rest answer i (omega (arith, readable.valid.few)) readable.valid.commands readable.there readable.whole next

-- the lanes from one that was read on, up to the end
lanes_read : (shapes : List Shape) (boot : SectionOf) (done : List SectionOf) (lane : SectionOf) (lanes : List SectionOf) (i n : ℕ) → i ≡ length done + 2 → length done + 1 + length lanes ≤ 16
    → IsValidSection lane → AreReadable (length shapes) lanes
    → lines_from (section_at Lane shapes boot done (open_of lane)) n (lines_of (lane_texts i lanes ++ codes "end\n")) ≡ Ok (record { shapes = shapes; boot = boot; lanes = done ++ (lane ∷ lanes) })
lanes_read shapes boot done lane [] i n number few valid readable =
    end_read (section_at Lane shapes boot done (open_of lane)) n tt ∙ ap (λ l. Ok (record { shapes = shapes; boot = boot; lanes = done ++ l ∷ [] })) (section_back lane valid)
lanes_read shapes boot done lane (next ∷ lanes) i n number few valid readable =
    let s : State = section_at Lane shapes boot done (open_of lane) in
    let rest : List ℕ = lane_texts (i + 1) lanes ++ codes "end\n" in
    let more : length (done ++ lane ∷ []) ≡ length done + 1 = length-append done (lane ∷ []) ∙ omega arith in
    ap (λ l. lines_from s n (lines_of l)) (append_assoc (lane_text i next) (lane_texts (i + 1) lanes) (codes "end\n") ∙ lane_ended i next rest)
    ∙ lane_read s i n (command_texts next.commands ++ rest) tt (sym number) (omega (arith, few, number))
    ∙ ap (λ l. lines_from (section_at Lane shapes boot (done ++ l ∷ []) new_section) (n + 1) (lines_of (command_texts next.commands ++ rest))) (section_back lane valid)
    ∙ section_read Lane shapes boot (done ++ lane ∷ []) next (n + 1) rest (Ok (record { shapes = shapes; boot = boot; lanes = done ++ (lane ∷ (next ∷ lanes)) })) tt readable.0
    (λ m. lanes_read shapes boot (done ++ lane ∷ []) next lanes (i + 1) m (omega (arith, number, more)) (omega (arith, few, more)) readable.0.valid readable.1
    ∙ ap (λ l. Ok (record { shapes = shapes; boot = boot; lanes = l })) (append_assoc done (lane ∷ []) (next ∷ lanes)))

-- what stands after the boot section
after_boot : (shapes : List Shape) (boot : SectionOf) (lanes : List SectionOf) (n : ℕ) → length lanes ≤ 16 → IsValidSection boot → AreReadable (length shapes) lanes
    → lines_from (section_at Boot shapes no_commands [] (open_of boot)) n (lines_of (lane_texts 1 lanes ++ codes "end\n")) ≡ Ok (record { shapes = shapes; boot = boot; lanes = lanes })
after_boot shapes boot [] n few valid readable =
    end_read (section_at Boot shapes no_commands [] (open_of boot)) n tt ∙ ap (λ b. Ok (record { shapes = shapes; boot = b; lanes = [] })) (section_back boot valid)
after_boot shapes boot (lane ∷ lanes) n few valid readable =
    let s : State = section_at Boot shapes no_commands [] (open_of boot) in
    let rest : List ℕ = lane_texts 2 lanes ++ codes "end\n" in
    ap (λ l. lines_from s n (lines_of l)) (append_assoc (lane_text 1 lane) (lane_texts 2 lanes) (codes "end\n") ∙ lane_ended 1 lane rest)
    ∙ lane_read s 1 n (command_texts lane.commands ++ rest) tt refl (omega arith)
    ∙ ap (λ b. lines_from (section_at Lane shapes b [] new_section) (n + 1) (lines_of (command_texts lane.commands ++ rest))) (section_back boot valid)
    ∙ section_read Lane shapes boot [] lane (n + 1) rest (Ok (record { shapes = shapes; boot = boot; lanes = lane ∷ lanes })) tt readable.0
    (λ m. lanes_read shapes boot [] lane lanes 2 m (omega arith) (omega (arith, few)) readable.0.valid readable.1)

-- ---- the whole script

head_step_read : head_step start (codes "iopmp" ∷ codes "1" ∷ []) ≡ Ok (units_at [])
unfolding head_step
head_step_read = refl

boot_step_read : (shapes : List Shape) → 1 ≤ length shapes → units_step (units_at shapes) (codes "boot" ∷ []) ≡ Ok (section_at Boot shapes no_commands [] new_section)
unfolding units_step boot_step
boot_step_read shapes some = ap (λ b. if b then Ok (section_at Boot shapes no_commands [] new_section) else Err misplaced) (is_less 0 (length shapes) some)

head_read : (n : ℕ) (rest : List ℕ) → lines_from start n (lines_of (codes "iopmp 1\n" ++ rest)) ≡ lines_from (units_at []) (n + 1) (lines_of rest)
head_read n rest =
    line_more start (units_at []) n (codes "iopmp" ∷ codes "1" ∷ []) rest (fixed (codes "iopmp") refl, (fixed (codes "1") refl, tt)) (stands (codes "iopmp" ∷ codes "1" ∷ []) (omega arith) refl) head_step_read

boot_read : (shapes : List Shape) (n : ℕ) (rest : List ℕ) → 1 ≤ length shapes → lines_from (units_at shapes) n (lines_of (codes "boot\n" ++ rest)) ≡ lines_from (section_at Boot shapes no_commands [] new_section) (n + 1) (lines_of rest)
boot_read shapes n rest some =
    line_more (units_at shapes) (section_at Boot shapes no_commands [] new_section) n (codes "boot" ∷ []) rest (fixed (codes "boot") refl, tt) (stands (codes "boot" ∷ []) (omega arith) refl) (boot_step_read shapes some)

readable_lanes : (units : ℕ) (lanes : List SectionOf) → AllByRecursion IsValidSection lanes → AllByRecursion (NamesOnlyUnits units) lanes → AllByRecursion TellsWhole lanes → AreReadable units lanes
readable_lanes units [] valid there whole = tt
readable_lanes units (lane ∷ lanes) valid there whole = (record { valid = valid.0; there = there.0; whole = whole.0 }, readable_lanes units lanes valid.1 there.1 whole.1)

script_read : (script : ScriptOf) → IsReadableScript script → script_at (script_text script) ≡ Ok script
script_read script readable =
    let formed = readable.formed in
    let end_text : List ℕ = lane_texts 1 script.lanes ++ codes "end\n" in
    let boot_text : List ℕ = command_texts script.boot.commands ++ end_text in
    head_read 1 (unit_texts script.shapes ++ (codes "boot\n" ++ boot_text))
    ∙ units_read [] script.shapes 2 (codes "boot\n" ++ boot_text) (omega (arith, formed.few_units)) formed.shapes
    ∙ boot_read script.shapes (2 + length script.shapes) boot_text formed.some_units
    ∙ section_read Boot script.shapes no_commands [] script.boot (2 + length script.shapes + 1) end_text (Ok script) tt (record { valid = formed.boot; there = formed.boot_units; whole = readable.whole.boot })
    (λ m. after_boot script.shapes script.boot script.lanes m formed.few_lanes formed.boot (readable_lanes (length script.shapes) script.lanes formed.lanes formed.lanes_units readable.whole.lanes))

-- The canonical text of a readable script stands for the script.
pub script_reads_back : (script : ScriptOf) → IsReadableScript script → reading_of (script_text script) ≡ Ok script
script_reads_back script readable =
    ap judged (script_read script readable) ∙ ap (λ b. if b then Ok script else Err (TooManyEvents (need_of script) most_needed)) (is_at_most (need_of script) most_needed readable.few)

-- ---- one lane

lanes_more : (i : ℕ) (lanes : List SectionOf) (lane : SectionOf) → lane_texts i (lanes ++ lane ∷ []) ≡ lane_texts i lanes ++ lane_text (i + length lanes) lane
lanes_more i [] lane = append-nil (lane_text i lane) ∙ ap (λ n. lane_text n lane) (omega arith)
lanes_more i (first ∷ lanes) lane =
    ap (λ t. lane_text i first ++ t) (lanes_more (i + 1) lanes lane)
    ∙ sym (append_assoc (lane_text i first) (lane_texts (i + 1) lanes) (lane_text (i + 1 + length lanes) lane))
    ∙ ap (λ n. lane_texts i (first ∷ lanes) ++ lane_text n lane) (omega arith)

regrouped : (h u b c l t : List ℕ) → (h ++ (u ++ (b ++ (c ++ l)))) ++ t ≡ h ++ (u ++ (b ++ (c ++ (l ++ t))))
regrouped h u b c l t =
    append_assoc h (u ++ (b ++ (c ++ l))) t
    ∙ ap (λ x. h ++ x) (append_assoc u (b ++ (c ++ l)) t ∙ ap (λ x. u ++ x) (append_assoc b (c ++ l) t ∙ ap (λ x. b ++ x) (append_assoc c l t)))

-- the canonical text of a script with one lane more
with_lane_text : (script : ScriptOf) (lane : SectionOf) (number : ℕ) → number ≡ length script.lanes + 1 → text_before_end script ++ (lane_text number lane ++ codes "end\n") ≡ script_text (with_lane script lane)
with_lane_text script lane number e =
    let place : number ≡ 1 + length script.lanes = omega (arith, e) in
    let before : List ℕ = lane_texts 1 script.lanes in
    regrouped (codes "iopmp 1\n") (unit_texts script.shapes) (codes "boot\n") (command_texts script.boot.commands) before (lane_text number lane ++ codes "end\n")
    ∙ ap (λ t. codes "iopmp 1\n" ++ (unit_texts script.shapes ++ (codes "boot\n" ++ (command_texts script.boot.commands ++ t))))
    (sym (append_assoc before (lane_text number lane) (codes "end\n")) ∙ ap (λ n. (before ++ lane_text n lane) ++ codes "end\n") place ∙ ap (λ t. t ++ codes "end\n") (sym (lanes_more 1 script.lanes lane)))

-- A printed lane is read as the lane.
pub lane_reads_back : (number : ℕ) (lane : SectionOf) → AddsLane number lane (lane_text number lane)
lane_reads_back number lane = λ script place readable. ap reading_of (with_lane_text script lane number place) ∙ script_reads_back (with_lane script lane) readable
