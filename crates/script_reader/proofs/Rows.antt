-- Scripts whose first bad line is computed.
use Rattle.std.proofs.Common.{◌≡◌, ℕ, List, [], ◌∷◌, ◌++◌, Ok, Err, Option, None, Some, Result, map, codes, refl}
use Rattle.script_reader.specs.Numbers.{digit_of, number_of, number_at, ranged}
use Rattle.script_reader.specs.UnitLines.{has_keys, translation_at, shape_at, unit_line}
use Rattle.script_reader.specs.Names.{is_name, slot_at, with_name}
use Rattle.script_reader.specs.Commands.{unit_at, index_at, kind_at, access_at, stage_at, stages_at, write_at, read_at, submit_at, judge_at, settle_at, until_at, through_at, command_at}
use Rattle.script_reader.specs.Lines.{head_step, unit_step, boot_step, end_step, lane_step, submit_step, command_step, units_step, section_step, words_step, line_step}
use Rattle.script_reader.specs.Scripts.{ScriptOf, Bad, script_at, need_of}
use Rattle.script_reader.specs.Printed.{script_text}
use Rattle.std.specs.Fmt.{digits}
use Rattle.event_words.specs.declared.access.Kind.TheVariants as kinds
use Rattle.event_words.specs.declared.section.Command.{Command}
use Rattle.event_words.specs.declared.section.Command.TheVariants.{Submit, Judge, Settle}

abbrev text_of : List (List ℕ) → List ℕ
text_of [] = []
text_of (line ∷ lines) = line ++ (10 ∷ text_of lines)

abbrev four_requesters : List ℕ
four_requesters = codes "unit rrids 4 domains 3 entries 8 mdcfg 0 k 0 srcmd 0 sps 0 queue 1 transl -"

abbrev bad_of : Result ScriptOf Bad → Option (ℕ × ℕ)
bad_of (Ok script) = None
bad_of (Err bad) = Some (bad.line, bad.code)

-- the fault of a script with these lines after `boot`: its line and code
abbrev fault_of : List (List ℕ) → Option (ℕ × ℕ)
fault_of given = bad_of (script_at (text_of ((codes "iopmp 1" ∷ four_requesters ∷ codes "boot" ∷ []) ++ given ++ (codes "end" ∷ []))))

-- lines after `boot`, and the fault of their script
abbrev bad_rows : List (List (List ℕ) × Option (ℕ × ℕ))
bad_rows =
    -- lines of register accesses
    (codes "w 0 0x8" ∷ [], Some (4, 4))
    ∷ (codes "w 0 0x9 0x1" ∷ [], Some (4, 6))
    ∷ (codes "w 0 0x8 0x100000000" ∷ [], Some (4, 6))
    ∷ (codes "w 1 0x8 0x1" ∷ [], Some (4, 11))
    ∷ (codes "q 0" ∷ [], Some (4, 3))
    -- numbers
    ∷ (codes "w 0 0x8 18446744073709551616" ∷ [], Some (4, 6))
    ∷ (codes "w 0 000000000000000000008 1" ∷ [], Some (4, 5))
    ∷ (codes "w 0 0x 0x1" ∷ [], Some (4, 5))
    ∷ (codes "w 4 0x8 0x1" ∷ [], Some (4, 11))
    ∷ (codes "w 18446744073709551616 0x8 0x1" ∷ [], Some (4, 6))
    -- submissions
    ∷ (codes "t 0 64 r 0x0 1 as a" ∷ [], Some (4, 6))
    ∷ (codes "t 0 3 q 0x0 1 as a" ∷ [], Some (4, 7))
    ∷ (codes "t 0 3 r 0x0 4097 as a" ∷ [], Some (4, 6))
    ∷ (codes "t 0 3 r 0x0 1 at a" ∷ [], Some (4, 4))
    ∷ (codes "t 0 3 r 0x0 1 as A" ∷ [], Some (4, 8))
    ∷ (codes "t 0 3 r 0x0 1 as a" ∷ codes "t 0 3 r 0x0 1 as a" ∷ [], Some (5, 9))
    ∷ (codes "t 0 3 r 0xfffffffffffff 2 as a" ∷ [], Some (4, 6))
    -- judgements
    ∷ (codes "j a" ∷ [], Some (4, 10))
    ∷ (codes "settle a max 4097" ∷ [], Some (4, 10))
    ∷ (codes "t 0 3 r 0x0 1 as a" ∷ codes "settle a max 0" ∷ [], Some (5, 6))
    ∷ (codes "j A" ∷ [], Some (4, 8))
    -- polls and stages
    ∷ (codes "until 0 0x8 0x0 0x1 max 0" ∷ [], Some (4, 6))
    ∷ (codes "through 0 1 3 r 0x0 1 max 1" ∷ [], Some (4, 11))
    -- lines that stand in a wrong place
    ∷ (codes "lane 2" ∷ [], Some (4, 3))
    ∷ (codes "lane x" ∷ [], Some (4, 5))
    ∷ (codes "lane" ∷ [], Some (4, 4))
    ∷ (codes "lane 1 x" ∷ [], Some (4, 4))
    ∷ (codes "lane 2 x" ∷ [], Some (4, 3))
    ∷ (codes "boot" ∷ [], Some (4, 3))
    ∷ (codes "end" ∷ [], Some (5, 3))
    -- lanes
    ∷ (codes "lane 1" ∷ codes "lane 2" ∷ [], None)
    ∷ (codes "lane 1" ∷ codes "lane 1" ∷ [], Some (5, 3))
    ∷ (codes "lane 1" ∷ codes "lane 3" ∷ [], Some (5, 3))
    ∷ (codes "t 0 3 r 0x0 1 as a" ∷ codes "lane 1" ∷ codes "j a" ∷ [], Some (6, 10))
    ∷ []

bad_lines : map (λ row. fault_of row.0) bad_rows ≡ map (λ row. row.1) bad_rows
unfolding digit_of number_of number_at ranged has_keys translation_at shape_at unit_line is_name slot_at with_name unit_at index_at kind_at access_at stage_at stages_at write_at read_at submit_at judge_at settle_at until_at through_at command_at head_step unit_step boot_step end_step lane_step submit_step command_step units_step section_step words_step line_step
bad_lines = refl

-- ---- whole texts, and scripts without a fault

-- the lines of whole texts, and their fault
abbrev bad_texts : List (List (List ℕ) × Option (ℕ × ℕ))
bad_texts =
    ([], Some (1, 2))
    ∷ (codes "# none" ∷ codes " " ∷ [], Some (3, 2))
    ∷ (codes "iopmp 1" ∷ four_requesters ∷ codes "boot" ∷ [], Some (4, 3))
    ∷ (codes "iopmp 1" ∷ codes "unit rrids 65 domains 3 entries 8 mdcfg 0 k 0 srcmd 0 sps 0 queue 1 transl -" ∷ [], Some (2, 6))
    ∷ []

faults_of_texts : map (λ row. bad_of (script_at (text_of row.0))) bad_texts ≡ map (λ row. row.1) bad_texts
unfolding digit_of number_of number_at ranged has_keys translation_at shape_at unit_line is_name slot_at with_name unit_at index_at kind_at access_at stage_at stages_at write_at read_at submit_at judge_at settle_at until_at through_at command_at head_step unit_step boot_step end_step lane_step submit_step command_step units_step section_step words_step line_step
faults_of_texts = refl

abbrev slots_of : Result ScriptOf Bad → Option (List Command × ℕ)
slots_of (Ok script) = Some (script.boot.commands, need_of script)
slots_of (Err bad) = None

-- slots number the submissions of the section
two_slots :
    slots_of (script_at (text_of (codes "iopmp 1" ∷ four_requesters ∷ codes "boot" ∷ codes "t 0 3 r 0 4 as a" ∷ codes "t 0 3 w 0x40 1 as b" ∷ codes "j b" ∷ codes "settle a max 7" ∷ codes "end" ∷ [])))
    ≡ Some (
      Submit 0 (record { rrid = 3; kind = kinds.Read; addr = 0; len = 4 }) 0
          ∷ Submit 0 (record { rrid = 3; kind = kinds.Write; addr = 64; len = 1 }) 1
          ∷ Judge 1
          ∷ Settle 0 7
          ∷ [],
      10,
    )
unfolding digit_of number_of number_at ranged has_keys translation_at shape_at unit_line is_name slot_at with_name unit_at index_at kind_at access_at stage_at stages_at write_at read_at submit_at judge_at settle_at until_at through_at command_at head_step unit_step boot_step end_step lane_step submit_step command_step units_step section_step words_step line_step
two_slots = refl

-- the commands of each lane, and the most events of a run
abbrev lanes_of : Result ScriptOf Bad → Option (List (List Command) × ℕ)
lanes_of (Ok script) = Some (map (λ section. section.commands) script.lanes, need_of script)
lanes_of (Err bad) = None

two_lanes :
    lanes_of (script_at (text_of (codes "iopmp 1" ∷ four_requesters ∷ codes "boot" ∷ codes "lane 1" ∷ codes "t 0 3 r 0 4 as a" ∷ codes "j a" ∷ codes "lane 2" ∷ codes "t 0 3 w 0x40 1 as a" ∷ codes "end" ∷ [])))
    ≡ Some (
      (Submit 0 (record { rrid = 3; kind = kinds.Read; addr = 0; len = 4 }) 0 ∷ Judge 0 ∷ [])
          ∷ (Submit 0 (record { rrid = 3; kind = kinds.Write; addr = 64; len = 1 }) 0 ∷ [])
          ∷ [],
      6,
    )
unfolding digit_of number_of number_at ranged has_keys translation_at shape_at unit_line is_name slot_at with_name unit_at index_at kind_at access_at stage_at stages_at write_at read_at submit_at judge_at settle_at until_at through_at command_at head_step unit_step boot_step end_step lane_step submit_step command_step units_step section_step words_step line_step
two_lanes = refl

-- ---- printed scripts

abbrev printed_lines : List (List ℕ)
printed_lines = codes "iopmp 1" ∷ four_requesters ∷ codes "boot" ∷ codes "w 0 0x30 0x1" ∷ codes "t 0 3 r 0x0 4 as s0" ∷ codes "t 0 3 r 0x0 4 as s1" ∷ codes "j s0" ∷ codes "j s1" ∷ codes "until 0 0x30 0x1 0x0 max 8" ∷ codes "end" ∷ []

abbrev texts_of : Result ScriptOf Bad → List ℕ
texts_of (Ok script) = script_text script
texts_of (Err bad) = []

-- a text without blanks to spare and with these names is the canonical one
printed_again : texts_of (script_at (text_of printed_lines)) ≡ text_of printed_lines
unfolding digits digit_of number_of number_at ranged has_keys translation_at shape_at unit_line is_name slot_at with_name unit_at index_at kind_at access_at stage_at stages_at write_at read_at submit_at judge_at settle_at until_at through_at command_at head_step unit_step boot_step end_step lane_step submit_step command_step units_step section_step words_step line_step
printed_again = refl

-- blanks, comments and other names are gone
printed_canonical :
    texts_of (script_at (text_of (codes "iopmp 1" ∷ codes "# one unit" ∷ four_requesters ∷ codes "boot" ∷ codes " w 0  48 001" ∷ codes "t 0 3 r 0 4 as a" ∷ codes "t 0x0 3 r 0x00 4 as b" ∷ codes "j b" ∷ codes "end" ∷ [])))
    ≡ text_of (codes "iopmp 1" ∷ four_requesters ∷ codes "boot" ∷ codes "w 0 0x30 0x1" ∷ codes "t 0 3 r 0x0 4 as s0" ∷ codes "t 0 3 r 0x0 4 as s1" ∷ codes "j s1" ∷ codes "end" ∷ [])
unfolding digits digit_of number_of number_at ranged has_keys translation_at shape_at unit_line is_name slot_at with_name unit_at index_at kind_at access_at stage_at stages_at write_at read_at submit_at judge_at settle_at until_at through_at command_at head_step unit_step boot_step end_step lane_step submit_step command_step units_step section_step words_step line_step
printed_canonical = refl
