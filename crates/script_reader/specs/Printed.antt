-- The canonical text of a script.
use Rattle.std.specs.Prelude.{ℕ, ◌+◌, ◌*◌, nat_lt, Bool, true, false, List, [], ◌∷◌, ◌++◌, codes, None, Some, slice_index}
use Rattle.std.specs.declared.option.Option.{Option}
use Rattle.std.specs.Fmt.{decimal}
use Rattle.event_words.specs.declared.event.Event.TheVariants as events
use Rattle.event_words.specs.declared.section.Stages.{Stages}
use Rattle.event_words.specs.declared.section.Command.{Command}
use Rattle.event_words.specs.declared.section.Command.TheVariants.{Write, Read, Submit, Judge, Settle, Until, Through}
use Rattle.event_words.specs.declared.shape.Shape.{Shape}
use Rattle.event_words.specs.Sections.{SectionOf}
use Rattle.event_words.specs.Texts.{hexadecimal, event_text, access_text}
use Rattle.script_reader.specs.Scripts.{ScriptOf}

-- ---- units

abbrev pub translation_text : Option ℕ → List ℕ
translation_text None = codes "-"
translation_text (Some rrid) = decimal rrid

abbrev pub sps_number : Bool → ℕ
sps_number true = 1
sps_number false = 0

abbrev pub sizes_text : Shape → List ℕ
sizes_text h =
    codes "unit rrids " ++ (decimal h.rrids ++ (codes " domains " ++ (decimal h.domains ++ (codes " entries " ++ decimal h.entries))))

abbrev pub tables_text : Shape → List ℕ
tables_text h = codes " mdcfg " ++ (decimal h.mdcfg ++ (codes " k " ++ (decimal h.k ++ (codes " srcmd " ++ decimal h.srcmd))))

abbrev pub requests_text : Shape → List ℕ
requests_text h = codes " sps " ++ (decimal (sps_number h.sps) ++ (codes " queue " ++ (decimal h.queue ++ (codes " transl " ++ translation_text h.transl))))

abbrev pub unit_text : Shape → List ℕ
unit_text h = sizes_text h ++ (tables_text h ++ (requests_text h ++ codes "\n"))

abbrev pub unit_texts : List Shape → List ℕ
unit_texts [] = []
unit_texts (shape ∷ shapes) = unit_text shape ++ unit_texts shapes

-- ---- commands: a submission's name is `s` and its slot

-- the unit of a stage that stands
abbrev pub stage_text : Bool → ℕ → List ℕ
stage_text true unit = codes " " ++ decimal unit
stage_text false unit = []

abbrev pub nth_stage_text : Stages → ℕ → List ℕ
nth_stage_text stages i = stage_text (nat_lt i stages.count) (slice_index stages.units i)

-- Register accesses are written as their events are.
abbrev pub command_text : Command → List ℕ
command_text (Write unit index value) = event_text (events.RegWrite unit 0 index value) ++ codes "\n"
command_text (Read unit index) = event_text (events.RegRead unit 0 index) ++ codes "\n"
command_text (Submit unit access slot) =
    codes "t " ++ (decimal unit ++ (codes " " ++ (access_text access ++ (codes " as s" ++ (decimal slot ++ codes "\n")))))
command_text (Judge slot) = codes "j s" ++ (decimal slot ++ codes "\n")
command_text (Settle slot max) = codes "settle s" ++ (decimal slot ++ (codes " max " ++ (decimal max ++ codes "\n")))
command_text (Until unit index mask value max) =
    codes "until " ++ (decimal unit ++ (codes " " ++ (hexadecimal (index * 4) ++ (codes " " ++ (hexadecimal mask ++ (codes " " ++ (hexadecimal value ++ (codes " max " ++ (decimal max ++ codes "\n")))))))))
command_text (Through stages access max) =
    codes "through" ++ (nth_stage_text stages 0 ++ (nth_stage_text stages 1 ++ (nth_stage_text stages 2 ++ (nth_stage_text stages 3
    ++ (codes " " ++ (access_text access ++ (codes " max " ++ (decimal max ++ codes "\n"))))))))

abbrev pub command_texts : List Command → List ℕ
command_texts [] = []
command_texts (command ∷ commands) = command_text command ++ command_texts commands

-- ---- a script

abbrev pub lane_text : ℕ → SectionOf → List ℕ
lane_text n lane = codes "lane " ++ (decimal n ++ (codes "\n" ++ command_texts lane.commands))

-- lanes from a number on
abbrev pub lane_texts : ℕ → List SectionOf → List ℕ
lane_texts n [] = []
lane_texts n (lane ∷ lanes) = lane_text n lane ++ lane_texts (n + 1) lanes

-- One space between words, no comments, and a line feed at the end of each line.
abbrev pub script_text : ScriptOf → List ℕ
script_text script =
    codes "iopmp 1\n" ++ (unit_texts script.shapes ++ (codes "boot\n" ++ (command_texts script.boot.commands ++ (lane_texts 1 script.lanes ++ codes "end\n"))))
