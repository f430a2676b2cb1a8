-- The summary of a generated script's run: how many verdicts it has, and how many of each code.
use Rattle.std.specs.Prelude.{ℕ, ◌==◌, Bool, List, [], ◌∷◌, ◌++◌, Option, Some, None, length, map, flat_map, filter_map, count_by, codes}
use Rattle.std.specs.List.{range_with_len}
use Rattle.std.specs.Fmt.{decimal}
use Rattle.event_words.specs.declared.access.Access.{Access}
use Rattle.event_words.specs.declared.reply.Reply.{Reply}
use Rattle.event_words.specs.declared.reply.Reply.TheVariants.{Verdict}
use Rattle.event_words.specs.declared.record.LoggedEvent.{LoggedEvent}
use Rattle.event_words.specs.declared.section.Command.{Command}
use Rattle.event_words.specs.declared.section.Command.TheVariants.{Submit}
use Rattle.event_words.specs.Registers.{Registers, at_reset}
use Rattle.event_words.specs.Decisions.{decision}
use Rattle.event_words.specs.Sections.{SectionOf}
use Rattle.policy_compiler.specs.Laws.{after_writes, kind_of}
use Rattle.history_laws.specs.Live.{kind_of_verdict}
use Rattle.script_reader.specs.Scripts.{ScriptOf}
use Rattle.script_generator.specs.GeneratedScripts.{generated_shape, boot_writes, generated_script}

-- ---- a list of codes, told

abbrev pub is_code : ℕ → ℕ → Bool
is_code code other = other == code

abbrev pub denied_line : List ℕ → ℕ → List ℕ
denied_line all code = codes "denied " ++ (decimal code ++ (codes " " ++ (decimal (count_by (is_code code) all) ++ codes "\n")))

-- a line for each code of a violation
unfoldable pub denied_lines : List ℕ → List ℕ
denied_lines all = flat_map (denied_line all) (range_with_len 1 7)

-- The summary of verdicts with these codes, 0 where one allows, else the violation's code.
abbrev pub summary_text : ℕ → List ℕ → List ℕ
summary_text number all =
    codes "soak " ++ (decimal number ++ (codes "\nverdicts " ++ (decimal (length all) ++ (codes "\nallowed " ++ (decimal (count_by (is_code 0) all) ++ (codes "\n" ++ (denied_lines all ++ codes "end\n")))))))

-- ---- the codes of a history

abbrev pub reply_code : Reply → Option ℕ
reply_code (Verdict verdict) = Some (kind_of_verdict verdict)
reply_code _ = None

abbrev pub entry_code : LoggedEvent → Option ℕ
entry_code x = reply_code x.reply

-- The codes of a history's verdicts, in their order.
abbrev pub verdict_codes : List LoggedEvent → List ℕ
verdict_codes events = filter_map entry_code events

-- ---- the codes that the tables decide

-- the access that a command submits, if it does
abbrev pub submitted : Command → List Access
submitted (Submit unit access slot) = access ∷ []
submitted _ = []

abbrev pub lane_accesses : SectionOf → List Access
lane_accesses lane = flat_map submitted lane.commands

-- the accesses of a script's lanes
abbrev pub accesses_of : ScriptOf → List Access
accesses_of script = flat_map lane_accesses script.lanes

-- The registers after the boot section of a generated script.
unfoldable pub generated_registers : Registers
generated_registers = after_writes (at_reset generated_shape) boot_writes

abbrev pub decided_code : Access → ℕ
decided_code access = kind_of (decision generated_registers access)

-- What these registers decide on each access of the script of a number.
abbrev pub decided_codes : ℕ → List ℕ
decided_codes number = map decided_code (accesses_of (generated_script number))

-- What `soak` prints for a number: it speaks of no history, so it is the same at each run.
unfoldable pub soak_text : ℕ → List ℕ
soak_text number = summary_text number (decided_codes number)
