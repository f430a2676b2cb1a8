-- The lines of a report, each with its line feed.
use Rattle.std.specs.Prelude.{ℕ, List, [], ◌++◌, Option, Some, None, codes, slice_index}
use Rattle.std.specs.Fmt.{decimal}
use Rattle.event_words.specs.declared.event.Event.{Event}
use Rattle.event_words.specs.declared.record.LoggedEvent.{LoggedEvent}
use Rattle.event_words.specs.declared.record.SectionEnd.{SectionEnd}
use Rattle.event_words.specs.declared.record.SectionEnd.TheVariants.{Done, Stopped}
use Rattle.event_words.specs.declared.reply.Reply.{Reply}
use Rattle.event_words.specs.Events.{caller_of}
use Rattle.event_words.specs.Texts.{hexadecimal, event_text, reply_text}

-- The first line: how many events there are.
abbrev pub count_line : ℕ → List ℕ
count_line count = codes "events " ++ (decimal count ++ codes "\n")

-- what stands behind the place of an event
abbrev pub event_end : Event → Reply → List ℕ
event_end e reply =
    codes " " ++ (decimal (caller_of e) ++ (codes " " ++ (event_text e ++ (codes " = " ++ (reply_text reply ++ codes "\n")))))

-- `place caller event = reply`
abbrev pub event_line : LoggedEvent → List ℕ
event_line x = decimal x.place ++ event_end x.event x.reply

abbrev pub end_text : SectionEnd → List ℕ
end_text Done = codes "done"
end_text Stopped = codes "stopped"

-- The line of a section that ended. One that didn't has none.
abbrev pub section_line : ℕ → Option SectionEnd → List ℕ
section_line i None = []
section_line i (Some end) = codes "section " ++ (decimal i ++ (codes " " ++ (end_text end ++ codes "\n")))

-- A unit's line by its four error registers: ERR_INFO, ERR_REQADDR, ERR_REQADDRH and ERR_REQID.
abbrev pub unit_line_of : ℕ → List ℕ → List ℕ
unit_line_of u words =
    codes "unit " ++ (decimal u ++ (codes " " ++ (hexadecimal (slice_index words 0) ++ (codes " " ++ (hexadecimal (slice_index words 1) ++ (codes " " ++ (hexadecimal (slice_index words 2) ++ (codes " " ++ (hexadecimal (slice_index words 3) ++ codes "\n")))))))))
