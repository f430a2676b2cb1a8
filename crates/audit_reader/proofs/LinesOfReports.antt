-- Each line of a report ends with its one line feed.
use Rattle.std.proofs.Common.{ℕ, ◌*◌, Bool, true, false, List, [], ◌∷◌, ◌++◌, Some, map, decimal, codes, refl}
use Rattle.std.specs.Prelude.{◌==◌, slice_index}
use Rattle.std.specs.List.{AllByRecursion}
use Rattle.event_words.specs.declared.access.Kind.{Kind}
use Rattle.event_words.specs.declared.access.Kind.TheVariants as kinds
use Rattle.event_words.specs.declared.event.Event.{Event}
use Rattle.event_words.specs.declared.event.Event.TheVariants.{RegWrite, RegRead, Submit, Judge, Aim, Wide}
use Rattle.event_words.specs.declared.reply.Denial.{Denial}
use Rattle.event_words.specs.declared.reply.Reply.{Reply}
use Rattle.event_words.specs.declared.reply.Reply.TheVariants as replies
use Rattle.event_words.specs.declared.reply.Verdict.TheVariants as verdicts
use Rattle.event_words.specs.declared.record.LoggedEvent.{LoggedEvent}
use Rattle.event_words.specs.declared.record.SectionEnd.{SectionEnd}
use Rattle.event_words.specs.declared.record.SectionEnd.TheVariants.{Done, Stopped}
use Rattle.event_words.specs.Events.{caller_of}
use Rattle.event_words.specs.Texts.{hexadecimal, kind_text, event_text, entry_text, quiet_text, irq_text, denial_text, reply_text}
use Rattle.event_words.specs.ReportLines.{count_line, event_line, end_text, section_line, unit_line_of}
use Rattle.audit_reader.proofs.WholeLines.{IsPlain, given, plain_both, plain_choice, decimal_plain, hexadecimal_plain, IsLine, ends, before}

-- a text before a space and another
spaced : (a b : List ℕ) → IsPlain a → IsPlain b → IsPlain (a ++ (codes " " ++ b))
spaced a b p q = plain_both a (codes " " ++ b) p (plain_both (codes " ") b (given _ refl) q)

-- ---- the fields of an event

kind_plain : (k : Kind) → IsPlain (kind_text k)
kind_plain kinds.Read = given _ refl
kind_plain kinds.Write = given _ refl
kind_plain kinds.Fetch = given _ refl

event_plain : (e : Event) → IsPlain (event_text e)
event_plain (RegWrite u c i v) = plain_both (codes "w ") _ (given _ refl) (spaced (decimal u) _ (decimal_plain u) (spaced (hexadecimal (i * 4)) _ (hexadecimal_plain (i * 4)) (hexadecimal_plain v)))
event_plain (RegRead u c i) = plain_both (codes "r ") _ (given _ refl) (spaced (decimal u) _ (decimal_plain u) (hexadecimal_plain (i * 4)))
event_plain (Submit u c a) =
    plain_both (codes "t ") _ (given _ refl) (spaced (decimal u) _ (decimal_plain u) (spaced (decimal a.rrid) _ (decimal_plain a.rrid) (spaced (kind_text a.kind) _ (kind_plain a.kind)
    (spaced (hexadecimal a.addr) _ (hexadecimal_plain a.addr) (decimal_plain a.len)))))
event_plain (Judge u c p) = plain_both (codes "j ") _ (given _ refl) (spaced (decimal u) _ (decimal_plain u) (decimal_plain p))
event_plain (Aim c a) = plain_both (codes "a ") _ (given _ refl) (hexadecimal_plain a)
event_plain (Wide u c s k n) =
    plain_both (codes "t ") _ (given _ refl) (spaced (decimal u) _ (decimal_plain u) (spaced (decimal s) _ (decimal_plain s)
    (plain_both (kind_text k) _ (kind_plain k) (plain_both (codes " @ ") _ (given _ refl) (decimal_plain n)))))

-- ---- the fields of a reply

quiet_plain : (b : Bool) → IsPlain (quiet_text b)
quiet_plain true = given _ refl
quiet_plain false = given _ refl

irq_plain : (b : Bool) → IsPlain (irq_text b)
irq_plain true = given _ refl
irq_plain false = given _ refl

denial_plain : (d : Denial) → IsPlain (denial_text d)
denial_plain d =
    spaced (decimal d.kind) _ (decimal_plain d.kind) (spaced (entry_text d.entry) _ (plain_choice (d.entry == 0xFFFF) (codes "-") (decimal d.entry) (given _ refl) (decimal_plain d.entry))
    (spaced (quiet_text d.quiet) _ (quiet_plain d.quiet) (irq_plain d.irq)))

reply_plain : (r : Reply) → IsPlain (reply_text r)
reply_plain (replies.Value value) = hexadecimal_plain value
reply_plain replies.Passed = given _ refl
reply_plain replies.Queued = given _ refl
reply_plain replies.Busy = given _ refl
reply_plain (replies.Stalled d) = plain_both (codes "stalled ") _ (given _ refl) (denial_plain d)
reply_plain (replies.Verdict (verdicts.Allowed next)) = plain_both (codes "allowed ") _ (given _ refl) (decimal_plain next)
reply_plain (replies.Verdict (verdicts.Denied d)) = plain_both (codes "denied ") _ (given _ refl) (denial_plain d)
reply_plain replies.Held = given _ refl
reply_plain replies.NoSuch = given _ refl
reply_plain replies.Aimed = given _ refl

-- ---- lines

-- a text and a space before the rest of a line
space_before : (text line : List ℕ) → IsPlain text → IsLine line → IsLine (text ++ (codes " " ++ line))
space_before text line p l = before text (codes " " ++ line) p (before (codes " ") line (given _ refl) l)

pub event_is_line : (x : LoggedEvent) → IsLine (event_line x)
event_is_line x =
    space_before (decimal x.place) _ (decimal_plain x.place) (space_before (decimal (caller_of x.event)) _ (decimal_plain (caller_of x.event))
    (before (event_text x.event) _ (event_plain x.event) (before (codes " = ") _ (given _ refl) (before (reply_text x.reply) _ (reply_plain x.reply) ends))))

pub events_are_lines : (xs : List LoggedEvent) → AllByRecursion IsLine (map event_line xs)
events_are_lines [] = tt
events_are_lines (x ∷ xs) = (event_is_line x, events_are_lines xs)

pub count_is_line : (n : ℕ) → IsLine (count_line n)
count_is_line n = before (codes "events ") _ (given _ refl) (before (decimal n) _ (decimal_plain n) ends)

end_plain : (end : SectionEnd) → IsPlain (end_text end)
end_plain Done = given _ refl
end_plain Stopped = given _ refl

pub section_is_line : (i : ℕ) (end : SectionEnd) → IsLine (section_line i (Some end))
section_is_line i end = before (codes "section ") _ (given _ refl) (space_before (decimal i) _ (decimal_plain i) (before (end_text end) _ (end_plain end) ends))

pub unit_is_line : (u : ℕ) (words : List ℕ) → IsLine (unit_line_of u words)
unit_is_line u words =
    before (codes "unit ") _ (given _ refl) (space_before (decimal u) _ (decimal_plain u) (space_before (hexadecimal (slice_index words 0)) _ (hexadecimal_plain (slice_index words 0))
    (space_before (hexadecimal (slice_index words 1)) _ (hexadecimal_plain (slice_index words 1)) (space_before (hexadecimal (slice_index words 2)) _ (hexadecimal_plain (slice_index words 2))
    (before (hexadecimal (slice_index words 3)) _ (hexadecimal_plain (slice_index words 3)) ends)))))

pub last_is_line : IsLine (codes "end\n")
last_is_line = record { body = codes "end"; plain = given _ refl; is = refl }
