-- Worked examples of accesses that don't fit one event.
use Rattle.std.proofs.Common.{◌≡◌, ℕ, refl, List, [], ◌∷◌, ◌++◌, map, codes}
use lib.Count
use Rattle.std.specs.Fmt.{digits}
use Rattle.event_words.specs.declared.access.Access.{Access}
use Rattle.event_words.specs.declared.access.Kind.TheVariants.{Read}
use Rattle.event_words.specs.declared.event.Event.{Event}
use Rattle.event_words.specs.declared.reply.Reply.TheVariants.{Value, Passed, Aimed, NoSuch, Verdict}
use Rattle.event_words.specs.declared.reply.Verdict.TheVariants.{Allowed}
use Rattle.event_words.specs.declared.section.Command.{Command}
use Rattle.event_words.specs.declared.section.Command.TheVariants as commands
use Rattle.event_words.specs.Word.{word_of}
use Rattle.event_words.specs.Sections.{SectionOf}
use Rattle.unit_core.specs.Reports.{report_text}
use Rattle.unit_core.proofs.ExampleEvents.{plain_unit, replies, record_of, w, a, wide, j, violation, none, begun, begun_replies, page}

-- ---- on the unit

-- Each caller has an aim of its own. A Wide that would end past 2 ^ 52 finds nothing.
abbrev own_aims : List Event
own_aims = begun ++ a 0 0x10000000000 ∷ a 1 0x20 ∷ wide 0 3 Read 1 ∷ j 5 ∷ []

own_aims_replies : replies plain_unit own_aims ≡ begun_replies ++ Aimed ∷ Aimed ∷ Passed ∷ violation 5 none ∷ []
own_aims_replies = refl

own_aims_record : record_of plain_unit own_aims ≡ 0x53 ∷ 0x0 ∷ 0x40 ∷ 0xffff0003 ∷ []
own_aims_record = refl

past_the_end : replies plain_unit (own_aims ++ a 0 0xfffffffffffff ∷ wide 0 3 Read 2 ∷ []) ≡ begun_replies ++ Aimed ∷ Aimed ∷ Passed ∷ violation 5 none ∷ Aimed ∷ NoSuch ∷ []
past_the_end = refl

-- an aim that was never made is 0
without_an_aim : record_of plain_unit (begun ++ wide 7 3 Read 1 ∷ []) ≡ 0x0 ∷ 0x0 ∷ 0x0 ∷ 0x0 ∷ []
without_an_aim = refl

-- the last byte that an access can name
last_byte : record_of plain_unit (begun ++ a 0 0xfffffffffffff ∷ wide 0 3 Read 1 ∷ j 4 ∷ []) ≡ 0x53 ∷ 0xffffffff ∷ 0x3ffff ∷ 0xffff0003 ∷ []
last_byte = refl

-- an access past 2 ^ 40 in a block of all bytes
past_forty_bits : replies plain_unit (begun ++ w 0x2000 0xffffffff ∷ w 0x2004 0xffffffff ∷ w 0x2008 0x19 ∷ a 0 0xffffffffff ∷ wide 0 3 Read 2 ∷ j 7 ∷ [])
    ≡ begun_replies ++ Value 0xffffffff ∷ Value 0x3ffff ∷ Value 0x19 ∷ Aimed ∷ Passed ∷ Verdict (Allowed 3) ∷ []
unfolding lib.Count.count_trailing_zeros
past_forty_bits = refl

-- ---- words

aim_word : word_of (a 1 0x80000000) ≡ 0xa100000080000000
aim_word = refl

wide_word : word_of (wide 1 3 Read 4096) ≡ 0xc1033ffc00000000
wide_word = refl

-- ---- a report: whole pages, of which the second is read from its second byte on

abbrev read_page : ℕ → ℕ → Command
read_page addr slot = commands.Submit 0 (let x : Access = record { rrid = 3; kind = Read; addr = addr; len = 4096 } in x) slot

abbrev boot : SectionOf
boot = record {
  commands = commands.Write 0 0x200 0x8 ∷ commands.Write 0 0x418 0x2 ∷ commands.Write 0 0x2 0x1 ∷ commands.Write 0 0x800 0x200001ff ∷ commands.Write 0 0x802 0x19
      ∷ read_page 0x80000000 0 ∷ commands.Judge 0 ∷ read_page 0x80000001 1 ∷ commands.Judge 1 ∷ [];
  slots = 2;
}

abbrev pages : List Event
pages = begun ++ page ++ a 0 0x80000000 ∷ wide 0 3 Read 4096 ∷ j 6 ∷ a 0 0x80000001 ∷ wide 0 3 Read 4096 ∷ j 9 ∷ []

whole_pages : report_text (plain_unit ∷ []) boot [] (map word_of pages)
    ≡ codes "events 11\n0 0 w 0 0x800 0x8 = 0x8\n1 0 w 0 0x1060 0x2 = 0x2\n2 0 w 0 0x8 0x1 = 0x2007\n3 0 w 0 0x2000 0x200001ff = 0x200001ff\n4 0 w 0 0x2008 0x19 = 0x19\n5 0 a 0x80000000 = aimed\n6 0 t 0 3 r @ 4096 = passed\n7 0 j 0 6 = allowed 3\n8 0 a 0x80000001 = aimed\n9 0 t 0 3 r @ 4096 = passed\n10 0 j 0 9 = denied 5 - err noirq\nsection 0 done\nunit 0 0x53 0x20000000 0x0 0xffff0003\nend\n"
unfolding digits lib.Count.count_trailing_zeros
whole_pages = refl
