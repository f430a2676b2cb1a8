-- Whether the bytes so far may stand in a text.
use Rattle.std.proofs.Common.{◌≡◌, take}
use Rattle.std.specs.List.{list_all}
use Rattle.script_reader.specs.Text.{is_plain_or_feed}
use Rattle.script_reader.proofs.text.is_plain_text.Given as goal

abbrev pub invariant-loop-byte : goal.invariant-loop-byte
invariant-loop-byte l = l.plain ≡ list_all is_plain_or_feed (take l.byte-index l.text)
