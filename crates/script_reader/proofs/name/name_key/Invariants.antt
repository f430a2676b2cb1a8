-- The number so far and the bytes that are left write what all the bytes write, and so far all are letters or digits.
use Rattle.std.proofs.Common.{◌≡◌, ◌<◌, ◌^◌, drop}
use Rattle.std.specs.List.{list_all}
use Rattle.script_reader.specs.Names.{is_letter_or_digit, key_after, key_of}
use Rattle.script_reader.proofs.name.name_key.Given as goal

abbrev pub invariant-loop-byte : goal.invariant-loop-byte
invariant-loop-byte l =
    (key_after l.key (drop l.byte-index l.word) ≡ key_of l.word)
    × (list_all is_letter_or_digit (drop l.byte-index l.word) ≡ list_all is_letter_or_digit l.word)
    × (l.key < 256 ^ l.byte-index)
