-- The lines of late violations, in numbers.
use Rattle.std.proofs.Common.{◌≡◌, ℕ, ◌++◌, List, [], ◌∷◌, None, map, codes, refl, false}
use Rattle.std.specs.Fmt.{digits}
use Rattle.event_words.specs.declared.shape.Shape.{Shape}
use Rattle.event_words.specs.declared.access.Access.{Access}
use Rattle.event_words.specs.declared.access.Kind.{Kind}
use Rattle.event_words.specs.declared.access.Kind.TheVariants.{Read, Write}
use Rattle.event_words.specs.declared.event.Event.{Event}
use Rattle.event_words.specs.declared.event.Event.TheVariants.{RegWrite, RegRead, Submit, Judge}
use Rattle.event_words.specs.Word.{word_of}
use Rattle.fault_windows.specs.Windows.{pending_after, window_bits}
use Rattle.fault_windows.proofs.Examples.{small, byte_at, opening}
use Rattle.history_reports.specs.WindowLines.{windows_text}

abbrev twice : List ℕ
twice = map word_of (opening ++ Submit 0 0 (byte_at 3 Read 0x10) ∷ Judge 0 0 3 ∷ Submit 0 0 (byte_at 3 Write 0x20) ∷ Judge 0 0 5 ∷ RegRead 0 0 29 ∷ RegRead 0 0 29 ∷ [])

twice_lines : windows_text (small ∷ []) twice ≡ codes "7 0 mfr 0 0 0x8\n8 0 mfr 0 -\nleft 0 0\nend\n"
unfolding digits pending_after window_bits
twice_lines = refl

abbrev turns : List ℕ
turns = map word_of (opening ++ Submit 0 0 (byte_at 40 Read 0) ∷ Judge 0 0 3 ∷ Submit 0 0 (byte_at 40 Read 0) ∷ Judge 0 0 5 ∷ Submit 0 0 (byte_at 3 Read 0) ∷ Judge 0 0 7 ∷ RegRead 0 0 29 ∷ RegRead 0 0 29 ∷ RegRead 0 0 29 ∷ [])

turns_lines : windows_text (small ∷ []) turns ≡ codes "9 0 mfr 0 0 0x8\n10 0 mfr 0 2 0x100\n11 0 mfr 0 -\nleft 0 0\nend\n"
unfolding digits pending_after window_bits
turns_lines = refl
