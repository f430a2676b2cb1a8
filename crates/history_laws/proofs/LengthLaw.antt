-- No whole record is longer than the most events of its section.
use Rattle.event_words.proofs.RecordLengths.{record_length}
use Rattle.history_laws.specs.Lengths.{LawLengths}

pub law_lengths : LawLengths
law_lengths caller section xs = record_length caller section xs
