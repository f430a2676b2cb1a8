-- Whose access an event submits or judges, by the list of logged events; 0 where it is nobody's.
use Rattle.std.specs.Prelude.{ℕ, List, Option, Some, None, slice_get}
use Rattle.event_words.specs.declared.event.Event.{Event}
use Rattle.event_words.specs.declared.event.Event.TheVariants.{Submit, Judge, Wide}
use Rattle.event_words.specs.declared.record.LoggedEvent.{LoggedEvent}
use Rattle.event_words.specs.Valid.{IsValidEvent}

abbrev pub submitter : Event → ℕ
submitter (Submit unit caller access) = access.rrid
submitter (Wide unit caller rrid kind len) = rrid
submitter _ = 0

abbrev pub submitter_at : Option LoggedEvent → ℕ
submitter_at None = 0
submitter_at (Some x) = submitter x.event

abbrev pub requester_by : List LoggedEvent → Event → ℕ
requester_by events (Judge unit caller place) = submitter_at (slice_get events place)
requester_by events event = submitter event

abbrev pub HasValidEvent : LoggedEvent → Type 0
HasValidEvent x = IsValidEvent x.event
