-- What one stage of a chain does: its submission, and the judgements of it.
use Rattle.std.specs.Prelude.{◌≡◌, ℕ, ◌+◌, ◌≤◌, ◌⊎◌, Bool, true, false, List, [], ◌∷◌, ◌++◌, length, Option, Some, None, Result, Ok, Err, count_by}
use Rattle.std.specs.List.{list_all}
use Rattle.event_words.specs.declared.access.Access.{Access}
use Rattle.event_words.specs.declared.event.Event.{Event}
use Rattle.event_words.specs.declared.event.Event.TheVariants as events
use Rattle.event_words.specs.declared.reply.Reply.{Reply}
use Rattle.event_words.specs.declared.reply.Reply.TheVariants as replies
use Rattle.event_words.specs.declared.record.LoggedEvent.{LoggedEvent}
use Rattle.event_words.specs.Sections.{submission_events}
use Rattle.event_words.specs.Records.{is_aimed, judgements, one_stage, stage_following, wide_event}
use Rattle.event_words.specs.Valid.{is_narrow}
use Rattle.shared_log.specs.Callers.{CallerView}
use Rattle.cascade_path.specs.declared.chain.ChainReply.{ChainReply}
use Rattle.cascade_path.specs.declared.chain.ChainReply.TheVariants.{Allowed, Odd, Open}
use Rattle.cascade_path.specs.Making.{MakesEvents}
use Rattle.cascade_path.specs.Answers.{event_answer, is_beginning}

-- the requester that a next stage bears
abbrev pub allowed_next : ChainReply → Option ℕ
allowed_next (Allowed next) = Some next
allowed_next _ = None

-- A stage goes on after an Aim, after a submission that was taken and after a judgement that replied Held.
abbrev pub is_undecided : Option ChainReply → Bool
is_undecided None = true
is_undecided (Some (Open stage place)) = true
is_undecided _ = false

abbrev pub waits : LoggedEvent → Bool
waits x = is_undecided (event_answer 0 x)

-- ---- the events of a submission

-- A narrow access is submitted by its last event alone.
pub record IsNarrowSubmission (unit caller : ℕ) (access : Access) (before : List LoggedEvent) (last : LoggedEvent) : Type 0 where
  pub narrow : is_narrow access ≡ true
  pub alone : before ≡ []
  pub event : last.event ≡ events.Submit unit caller access

-- Any other access is submitted by a Wide, after an Aim of its address that is replied so.
pub record IsWideSubmission (unit caller : ℕ) (access : Access) (before : List LoggedEvent) (last : LoggedEvent) : Type 0 where
  pub wide : is_narrow access ≡ false
  pub aim : LoggedEvent
  pub after_aim : before ≡ aim ∷ []
  pub aims : aim.event ≡ events.Aim caller access.addr
  pub aimed : aim.reply ≡ replies.Aimed
  pub event : last.event ≡ wide_event unit caller access

-- The last event of a submission, and what comes before it.
abbrev pub IsSubmission : ℕ → ℕ → Access → List LoggedEvent → LoggedEvent → Type 0
IsSubmission unit caller access before last =
    IsNarrowSubmission unit caller access before last ⊎ IsWideSubmission unit caller access before last

-- An Aim of the access's address that is replied otherwise. Nothing follows it.
pub record IsRefusedAim (caller : ℕ) (access : Access) (x : LoggedEvent) : Type 0 where
  pub wide : is_narrow access ≡ false
  pub aims : x.event ≡ events.Aim caller access.addr
  pub refused : is_aimed x.reply ≡ false

module _ {M S : Type 0} (after : S → ℕ → ℕ → S) (reply : S → ℕ → ℕ → Reply) where
  -- A submission, and the reply to its last event, which stands last in the log.
  pub record Submits (c : CallerView M S) (unit : ℕ) (access : Access) (r : Reply) (d : CallerView M S) : Type 0 where
    pub before : List LoggedEvent
    pub last : LoggedEvent
    pub adds : MakesEvents after reply c (before ++ last ∷ []) d
    pub is : IsSubmission unit c.number access before last
    pub place : last.place + 1 ≡ length d.log
    pub replied : last.reply ≡ r

  -- An Aim that was refused, which is odd at this stage.
  pub record MissesAim (c : CallerView M S) (stage : ℕ) (access : Access) (answer : ChainReply) (d : CallerView M S) : Type 0 where
    pub aim : LoggedEvent
    pub adds : MakesEvents after reply c (aim ∷ []) d
    pub is : IsRefusedAim c.number access aim
    pub decides : answer ≡ Odd stage aim.reply

  abbrev pub SubmitsOrMisses : CallerView M S → ℕ → ℕ → Access → Result Reply ChainReply → CallerView M S → Type 0
  SubmitsOrMisses c stage unit access (Ok r) d = Submits c unit access r d
  SubmitsOrMisses c stage unit access (Err answer) d = MissesAim c stage access answer d

  -- Up to `max` judgements of a submission, and the reply to the last of them.
  pub record JudgesUntil (c : CallerView M S) (event : Event) (max : ℕ) (last : Reply) (d : CallerView M S) : Type 0 where
    pub made : List LoggedEvent
    pub adds : MakesEvents after reply c made d
    pub few : length made ≤ max
    pub record_is : (rest : List LoggedEvent) → judgements max event (made ++ rest) ≡ Some (last, rest)

  -- The events of one stage, of which the last decides.
  pub record PassesStage (c : CallerView M S) (stage unit : ℕ) (access : Access) (tries : ℕ) (answer : ChainReply) (d : CallerView M S) : Type 0 where
    pub earlier : List LoggedEvent
    pub last : LoggedEvent
    pub adds : MakesEvents after reply c (earlier ++ last ∷ []) d
    pub few : length earlier + 1 ≤ submission_events access + tries
    pub record_is : (go : ℕ → List LoggedEvent → Option (List LoggedEvent)) (rest : List LoggedEvent)
        → one_stage c.number tries unit access go ((earlier ++ last ∷ []) ++ rest) ≡ stage_following go (allowed_next answer) rest
    pub beginnings : count_by is_beginning (earlier ++ last ∷ []) ≡ 1
    pub waiting : list_all waits earlier ≡ true
    pub decided : event_answer stage last ≡ Some answer
