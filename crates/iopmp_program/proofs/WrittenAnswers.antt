-- An answer that is written ends the call.
use Rattle.std.proofs.Common.{◌≡◌, ℕ, ◌⊎◌, List, Option, sym, subst, ◌∙◌, inl, inr}
use Rattle.command_answers.specs.declared.status.Status.{Status}
use Rattle.command_answers.specs.declared.status.Status.TheVariants.{Done, NotLegal}
use Rattle.command_answers.specs.declared.subcommand.Subcommand.{Subcommand}
use Rattle.command_answers.specs.CommandTables.{Gives}
use Rattle.command_answers.proofs.GivenStatuses.{given_status}
use Rattle.iopmp_program.specs.CallEndings.{Change, WasWritten, IsInput, IsGiven, EndsCommand, LeavesSink}
use Rattle.iopmp_program.specs.StreamEdges.{Writes, WritesOrStops}

module _ (command : Subcommand) (source sink : Change) (status : Status) (told : Option (List ℕ)) (bytes text : List ℕ) (s : Status) (h : Option (List ℕ))
    (input : IsInput command source bytes) (gives : Gives command bytes status told text) where
  given : IsGiven command source status told text
  given = (bytes, input, gives)

  -- the whole text was written, with this good status
  as_good : (good : Status) → status ≡ good → Writes sink status told text s h → (text : List ℕ) × IsGiven command source good h text × WasWritten sink text
  as_good good e w = (text, subst (λ x. IsGiven command source x h text) e (subst (λ x. IsGiven command source status x text) (sym w.history_is) given), w.written)

  pub ends_given : WritesOrStops sink status told text s h → EndsCommand command source sink s h
  ends_given (inr f) = subst (λ x. EndsCommand command source sink x h) (sym f.status_is) (f.none, f.failed, (text, inl (status, told, given), f.written))
  ends_given (inl w) = by (given_status command bytes status told text gives)
    where
      by : (status ≡ Done) ⊎ (status ≡ NotLegal) → EndsCommand command source sink s h
      by (inl e) = subst (λ x. EndsCommand command source sink x h) (sym (w.status_is ∙ e)) (as_good Done e w)
      by (inr e) = subst (λ x. EndsCommand command source sink x h) (sym (w.status_is ∙ e)) (as_good NotLegal e w)

  -- so the sink isn't left as it was
  pub leaves_none : WritesOrStops sink status told text s h → LeavesSink s → ⊥
  leaves_none (inr f) l = subst LeavesSink f.status_is l
  leaves_none (inl w) l = by (given_status command bytes status told text gives)
    where
      by : (status ≡ Done) ⊎ (status ≡ NotLegal) → ⊥
      by (inl e) = subst LeavesSink (w.status_is ∙ e) l
      by (inr e) = subst LeavesSink (w.status_is ∙ e) l
