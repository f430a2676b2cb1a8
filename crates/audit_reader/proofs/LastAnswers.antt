-- What the audit of the lines answers, by what its parts answered.
use Rattle.std.proofs.Common.{◌≡◌, ℕ, ◌+◌, ◌<◌, ◌≤◌, Bool, true, false, List, ◌∷◌, ◌++◌, Option, None, Some, length, codes, sym, subst}
use Rattle.section_cursor.specs.Cursors.{CursorOf}
use Rattle.unit_core.specs.Units.{FabricState}
use Rattle.script_reader.specs.Scripts.{ScriptOf, need_of}
use Rattle.script_reader.specs.ReportTexts.{fed_lines}
use Rattle.audit_reader.specs.Audits.{IsLegalReport}
use Rattle.audit_reader.specs.ReportLines.{error_lines}
use Rattle.audit_reader.specs.Following.{EventsAnswer, IsFound}
use Rattle.audit_reader.specs.LastLines.{Come, cursor_lines}
use Rattle.audit_reader.proofs.WholeReports.{bad_end, bad_unit, bad_last, too_long, all_good}

-- the lines of the events are right
module _ (script : ScriptOf) (bytes : List ℕ) (count : ℕ) (state : FabricState) (cs : List CursorOf) (left : List ℕ) (most : need_of script ≤ 1048576)
    (event : Option ℕ) (no_event : event ≡ None) (events : EventsAnswer event script bytes count state cs left) where
  are_read : EventsAnswer None script bytes count state cs left
  are_read = subst (λ (o : Option ℕ). EventsAnswer o script bytes count state cs left) no_event events

  pub end_found : (second : List ℕ) (end : Option ℕ) (number : ℕ) → end ≡ Some number → Come end (cursor_lines 0 cs) left second → IsFound script bytes (count + 2 + number)
  end_found second end number is come =
      bad_end script bytes count are_read.0 state cs left are_read.2 are_read.1 most number (subst (λ (o : Option ℕ). Come o (cursor_lines 0 cs) left second) is come)

  -- and those of the ends
  module _ (second : List ℕ) (end : Option ℕ) (no_end : end ≡ None) (ends : Come end (cursor_lines 0 cs) left second) where
    ends_come : fed_lines left ≡ cursor_lines 0 cs ++ fed_lines second
    ends_come = subst (λ (o : Option ℕ). Come o (cursor_lines 0 cs) left second) no_end ends

    pub unit_found : (third : List ℕ) (unit : Option ℕ) (number : ℕ) → unit ≡ Some number → Come unit (error_lines 0 state.units) second third → IsFound script bytes (count + 2 + (length cs + number))
    unit_found third unit number is come =
        bad_unit script bytes count are_read.0 state cs left are_read.2 are_read.1 most number second ends_come (subst (λ (o : Option ℕ). Come o (error_lines 0 state.units) second third) is come)

    -- and those of the units
    module _ (third : List ℕ) (unit : Option ℕ) (no_unit : unit ≡ None) (errors : Come unit (error_lines 0 state.units) second third) (units : ℕ) (many : units ≡ length state.units) where
      errors_come : fed_lines second ≡ error_lines 0 state.units ++ fed_lines third
      errors_come = subst (λ (o : Option ℕ). Come o (error_lines 0 state.units) second third) no_unit errors

      pub last_found : (is_next : Bool) → is_next ≡ false → ((rest : List (List ℕ)) → fed_lines third ≡ codes "end\n" ∷ rest → is_next ≡ true) → IsFound script bytes (count + 2 + (length cs + units))
      last_found is_next other next =
          subst (λ n. IsFound script bytes (count + 2 + (length cs + n))) (sym many)
          (bad_last script bytes count are_read.0 state cs left are_read.2 are_read.1 most second third ends_come errors_come (λ rest h. let t = next rest h in cc))

      pub more_found : (fourth : List ℕ) → fed_lines third ≡ codes "end\n" ∷ fed_lines fourth → 0 < length fourth → IsFound script bytes (count + 2 + (length cs + units + 1))
      more_found fourth last more =
          subst (λ n. IsFound script bytes (count + 2 + (length cs + n + 1))) (sym many)
          (too_long script bytes count are_read.0 state cs left are_read.2 are_read.1 most second third fourth ends_come errors_come last more)

      pub none_found : (fourth : List ℕ) → fed_lines third ≡ codes "end\n" ∷ fed_lines fourth → length fourth ≡ 0 → IsLegalReport script bytes
      none_found fourth last none = all_good script bytes count are_read.0 state cs left are_read.2 are_read.1 second third fourth ends_come errors_come last none
