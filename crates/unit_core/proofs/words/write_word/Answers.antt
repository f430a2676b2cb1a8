use Rattle.std.proofs.Common.{sym, ap, ◌∙◌}
use Rattle.std.specs.Prelude.{List, Option}
use Rattle.event_words.specs.declared.event.Event.{Event}
use Rattle.unit_core.specs.Places.{states_of}
use Rattle.unit_core.specs.Units.{UnitState, decoded_step}
use Rattle.unit_core.proofs.words.write_word.Goals as goal

pub returns-clause-taken : goal.returns-clause-taken
returns-clause-taken c = λ p aims kept agrees valid.
    let t = c.write_on.ensures.taken kept p c.unpack_write-said.result.caller agrees in
    record {
      agrees = t.agrees;
      all_valid = valid;
      state =
          ap (λ (o : Option Event). (decoded_step p (record { units = states_of 0 c.args.units.now kept; aims = aims }) o).0) c.unpack_write-said.ensures
          ∙ ap (λ (us : List UnitState). record { units = us; aims = aims }) (sym t.state);
    }
