-- The units of the tests.
use Rattle.std.specs.Prelude.{None, false, [], ◌∷◌}
use Rattle.event_words.specs.declared.shape.Shape.{Shape}
use Rattle.unit_core.specs.Units.{FabricState, fabric_at_reset}

abbrev pub trial_shape : Shape
trial_shape = record { rrids = 4; domains = 3; entries = 8; mdcfg = 0; k = 0; srcmd = 0; sps = false; queue = 1; transl = None }

-- one unit of that shape, at reset
abbrev pub trial_state : FabricState
trial_state = fabric_at_reset (trial_shape ∷ [])
