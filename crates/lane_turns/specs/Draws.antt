-- The words that draw the turns.
use Rattle.std.specs.Prelude.{ℕ}
use Rattle.rand_core.specs.Pcg32Seed.{pcg32_seed}
use Rattle.rand_pcg.specs.Lcg.{advance}
use Rattle.rand_pcg.specs.Pcg.{multiplier_64, pcg32, pcg32_of_seed}

-- The word of a turn: that of the seed's generator after as many words as turns were given before.
unfoldable pub word_of : ℕ → ℕ → ℕ
word_of seed number = (pcg32 (advance 64 multiplier_64 number (pcg32_of_seed (pcg32_seed 16 seed)))).0
