use Rattle.decoded_tables.proofs.decoded.Decoded.decide_uncounted.Given as goal

abbrev pub ghosts-decide_for : goal.ghosts-decide_for
ghosts-decide_for a = record { name = a.blank.name; parts = a.blank.parts }
