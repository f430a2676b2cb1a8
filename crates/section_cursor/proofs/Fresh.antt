-- One fresh cursor more.
use Rattle.std.proofs.Common.{◌≡◌, ℕ, ◌+◌, ◌++◌, List, [], ◌∷◌, length, subst, arith}
use Rattle.event_words.specs.Sections.{SectionOf}
use Rattle.section_cursor.specs.Cursors.{CursorOf}
use Rattle.section_cursor.specs.Fresh.{IsFresh, AreFresh}

pub fresh_more : (cs : List CursorOf) (ss : List SectionOf) (i j : ℕ) (c : CursorOf) (s : SectionOf) → j ≡ i + length cs → AreFresh i cs ss → IsFresh j s c → AreFresh i (cs ++ c ∷ []) (ss ++ s ∷ [])
fresh_more [] [] i j c s h f n = (subst (λ k. IsFresh k s c) (let e : j ≡ i = omega (arith, h) in e) n, tt)
fresh_more (b ∷ cs) (r ∷ ss) i j c s h f n = (f.0, fresh_more cs ss (i + 1) j c s (omega (arith, h)) f.1 n)
fresh_more [] (r ∷ ss) i j c s h f n = absurd f
fresh_more (b ∷ cs) [] i j c s h f n = absurd f
