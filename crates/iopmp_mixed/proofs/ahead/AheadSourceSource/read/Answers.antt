-- The bytes that were copied are the first of those that were taken.
use Rattle.std.proofs.Common.{◌≡◌, ℕ, ◌+◌, ◌-◌, ◌<◌, List, ◌++◌, Option, length, take, drop, sym, ap, ◌∙◌, subst, arith, take-append-drop}
use Rattle.std.proofs.Math.ListN.{length-take}
use Rattle.std.proofs.lemmas.List.{take_at, drop-drop}
use Rattle.std.proofs.KnownBytes.{Keeps-refl, prepend_known-read}
use Rattle.std.specs.Io.KnownBytes.{Consumes, prepend_known}
use Rattle.iopmp_mixed.specs.Aheads.{AheadView, left_of}
use Rattle.iopmp_mixed.proofs.ahead.AheadSourceSource.read.Goals as goal

splits : (items shown copied rest : List ℕ) (at n : ℕ) → shown ≡ items → copied ≡ take ((at + n) - at) (drop at shown) → length copied ≡ n
    → drop at items ≡ take n (copied ++ rest) ++ drop (at + n) items
splits items shown copied rest at n s e k =
    let m : (at + n) - at ≡ n = omega arith in
    let c : copied ≡ take n (drop at items) = e ∙ ap (λ x. take x (drop at shown)) m ∙ ap (λ x. take n (drop at x)) s in
    sym (take-append-drop n (drop at items)) ∙ ap (λ x. x ++ drop n (drop at items)) (sym (take_at copied rest n k ∙ c)) ∙ ap (λ x. take n (copied ++ rest) ++ x) (drop-drop n at items)

gives : (below : Option (List ℕ)) (items shown copied rest : List ℕ) (at n : ℕ) → shown ≡ items → copied ≡ take ((at + n) - at) (drop at shown) → length copied ≡ n
    → Consumes (prepend_known (drop at items) below) (prepend_known (drop (at + n) items) below) (take n (copied ++ rest))
gives below items shown copied rest at n s e k =
    (prepend_known-read (prepend_known (drop at items) below) below (drop at items) (drop (at + n) items) (take n (copied ++ rest)) ⊥ (Keeps-refl (prepend_known (drop at items) below))
    (splits items shown copied rest at n s e k) (λ none. absurd none)).0

pub returns-then-count-gt0-clause-bytes : goal.returns-then-count-gt0-clause-bytes
returns-then-count-gt0-clause-bytes g c =
    let s = c.self.inside in
    let n = c.min-count.result in
    let rest = drop n c.args.buf.now in
    let count : length c.copy_from_slice.new.self ≡ n = omega (arith, length-take n c.args.buf.now) in
    let some : 0 < n = c.if-count-gt0.true in (
      subst (λ (v : AheadView g.row.S.Denot). Consumes (left_of g.S.Source.left v) (prepend_known (drop (s.at + n) s.bytes.items) (g.S.Source.left s.inner)) (take n (c.copy_from_slice.new.self ++ rest))) c.self.view_is
          (gives (g.S.Source.left s.inner) s.bytes.items c.deref.result.now c.copy_from_slice.new.self rest s.at n c.deref.ensures.value c.copy_from_slice.ensures.after count),
      λ none room. absurd (omega arith),
    )
