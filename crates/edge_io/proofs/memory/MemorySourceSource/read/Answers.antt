-- The bytes that were copied are the first of those that were left.
use Rattle.std.proofs.Common.{◌≡◌, ℕ, ◌+◌, ◌-◌, List, ◌++◌, length, take, drop, sym, ap, ◌∙◌, arith, take-append-drop}
use Rattle.std.proofs.Math.ListN.{drop_of_length-le, length-take}
use Rattle.std.proofs.lemmas.List.{take_at, drop-drop}
use Rattle.edge_io.proofs.memory.MemorySourceSource.read.Goals as goal

moves : (items shown left copied rest : List ℕ) (at n : ℕ) → left ≡ drop at items → shown ≡ items → copied ≡ take ((at + n) - at) (drop at shown) → length copied ≡ n → left ≡ take n (copied ++ rest) ++ drop (at + n) items
moves items shown left copied rest at n l s e k =
    let m : (at + n) - at ≡ n = omega arith in
    let c : copied ≡ take n (drop at items) = e ∙ ap (λ x. take x (drop at shown)) m ∙ ap (λ x. take n (drop at x)) s in
    l ∙ sym (take-append-drop n (drop at items)) ∙ ap (λ x. x ++ drop n (drop at items)) (sym (take_at copied rest n k ∙ c)) ∙ ap (λ x. take n (copied ++ rest) ++ x) (drop-drop n at items)

pub returns-clause-bytes : goal.returns-clause-bytes
returns-clause-bytes c =
    let s = c.self.inside in
    let n = c.min-count.result in (
      moves s.bytes.items _ c.args.self.now.left c.copy_from_slice.new.self _ s.at n (sym (ap (λ f. f.left) c.self.view_is)) c.deref-2.ensures.value c.copy_from_slice.ensures.after
          (omega (arith, length-take n c.args.buf.now)),
      λ none room. drop_of_length-le s.bytes.items (omega (arith, c.self.invariant)),
    )
