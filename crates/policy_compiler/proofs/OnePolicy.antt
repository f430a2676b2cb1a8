-- Bytes stand for one policy, or have a fault.
use Rattle.std.proofs.Common.{◌≡◌, ℕ, List, Ok, Err, refl, ap, ◌∙◌}
use Rattle.toml.specs.Data.{Members}
use Rattle.policy_compiler.specs.declared.path.PolicyError.{PolicyError}
use Rattle.policy_compiler.specs.declared.path.PolicyError.TheVariants.{Toml, Key, Range, Name, NoMemory}
use Rattle.policy_compiler.specs.Policies.{PolicyOf}
use Rattle.policy_compiler.specs.Gives.{IsDocument, Reads}
use Rattle.policy_compiler.specs.Reading.{policy_of}

same_tree : (bytes : List ℕ) (t u : Members) → IsDocument bytes t → IsDocument bytes u → t ≡ u
same_tree bytes t u a b = let p = a.1 in let q = b.1 in cc

pub same_policy : (bytes : List ℕ) (p q : PolicyOf) → Reads (Ok p) bytes → Reads (Ok q) bytes → p ≡ q
same_policy bytes p q a b =
    let e : policy_of a.0 ≡ Ok q = ap policy_of (same_tree bytes a.0 b.0 a.1 b.1) ∙ b.2 in
    let f = a.2 in
    cc

-- Where they stand for a policy, only memory can run out.
pub no_fault : (bytes : List ℕ) (p : PolicyOf) (e : PolicyError) → Reads (Ok p) bytes → Reads (Err e) bytes → e ≡ NoMemory
no_fault bytes p Toml a b = absurd (b a.0 a.1)
no_fault bytes p (Key path) a b = let e = ap policy_of (same_tree bytes a.0 b.0 a.1 b.1) ∙ b.2 in let f = a.2 in cc
no_fault bytes p (Range path) a b = let e = ap policy_of (same_tree bytes a.0 b.0 a.1 b.1) ∙ b.2 in let f = a.2 in cc
no_fault bytes p (Name path) a b = let e = ap policy_of (same_tree bytes a.0 b.0 a.1 b.1) ∙ b.2 in let f = a.2 in cc
no_fault bytes p NoMemory a b = refl
