-- What a call gives, unless memory runs out.
use Rattle.std.specs.Prelude.{◌≡◌, ℕ, List, Vec, Result, Ok, Err, Some}
use Rattle.std.specs.declared.alloc.Global.{Global}
use Rattle.std.specs.Str.{IsUtf8}
use Rattle.toml.specs.Data.{Members}
use Rattle.toml.specs.Parse.{parse_document}
use Rattle.policy_compiler.specs.declared.path.Fault.{Fault}
use Rattle.policy_compiler.specs.declared.path.Fault.TheVariants as faults
use Rattle.policy_compiler.specs.declared.path.PolicyError.{PolicyError}
use Rattle.policy_compiler.specs.declared.path.PolicyError.TheVariants.{Toml, Key, Range, Name, NoMemory}
use Rattle.policy_compiler.specs.Policies.{PolicyOf}
use Rattle.policy_compiler.specs.Reading.{policy_of}

-- what is read, or its fault
abbrev pub Gives : {A : Type 0} → Result A Fault → Result A Fault → Type 0
Gives (Ok x) read = read ≡ Ok x
Gives (Err e) read = (e ≡ faults.NoMemory → ⊥) → read ≡ Err e

-- a call's list, in place of the memory that holds it
abbrev pub listed : {A : Type 0} → Result (Vec A Global) Fault → Result (List A) Fault
listed (Ok v) = Ok v.items
listed (Err e) = Err e

-- bytes are this document
abbrev pub IsDocument : List ℕ → Members → Type 0
IsDocument bytes tree = IsUtf8 bytes × (parse_document bytes ≡ Some tree)

-- a fault of a document as a refusal
abbrev pub refusal_of : Fault → PolicyError
refusal_of (faults.Key path) = Key path
refusal_of (faults.Range path) = Range path
refusal_of (faults.Name path) = Name path
refusal_of faults.NoMemory = NoMemory

-- The refusals of bytes: Toml where they are no document, else the first fault of what the document says.
abbrev pub IsRefusalOf : List ℕ → PolicyError → Type 0
IsRefusalOf bytes Toml = (tree : Members) → IsDocument bytes tree → ⊥
IsRefusalOf bytes (Key path) = (tree : Members) × IsDocument bytes tree × (policy_of tree ≡ Err (faults.Key path))
IsRefusalOf bytes (Range path) = (tree : Members) × IsDocument bytes tree × (policy_of tree ≡ Err (faults.Range path))
IsRefusalOf bytes (Name path) = (tree : Members) × IsDocument bytes tree × (policy_of tree ≡ Err (faults.Name path))
IsRefusalOf bytes NoMemory = Unit {0}

-- The policy of bytes, or the first fault.
abbrev pub Reads : Result PolicyOf PolicyError → List ℕ → Type 0
Reads (Ok p) bytes = (tree : Members) × IsDocument bytes tree × (policy_of tree ≡ Ok p)
Reads (Err e) bytes = IsRefusalOf bytes e
