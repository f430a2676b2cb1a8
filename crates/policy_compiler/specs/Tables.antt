-- Keys of tables and values of the types that they must have. What is read, or the first fault.
use Rattle.std.specs.Prelude.{ℕ, ◌+◌, ℤ, pos, negsuc, ◌&&◌, ◌||◌, nat_le, Bool, true, false, if◌then◌else◌, List, codes, Option, None, Some, is_some, Result, Ok, Err}
use Rattle.std.specs.Str.{bytes_eq}
use Rattle.toml.specs.Data.{Data, Items, no_items, item, Members, no_members, member, as_integer, as_table}
use Rattle.policy_compiler.specs.declared.path.Part.{Part}
use Rattle.policy_compiler.specs.declared.path.Part.TheVariants.{Top, Unit as UnitTable, Domain, Guard, Grant}
use Rattle.policy_compiler.specs.declared.path.Path.{Path}
use Rattle.policy_compiler.specs.declared.path.Fault.{Fault}
use Rattle.policy_compiler.specs.declared.path.Fault.TheVariants.{Key, Range}

infixl 10 ◌>>=◌
abbrev pub ◌>>=◌ : {A B : Type 0} → Result A Fault → (A → Result B Fault) → Result B Fault
(Ok x) >>= f = f x
(Err e) >>= f = Err e

abbrev pub path_of : Part → ℕ → Path
path_of part key = record { part = part; key = key }

-- the keys of each kind of table
abbrev pub is_rule_key : List ℕ → Bool
is_rule_key k = bytes_eq k (codes "from") || (bytes_eq k (codes "size") || bytes_eq k (codes "rights"))

unfoldable pub is_key : Part → List ℕ → Bool
is_key Top k = bytes_eq k (codes "unit") || bytes_eq k (codes "domain")
is_key UnitTable k =
    bytes_eq k (codes "rrids") || (bytes_eq k (codes "domains") || (bytes_eq k (codes "entries")
    || (bytes_eq k (codes "srcmd") || (bytes_eq k (codes "queue") || bytes_eq k (codes "transl")))))
is_key (Domain d) k =
    bytes_eq k (codes "name") || (bytes_eq k (codes "rrids") || (bytes_eq k (codes "guard") || bytes_eq k (codes "grant")))
is_key (Guard d r) k = is_rule_key k
is_key (Grant d r) k = is_rule_key k

-- some key is none of those
abbrev pub has_other_key : Part → Members → Bool
has_other_key part no_members = false
has_other_key part (member k d ms) = if is_key part k then has_other_key part ms else true

-- a value of the right type, or the fault of its key
abbrev pub typed : {A : Type 0} → Path → Option A → Result A Fault
typed path None = Err (Key path)
typed path (Some x) = Ok x

-- the value at a key that must be there, and at one that has a default
abbrev pub required : {A B : Type 0} → Path → (A → Result B Fault) → Option A → Result B Fault
required path read None = Err (Key path)
required path read (Some x) = read x

abbrev pub optional : {A B : Type 0} → B → (A → Result B Fault) → Option A → Result B Fault
optional default read None = Ok default
optional default read (Some x) = read x

-- a number in a range, or the fault of its key
abbrev pub in_range : Path → ℕ → ℕ → ℤ → Result ℕ Fault
in_range path low high (pos n) = if nat_le low n && nat_le n high then Ok n else Err (Range path)
in_range path low high (negsuc n) = Err (Range path)

unfoldable pub number_in : Path → ℕ → ℕ → Data → Result ℕ Fault
number_in path low high d = typed path (as_integer d) >>= in_range path low high

-- each element of an array is a table, or an integer
abbrev pub are_tables : Items → Bool
are_tables no_items = true
are_tables (item x xs) = if is_some (as_table x) then are_tables xs else false

abbrev pub are_integers : Items → Bool
are_integers no_items = true
are_integers (item x xs) = if is_some (as_integer x) then are_integers xs else false

abbrev pub item_count : Items → ℕ
item_count no_items = 0
item_count (item x xs) = item_count xs + 1
