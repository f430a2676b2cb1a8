-- What a policy decides about an access, by its rules in the order of the text.
use Rattle.std.specs.Prelude.{ℕ, ◌+◌, ◌&&◌, ◌||◌, nat_lt, Bool, false, not, if◌then◌else◌, List, [], ◌∷◌, Option, None, Some, find}
use Rattle.std.specs.List.{list_any, list_all}
use Rattle.std.specs.Option.{option_or}
use Rattle.event_words.specs.declared.access.Access.{Access}
use Rattle.event_words.specs.Entries.{bytes_of, is_between}
use Rattle.event_words.specs.Registers.{has_bit}
use Rattle.event_words.specs.Word.{kind_code}
use Rattle.register_fields.specs.Rights.{rights_bits}
use Rattle.policy_compiler.specs.declared.policy.Rule.{Rule}
use Rattle.policy_compiler.specs.Policies.{DomainOf, PolicyOf}

-- Some byte of the access is the rule's, each byte is.
unfoldable pub rule_touches : Access → Rule → Bool
rule_touches a u = list_any (is_between u.from (u.from + u.size)) (bytes_of a)

unfoldable pub rule_covers : Access → Rule → Bool
rule_covers a u = list_all (is_between u.from (u.from + u.size)) (bytes_of a)

-- The rule has the right that the access needs.
unfoldable pub rule_grants : Access → Rule → Bool
rule_grants a u = has_bit (rights_bits u.rights) (kind_code a.kind)

abbrev pub allows : Access → Rule → Bool
allows a u = rule_covers a u && rule_grants a u

-- Requester s is one of the domain's.
unfoldable pub is_member : ℕ → DomainOf → Bool
is_member s d = has_bit d.rrids s

-- the first guard of a requester's domains that passes a test, in the order of the text
abbrev pub first_guard : (Rule → Bool) → ℕ → List DomainOf → Option Rule
first_guard p s [] = None
first_guard p s (d ∷ ds) =
    if is_member s d then option_or (find p d.guards) (first_guard p s ds) else first_guard p s ds

-- Some grant of a requester's domains passes a test.
abbrev pub any_grant : (Rule → Bool) → ℕ → List DomainOf → Bool
any_grant p s [] = false
any_grant p s (d ∷ ds) = (is_member s d && list_any p d.grants) || any_grant p s ds

-- illegal read, write or fetch
abbrev pub illegal_kind : Access → ℕ
illegal_kind a = 1 + kind_code a.kind

-- a guard that touches the access decides alone
unfoldable pub guard_kind : Access → Rule → ℕ
guard_kind a u = if not (rule_covers a u) then 4 else (if rule_grants a u then 0 else illegal_kind a)

-- the grants decide together: where one allows, else where one covers
unfoldable pub grants_kind : Access → List DomainOf → ℕ
grants_kind a ds =
    if any_grant (allows a) a.rrid ds then 0
    else (if any_grant (rule_covers a) a.rrid ds then illegal_kind a else 5)

abbrev pub kind_by : Access → List DomainOf → Option Rule → ℕ
kind_by a ds (Some u) = guard_kind a u
kind_by a ds None = grants_kind a ds

-- The kind of the decision: 0 where the policy allows the access, else the violation's code.
unfoldable pub policy_decision : PolicyOf → Access → ℕ
policy_decision p a =
    if not (nat_lt a.rrid p.shape.rrids) then 6
    else kind_by a p.domains (first_guard (rule_touches a) a.rrid p.domains)
