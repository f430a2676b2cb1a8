-- The one line that is written where a text is refused as a policy, or needs more than its unit has.
use Rattle.std.specs.Prelude.{◌≡◌, ℕ, List, [], ◌++◌, Option, Some, None, Err, codes}
use Rattle.std.specs.Fmt.{decimal}
use Rattle.policy_compiler.specs.declared.path.PolicyError.{PolicyError}
use Rattle.policy_compiler.specs.declared.path.PolicyError.TheVariants.{Toml, Key, Range, Name}
use Rattle.policy_compiler.specs.declared.path.PolicyError.TheVariants as faults
use Rattle.policy_compiler.specs.declared.image.CompileError.{CompileError}
use Rattle.policy_compiler.specs.declared.image.CompileError.TheVariants.{TooManyDomains, TooManyEntries, NoMemory}
use Rattle.policy_compiler.specs.Paths.{path_text}
use Rattle.policy_compiler.specs.Gives.{Reads}
use Rattle.command_answers.specs.declared.refusals.policy_lines.WhichPolicy.{WhichPolicy}
use Rattle.command_answers.specs.declared.refusals.policy_lines.WhichPolicy.TheVariants.{Only, Old, New}

-- where an input has two policies the line says which one
abbrev pub which_text : WhichPolicy → List ℕ
which_text Only = []
which_text Old = codes "old "
which_text New = codes "new "

-- for a text that is no policy; want of memory has no line
abbrev pub policy_line : WhichPolicy → PolicyError → Option (List ℕ)
policy_line which Toml = Some (codes "iopmp: " ++ (which_text which ++ codes "policy toml\n"))
policy_line which (Key path) = Some (codes "iopmp: " ++ (which_text which ++ (codes "policy key " ++ (path_text path ++ codes "\n"))))
policy_line which (Range path) = Some (codes "iopmp: " ++ (which_text which ++ (codes "policy range " ++ (path_text path ++ codes "\n"))))
policy_line which (Name path) = Some (codes "iopmp: " ++ (which_text which ++ (codes "policy name " ++ (path_text path ++ codes "\n"))))
policy_line which faults.NoMemory = None

-- for a policy that needs more domains or entries than there are
abbrev pub need_line : WhichPolicy → CompileError → Option (List ℕ)
need_line which (TooManyDomains need have) =
    Some (codes "iopmp: " ++ (which_text which ++ (codes "policy needs " ++ (decimal need ++ (codes " domains of " ++ (decimal have ++ codes "\n"))))))
need_line which (TooManyEntries need have) =
    Some (codes "iopmp: " ++ (which_text which ++ (codes "policy needs " ++ (decimal need ++ (codes " entries of " ++ (decimal have ++ codes "\n"))))))
need_line which NoMemory = None

-- The bytes are no policy, and the line names their first fault.
pub record IsNoPolicy (which : WhichPolicy) (bytes line : List ℕ) : Type 0 where
  pub error : PolicyError
  pub fault : Reads (Err error) bytes
  pub named : policy_line which error ≡ Some line
