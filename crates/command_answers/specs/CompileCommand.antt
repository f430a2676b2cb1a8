-- What `compile` answers.
use Rattle.std.specs.Prelude.{◌≡◌, ◌⊎◌, ℕ, List, [], ◌∷◌, Some, None, Ok}
use Rattle.script_reader.specs.Scripts.{ScriptOf}
use Rattle.script_reader.specs.Answers.{reading_of}
use Rattle.script_reader.specs.Printed.{script_text}
use Rattle.policy_compiler.specs.declared.image.CompileError.{CompileError}
use Rattle.policy_compiler.specs.Policies.{PolicyOf}
use Rattle.policy_compiler.specs.Gives.{Reads}
use Rattle.policy_compiler.specs.Needs.{need_refusal}
use Rattle.policy_compiler.specs.Images.{ImageOf, image_of}
use Rattle.policy_compiler.specs.Commands.{image_section}
use Rattle.policy_compiler.specs.Laws.{DecidesAs}
use Rattle.command_answers.specs.declared.refusals.policy_lines.WhichPolicy.TheVariants.{Only}
use Rattle.command_answers.specs.PolicyLines.{IsNoPolicy, need_line}

-- one unit of the image's shape, the image's writes as its boot section, and no lane
abbrev pub image_script : ImageOf → ScriptOf
image_script i = record { shapes = i.shape ∷ []; boot = image_section i; lanes = [] }

-- ---- of a policy

-- Its needs fit its unit, and the text is the printed script of its image, as which it is read back. After the
-- image's writes from reset, the unit decides every access as the policy does.
pub record IsImageText (policy : PolicyOf) (text : List ℕ) : Type 0 where
  pub fits : need_refusal policy ≡ None
  pub printed : text ≡ script_text (image_script (image_of policy))
  pub read_back : reading_of text ≡ Ok (image_script (image_of policy))
  pub decides : DecidesAs policy (image_of policy)

-- it needs more than its unit has, and the line says what
pub record NeedsMore (policy : PolicyOf) (line : List ℕ) : Type 0 where
  pub error : CompileError
  pub needs : need_refusal policy ≡ Some error
  pub named : need_line Only error ≡ Some line

-- ---- of an input

-- the bytes stand for a policy of which this holds
pub record OfPolicy (Is : PolicyOf → Type 0) (bytes : List ℕ) : Type 0 where
  pub policy : PolicyOf
  pub stands_for : Reads (Ok policy) bytes
  pub is : Is policy

abbrev pub IsCompiled : List ℕ → List ℕ → Type 0
IsCompiled bytes text = OfPolicy (λ policy. IsImageText policy text) bytes

-- no policy, or one that needs too much
abbrev pub IsNotCompiled : List ℕ → List ℕ → Type 0
IsNotCompiled bytes line = IsNoPolicy Only bytes line ⊎ OfPolicy (λ policy. NeedsMore policy line) bytes

-- a policy whose needs fit its unit
abbrev pub CanBeCompiled : List ℕ → Type 0
CanBeCompiled bytes = OfPolicy (λ policy. need_refusal policy ≡ None) bytes
