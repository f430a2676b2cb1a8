-- What a call for a plan gives.
use Rattle.std.specs.Prelude.{◌≡◌, ℕ, List, Result, Ok, Err, Option, None, Some}
use Rattle.event_words.specs.declared.section.Command.{Command}
use Rattle.event_words.specs.Sections.{SectionOf}
use Rattle.update_planner.specs.declared.answer.Plan.{Plan}
use Rattle.update_planner.specs.declared.answer.PlanError.{PlanError}
use Rattle.update_planner.specs.declared.answer.PlanError.TheVariants.{ShapesDiffer, NoMemory}
use Rattle.policy_compiler.specs.Images.{ImageOf}

-- commands none of which submits
abbrev pub section_with : List Command → SectionOf
section_with commands = record { commands = commands; slots = 0 }

-- the plan of these commands, unless memory runs out
abbrev pub IsPlan : Result Plan PlanError → List Command → Type 0
IsPlan (Ok plan) commands = plan.section ≡ section_with commands
IsPlan (Err e) commands = e ≡ NoMemory

-- The refusal where there is one, else these images, unless memory runs out.
abbrev pub GivesImages : Option PlanError → Result (ImageOf × ImageOf) PlanError → ImageOf → ImageOf → Type 0
GivesImages (Some e) result old new = result ≡ Err e
GivesImages None (Ok images) old new = (images.0 ≡ old) × (images.1 ≡ new)
GivesImages None (Err e) old new = e ≡ NoMemory

-- The refusal where there is one, else the plan.
abbrev pub Plans : Option PlanError → Result Plan PlanError → List Command → Type 0
Plans (Some e) result commands = result ≡ Err e
Plans None result commands = IsPlan result commands

-- The shapes are said to differ.
abbrev pub SaysShapesDiffer : Result Plan PlanError → Type 0
SaysShapesDiffer result = (field : ℕ) × (result ≡ Err (ShapesDiffer field))
