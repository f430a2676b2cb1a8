-- The section that makes an image's writes is valid, and names unit 0 alone.
use Rattle.std.proofs.Common.{◌≡◌, ℕ, ◌^◌, ◌+◌, ◌*◌, ◌≤◌, ◌⊎◌, inl, inr, ltb, List, [], ◌∷◌, ◌++◌, length, map, count_by, None, arith, refl, sym, ◌∙◌, length-append}
use Rattle.std.specs.List.{AllByRecursion}
use Rattle.std.proofs.lemmas.List.{length-map}
use Rattle.event_words.specs.declared.shape.Shape.{Shape}
use Rattle.event_words.specs.declared.register.Register.TheVariants.{Hwcfg0}
use Rattle.event_words.specs.Registers.{index_of, index_count}
use Rattle.event_words.specs.Sections.{IsValidSection, AreValidCommands, NamesUnits, NamesOnlyUnits, is_submit}
use Rattle.policy_compiler.specs.declared.image.RegPair.{RegPair}
use Rattle.policy_compiler.specs.declared.hardware.EntryWords.{EntryWords}
use Rattle.policy_compiler.specs.declared.read.rules.RuleKind.TheVariants.{Guards}
use Rattle.policy_compiler.specs.Policies.{PolicyOf, IsPolicy, IsPolicyShape}
use Rattle.policy_compiler.specs.Images.{HardwareOf, pair, entry_writes, hardware, hardware_of, mdcfg_writes, member_writes, hardware_writes, writes_of, image_of, entry_count}
use Rattle.policy_compiler.specs.Needs.{need_refusal}
use Rattle.policy_compiler.specs.Commands.{write_command, image_section}
use Rattle.policy_compiler.proofs.Fits.{fits_in}
use Rattle.policy_compiler.proofs.Puts.{AreWithin}
use Rattle.policy_compiler.proofs.SrcmdRows.{enable_rows, permission_rows, length_enables, length_permissions, rows_count}
use Rattle.policy_compiler.proofs.Compiled.{format_of, members_0, members_2}
use Rattle.policy_compiler.proofs.Within.{AreWords, none_needed, image_within, image_words}

-- ---- how many writes there are

mdcfg_count : (m before : ℕ) (hs : List HardwareOf) → length (mdcfg_writes m before hs) ≡ length hs
mdcfg_count m before [] = refl
mdcfg_count m before (h ∷ hs) = omega (arith, mdcfg_count (m + 1) (before + length h.entries) hs)

members_count : (h : Shape) (hs : List HardwareOf) → (h.srcmd ≡ 0) ⊎ (h.srcmd ≡ 2) → length (member_writes h hs) ≤ 2 * (h.rrids + length hs)
members_count h hs (inl f) = rw (members_0 h hs f) (omega (arith, rows_count (ltb 31 h.domains) 0 (enable_rows hs 0 h.rrids), length_enables hs 0 h.rrids))
members_count h hs (inr f) = rw (members_2 h hs f) (omega (arith, rows_count (ltb 16 h.rrids) 0 (permission_rows h.rrids hs), length_permissions h.rrids hs))

entries_count : (i : ℕ) (es : List EntryWords) → length (entry_writes i es) ≡ 3 * length es
entries_count i [] = refl
entries_count i (e ∷ es) = omega (arith, entries_count (i + 1) es)

hardware_count : (i : ℕ) (hs : List HardwareOf) → length (hardware_writes i hs) ≡ 3 * entry_count hs
hardware_count i [] = refl
hardware_count i (h ∷ hs) =
    length-append (entry_writes i h.entries) (hardware_writes (i + length h.entries) hs) ∙ omega (arith, entries_count i h.entries, hardware_count (i + length h.entries) hs)

writes_count : (h : Shape) (guards : ℕ) (hs : List HardwareOf) → IsPolicyShape h → length (writes_of h guards hs) ≤ 2 + 2 * h.rrids + 3 * length hs + 3 * entry_count hs
unfolding writes_of
writes_count h guards hs good =
    let last : List RegPair = pair (index_of Hwcfg0) 1 ∷ [] in
    omega (
      arith,
      length-append (mdcfg_writes 0 0 hs) (member_writes h hs ++ (hardware_writes 0 hs ++ last)),
      length-append (member_writes h hs) (hardware_writes 0 hs ++ last),
      length-append (hardware_writes 0 hs) last,
      mdcfg_count 0 0 hs,
      members_count h hs (format_of h good),
      hardware_count 0 hs,
    )

pub few_writes : (p : PolicyOf) → IsPolicy p → need_refusal p ≡ None → length (image_of p).writes ≤ 65536
unfolding image_of
few_writes p good e =
    let fits = none_needed p e in
    let m = fits_in p good fits.0 fits.1 in
    let domains = m.domains in
    let entries = m.entries in
    let rrids = good.shape.valid.rrids in
    omega (arith, writes_count p.shape (entry_count (hardware_of Guards p.domains)) (hardware p.domains) good.shape)

-- ---- the commands

none_submits : (ws : List RegPair) → count_by is_submit (map write_command ws) ≡ 0
none_submits [] = refl
none_submits (w ∷ ws) = none_submits ws

valid_commands : (high : ℕ) (ws : List RegPair) → high ≤ 2 ^ 22 → AreWithin 0 high ws → AreWords ws → AreValidCommands 0 (map write_command ws)
valid_commands high [] few within words = tt
valid_commands high (w ∷ ws) few within words =
    let inside = within.0 in
    ((omega arith, omega arith, words.0), valid_commands high ws few within.1 words.1)

on_unit_0 : (ws : List RegPair) → AllByRecursion (NamesUnits 1) (map write_command ws)
on_unit_0 [] = tt
on_unit_0 (w ∷ ws) = (omega arith, on_unit_0 ws)

few_registers : (p : PolicyOf) → IsPolicy p → index_count p.shape ≤ 2 ^ 22
few_registers p good = let few = good.shape.valid.entries in omega arith

pub image_is_valid : (p : PolicyOf) → IsPolicy p → need_refusal p ≡ None → IsValidSection (image_section (image_of p))
image_is_valid p good fits = record {
  few = omega (arith, length-map (image_of p).writes write_command, few_writes p good fits);
  slots = sym (none_submits (image_of p).writes);
  commands = valid_commands (index_count p.shape) (image_of p).writes (few_registers p good) (image_within p good fits) (image_words p good fits);
}

pub image_names_unit_0 : (p : PolicyOf) → NamesOnlyUnits 1 (image_section (image_of p))
image_names_unit_0 p = on_unit_0 (image_of p).writes
