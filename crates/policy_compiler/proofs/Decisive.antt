-- Registers whose last written values are those of an image decide as its policy does.
use Rattle.std.proofs.Common.{◌≡◌, ℕ, ◌^◌, ◌<◌, ◌⊎◌, inl, inr, false, ◌==◌, List, [], ◌∷◌, ◌++◌, Option, Some, None, cond, arith, refl, sym, ap, ◌∙◌, subst}
use Rattle.std.specs.List.{AllByRecursion}
use Rattle.std.proofs.lemmas.Bool.Decides.{nat_tests}
use Rattle.event_words.specs.declared.shape.Shape.{Shape}
use Rattle.event_words.specs.declared.access.Access.{Access}
use Rattle.event_words.specs.Valid.{IsValidAccess}
use Rattle.event_words.specs.Registers.{Registers, word_at}
use Rattle.event_words.specs.Decisions.{decision}
use Rattle.policy_compiler.specs.declared.image.CompileError.{CompileError}
use Rattle.policy_compiler.specs.declared.image.RegPair.{RegPair}
use Rattle.policy_compiler.specs.Policies.{PolicyOf, IsPolicy}
use Rattle.policy_compiler.specs.declared.read.rules.RuleKind.TheVariants.{Guards, Grants}
use Rattle.policy_compiler.specs.Images.{HardwareOf, pair, hardware, hardware_of, writes_of, image_of}
use Rattle.policy_compiler.specs.Needs.{need_refusal}
use Rattle.policy_compiler.specs.Laws.{kind_of}
use Rattle.policy_compiler.specs.Decides.{policy_decision}
use Rattle.policy_compiler.proofs.Fits.{count_append}
use Rattle.policy_compiler.proofs.Plain.{ArePlain}
use Rattle.policy_compiler.proofs.Compiled.{HasRoom, room_of, table_writes, plain_tables, writes_split, after_is}
use Rattle.policy_compiler.proofs.Alike.{guards_of_policy, decides_alike}
use Rattle.policy_compiler.proofs.Standing.{value_from, value_of, value_same, value_other, Stands, IsRewrite, AreNext, stands_written}
use Rattle.policy_compiler.proofs.Within.{none_needed}

-- ---- a policy that compiles has room

refused : (o : Option CompileError) (e : CompileError) → o ≡ Some e → o ≡ None → ⊥
refused o e p q = let n : None ≡ Some e = sym q ∙ p in cc

pub room : (p : PolicyOf) → IsPolicy p → need_refusal p ≡ None → HasRoom p.shape (hardware p.domains)
room p good h = let f = none_needed p h in room_of p good f.0 f.1

-- ---- the writes of an image

low_value : (h : Shape) (ws : List RegPair) (n i : ℕ) → i < 512 → ArePlain h ws → value_from n ws i ≡ n
low_value h [] n i l plain = refl
low_value h (w ∷ ws) n i l plain =
    let t = plain.0.table in
    let f : (w.index == i) ≡ false = search (nat_tests, arith) in
    ap (λ b. value_from (cond b w.value n) ws i) f ∙ low_value h ws n i l plain.1

tables_next : (h : Shape) (ps ws : List RegPair) (w : RegPair) → ArePlain h ws → w ≡ pair 2 1 → value_of ps 2 ≡ 0 → AreNext h ps (ws ++ w ∷ [])
tables_next h ps [] w plain e z = (inr (e, z), tt)
tables_next h ps (x ∷ ws) w plain e z =
    let t = plain.0.table in
    (inl (inr (inr plain.0)), tables_next h (ps ++ x ∷ []) ws w plain.1 e (value_other ps x 2 (λ q. absurd (omega arith)) ∙ z))

writes_next : (h : Shape) (g : ℕ) (hs : List HardwareOf) → HasRoom h hs → g < 2 ^ 16 → AreNext h [] (writes_of h g hs)
writes_next h g hs room small =
    subst (AreNext h []) (sym (writes_split h g hs)) (inl (inl (refl, small)), tables_next h (pair 4 g ∷ []) (table_writes h hs) (pair 2 1) (plain_tables h hs room) refl refl)

pub image_writes : (p : PolicyOf) → (image_of p).writes ≡ writes_of p.shape (guards_of_policy p) (hardware p.domains)
unfolding image_of
image_writes p = refl

-- the values that they give HWCFG0 and HWCFG2
one_of : (h : Shape) (g : ℕ) (hs : List HardwareOf) → value_of (writes_of h g hs) 2 ≡ 1
one_of h g hs = ap (λ ws. value_of ws 2) (writes_split h g hs) ∙ value_same (pair 4 g ∷ table_writes h hs) (pair 2 1) 2 refl

guards_of : (h : Shape) (g : ℕ) (hs : List HardwareOf) → HasRoom h hs → value_of (writes_of h g hs) 4 ≡ g
guards_of h g hs room =
    ap (λ ws. value_of ws 4) (writes_split h g hs)
    ∙ (value_other (pair 4 g ∷ table_writes h hs) (pair 2 1) 4 (λ e. absurd (omega arith)) ∙ low_value h (table_writes h hs) g 4 (omega arith) (plain_tables h hs room))

pub image_enables : (p : PolicyOf) → value_of (image_of p).writes 2 ≡ 1
image_enables p = ap (λ ws. value_of ws 2) (image_writes p) ∙ one_of p.shape (guards_of_policy p) (hardware p.domains)

few_guards : (p : PolicyOf) → HasRoom p.shape (hardware p.domains) → guards_of_policy p < 2 ^ 16
few_guards p room =
    let total = count_append (hardware_of Guards p.domains) (hardware_of Grants p.domains) in
    let few = room.entries in
    let most = room.shape.valid.entries in
    omega arith

pub image_next : (p : PolicyOf) → IsPolicy p → need_refusal p ≡ None → AreNext p.shape [] (image_of p).writes
image_next p good h =
    let r = room p good h in
    subst (AreNext p.shape []) (sym (image_writes p)) (writes_next p.shape (guards_of_policy p) (hardware p.domains) r (few_guards p r))

-- each of the tables' number, of a table, or of HWCFG0
abbrev pub IsImageWrite : Shape → RegPair → Type 0
IsImageWrite h w = IsRewrite h w ⊎ (w.index ≡ 2)

tables_each : (h : Shape) (ws : List RegPair) → ArePlain h ws → AllByRecursion (IsImageWrite h) (ws ++ pair 2 1 ∷ [])
tables_each h [] plain = (inr refl, tt)
tables_each h (w ∷ ws) plain = (inl (inr plain.0), tables_each h ws plain.1)

pub image_each : (p : PolicyOf) → IsPolicy p → need_refusal p ≡ None → AllByRecursion (IsImageWrite p.shape) (image_of p).writes
image_each p good h =
    let r = room p good h in
    subst (AllByRecursion (IsImageWrite p.shape)) (sym (image_writes p ∙ writes_split p.shape (guards_of_policy p) (hardware p.domains)))
    (inl (inl (refl, few_guards p r)), tables_each p.shape (table_writes p.shape (hardware p.domains)) (plain_tables p.shape (hardware p.domains) r))

pub image_shape : (p : PolicyOf) → (image_of p).shape ≡ p.shape
unfolding image_of
image_shape p = refl

-- ---- what decides

-- the last values are the same, but for MDSTALL and RRIDSCP
abbrev pub SameValues : List RegPair → List RegPair → Type 0
SameValues ps qs = (i : ℕ) → (i ≡ 12 → ⊥) → (i ≡ 14 → ⊥) → value_of ps i ≡ value_of qs i

pub decides_standing : (r : Registers) (p : PolicyOf) (ps : List RegPair) → IsPolicy p → need_refusal p ≡ None → Stands p.shape ps r → SameValues ps (image_of p).writes → (a : Access) → IsValidAccess a
    → kind_of (decision r a) ≡ policy_decision p a
decides_standing r p ps good h c same a valid =
    let fit = room p good h in
    let written = stands_written p.shape (writes_of p.shape (guards_of_policy p) (hardware p.domains)) good.shape (writes_next p.shape (guards_of_policy p) (hardware p.domains) fit (few_guards p fit)) in
    let values : SameValues ps (writes_of p.shape (guards_of_policy p) (hardware p.domains)) = λ i a b. same i a b ∙ ap (λ qs. value_of qs i) (image_writes p) in
    decides_alike r p good fit (record {
      shape = c.unlocked.shape;
      enabled = c.enabled ∙ ap (λ n. n == 1) (values 2 (λ e. absurd (omega arith)) (λ e. absurd (omega arith)) ∙ one_of p.shape (guards_of_policy p) (hardware p.domains));
      prio = c.prio ∙ (values 4 (λ e. absurd (omega arith)) (λ e. absurd (omega arith)) ∙ guards_of p.shape (guards_of_policy p) (hardware p.domains) fit);
      tables = λ i l. c.tables i l ∙ (values i (λ e. absurd (omega arith)) (λ e. absurd (omega arith)) ∙ (sym (written.tables i l) ∙ ap (λ s. word_at s i) (after_is p.shape (guards_of_policy p) (hardware p.domains))));
    }) a valid
