-- The line of a command is read as the command.
use Rattle.std.proofs.Common.{◌≡◌, ℕ, zero, suc, ◌+◌, ◌*◌, ◌/◌, ◌%◌, ◌^◌, ◌<◌, ◌≤◌, ◌==◌, nat_lt, if◌then◌else◌, List, [], ◌∷◌, ◌++◌, Ok, Err, length, map, codes, slice_index, refl, ap, sym, subst, ◌∙◌, arith, append_assoc}
use Rattle.std.proofs.lemmas.Bool.{eq-eqb}
use Rattle.std.specs.Fmt.{decimal}
use Rattle.std.specs.List.{AllByRecursion}
use Rattle.event_words.specs.declared.access.Access.{Access}
use Rattle.event_words.specs.declared.access.Kind.{Kind}
use Rattle.event_words.specs.declared.access.Kind.TheVariants as kinds
use Rattle.event_words.specs.declared.section.Stages.{Stages}
use Rattle.event_words.specs.declared.section.Command.{Command}
use Rattle.event_words.specs.declared.section.Command.TheVariants.{Write, Read, Submit, Judge, Settle, Until, Through}
use Rattle.event_words.specs.Valid.{IsValidAccess}
use Rattle.event_words.specs.Sections.{IsMax, IsValidStages, IsValidCommand, NamesUnits, IsBelow, IsUnit, stage_units}
use Rattle.event_words.specs.Texts.{hexadecimal, kind_text, access_text}
use Rattle.script_reader.specs.Codes.{◌>>=◌, absent_unit, out_of_range}
use Rattle.script_reader.specs.Words.{word_at}
use Rattle.script_reader.specs.Commands.{unit_at, index_at, value_at, max_at, kind_at, access_at, stage_at, stages_at, write_at, read_at, submit_at, judge_at, settle_at, until_at, through_at, command_at}
use Rattle.script_reader.specs.Printed.{command_text}
use Rattle.script_reader.specs.Told.{HasNoSpareUnits, IsToldWhole}
use Rattle.script_reader.proofs.Written.{IsWord, Writes, is_less, is_at_most, fixed, decimal_writes, hexadecimal_writes, ranged_is}
use Rattle.script_reader.proofs.WordLines.{ended, AreWords}
use Rattle.script_reader.proofs.SlotNames.{slot_name, slot_names, slot_word, slot_read}

abbrev pub command_words : Command → List (List ℕ)
command_words (Write unit index value) = codes "w" ∷ decimal unit ∷ hexadecimal (index * 4) ∷ hexadecimal value ∷ []
command_words (Read unit index) = codes "r" ∷ decimal unit ∷ hexadecimal (index * 4) ∷ []
command_words (Submit unit access slot) = codes "t" ∷ decimal unit ∷ decimal access.rrid ∷ kind_text access.kind ∷ hexadecimal access.addr ∷ decimal access.len ∷ codes "as" ∷ slot_name slot ∷ []
command_words (Judge slot) = codes "j" ∷ slot_name slot ∷ []
command_words (Settle slot max) = codes "settle" ∷ slot_name slot ∷ codes "max" ∷ decimal max ∷ []
command_words (Until unit index mask value max) = codes "until" ∷ decimal unit ∷ hexadecimal (index * 4) ∷ hexadecimal mask ∷ hexadecimal value ∷ codes "max" ∷ decimal max ∷ []
command_words (Through stages access max) =
    codes "through" ∷ (map decimal (stage_units stages) ++ (decimal access.rrid ∷ kind_text access.kind ∷ hexadecimal access.addr ∷ decimal access.len ∷ codes "max" ∷ decimal max ∷ []))

-- ---- the words

unit_is : (units n : ℕ) (w : List ℕ) → Writes w n → n < units → unit_at units w ≡ Ok n
unfolding unit_at
unit_is units n w writes there = ap (λ r. r >>= λ m. if nat_lt m units then Ok m else Err absent_unit) writes.number ∙ ap (λ b. if b then Ok n else Err absent_unit) (is_less n units there)

index_is : (index : ℕ) → index < 2 ^ 22 → index_at (hexadecimal (index * 4)) ≡ Ok index
unfolding index_at
index_is index small =
    let rest : index * 4 % 4 ≡ 0 = omega arith in
    let back : index * 4 / 4 ≡ index = omega arith in
    ap (λ r. r >>= λ off. if off % 4 == 0 then Ok (off / 4) else Err out_of_range)
    (ranged_is 0 0xffffff (hexadecimal (index * 4)) (index * 4) (hexadecimal_writes (index * 4) (omega (arith, small))) (omega arith) (omega (arith, small)))
    ∙ ap (λ b. if b then Ok (index * 4 / 4) else Err out_of_range) (eq-eqb (index * 4 % 4) 0 rest) ∙ ap Ok back

value_is : (value : ℕ) → value < 2 ^ 32 → value_at (hexadecimal value) ≡ Ok value
value_is value small = ranged_is 0 0xffffffff (hexadecimal value) value (hexadecimal_writes value (omega (arith, small))) (omega arith) (omega (arith, small))

max_is : (max : ℕ) → IsMax max → max_at (decimal max) ≡ Ok max
max_is max valid = ranged_is 1 4096 (decimal max) max (decimal_writes max (omega (arith, valid.few))) valid.some valid.few

kind_is : (kind : Kind) → kind_at (kind_text kind) ≡ Ok kind
unfolding kind_at
kind_is kinds.Read = refl
kind_is kinds.Write = refl
kind_is kinds.Fetch = refl

kind_word : (kind : Kind) → IsWord (kind_text kind)
kind_word kinds.Read = fixed (codes "r") refl
kind_word kinds.Write = fixed (codes "w") refl
kind_word kinds.Fetch = fixed (codes "x") refl

access_is : (words : List (List ℕ)) (i : ℕ) (access : Access) → IsValidAccess access → word_at words i ≡ decimal access.rrid → word_at words (i + 1) ≡ kind_text access.kind → word_at words (i + 2) ≡ hexadecimal access.addr
    → word_at words (i + 3) ≡ decimal access.len → access_at words i ≡ Ok access
unfolding access_at
access_is words i access valid a b c d =
    rw (
      a,
      b,
      c,
      d,
      ranged_is 0 63 (decimal access.rrid) access.rrid (decimal_writes access.rrid (omega (arith, valid.rrid))) (omega arith) valid.rrid,
      kind_is access.kind,
      (hexadecimal_writes access.addr (omega (arith, valid.below_end))).number,
      ranged_is 1 4096 (decimal access.len) access.len (decimal_writes access.len (omega (arith, valid.longest))) valid.shortest valid.longest,
      is_at_most (access.addr + access.len) (2 ^ 52) valid.below_end,
    ) refl

-- ---- the commands

write_read : (units unit index value : ℕ) (names : List (List ℕ)) → unit < 4 → index < 2 ^ 22 → value < 2 ^ 32 → unit < units → command_at units names (command_words (Write unit index value)) ≡ Ok (Write unit index value)
unfolding command_at write_at
write_read units unit index value names few i v there = rw (unit_is units unit (decimal unit) (decimal_writes unit (omega (arith, few))) there, index_is index i, value_is value v) refl

read_read : (units unit index : ℕ) (names : List (List ℕ)) → unit < 4 → index < 2 ^ 22 → unit < units → command_at units names (command_words (Read unit index)) ≡ Ok (Read unit index)
unfolding command_at read_at
read_read units unit index names few i there = rw (unit_is units unit (decimal unit) (decimal_writes unit (omega (arith, few))) there, index_is index i) refl

judge_read : (units slot k : ℕ) → slot < k → k ≤ 10 ^ 7 → command_at units (slot_names k) (command_words (Judge slot)) ≡ Ok (Judge slot)
unfolding command_at judge_at
judge_read units slot k below few = rw (slot_read k slot below few) refl

settle_read : (units slot max k : ℕ) → slot < k → k ≤ 10 ^ 7 → IsMax max → command_at units (slot_names k) (command_words (Settle slot max)) ≡ Ok (Settle slot max)
unfolding command_at settle_at
settle_read units slot max k below few valid = rw (slot_read k slot below few, max_is max valid) refl

until_read : (units unit index mask value max : ℕ) (names : List (List ℕ)) → unit < 4 → index < 2 ^ 22 → mask < 2 ^ 32 → value < 2 ^ 32 → IsMax max → unit < units
    → command_at units names (command_words (Until unit index mask value max)) ≡ Ok (Until unit index mask value max)
unfolding command_at until_at
until_read units unit index mask value max names few i m v valid there =
    rw (unit_is units unit (decimal unit) (decimal_writes unit (omega (arith, few))) there, index_is index i, value_is mask m, value_is value v, max_is max valid) refl

pub submit_read : (units unit : ℕ) (access : Access) (slot : ℕ) → unit < 4 → IsValidAccess access → unit < units → submit_at units slot (command_words (Submit unit access slot)) ≡ Ok (Submit unit access slot)
unfolding submit_at
submit_read units unit access slot few valid there =
    rw (unit_is units unit (decimal unit) (decimal_writes unit (omega (arith, few))) there, access_is (command_words (Submit unit access slot)) 2 access valid refl refl refl refl) refl

-- ---- the texts

write_ended : (unit index value : ℕ) (rest : List ℕ) → command_text (Write unit index value) ++ rest ≡ ended (command_words (Write unit index value)) rest
write_ended unit index value rest = simp append_assoc

read_ended : (unit index : ℕ) (rest : List ℕ) → command_text (Read unit index) ++ rest ≡ ended (command_words (Read unit index)) rest
read_ended unit index rest = simp append_assoc

submit_ended : (unit : ℕ) (access : Access) (slot : ℕ) (rest : List ℕ) → command_text (Submit unit access slot) ++ rest ≡ ended (command_words (Submit unit access slot)) rest
submit_ended unit access slot rest = simp append_assoc

judge_ended : (slot : ℕ) (rest : List ℕ) → command_text (Judge slot) ++ rest ≡ ended (command_words (Judge slot)) rest
judge_ended slot rest = simp append_assoc

settle_ended : (slot max : ℕ) (rest : List ℕ) → command_text (Settle slot max) ++ rest ≡ ended (command_words (Settle slot max)) rest
settle_ended slot max rest = simp append_assoc

until_nested : (u i m v x rest : List ℕ)
    → (codes "until " ++ (u ++ (codes " " ++ (i ++ (codes " " ++ (m ++ (codes " " ++ (v ++ (codes " max " ++ (x ++ codes "\n")))))))))) ++ rest
    ≡ codes "until" ++ 32 ∷ (u ++ 32 ∷ (i ++ 32 ∷ (m ++ 32 ∷ (v ++ 32 ∷ (codes "max" ++ 32 ∷ (x ++ 10 ∷ rest))))))
until_nested u i m v x rest = simp append_assoc

until_ended : (unit index mask value max : ℕ) (rest : List ℕ) → command_text (Until unit index mask value max) ++ rest ≡ ended (command_words (Until unit index mask value max)) rest
until_ended unit index mask value max rest = until_nested (decimal unit) (hexadecimal (index * 4)) (hexadecimal mask) (hexadecimal value) (decimal max) rest

-- ---- commands through stages

abbrev one_stage : ℕ → Stages
one_stage a = record { count = 1; units = a ∷ 0 ∷ 0 ∷ 0 ∷ [] }

abbrev two_stages : ℕ → ℕ → Stages
two_stages a b = record { count = 2; units = a ∷ b ∷ 0 ∷ 0 ∷ [] }

abbrev three_stages : ℕ → ℕ → ℕ → Stages
three_stages a b c = record { count = 3; units = a ∷ b ∷ c ∷ 0 ∷ [] }

abbrev four_stages : ℕ → ℕ → ℕ → ℕ → Stages
four_stages a b c d = record { count = 4; units = a ∷ b ∷ c ∷ d ∷ [] }

-- what holds of one, two, three and four stages holds of all stages without units to spare
by_stages : (P : Stages → Type 0) → ((a : ℕ) → P (one_stage a)) → ((a b : ℕ) → P (two_stages a b)) → ((a b c : ℕ) → P (three_stages a b c)) → ((a b c d : ℕ) → P (four_stages a b c d)) → (stages : Stages)
    → IsValidStages stages → HasNoSpareUnits stages → P stages
by_stages P one two three four stages valid exact = by_count stages.count stages.units valid.some valid.few exact.four exact.zeros
  where
    by_count : (count : ℕ) (units : List ℕ) → 1 ≤ count → count ≤ 4 → length units ≡ 4 → ((i : ℕ) → count ≤ i → slice_index units i ≡ 0) → P (record { count = count; units = units })
    by_count count [] some few long zeros = absurd (omega (arith, long))
    by_count count (a ∷ []) some few long zeros = absurd (omega (arith, long))
    by_count count (a ∷ (b ∷ [])) some few long zeros = absurd (omega (arith, long))
    by_count count (a ∷ (b ∷ (c ∷ []))) some few long zeros = absurd (omega (arith, long))
    by_count count (a ∷ (b ∷ (c ∷ (d ∷ (e ∷ es))))) some few long zeros = absurd (omega (arith, long))
    by_count zero (a ∷ (b ∷ (c ∷ (d ∷ [])))) some few long zeros = absurd (omega (arith, some))
    by_count (suc zero) (a ∷ (b ∷ (c ∷ (d ∷ [])))) some few long zeros =
        subst (λ x. P (record { count = 1; units = a ∷ x ∷ c ∷ d ∷ [] })) (sym (zeros 1 (omega arith)))
        (subst (λ x. P (record { count = 1; units = a ∷ 0 ∷ x ∷ d ∷ [] })) (sym (zeros 2 (omega arith))) (subst (λ x. P (record { count = 1; units = a ∷ 0 ∷ 0 ∷ x ∷ [] })) (sym (zeros 3 (omega arith))) (one a)))
    by_count (suc (suc zero)) (a ∷ (b ∷ (c ∷ (d ∷ [])))) some few long zeros =
        subst (λ x. P (record { count = 2; units = a ∷ b ∷ x ∷ d ∷ [] })) (sym (zeros 2 (omega arith))) (subst (λ x. P (record { count = 2; units = a ∷ b ∷ 0 ∷ x ∷ [] })) (sym (zeros 3 (omega arith))) (two a b))
    by_count (suc (suc (suc zero))) (a ∷ (b ∷ (c ∷ (d ∷ [])))) some few long zeros = subst (λ x. P (record { count = 3; units = a ∷ b ∷ c ∷ x ∷ [] })) (sym (zeros 3 (omega arith))) (three a b c)
    by_count (suc (suc (suc (suc zero)))) (a ∷ (b ∷ (c ∷ (d ∷ [])))) some few long zeros = four a b c d
    by_count (suc (suc (suc (suc (suc n))))) (a ∷ (b ∷ (c ∷ (d ∷ [])))) some few long zeros = absurd (omega (arith, few))

-- the words after the units
abbrev last_text : Access → ℕ → List ℕ → List ℕ
last_text access max rest =
    decimal access.rrid ++ 32 ∷ (kind_text access.kind ++ 32 ∷ (hexadecimal access.addr ++ 32 ∷ (decimal access.len ++ 32 ∷ (codes "max" ++ 32 ∷ (decimal max ++ 10 ∷ rest)))))

last_nested : (r k a l m rest : List ℕ)
    → (codes " " ++ ((r ++ (codes " " ++ (k ++ (codes " " ++ (a ++ (codes " " ++ l)))))) ++ (codes " max " ++ (m ++ codes "\n")))) ++ rest
    ≡ 32 ∷ (r ++ 32 ∷ (k ++ 32 ∷ (a ++ 32 ∷ (l ++ 32 ∷ (codes "max" ++ 32 ∷ (m ++ 10 ∷ rest))))))
last_nested r k a l m rest = simp append_assoc

abbrev last_words : Access → ℕ → List ℕ
last_words access max = codes " " ++ (access_text access ++ (codes " max " ++ (decimal max ++ codes "\n")))

last_ended : (access : Access) (max : ℕ) (rest : List ℕ) → last_words access max ++ rest ≡ 32 ∷ last_text access max rest
last_ended access max rest = last_nested (decimal access.rrid) (kind_text access.kind) (hexadecimal access.addr) (decimal access.len) (decimal max) rest

one_nested : (a t rest : List ℕ) → (codes "through" ++ ((codes " " ++ a) ++ ([] ++ ([] ++ ([] ++ t))))) ++ rest ≡ codes "through" ++ 32 ∷ (a ++ (t ++ rest))
one_nested a t rest = simp append_assoc

two_nested : (a b t rest : List ℕ) → (codes "through" ++ ((codes " " ++ a) ++ ((codes " " ++ b) ++ ([] ++ ([] ++ t))))) ++ rest ≡ codes "through" ++ 32 ∷ (a ++ 32 ∷ (b ++ (t ++ rest)))
two_nested a b t rest = ap (λ l. codes "through" ++ 32 ∷ l) (append_assoc a (32 ∷ (b ++ t)) rest ∙ ap (λ l. a ++ 32 ∷ l) (append_assoc b t rest))

three_nested : (a b c t rest : List ℕ) → (codes "through" ++ ((codes " " ++ a) ++ ((codes " " ++ b) ++ ((codes " " ++ c) ++ ([] ++ t))))) ++ rest ≡ codes "through" ++ 32 ∷ (a ++ 32 ∷ (b ++ 32 ∷ (c ++ (t ++ rest))))
three_nested a b c t rest =
    ap (λ l. codes "through" ++ 32 ∷ l)
    (append_assoc a (32 ∷ (b ++ 32 ∷ (c ++ t))) rest ∙ ap (λ l. a ++ 32 ∷ l) (append_assoc b (32 ∷ (c ++ t)) rest ∙ ap (λ l. b ++ 32 ∷ l) (append_assoc c t rest)))

four_nested : (a b c d t rest : List ℕ) → (codes "through" ++ ((codes " " ++ a) ++ ((codes " " ++ b) ++ ((codes " " ++ c) ++ ((codes " " ++ d) ++ t))))) ++ rest ≡ codes "through" ++ 32 ∷ (a ++ 32 ∷ (b ++ 32 ∷ (c ++ 32 ∷ (d ++ (t ++ rest)))))
four_nested a b c d t rest =
    ap (λ l. codes "through" ++ 32 ∷ l)
    (append_assoc a (32 ∷ (b ++ 32 ∷ (c ++ 32 ∷ (d ++ t)))) rest
    ∙ ap (λ l. a ++ 32 ∷ l) (append_assoc b (32 ∷ (c ++ 32 ∷ (d ++ t))) rest ∙ ap (λ l. b ++ 32 ∷ l) (append_assoc c (32 ∷ (d ++ t)) rest ∙ ap (λ l. c ++ 32 ∷ l) (append_assoc d t rest))))

abbrev Ends : Access → ℕ → List ℕ → Stages → Type 0
Ends access max rest stages = command_text (Through stages access max) ++ rest ≡ ended (command_words (Through stages access max)) rest

through_ended : (stages : Stages) (access : Access) (max : ℕ) (rest : List ℕ) → IsValidStages stages → HasNoSpareUnits stages → Ends access max rest stages
through_ended stages access max rest = by_stages (Ends access max rest)
    (λ a. one_nested (decimal a) (last_words access max) rest ∙ ap (λ t. codes "through" ++ 32 ∷ (decimal a ++ t)) (last_ended access max rest))
    (λ a b. two_nested (decimal a) (decimal b) (last_words access max) rest ∙ ap (λ t. codes "through" ++ 32 ∷ (decimal a ++ 32 ∷ (decimal b ++ t))) (last_ended access max rest))
    (λ a b c. three_nested (decimal a) (decimal b) (decimal c) (last_words access max) rest ∙ ap (λ t. codes "through" ++ 32 ∷ (decimal a ++ 32 ∷ (decimal b ++ 32 ∷ (decimal c ++ t)))) (last_ended access max rest))
    (λ a b c d. four_nested (decimal a) (decimal b) (decimal c) (decimal d) (last_words access max) rest
    ∙ ap (λ t. codes "through" ++ 32 ∷ (decimal a ++ 32 ∷ (decimal b ++ 32 ∷ (decimal c ++ 32 ∷ (decimal d ++ t))))) (last_ended access max rest))
    stages

-- a unit that is there
unit_there : (units n : ℕ) → n < 4 → n < units → unit_at units (decimal n) ≡ Ok n
unit_there units n few there = unit_is units n (decimal n) (decimal_writes n (omega (arith, few))) there

abbrev ReadsBack : ℕ → List (List ℕ) → Access → ℕ → Stages → Type 0
ReadsBack units names access max stages =
    AllByRecursion IsUnit (stage_units stages) → AllByRecursion (IsBelow units) (stage_units stages) → command_at units names (command_words (Through stages access max)) ≡ Ok (Through stages access max)

one_read : (units : ℕ) (names : List (List ℕ)) (access : Access) (max a : ℕ) → IsValidAccess access → IsMax max → ReadsBack units names access max (one_stage a)
unfolding command_at through_at stages_at stage_at
one_read units names access max a valid tries few there =
    rw (unit_there units a few.0 there.0, access_is (command_words (Through (one_stage a) access max)) 2 access valid refl refl refl refl, max_is max tries) refl

two_read : (units : ℕ) (names : List (List ℕ)) (access : Access) (max a b : ℕ) → IsValidAccess access → IsMax max → ReadsBack units names access max (two_stages a b)
unfolding command_at through_at stages_at stage_at
two_read units names access max a b valid tries few there =
    rw (unit_there units a few.0 there.0, unit_there units b few.1.0 there.1.0, access_is (command_words (Through (two_stages a b) access max)) 3 access valid refl refl refl refl, max_is max tries) refl

three_read : (units : ℕ) (names : List (List ℕ)) (access : Access) (max a b c : ℕ) → IsValidAccess access → IsMax max → ReadsBack units names access max (three_stages a b c)
unfolding command_at through_at stages_at stage_at
three_read units names access max a b c valid tries few there =
    rw (
      unit_there units a few.0 there.0,
      unit_there units b few.1.0 there.1.0,
      unit_there units c few.1.1.0 there.1.1.0,
      access_is (command_words (Through (three_stages a b c) access max)) 4 access valid refl refl refl refl,
      max_is max tries,
    ) refl

four_read : (units : ℕ) (names : List (List ℕ)) (access : Access) (max a b c d : ℕ) → IsValidAccess access → IsMax max → ReadsBack units names access max (four_stages a b c d)
unfolding command_at through_at stages_at stage_at
four_read units names access max a b c d valid tries few there =
    rw (
      unit_there units a few.0 there.0,
      unit_there units b few.1.0 there.1.0,
      unit_there units c few.1.1.0 there.1.1.0,
      unit_there units d few.1.1.1.0 there.1.1.1.0,
      access_is (command_words (Through (four_stages a b c d) access max)) 5 access valid refl refl refl refl,
      max_is max tries,
    ) refl

through_read : (units : ℕ) (names : List (List ℕ)) (stages : Stages) (access : Access) (max : ℕ) → IsValidStages stages → HasNoSpareUnits stages → IsValidAccess access → IsMax max
    → ReadsBack units names access max stages
through_read units names stages access max valid exact here tries = by_stages (ReadsBack units names access max)
    (λ a. one_read units names access max a here tries)
    (λ a b. two_read units names access max a b here tries)
    (λ a b c. three_read units names access max a b c here tries)
    (λ a b c d. four_read units names access max a b c d here tries)
    stages valid exact

-- ---- all words are words

few_word : (n : ℕ) → n < 2 ^ 40 → IsWord (decimal n)
few_word n small = (decimal_writes n (omega (arith, small))).word

last_are_words : (access : Access) (max : ℕ) → IsValidAccess access → IsMax max
    → AreWords (decimal access.rrid ∷ kind_text access.kind ∷ hexadecimal access.addr ∷ decimal access.len ∷ codes "max" ∷ decimal max ∷ [])
last_are_words access max valid tries = (
  few_word access.rrid (omega (arith, valid.rrid)),
  (kind_word access.kind, ((hexadecimal_writes access.addr (omega (arith, valid.below_end))).word, (few_word access.len (omega (arith, valid.longest)), (fixed (codes "max") refl, (few_word max (omega (arith, tries.few)), tt))))),
)

unit_words_then : (us : List ℕ) (ws : List (List ℕ)) → AllByRecursion IsUnit us → AreWords ws → AreWords (map decimal us ++ ws)
unit_words_then [] ws few words = words
unit_words_then (u ∷ us) ws few words = (few_word u (omega (arith, few.0)), unit_words_then us ws few.1 words)

-- ---- any command

pub are_words : (n : ℕ) (command : Command) → n < 10 ^ 7 → IsValidCommand n command → AreWords (command_words command)
are_words n (Write unit index value) few valid = (
  fixed (codes "w") refl,
  (few_word unit (omega (arith, valid.0)), ((hexadecimal_writes (index * 4) (omega (arith, valid.1))).word, ((hexadecimal_writes value (omega (arith, valid.2))).word, tt))),
)
are_words n (Read unit index) few valid = (fixed (codes "r") refl, (few_word unit (omega (arith, valid.0)), ((hexadecimal_writes (index * 4) (omega (arith, valid.1))).word, tt)))
are_words n (Submit unit access slot) few valid =
    let here = valid.1 in (
      fixed (codes "t") refl,
      (
        few_word unit (omega (arith, valid.0)),
        (
          few_word access.rrid (omega (arith, here.rrid)),
          (kind_word access.kind, ((hexadecimal_writes access.addr (omega (arith, here.below_end))).word, (few_word access.len (omega (arith, here.longest)), (fixed (codes "as") refl, (slot_word slot (omega (arith, few, valid.2)), tt))))),
        ),
      ),
    )
are_words n (Judge slot) few valid = (fixed (codes "j") refl, (slot_word slot (omega (arith, few, valid)), tt))
are_words n (Settle slot max) few valid = (fixed (codes "settle") refl, (slot_word slot (omega (arith, few, valid.0)), (fixed (codes "max") refl, (few_word max (omega (arith, valid.1.few)), tt))))
are_words n (Until unit index mask value max) few valid = (
  fixed (codes "until") refl,
  (
    few_word unit (omega (arith, valid.0)),
    (
      (hexadecimal_writes (index * 4) (omega (arith, valid.1))).word,
      ((hexadecimal_writes mask (omega (arith, valid.2))).word, ((hexadecimal_writes value (omega (arith, valid.3))).word, (fixed (codes "max") refl, (few_word max (omega (arith, valid.4.few)), tt)))),
    ),
  ),
)
are_words n (Through stages access max) few valid = (fixed (codes "through") refl, unit_words_then (stage_units stages) _ valid.0.units (last_are_words access max valid.1 valid.2))

pub command_ended : (n : ℕ) (command : Command) (rest : List ℕ) → IsValidCommand n command → IsToldWhole command → command_text command ++ rest ≡ ended (command_words command) rest
command_ended n (Write unit index value) rest valid whole = write_ended unit index value rest
command_ended n (Read unit index) rest valid whole = read_ended unit index rest
command_ended n (Submit unit access slot) rest valid whole = submit_ended unit access slot rest
command_ended n (Judge slot) rest valid whole = judge_ended slot rest
command_ended n (Settle slot max) rest valid whole = settle_ended slot max rest
command_ended n (Until unit index mask value max) rest valid whole = until_ended unit index mask value max rest
command_ended n (Through stages access max) rest valid whole = through_ended stages access max rest valid.0 whole

-- a command other than a submission, after the first k names
abbrev pub IsOther : Command → Type 0
IsOther (Submit unit access slot) = ⊥
IsOther _ = Unit {0}

pub other_read : (units k : ℕ) (command : Command) → IsOther command → k ≤ 10 ^ 7 → IsValidCommand k command → NamesUnits units command → IsToldWhole command → command_at units (slot_names k) (command_words command) ≡ Ok command
other_read units k (Write unit index value) other few valid there whole = write_read units unit index value (slot_names k) valid.0 valid.1 valid.2 there
other_read units k (Read unit index) other few valid there whole = read_read units unit index (slot_names k) valid.0 valid.1 there
other_read units k (Submit unit access slot) other few valid there whole = absurd other
other_read units k (Judge slot) other few valid there whole = judge_read units slot k valid few
other_read units k (Settle slot max) other few valid there whole = settle_read units slot max k valid.0 few valid.1
other_read units k (Until unit index mask value max) other few valid there whole = until_read units unit index mask value max (slot_names k) valid.0 valid.1 valid.2 valid.3 valid.4 there
other_read units k (Through stages access max) other few valid there whole = through_read units (slot_names k) stages access max valid.0 whole valid.1 valid.2 valid.0.units there
