-- Each kind of line keeps what holds of the state.
use Rattle.std.proofs.Common.{◌≡◌, ℕ, ◌+◌, ◌<◌, ◌≤◌, Bool, true, false, List, [], ◌∷◌, ◌++◌, Ok, Err, Result, OnOk, length, is_some, count_by, cond, if◌then◌else◌, refl, ap, sym, subst, ◌∙◌, arith, length-append}
use Rattle.std.proofs.lemmas.List.Sums.{count_by-le-length, sum_by-cons, sum_by_push}
use Rattle.std.specs.List.{AllByRecursion}
use Rattle.event_words.specs.declared.shape.Shape.{Shape}
use Rattle.event_words.specs.declared.section.Command.{Command}
use Rattle.event_words.specs.Valid.{IsValidShape}
use Rattle.event_words.specs.Sections.{SectionOf, IsValidSection, AreValidCommands, IsValidCommand, NamesUnits, NamesOnlyUnits, is_submit}
use Rattle.event_words.proofs.ListItems.{all_push}
use Rattle.script_reader.specs.declared.reader.ScriptPart.{ScriptPart}
use Rattle.script_reader.specs.declared.step.StepError.{StepError}
use Rattle.script_reader.specs.Codes.{◌>>=◌, taken_name, not_a_name}
use Rattle.script_reader.specs.Names.{is_name, slot_of, with_name}
use Rattle.script_reader.specs.Outcomes.{Moves}
use Rattle.script_reader.specs.declared.reader.ScriptPart.TheVariants.{Head, Units, Boot, Lane, Finished}
use Rattle.script_reader.specs.Lines.{State, OpenSection, new_section, no_commands, section_of, with_command, with_submission, closed, start, next_lane}
use Rattle.script_reader.specs.Told.{IsToldWhole, TellsWhole}
use Rattle.script_reader.specs.Sound.{IsSound, IsSoundSection, FitsPlace, IsInSection, MayFollow, IsGoodCommand}

-- ---- commands

pub counted : (b : Bool) (n : ℕ) → (if b then n + 1 else n) ≡ n + cond b 1 0
counted true n = refl
counted false n = omega arith

pub count_cons : (c : Command) (cs : List Command) → count_by is_submit (c ∷ cs) ≡ cond (is_submit c) 1 0 + count_by is_submit cs
count_cons c cs = sum_by-cons (λ x. cond (is_submit x) 1 0) c cs

count_push : (cs : List Command) (c : Command) → count_by is_submit (cs ++ c ∷ []) ≡ count_by is_submit cs + cond (is_submit c) 1 0
count_push cs c = sum_by_push (λ x. cond (is_submit x) 1 0) cs c

commands_push : (n m : ℕ) (cs : List Command) (c : Command) → AreValidCommands n cs → m ≡ n + count_by is_submit cs → IsValidCommand m c → AreValidCommands n (cs ++ c ∷ [])
commands_push n m [] c all e here = (subst (λ k. IsValidCommand k c) (omega (arith, e)) here, tt)
commands_push n m (d ∷ ds) c all e here =
    (all.0, commands_push (if is_submit d then n + 1 else n) m ds c all.1 (omega (arith, e, counted (is_submit d) n, count_cons d ds)) here)

pub section_push : (units : ℕ) (old new : OpenSection) (c : Command) → IsSoundSection units old → IsGoodCommand units (length old.names) c → new.commands ≡ old.commands ++ c ∷ []
    → length new.names ≡ (if is_submit c then length old.names + 1 else length old.names) → IsSoundSection units new
section_push units old new c sound good commands names = record {
  names = names ∙ counted (is_submit c) (length old.names) ∙ ap (λ n. n + cond (is_submit c) 1 0) sound.names ∙ sym (count_push old.commands c) ∙ ap (count_by is_submit) (sym commands);
  commands = subst (AreValidCommands 0) (sym commands) (commands_push 0 (length old.names) old.commands c sound.commands (omega (arith, sound.names)) good.valid);
  units_there = subst (AllByRecursion (NamesUnits units)) (sym commands) (all_push (NamesUnits units) old.commands c sound.units_there good.units_there);
  whole = subst (AllByRecursion IsToldWhole) (sym commands) (all_push IsToldWhole old.commands c sound.whole good.whole);
}

-- a command that makes no slot
pub section_pushed : (units n slot : ℕ) (old new : OpenSection) (c : Command) → IsSoundSection units old → IsGoodCommand n slot c → n ≡ units → slot ≡ length old.names → is_submit c ≡ false
    → (let read : Result OpenSection ℕ = Ok (with_command old c) in read ≡ Ok new) → IsSoundSection units new
section_pushed units n slot old new c sound good count slots other e =
    let same : with_command old c ≡ new = cc in
    section_push units old new c sound (subst (λ k. IsGoodCommand k (length old.names) c) count (subst (λ k. IsGoodCommand n k c) slots good)) (ap (λ o. o.commands) (sym same))
    (ap (λ o. length o.names) (sym same) ∙ ap (λ b. if b then length old.names + 1 else length old.names) (sym other))

-- a submission
pub section_submitted : (units n slot : ℕ) (old new : OpenSection) (c : Command) → IsSoundSection units old → IsGoodCommand n slot c → n ≡ units → slot ≡ length old.names → is_submit c ≡ true
    → new.commands ≡ old.commands ++ c ∷ [] → length new.names ≡ length old.names + 1 → IsSoundSection units new
section_submitted units n slot old new c sound good count slots submits commands names =
    section_push units old new c sound (subst (λ k. IsGoodCommand k (length old.names) c) count (subst (λ k. IsGoodCommand n k c) slots good)) commands
    (names ∙ ap (λ b. if b then length old.names + 1 else length old.names) (sym submits))

-- ---- lines

pub sound_start : (s : State) → s ≡ start → IsSound s
sound_start s e = subst IsSound (sym e) (record {
  few_shapes = omega arith;
  shapes = tt;
  boot = record { few = omega arith; slots = refl; commands = tt };
  boot_units = tt;
  boot_whole = tt;
  lanes = tt;
  lanes_units = tt;
  lanes_whole = tt;
  section = record { names = refl; commands = tt; units_there = tt; whole = tt };
  place = record { boot = refl; lanes = refl; section = refl };
})

-- another place, whose lines may come, and another open section
pub sound_moved : (s : State) (next : ScriptPart) (new : OpenSection) → IsSoundSection (length s.shapes) new → FitsPlace next (record s { place = next; section = new }) → IsSound s → IsSound (record s { place = next; section = new })
sound_moved s next new section fits sound = record {
  few_shapes = sound.few_shapes;
  shapes = sound.shapes;
  boot = sound.boot;
  boot_units = sound.boot_units;
  boot_whole = sound.boot_whole;
  lanes = sound.lanes;
  lanes_units = sound.lanes_units;
  lanes_whole = sound.lanes_whole;
  section = section;
  place = fits;
}

pub sound_placed : (s : State) (next : ScriptPart) → FitsPlace next (record s { place = next }) → IsSound s → IsSound (record s { place = next })
sound_placed s next fits sound = sound_moved s next s.section sound.section fits sound

pub sound_head : (s : State) → s.place ≡ Head → IsSound s → IsSound (record s { place = Units })
sound_head s e sound =
    let here : FitsPlace Head s = subst (λ p. FitsPlace p s) e sound.place in
    sound_placed s Units (record { boot = here.boot; lanes = here.lanes; section = here.section }) sound

-- what no section has begun to name
blank_boot : (units : ℕ) (boot : SectionOf) → boot ≡ no_commands → NamesOnlyUnits units boot
blank_boot units boot e = subst (NamesOnlyUnits units) (sym e) tt

blank_lanes : (units : ℕ) (lanes : List SectionOf) → lanes ≡ [] → AllByRecursion (NamesOnlyUnits units) lanes
blank_lanes units lanes e = subst (AllByRecursion (NamesOnlyUnits units)) (sym e) tt

blank_section : (units : ℕ) (open_section : OpenSection) → open_section ≡ new_section → IsSoundSection units open_section
blank_section units open_section e = subst (IsSoundSection units) (sym e) (record { names = refl; commands = tt; units_there = tt; whole = tt })

pub sound_unit : (s : State) (shape : Shape) → s.place ≡ Units → length s.shapes < 4 → IsValidShape shape → IsSound s → IsSound (record s { shapes = s.shapes ++ shape ∷ [] })
sound_unit s shape e few valid sound =
    let here : FitsPlace Units s = subst (λ p. FitsPlace p s) e sound.place in
    record {
      few_shapes = omega (arith, length-append s.shapes (shape ∷ []));
      shapes = all_push IsValidShape s.shapes shape sound.shapes valid;
      boot = sound.boot;
      boot_units = blank_boot _ s.boot here.boot;
      boot_whole = sound.boot_whole;
      lanes = sound.lanes;
      lanes_units = blank_lanes _ s.lanes here.lanes;
      lanes_whole = sound.lanes_whole;
      section = blank_section _ s.section here.section;
      place = subst (λ p. FitsPlace p (record s { shapes = s.shapes ++ shape ∷ [] })) (sym e) (record { boot = here.boot; lanes = here.lanes; section = here.section });
    }

pub sound_boot : (s : State) → s.place ≡ Units → 1 ≤ length s.shapes → IsSound s → IsSound (record s { place = Boot })
sound_boot s e some sound =
    let here : FitsPlace Units s = subst (λ p. FitsPlace p s) e sound.place in
    sound_placed s Boot (record { some_units = some; few_lanes = omega (arith, ap length here.lanes) }) sound

fits_section : (p : ScriptPart) (s : State) (new : OpenSection) → IsInSection p → FitsPlace p s → FitsPlace p (record s { section = new })
fits_section Head s new i fits = absurd i
fits_section Units s new i fits = absurd i
fits_section Finished s new i fits = absurd i
fits_section Boot s new i fits = record { some_units = fits.some_units; few_lanes = fits.few_lanes }
fits_section Lane s new i fits = record { some_units = fits.some_units; few_lanes = fits.few_lanes }

pub sound_section : (s : State) (new : OpenSection) → IsInSection s.place → IsSoundSection (length s.shapes) new → IsSound s → IsSound (record s { section = new })
sound_section s new i section sound = sound_moved s s.place new section (fits_section s.place s new i sound.place) sound

-- a section that is whole
pub whole_section : (units : ℕ) (open_section : OpenSection) → IsSoundSection units open_section → length open_section.commands ≤ 4194304 → IsValidSection (section_of open_section)
whole_section units open_section sound few = record { few = few; slots = sound.names; commands = sound.commands }

new_is_sound : (units : ℕ) → IsSoundSection units new_section
new_is_sound units = record { names = refl; commands = tt; units_there = tt; whole = tt }

fits_next : (next : ScriptPart) (s t : State) → MayFollow next s → 1 ≤ length t.shapes → length t.lanes + 1 ≤ next_lane s.place s.lanes → next_lane s.place s.lanes ≤ 17 → FitsPlace next t
fits_next Head s t follows some more few = absurd follows
fits_next Units s t follows some more few = absurd follows
fits_next Boot s t follows some more few = absurd follows
fits_next Lane s t follows some more few = record { some_units = some; few_lanes = omega (arith, follows, more) }
fits_next Finished s t follows some more few = record { some_units = some; few_lanes = omega (arith, few, more) }

-- the boot section is whole
pub close_boot : (s : State) (next : ScriptPart) → s.place ≡ Boot → length s.section.commands ≤ 4194304 → MayFollow next s → IsSound s → IsSound (record s { boot = section_of s.section; section = new_section; place = next })
close_boot s next e few follows sound =
    let here : FitsPlace Boot s = subst (λ p. FitsPlace p s) e sound.place in
    let count : next_lane s.place s.lanes ≡ 1 = ap (λ p. next_lane p s.lanes) e in
    record {
      few_shapes = sound.few_shapes;
      shapes = sound.shapes;
      boot = whole_section _ s.section sound.section few;
      boot_units = sound.section.units_there;
      boot_whole = sound.section.whole;
      lanes = sound.lanes;
      lanes_units = sound.lanes_units;
      lanes_whole = sound.lanes_whole;
      section = new_is_sound _;
      place = fits_next next s (record s { boot = section_of s.section; section = new_section; place = next }) follows here.some_units (omega (arith, here.few_lanes)) (omega arith);
    }

-- a lane is whole
pub close_lane : (s : State) (next : ScriptPart) → s.place ≡ Lane → length s.section.commands ≤ 4194304 → MayFollow next s → IsSound s
    → IsSound (record s { lanes = s.lanes ++ section_of s.section ∷ []; section = new_section; place = next })
close_lane s next e few follows sound =
    let here : FitsPlace Lane s = subst (λ p. FitsPlace p s) e sound.place in
    let count : next_lane s.place s.lanes ≡ length s.lanes + 2 = ap (λ p. next_lane p s.lanes) e in
    let more : length (s.lanes ++ section_of s.section ∷ []) ≡ length s.lanes + 1 = omega (arith, length-append s.lanes (section_of s.section ∷ [])) in
    record {
      few_shapes = sound.few_shapes;
      shapes = sound.shapes;
      boot = sound.boot;
      boot_units = sound.boot_units;
      boot_whole = sound.boot_whole;
      lanes = all_push IsValidSection s.lanes (section_of s.section) sound.lanes (whole_section _ s.section sound.section few);
      lanes_units = all_push (NamesOnlyUnits (length s.shapes)) s.lanes (section_of s.section) sound.lanes_units sound.section.units_there;
      lanes_whole = all_push TellsWhole s.lanes (section_of s.section) sound.lanes_whole sound.section.whole;
      section = new_is_sound _;
      place = fits_next next s (record s { lanes = s.lanes ++ section_of s.section ∷ []; section = new_section; place = next }) follows here.some_units (omega arith) (omega (arith, here.few_lanes));
    }

-- the open section is whole, and another stands in its place
pub sound_closed : (p : ScriptPart) (s t : State) (next : ScriptPart) → s.place ≡ p → IsInSection p → length s.section.commands ≤ 4194304 → MayFollow next s → IsSound s
    → (let step : Result State ℕ = Ok (record (closed p s) { place = next }) in step ≡ Ok t) → IsSound t
sound_closed Lane s t next e i few follows sound step = subst IsSound (let same : record (closed Lane s) { place = next } ≡ t = cc in same) (close_lane s next e few follows sound)
sound_closed Boot s t next e i few follows sound step = subst IsSound (let same : record (closed Boot s) { place = next } ≡ t = cc in same) (close_boot s next e few follows sound)
sound_closed Head s t next e i few follows sound step = absurd i
sound_closed Units s t next e i few follows sound step = absurd i
sound_closed Finished s t next e i few follows sound step = absurd i

-- a command was added, if memory didn't run out
pub sound_pushed : {A : Type 0} (r : Result A StepError) (s now : State) (n slot : ℕ) (new : OpenSection) (c : Command) → s ≡ now → IsInSection now.place → IsSound now → IsGoodCommand n slot c
    → n ≡ length s.shapes → slot ≡ length s.section.names → is_submit c ≡ false → Moves r new (Ok (with_command s.section c)) → OnOk r (IsSound (record s { section = new }))
sound_pushed (Ok x) s now n slot new c same i sound good count slots other step =
    let here : IsSound s = subst IsSound (sym same) sound in
    sound_section s new (subst (λ (t : State). IsInSection t.place) (sym same) i) (section_pushed (length s.shapes) n slot s.section new c here.section good count slots other step) here
sound_pushed (Err e) s now n slot new c same i sound good count slots other step = tt

one_more : (names more : List (List ℕ)) (w : List ℕ) → with_name names w ≡ Ok more → length more ≡ length names + 1
unfolding with_name
one_more names more w = by (is_name w) (is_some (slot_of names w))
  where
    by : (a b : Bool) → (let read : Result (List (List ℕ)) ℕ = if a then (if b then Err taken_name else Ok (names ++ w ∷ [])) else Err not_a_name in read ≡ Ok more) → length more ≡ length names + 1
    by true false e = let same : names ++ w ∷ [] ≡ more = cc in omega (arith, length-append names (w ∷ []), ap length same)
    by true true e = absurd (let n : ⊥ = cc in n)
    by false b e = absurd (let n : ⊥ = cc in n)

submitted : (names : Result (List (List ℕ)) ℕ) (commands : List Command) (slots : ℕ) (new : OpenSection) → ((more : List (List ℕ)) → names ≡ Ok more → length more ≡ slots + 1)
    → (let step : Result OpenSection ℕ = names >>= λ more. Ok (record { commands = commands; names = more }) in step ≡ Ok new) → (new.commands ≡ commands) × (length new.names ≡ slots + 1)
submitted (Ok more) commands slots new grows e =
    let old : OpenSection = record { commands = commands; names = more } in
    let same : old ≡ new = cc in (ap (λ o. o.commands) (sym same), ap (λ o. length o.names) (sym same) ∙ grows more refl)
submitted (Err code) commands slots new grows e = absurd (let n : ⊥ = cc in n)

-- a submission was added, if memory didn't run out
pub sound_submitted : {A : Type 0} (r : Result A StepError) (s now : State) (n slot : ℕ) (new : OpenSection) (c : Command) (name : List ℕ) → s ≡ now → IsInSection now.place → IsSound now → IsGoodCommand n slot c
    → n ≡ length s.shapes → slot ≡ length s.section.names → is_submit c ≡ true → Moves r new (with_submission s.section c name) → OnOk r (IsSound (record s { section = new }))
sound_submitted (Ok x) s now n slot new c name same i sound good count slots submits step =
    let here : IsSound s = subst IsSound (sym same) sound in
    let parts = submitted (with_name s.section.names name) (s.section.commands ++ c ∷ []) (length s.section.names) new (λ more e. one_more s.section.names more name e) step in
    sound_section s new (subst (λ (t : State). IsInSection t.place) (sym same) i) (section_submitted (length s.shapes) n slot s.section new c here.section good count slots submits parts.0 parts.1) here
sound_submitted (Err e) s now n slot new c name same i sound good count slots submits step = tt

-- ---- what callers learn

pub units_in_section : (p : ScriptPart) (s : State) → IsInSection p → FitsPlace p s → 1 ≤ length s.shapes
units_in_section Boot s i fits = fits.some_units
units_in_section Lane s i fits = fits.some_units
units_in_section Head s i fits = absurd i
units_in_section Units s i fits = absurd i
units_in_section Finished s i fits = absurd i

pub few_names : (units : ℕ) (o : OpenSection) → IsSoundSection units o → length o.names ≤ length o.commands
few_names units o sound = omega (arith, sound.names, count_by-le-length is_submit o.commands)
