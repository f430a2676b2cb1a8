-- What a history in numbers is shown by: which callers its words are of, and its drained reading and release.
use Rattle.std.proofs.Common.{◌≡◌, ℕ, suc, ◌+◌, ◌-◌, ◌<◌, ◌≤◌, Bool, true, false, ◌&&◌, eqb, List, [], ◌∷◌, ◌++◌, length, refl, arith, sym, ◌∙◌, subst, ⊎_elim, map, None}
use Rattle.std.specs.Prelude.{nat_le}
use Rattle.std.specs.List.{AllByRecursion, list_all}
use Rattle.std.proofs.lemmas.Bool.{and_parts, cases_lt, eqb-true, leb-true}
use Rattle.event_words.specs.declared.section.Command.{Command}
use Rattle.event_words.specs.Sections.{SectionOf}
use Rattle.event_words.specs.declared.access.Access.{Access}
use Rattle.event_words.specs.Word.{word_of}
use Rattle.event_words.specs.Registers.{index_of}
use Rattle.event_words.specs.declared.register.Register.{Register}
use Rattle.event_words.specs.declared.shape.Shape.{Shape}
use Rattle.event_words.specs.declared.event.Event.{Event}
use Rattle.event_words.specs.declared.event.Event.TheVariants.{RegWrite}
use Rattle.event_words.specs.declared.section.Command.TheVariants as commands
use Rattle.event_words.specs.Events.{same_event}
use Rattle.event_words.specs.Runs.{caller_of_word}
use Rattle.unit_core.specs.Histories.{History, BootComesFirst, IsBoot, IsOfLane, IsLegalHistory}
use Rattle.unit_core.specs.Updates.{ReadsDrained, IsDrainedReading, IsUpdateWrite, IsRelease}
use Rattle.history_laws.specs.Live.{IsUpdateHistory}
use Rattle.history_laws.proofs.WriteRecords.{drain_read}
use Rattle.history_laws.proofs.QuietRecords.{IsNoWriteEvent}
use Rattle.history_laws.proofs.Writes.{all_get, get_low, get_append}
use Rattle.policy_compiler.specs.Commands.{image_section}
use Rattle.policy_compiler.specs.Needs.{need_refusal}
use Rattle.policy_compiler.specs.Policies.{PolicyOf, IsPolicy}
use Rattle.policy_compiler.specs.Images.{pair, image_of}
use Rattle.policy_compiler.specs.declared.image.RegPair.{RegPair}
use Rattle.update_planner.specs.Gives.{section_with}

-- ---- the callers

all_boot : (words : List ℕ) → list_all (λ w. eqb (caller_of_word w) 0) words ≡ true → AllByRecursion IsBoot words
all_boot [] t = tt
all_boot (w ∷ words) t =
    let p = and_parts (eqb (caller_of_word w) 0) (list_all (λ w. eqb (caller_of_word w) 0) words) t in
    (eqb-true (caller_of_word w) 0 p.0, all_boot words p.1)

abbrev pub is_of_lane : ℕ → ℕ → Bool
is_of_lane lanes word = nat_le 1 (caller_of_word word) && nat_le (caller_of_word word) lanes

all_of_lanes : (lanes : ℕ) (words : List ℕ) → list_all (is_of_lane lanes) words ≡ true → AllByRecursion (IsOfLane lanes) words
all_of_lanes lanes [] t = tt
all_of_lanes lanes (w ∷ words) t =
    let p = and_parts (is_of_lane lanes w) (list_all (is_of_lane lanes) words) t in
    let q = and_parts (nat_le 1 (caller_of_word w)) (nat_le (caller_of_word w) lanes) p.0 in
    ((leb-true 1 (caller_of_word w) q.0, leb-true (caller_of_word w) lanes q.1), all_of_lanes lanes words p.1)

pub boot_first : (lanes : ℕ) (boot others : List ℕ) → list_all (λ w. eqb (caller_of_word w) 0) boot ≡ true
    → list_all (is_of_lane lanes) others ≡ true → BootComesFirst lanes (boot ++ others)
boot_first lanes boot others p q = record { boot = boot; others = others; is = refl; of_boot = all_boot boot p; of_lanes = all_of_lanes lanes others q }

-- ---- an update

abbrev pub write_to : Register → ℕ → RegPair
write_to q value = pair (index_of q) value

abbrev pub history_in : Shape → List Event → History
history_in shape events = record { shapes = shape ∷ []; events = events }

-- A section of a lane: a submission, and judgements up to its verdict.
abbrev pub judged : Access → SectionOf
judged a = record { commands = commands.Submit 0 a 0 ∷ commands.Settle 0 8 ∷ []; slots = 1 }

-- An update's events: those of the boot section, those of the lanes up to the drained reading, from it up to the
-- release, and after that.
pub record UpdateEvents : Type 0 where
  pub shape : Shape
  pub boot : List Event
  pub before : List Event
  pub window : List Event
  pub after : List Event

abbrev pub up_to_reading : UpdateEvents → List Event
up_to_reading u = u.boot ++ u.before

abbrev pub from_reading : UpdateEvents → List Event
from_reading u = u.window ++ u.after

abbrev pub up_to_release : UpdateEvents → List Event
up_to_release u = up_to_reading u ++ u.window

abbrev pub all_events : UpdateEvents → List Event
all_events u = up_to_reading u ++ from_reading u

abbrev pub all_words : UpdateEvents → List ℕ
all_words u = map word_of (all_events u)

abbrev pub update_history : UpdateEvents → History
update_history u = history_in u.shape (all_events u)

-- ---- the drained reading and the release

-- No event before a drained reading reads MDSTALL as the caller does.
pub first_reading : (shape : Shape) (before after : List Event) → AllByRecursion (λ e. same_event drain_read e ≡ false) before
    → ReadsDrained (history_in shape (before ++ after)) (length before)
    → IsDrainedReading (history_in shape (before ++ after)) (length before)
first_reading shape before after others drained = record {
  drained = drained;
  first = λ k d. ⊎_elim (λ (l : k < length before). absurd (none_before k l d)) (λ (l : length before ≤ k). l) (cases_lt k (length before));
}
  where
    none_before : (k : ℕ) → k < length before → ReadsDrained (history_in shape (before ++ after)) k → ⊥
    none_before k l d =
        let e = sym (get_low before after k l) ∙ d.event in
        let n : true ≡ false = all_get (λ e. same_event drain_read e ≡ false) before k drain_read others e in
        cc

-- No event after a register write of the caller is one.
pub last_write : (shape : Shape) (before after : List Event) (place r : ℕ) → suc r ≡ length before → AllByRecursion IsNoWriteEvent after
    → IsDrainedReading (history_in shape (before ++ after)) place → IsUpdateWrite (history_in shape (before ++ after)) r
    → IsRelease (history_in shape (before ++ after)) r
last_write shape before after place r here none reading write = record {
  place = place;
  reading = reading;
  write = write;
  last = λ k w. ⊎_elim (λ (l : k < length before). omega arith) (λ (l : length before ≤ k). absurd (none_after k l w)) (cases_lt k (length before));
}
  where
    none_after : (k : ℕ) → length before ≤ k → IsUpdateWrite (history_in shape (before ++ after)) k → ⊥
    none_after k l w =
        let past : k ≡ length before + (k - length before) = omega arith in
        let there = subst (IsUpdateWrite (history_in shape (before ++ after))) past w in
        let e = sym (get_append before after (k - length before)) ∙ there.event in
        all_get IsNoWriteEvent after (k - length before) (RegWrite there.unit 1 there.index there.value) none e

-- ---- the history of an update

-- beside a plan, two lanes that have one access each judged
abbrev pub judged_beside : List Command → Access → Access → List SectionOf
judged_beside plan a b = section_with plan ∷ judged a ∷ judged b ∷ []

-- Such a legal history is one of an update.
pub update_in_numbers : (u : UpdateEvents) (plan : List Command) (old new : PolicyOf) (a b : Access) → IsPolicy old → IsPolicy new
    → old.shape ≡ new.shape → need_refusal old ≡ None → need_refusal new ≡ None
    → IsLegalHistory (old.shape ∷ []) (image_section (image_of old)) (judged_beside plan a b) (all_words u)
    → IsUpdateHistory plan old new (judged a ∷ judged b ∷ []) (all_words u)
update_in_numbers u plan old new a b good_old good_new shapes fits_old fits_new legal = record {
  old_policy = good_old;
  new_policy = good_new;
  shapes = shapes;
  old_fits = fits_old;
  new_fits = fits_new;
  quiet = ((tt, (tt, tt)), ((tt, (tt, tt)), tt));
  legal = legal;
}
