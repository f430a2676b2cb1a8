-- No lane of a live update writes a register.
use Rattle.std.proofs.Common.{◌≡◌, ℕ, ◌==◌, ◌&&◌, ◌||◌, nat_lt, not, Bool, true, false, List, [], ◌∷◌, ◌++◌, Ok, Err, Result, length, codes, if◌then◌else◌, ◌-◌, nat_le, refl, sym, subst}
use Rattle.std.specs.Result.{IfOk}
use Rattle.std.specs.List.{list_all}
use Rattle.event_words.specs.declared.section.Command.{Command}
use Rattle.event_words.specs.Sections.{IsNoRegisterWrite, HasNoRegisterWrites}
use Rattle.event_words.proofs.ListItems.{all_push}
use Rattle.script_reader.specs.declared.reader.ScriptPart.{ScriptPart}
use Rattle.script_reader.specs.declared.reader.ScriptPart.TheVariants.{Head, Units, Boot, Lane, Finished}
use Rattle.script_reader.specs.Codes.{◌>>=◌}
use Rattle.script_reader.specs.Text.{is_plain, words_of}
use Rattle.script_reader.specs.Numbers.{number_at}
use Rattle.script_reader.specs.Words.{word_at, is_word_at}
use Rattle.script_reader.specs.Names.{slot_at, with_name}
use Rattle.script_reader.specs.Commands.{unit_at, index_at, value_at, max_at, access_at, stages_at, write_at, read_at, submit_at, judge_at, settle_at, until_at, through_at, command_at}
use Rattle.script_reader.specs.declared.reader.LinesOf.TheVariants.{Lanes}
use Rattle.script_reader.specs.Lines.{State, OpenSection, is_skipped, is_other, next_lane, closed, with_submission, end_step, lane_step, submit_step, command_step, section_step, place_step, lanes_words_step, line_step}
use Rattle.script_reader.specs.LiveLanes.{IsOpen, IsLiveState, lanes_start}

-- ---- checks one after another

pub bound : {A B : Type 0} (P : A → Type 0) (Q : B → Type 0) (r : Result A ℕ) (f : A → Result B ℕ) → IfOk r P → ((x : A) → P x → IfOk (f x) Q) → IfOk (r >>= f) Q
bound P Q (Ok x) f here next = next x here
bound P Q (Err code) f here next = tt

onward : {A B : Type 0} (Q : B → Type 0) (r : Result A ℕ) (f : A → Result B ℕ) → ((x : A) → IfOk (f x) Q) → IfOk (r >>= f) Q
onward Q (Ok x) f next = next x
onward Q (Err code) f next = tt

chosen : {A E : Type 0} (Q : A → Type 0) (b : Bool) (r t : Result A E) → IfOk r Q → IfOk t Q → IfOk (if b then r else t) Q
chosen Q true r t here there = here
chosen Q false r t here there = there

-- where the test fails, only the other result counts
chosen_not : {A E : Type 0} (Q : A → Type 0) (b : Bool) (r t : Result A E) → b ≡ false → IfOk t Q → IfOk (if b then r else t) Q
chosen_not Q true r t off there = cc
chosen_not Q false r t off there = there

-- ---- commands

read_writeless : (units : ℕ) (words : List (List ℕ)) → IfOk (read_at units words) IsNoRegisterWrite
unfolding read_at
read_writeless units words = chosen IsNoRegisterWrite (not (length words == 3)) _ _ tt (onward IsNoRegisterWrite (unit_at units (word_at words 1)) _ (λ unit. onward IsNoRegisterWrite (index_at (word_at words 2)) _ (λ index. tt)))

submit_writeless : (units slot : ℕ) (words : List (List ℕ)) → IfOk (submit_at units slot words) IsNoRegisterWrite
unfolding submit_at
submit_writeless units slot words = chosen IsNoRegisterWrite (not (length words == 8 && is_word_at words 6 (codes "as"))) _ _ tt
    (onward IsNoRegisterWrite (unit_at units (word_at words 1)) _ (λ unit. onward IsNoRegisterWrite (access_at words 2) _ (λ access. tt)))

judge_writeless : (names words : List (List ℕ)) → IfOk (judge_at names words) IsNoRegisterWrite
unfolding judge_at
judge_writeless names words = chosen IsNoRegisterWrite (length words == 2) _ _ (onward IsNoRegisterWrite (slot_at names (word_at words 1)) _ (λ slot. tt)) tt

settle_writeless : (names words : List (List ℕ)) → IfOk (settle_at names words) IsNoRegisterWrite
unfolding settle_at
settle_writeless names words = chosen IsNoRegisterWrite (not (length words == 4 && is_word_at words 2 (codes "max"))) _ _ tt
    (onward IsNoRegisterWrite (slot_at names (word_at words 1)) _ (λ slot. onward IsNoRegisterWrite (max_at (word_at words 3)) _ (λ max. tt)))

until_writeless : (units : ℕ) (words : List (List ℕ)) → IfOk (until_at units words) IsNoRegisterWrite
unfolding until_at
until_writeless units words = chosen IsNoRegisterWrite (not (length words == 7 && is_word_at words 5 (codes "max"))) _ _ tt
    (onward IsNoRegisterWrite (unit_at units (word_at words 1)) _ (λ unit. onward IsNoRegisterWrite (index_at (word_at words 2)) _ (λ index. onward IsNoRegisterWrite (value_at (word_at words 3)) _ (λ mask.
    onward IsNoRegisterWrite (value_at (word_at words 4)) _ (λ value. onward IsNoRegisterWrite (max_at (word_at words 6)) _ (λ max. tt))))))

through_writeless : (units : ℕ) (words : List (List ℕ)) → IfOk (through_at units words) IsNoRegisterWrite
unfolding through_at
through_writeless units words = chosen IsNoRegisterWrite (not ((nat_le 8 (length words) && nat_le (length words) 11) && is_word_at words (length words - 2) (codes "max"))) _ _ tt
    (onward IsNoRegisterWrite (stages_at units words (length words - 7)) _ (λ stages. onward IsNoRegisterWrite (access_at words (length words - 6)) _ (λ access. onward IsNoRegisterWrite (max_at (word_at words (length words - 1))) _ (λ max. tt))))

command_writeless : (units : ℕ) (names words : List (List ℕ)) → is_word_at words 0 (codes "w") ≡ false → IfOk (command_at units names words) IsNoRegisterWrite
unfolding command_at
command_writeless units names words other =
    chosen_not IsNoRegisterWrite (is_word_at words 0 (codes "w")) (write_at units words) _ other
    (chosen IsNoRegisterWrite (is_word_at words 0 (codes "r")) _ _ (read_writeless units words)
    (chosen IsNoRegisterWrite (is_word_at words 0 (codes "j")) _ _ (judge_writeless names words)
    (chosen IsNoRegisterWrite (is_word_at words 0 (codes "settle")) _ _ (settle_writeless names words)
    (chosen IsNoRegisterWrite (is_word_at words 0 (codes "until")) _ _ (until_writeless units words)
    (chosen IsNoRegisterWrite (is_word_at words 0 (codes "through")) _ _ (through_writeless units words) tt)))))

-- ---- kinds of lines

closed_keeps : (p q : ScriptPart) (s : State) → IsOpen p → IsOpen q → IsLiveState s → IsLiveState (record (closed p s) { place = q })
closed_keeps Lane q s here there live = record { place = there; shapes = live.shapes; lanes = all_push HasNoRegisterWrites s.lanes _ live.lanes live.section; section = tt }
closed_keeps Head q s here there live = absurd here
closed_keeps Units q s here there live = absurd here
closed_keeps Boot q s here there live = absurd here
closed_keeps Finished q s here there live = record { place = there; shapes = live.shapes; lanes = live.lanes; section = tt }

end_keeps : (s : State) (words : List (List ℕ)) → IsLiveState s → IfOk (end_step s words) IsLiveState
unfolding end_step
end_keeps s words live = chosen IsLiveState (length words == 1) _ _ (closed_keeps s.place Finished s live.place tt live) tt

lane_keeps : (s : State) (words : List (List ℕ)) → IsLiveState s → IfOk (lane_step s words) IsLiveState
unfolding lane_step
lane_keeps s words live = chosen IsLiveState (nat_lt 16 (next_lane s.place s.lanes) || is_other (next_lane s.place s.lanes) (number_at (word_at words 1))) _ _ tt
    (chosen IsLiveState (length words == 2) _ _ (onward IsLiveState (number_at (word_at words 1)) _ (λ n. closed_keeps s.place Lane s live.place tt live)) tt)

-- a command more in the open section
pushed : (s : State) (c : Command) (names : List (List ℕ)) → IsLiveState s → IsNoRegisterWrite c → IsLiveState (record s { section = record { commands = s.section.commands ++ c ∷ []; names = names } })
pushed s c names live here = record { place = live.place; shapes = live.shapes; lanes = live.lanes; section = all_push IsNoRegisterWrite s.section.commands c live.section here }

submit_keeps : (s : State) (words : List (List ℕ)) → IsLiveState s → IfOk (submit_step s words) IsLiveState
unfolding submit_step
submit_keeps s words live = bound IsNoRegisterWrite IsLiveState (submit_at (length s.shapes) (length s.section.names) words) _ (submit_writeless (length s.shapes) (length s.section.names) words)
    (λ c here. bound (λ (o : OpenSection). IsLiveState (record s { section = o })) IsLiveState (with_submission s.section c (word_at words 7)) _
    (onward (λ (o : OpenSection). IsLiveState (record s { section = o })) (with_name s.section.names (word_at words 7)) _ (λ names. pushed s c names live here))
    (λ o kept. kept))

command_keeps : (s : State) (words : List (List ℕ)) → is_word_at words 0 (codes "w") ≡ false → IsLiveState s → IfOk (command_step s words) IsLiveState
unfolding command_step
command_keeps s words other live = bound IsNoRegisterWrite IsLiveState (command_at (length s.shapes) s.section.names words) _ (command_writeless (length s.shapes) s.section.names words other)
    (λ c here. pushed s c s.section.names live here)

-- ---- any line

section_keeps : (s : State) (words : List (List ℕ)) → is_word_at words 0 (codes "w") ≡ false → IsLiveState s → IfOk (section_step s words) IsLiveState
unfolding section_step
section_keeps s words other live = chosen IsLiveState (is_word_at words 0 (codes "lane")) _ _ (lane_keeps s words live)
    (chosen IsLiveState (is_word_at words 0 (codes "end")) _ _ (end_keeps s words live)
    (chosen IsLiveState (is_word_at words 0 (codes "t")) _ _ (submit_keeps s words live) (command_keeps s words other live)))

place_keeps : (p : ScriptPart) (s : State) (words : List (List ℕ)) → IsOpen p → is_word_at words 0 (codes "w") ≡ false → IsLiveState s → IfOk (place_step p s words) IsLiveState
place_keeps Head s words here other live = absurd here
place_keeps Units s words here other live = absurd here
place_keeps Boot s words here other live = absurd here
place_keeps Lane s words here other live = section_keeps s words other live
place_keeps Finished s words here other live = tt

-- where a line may stand its first word isn't `w`
standing : (writes rest : Bool) (r t : Result State ℕ) → (writes ≡ false → IfOk r IsLiveState) → IfOk t IsLiveState → IfOk (if not writes && rest then r else t) IsLiveState
standing true rest r t here there = there
standing false true r t here there = here refl
standing false false r t here there = there

words_keep : (s : State) (words : List (List ℕ)) → IsLiveState s → IfOk (lanes_words_step s words) IsLiveState
unfolding lanes_words_step
words_keep s words live = chosen IsLiveState (is_skipped words) _ _ live
    (standing (is_word_at words 0 (codes "w")) (nat_lt 0 (length s.lanes) || (is_word_at words 0 (codes "lane") || is_word_at words 0 (codes "end"))) _ _ (λ other. place_keeps s.place s words live.place other live) tt)

pub line_keeps : (s : State) (line : List ℕ) → IsLiveState s → IfOk (line_step Lanes s line) IsLiveState
unfolding line_step
line_keeps s line live = chosen IsLiveState (list_all is_plain line) _ _ (words_keep s (words_of line) live) tt

pub line_kept : (s t : State) (line : List ℕ) → IsLiveState s → line_step Lanes s line ≡ Ok t → IsLiveState t
line_kept s t line live e = subst (λ r. IfOk r IsLiveState) e (line_keeps s line live)

pub live_start : (s : State) → s ≡ lanes_start → IsLiveState s
live_start s e = subst IsLiveState (sym e) (record { place = tt; shapes = refl; lanes = tt; section = tt })
