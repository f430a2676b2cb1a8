-- Small histories in which the premises of the laws hold.
use Rattle.std.proofs.Common.{◌≡◌, ℕ, List, [], ◌∷◌, ◌++◌, Some, None, refl, arith, inl, inr, true, false, ⊎_elim, subst, sym, Bool, Option, map}
use Rattle.std.specs.Prelude.{option_map}
use Rattle.std.proofs.lemmas.Bool.{cases_eq}
use lib.Count
use Rattle.event_words.specs.Registers.{index_of}
use Rattle.event_words.specs.declared.register.Register.TheVariants.{Hwcfg0, Mdstall, Rridscp, Mdlckh, Entrylck, Mdcfg, SrcmdEn, SrcmdEnh, EntryAddr, EntryCfg}
use Rattle.event_words.specs.declared.register.Register.{Register}
use Rattle.event_words.specs.declared.shape.Shape.{Shape}
use Rattle.event_words.specs.declared.access.Access.{Access}
use Rattle.event_words.specs.declared.access.Kind.TheVariants.{Read}
use Rattle.event_words.specs.declared.event.Event.{Event}
use Rattle.event_words.specs.declared.event.Event.TheVariants.{RegWrite, RegRead, Submit, Judge, Aim, Wide}
use Rattle.event_words.specs.declared.reply.Reply.TheVariants.{Value, Busy, Held, NoSuch}
use Rattle.event_words.specs.declared.reply.Verdict.TheVariants.{Allowed, Denied}
use Rattle.unit_core.specs.Histories.{History, state_at, event_at, reply_at}
use Rattle.unit_core.specs.Submitted.{submission_at}
use Rattle.unit_core.specs.Guarded.{is_guarded, bit_of}
use Rattle.unit_core.specs.Windows.{IsInDrainedWindow, IsVerdictOn, is_flagged}
use Rattle.history_laws.specs.Tickets.{IsTaken, IsOwnVerdict, StandsAt}
use Rattle.history_laws.specs.Busy.{FindsFullQueue}
use Rattle.history_laws.specs.Aims.{IsLastAim}

abbrev small : Shape
small = record { rrids = 4; domains = 3; entries = 8; mdcfg = 0; k = 0; srcmd = 0; sps = false; queue = 1; transl = None }

abbrev read_by : ℕ → ℕ → Access
read_by rrid addr = record { rrid = rrid; kind = Read; addr = addr; len = 4 }

-- a write of a register of unit 0 by caller 0
abbrev put : Register → ℕ → Event
put q value = RegWrite 0 0 (index_of q) value

-- Domain 0 has all entries, requester 3 is in it, and checking is on.
abbrev opening : List Event
opening = put (Mdcfg 0) 8 ∷ put (SrcmdEn 3) 2 ∷ put Hwcfg0 1 ∷ []

-- Entry 0 lets requester 3 read 4096 bytes from 0x80000000.
abbrev window : List Event
window = put (EntryAddr 0) 0x200001ff ∷ put (EntryCfg 0) 0x19 ∷ []

abbrev of_events : List Event → History
of_events es = record { shapes = small ∷ []; events = es }

-- ---- a stall that was not read as drained promises nothing

abbrev undrained : History
undrained = of_events (opening ++ window ++ Submit 0 0 (read_by 3 0x80000000) ∷ put Mdstall 1 ∷ RegRead 0 0 (index_of Mdstall) ∷ put (EntryCfg 0) 0x18 ∷ Judge 0 0 5 ∷ RegRead 0 0 (index_of Mdstall) ∷ [])

-- The read of MDSTALL at place 7 has bit 0 set, for the access in flight.
busy_read : reply_at undrained 7 ≡ Some (Value 1)
busy_read = refl

-- So the verdict at place 9 on the stalled requester breaks no law, and is the new table's.
undrained_verdict : IsVerdictOn undrained 0 3 9
unfolding lib.Count.count_trailing_zeros
undrained_verdict = record { caller = 0; place = 5; access = read_by 3 0x80000000; verdict = Denied (record { kind = 1; entry = 0; quiet = false; irq = false; kept = true }); event = refl; reply = refl; submission = refl; requester = refl }

still_stalled : is_flagged (state_at undrained 9 0) 3 ≡ true
still_stalled = refl

idle_read : reply_at undrained 10 ≡ Some (Value 0)
unfolding lib.Count.count_trailing_zeros
idle_read = refl

-- ---- a drained window that ends early for one requester

abbrev drained : History
drained = of_events (opening ++ window ++ Submit 0 0 (read_by 3 0x80000000) ∷ put Mdstall 1 ∷ Judge 0 0 5 ∷ RegRead 0 0 (index_of Mdstall) ∷ put (EntryCfg 0) 0x18 ∷ put Rridscp 0x80000003 ∷ Submit 0 0 (read_by 3 0x80000000) ∷ Judge 0 0 11 ∷ Submit 0 0 (read_by 2 0) ∷ [])

verdict_before : IsVerdictOn drained 0 3 7
unfolding lib.Count.count_trailing_zeros
verdict_before = record { caller = 0; place = 5; access = read_by 3 0x80000000; verdict = Allowed 3; event = refl; reply = refl; submission = refl; requester = refl }

-- The window of requester 3 that begins at place 8 has places 9 and 10.
in_window : IsInDrainedWindow drained 0 3 8 10
unfolding lib.Count.count_trailing_zeros
in_window = record {
  caller = 0;
  value = 0;
  event = refl;
  reply = refl;
  idle = refl;
  later = omega arith;
  flagged = λ k l m. ⊎_elim
      (λ (e : k ≡ 8). subst (λ j. is_flagged (state_at drained j 0) 3 ≡ true) (sym e) refl)
      (λ (n : k ≡ 8 → ⊥). ⊎_elim
      (λ (e : k ≡ 9). subst (λ j. is_flagged (state_at drained j 0) 3 ≡ true) (sym e) refl)
      (λ (o : k ≡ 9 → ⊥). let e : k ≡ 10 = omega arith in subst (λ j. is_flagged (state_at drained j 0) 3 ≡ true) (sym e) refl)
      (cases_eq k 9))
      (cases_eq k 8);
}

-- It ends with the release at place 10, after which requester 2 is stalled still.
ended : is_flagged (state_at drained 11 0) 3 ≡ false
unfolding lib.Count.count_trailing_zeros
ended = refl

other_stalled : is_flagged (state_at drained 13 0) 2 ≡ true
unfolding lib.Count.count_trailing_zeros
other_stalled = refl

verdict_after : IsVerdictOn drained 0 3 12
unfolding lib.Count.count_trailing_zeros
verdict_after = record { caller = 0; place = 11; access = read_by 3 0x80000000; verdict = Denied (record { kind = 1; entry = 0; quiet = false; irq = false; kept = true }); event = refl; reply = refl; submission = refl; requester = refl }

-- ---- a full queue, and a ticket

abbrev filled : History
filled = of_events (opening ++ put Mdstall 1 ∷ Submit 0 0 (read_by 3 0) ∷ Submit 0 0 (read_by 3 0) ∷ Judge 0 0 4 ∷ put Mdstall 0 ∷ Judge 0 0 4 ∷ Judge 0 0 4 ∷ [])

full : FindsFullQueue filled 5
full = record { unit = 0; caller = 0; access = read_by 3 0; state = _; event = refl; here = refl; stalled = refl; full = refl; silent = refl }

turned_away : reply_at filled 5 ≡ Some Busy
turned_away = refl

taken : IsTaken filled 0 0 4 (read_by 3 0)
taken = record { event = refl; reply = inr refl }

stands : StandsAt filled 0 0 4 (read_by 3 0) 8
stands = (false, refl)

held : reply_at filled 6 ≡ Some Held
held = refl

closing : IsOwnVerdict filled 0 0 4 8
unfolding lib.Count.count_trailing_zeros
closing = record { own = record { event = refl; later = omega arith }; verdict = _; reply = refl }

gone : reply_at filled 9 ≡ Some NoSuch
unfolding lib.Count.count_trailing_zeros
gone = refl

-- ---- guarded bits

-- ENTRYLCK guards the entries below 3.
abbrev locked : History
locked = of_events (opening ++ put Entrylck 6 ∷ put (EntryAddr 2) 0x55 ∷ put (EntryAddr 3) 0x55 ∷ [])

-- whether a bit of a register is guarded before a place, and its value there
abbrev bit_before : History → Register → ℕ → ℕ → Option (Bool × Bool)
bit_before h q i k = option_map (λ x. (is_guarded x (index_of q) i, bit_of x (index_of q) i)) (state_at h k 0)

-- The address of entry 2 is guarded from place 4 on, so its write leaves it.
guarded : map (bit_before locked (EntryAddr 2) 0) (3 ∷ 4 ∷ 6 ∷ []) ≡ Some (false, false) ∷ Some (true, false) ∷ Some (true, false) ∷ []
guarded = refl

-- That of entry 3 is free.
unguarded : bit_before locked (EntryAddr 3) 0 6 ≡ Some (false, true)
unguarded = refl

-- ---- guarded bits of high registers

abbrev wide : Shape
wide = record { rrids = 4; domains = 40; entries = 8; mdcfg = 0; k = 0; srcmd = 0; sps = false; queue = 1; transl = None }

-- MDLCKH locks domain 39, whose bit is bit 8 of the high registers.
abbrev locked_high : History
locked_high = record { shapes = wide ∷ []; events = put Mdlckh 0x100 ∷ put (SrcmdEnh 3) 0x1ff ∷ put (SrcmdEn 3) 0x1ff ∷ put Mdlckh 0 ∷ [] }

guarded_high : map (bit_before locked_high (SrcmdEnh 3) 8) (1 ∷ 4 ∷ []) ≡ Some (true, false) ∷ Some (true, false) ∷ []
guarded_high = refl

-- The lock itself can't be cleared.
lock_stays : bit_before locked_high Mdlckh 8 4 ≡ Some (true, true)
lock_stays = refl

-- The bit of domain 38 is free up to its write, and so is bit 8 of the low register, which is domain 7's. The write of
-- place 2 also sets the requester's own lock.
unguarded_high : map (bit_before locked_high (SrcmdEnh 3) 7) (1 ∷ 4 ∷ []) ≡ Some (false, false) ∷ Some (true, true) ∷ []
unguarded_high = refl

unguarded_low : map (bit_before locked_high (SrcmdEn 3) 8) (2 ∷ 4 ∷ []) ≡ Some (false, false) ∷ Some (true, true) ∷ []
unguarded_low = refl

-- ---- a wide submission with another caller's aim between its two events

abbrev page : Access
page = record { rrid = 3; kind = Read; addr = 0x10000000000; len = 4096 }

abbrev aimed : History
aimed = of_events (opening ++ Aim 0 0x10000000000 ∷ Aim 1 0x20 ∷ Wide 0 0 3 Read 4096 ∷ Aim 0 0xfffffffffffff ∷ Wide 0 0 3 Read 2 ∷ Judge 0 0 5 ∷ [])

-- It is a submission of the page at which its own caller aimed last.
page_taken : IsTaken aimed 0 0 5 page
page_taken = record { event = refl; reply = inl refl }

other_aim : (addr : ℕ) → event_at aimed 4 ≡ Some (Aim 0 addr) → ⊥
other_aim addr q = let n : Some (Aim 1 0x20) ≡ Some (Aim 0 addr) = q in let m : ◌≡◌ {A = ℕ} 1 0 = cc in omega arith

page_aim : IsLastAim aimed 0 5 3 0x10000000000
page_aim = record {
  aim = record { event = refl; before = omega arith };
  last = λ i addr a. ⊎_elim
      (λ (e : i ≡ 4). absurd (other_aim addr (subst (λ n. event_at aimed n ≡ Some (Aim 0 addr)) e a.event)))
      (λ (ne : i ≡ 4 → ⊥). omega (arith, a.before, ne))
      (cases_eq i 4);
}

-- The later aim leaves the open submission as it is.
page_judged : IsVerdictOn aimed 0 3 8
page_judged = record { caller = 0; place = 5; access = page; verdict = _; event = refl; reply = refl; submission = refl; requester = refl }

-- No submission ends past 2 ^ 52.
past_the_end : submission_at aimed 7 ≡ None
past_the_end = refl

not_taken : reply_at aimed 7 ≡ Some NoSuch
not_taken = refl
