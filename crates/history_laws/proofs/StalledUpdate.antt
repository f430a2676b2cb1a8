-- An update of unit 0 while some requesters stall: what unit 0 decides at each place, and where it stalls whom.
use Rattle.std.proofs.Common.{◌≡◌, ◌⊎◌, ℕ, suc, ◌+◌, ◌-◌, ◌<◌, ◌≤◌, ◌++◌, ◌==◌, inl, inr, true, false, ltb, List, [], ◌∷◌, Some, None, length, map, take, drop, append_assoc, refl, sym, ap, subst, ◌∙◌, arith, ⊎_elim}
use Rattle.std.specs.Prelude.{slice_get, option_map}
use Rattle.std.specs.List.{AllByRecursion}
use Rattle.std.proofs.lemmas.Bool.{cases_eq, cases_lt, eqb-true}
use Rattle.std.proofs.lemmas.Bool.Decides.{nat_tests}
use Rattle.std.proofs.lemmas.List.{append-nil}
use Rattle.event_words.specs.Registers.{index_of}
use Rattle.event_words.specs.declared.register.Register.TheVariants.{Hwcfg0}
use Rattle.event_words.specs.declared.shape.Shape.{Shape}
use Rattle.event_words.specs.declared.access.Access.{Access}
use Rattle.event_words.specs.declared.event.Event.{Event}
use Rattle.event_words.specs.declared.event.Event.TheVariants.{RegWrite, Judge}
use Rattle.event_words.specs.declared.reply.Reply.TheVariants as replies
use Rattle.event_words.specs.declared.reply.Verdict.{Verdict as AnyVerdict}
use Rattle.event_words.specs.declared.record.LoggedEvent.{LoggedEvent}
use Rattle.event_words.specs.Events.{caller_of}
use Rattle.event_words.specs.declared.reply.Reply.{Reply}
use Rattle.event_words.specs.Domains.{is_known}
use Rattle.event_words.specs.Decisions.{decision}
use Rattle.event_words.specs.Valid.{IsValidAccess}
use Rattle.event_words.specs.Records.{is_by, events_by}
use Rattle.policy_compiler.specs.declared.image.RegPair.{RegPair}
use Rattle.policy_compiler.specs.Policies.{PolicyOf, IsPolicy}
use Rattle.policy_compiler.specs.Needs.{need_refusal}
use Rattle.policy_compiler.specs.Images.{pair, image_of}
use Rattle.policy_compiler.specs.Laws.{kind_of}
use Rattle.policy_compiler.specs.Decides.{policy_decision}
use Rattle.policy_compiler.proofs.Standing.{value_of, value_append, Stands, IsStall, AreNext}
use Rattle.policy_compiler.proofs.Decisive.{SameValues, decides_standing, image_next, image_enables}
use Rattle.unit_core.specs.Units.{UnitState, event_step, is_stalled}
use Rattle.unit_core.specs.Histories.{History, units_at, aims_at, state_at, event_at, reply_at}
use Rattle.unit_core.specs.Submitted.{IsSubmission}
use Rattle.unit_core.specs.Updates.{ReadsDrained, IsDrainedReading, IsUpdateWrite, IsRelease}
use Rattle.unit_core.specs.Windows.{is_flagged}
use Rattle.history_laws.specs.Live.{kind_of_verdict, IsBeforeReading, IsAfterRelease}
use Rattle.unit_core.proofs.Runs.{own_state, own_at, shape_there}
use Rattle.history_laws.proofs.WindowLaw.{law_windows}
use Rattle.history_laws.proofs.VerdictLaw.{law_verdicts}
use Rattle.history_laws.proofs.VerdictKinds.{verdict_kind, unknown_kind}
use Rattle.history_laws.proofs.QuietRecords.{IsNoWriteEvent, IsNoLoggedWrite}
use Rattle.history_laws.proofs.Writes.{writes, nothing_after, same_first, take_map, all_before, all_from, all_parts, all_filter}
use Rattle.history_laws.proofs.WriteRecords.{event_of, release_write, drain_read}
use Rattle.history_laws.proofs.UnitStands.{UnitStands, IsOnZero, flag_from, flag_append, unit_stands}
use Rattle.history_laws.proofs.LiveLists.{IsLive, IsLoggedOnZero}
use Rattle.history_laws.proofs.PlanParts.{writes_in, writes_both, of_none, own_before, own_from, own_cut, own_here, before_longer, write_there, IsUpdate, plan_writes, NotDrained, before_reading, at_reading, AreNot, value_kept, StallNobody, flag_kept, tables_part, StallsNobody}
use Rattle.history_laws.proofs.UpdateWrites.{Rewrites, rewrites_stall_nobody, image_stalls_nobody, update_not_enable, tame_next, next_both, update_tame, with_stalls, with_update}
use Rattle.history_laws.proofs.LastWrite.{release_there}
use Rattle.history_laws.proofs.LivePlaces.{IsLogOf, least, idle_hits, none_drained, not_drained, past_boot, among_others, writes_upto, writes_whole}

answered : (h : History) (k : ℕ) (e : Event) → event_at h k ≡ Some e → (r : Reply) × (reply_at h k ≡ Some r)
answered h k e q = ((event_step k (aims_at h k) (units_at h k) e).1, ap (option_map (λ e. (event_step k (aims_at h k) (units_at h k) e).1)) q)

-- ---- an update

pub record IsUpdating (old new : PolicyOf) (stalls tables : List RegPair) (h : History) (xs : List LoggedEvent) : Type 0 where
  pub good_old : IsPolicy old
  pub good_new : IsPolicy new
  pub same_shape : old.shape ≡ new.shape
  pub fits_old : need_refusal old ≡ None
  pub fits_new : need_refusal new ≡ None
  pub stalling : AllByRecursion IsStall stalls
  pub rewrites : Rewrites old.shape (image_of old).writes (image_of new).writes tables
  pub live : IsLive (image_of old).writes stalls tables xs
  pub log : IsLogOf h xs
  pub unit : slice_get h.shapes 0 ≡ Some old.shape
  pub accesses : (k caller : ℕ) (a : Access) → IsSubmission h k 0 caller a → IsValidAccess a

module _ (old new : PolicyOf) (stalls tables : List RegPair) (h : History) (xs : List LoggedEvent) (u : IsUpdating old new stalls tables h xs) where
  -- unit 0 before place k
  abbrev pub unit : ℕ → UnitState
  unit k = own_state h 0 old.shape k

  all_zero : (ys : List LoggedEvent) → AllByRecursion IsLoggedOnZero ys → AllByRecursion IsOnZero (map event_of ys)
  all_zero [] a = tt
  all_zero (y ∷ ys) a = (a.0, all_zero ys a.1)

  -- what caller 1 writes before a place past the boot section, and from it on
  abbrev pub done : ℕ → List RegPair
  done m = writes_in (own_before m u.live.others)

  abbrev pub to_do : ℕ → List RegPair
  to_do m = writes_in (own_from m u.live.others)

  abbrev whole : List RegPair
  whole = writes_in (events_by 1 u.live.others)

  pub update : IsUpdate stalls tables whole
  update = plan_writes stalls tables (events_by 1 u.live.others) u.live.own

  pub cut : (m : ℕ) → done m ++ to_do m ≡ whole
  cut m = sym (writes_both (own_before m u.live.others) (own_from m u.live.others)) ∙ ap writes_in (own_cut m u.live.others)

  pub stands : (m : ℕ) → UnitStands old.shape ((image_of old).writes ++ done m) (unit (length u.live.boot + m))
  stands m =
      let tame = update_tame old.shape stalls tables whole u.stalling u.rewrites.each update in
      let next = next_both old.shape [] (image_of old).writes whole (image_next old u.good_old u.fits_old) (tame_next old.shape (image_of old).writes whole tame) in
      let all_next : AreNext old.shape [] (writes h.events) = subst (AreNext old.shape []) (sym (ap writes u.log.events ∙ writes_whole (image_of old).writes stalls tables xs u.live)) next in
      let zero : AllByRecursion IsOnZero h.events = subst (AllByRecursion IsOnZero) (sym u.log.events) (all_zero xs u.live.on_zero) in
      let upto : writes (take (length u.live.boot + m) h.events) ≡ (image_of old).writes ++ done m =
      ap (λ es. writes (take (length u.live.boot + m) es)) u.log.events ∙ (ap writes (take_map event_of xs (length u.live.boot + m)) ∙ writes_upto (image_of old).writes stalls tables xs u.live m) in
      subst (λ ws. UnitStands old.shape ws (unit (length u.live.boot + m))) upto (unit_stands old.shape h u.good_old.shape all_next zero (length u.live.boot + m))

  -- a place past the boot section
  record IsPast (k : ℕ) (x : LoggedEvent) : Type 0 where
    pub number : ℕ
    pub is : k ≡ length u.live.boot + number
    pub here : slice_get u.live.others number ≡ Some x

  past : (k : ℕ) (x : LoggedEvent) → slice_get xs k ≡ Some x → length u.live.boot ≤ k → IsPast k x
  past k x e l =
      let is : k ≡ length u.live.boot + (k - length u.live.boot) = omega arith in
      record { number = k - length u.live.boot; is = is; here = sym (among_others (image_of old).writes stalls tables xs u.live (k - length u.live.boot)) ∙ (ap (slice_get xs) (sym is) ∙ e) }

  -- ---- the drained reading

  pub record AtReading (b : ℕ) : Type 0 where
    pub number : ℕ
    pub is : b ≡ length u.live.boot + number
    pub all : whole ≡ stalls ++ (tables ++ release_write ∷ [])
    pub before : done number ≡ stalls

  reading : (b : ℕ) → ReadsDrained h b → AtReading b
  reading b d =
      let x : LoggedEvent = record { place = b; event = drain_read; reply = replies.Value d.value } in
      let there = u.log.there b drain_read (replies.Value d.value) d.event d.reply in
      let p = past b x there (past_boot (image_of old).writes stalls tables xs u.live b x there tt) in
      let here = sym (ap (λ ys. own_before p.number u.live.others ++ ys) (own_here p.number u.live.others x p.here refl)) ∙ own_cut p.number u.live.others in
      let r = at_reading stalls tables (events_by 1 u.live.others) (own_before p.number u.live.others) (own_from (suc p.number) u.live.others) x u.live.own here refl (idle_hits d.value d.idle) in
      record { number = p.number; is = p.is; all = r.whole; before = r.before }

  -- ---- the four cases of a verdict

  abbrev pub kind_at : ℕ → Access → ℕ
  kind_at m a = kind_of (decision (unit (length u.live.boot + m)).registers a)

  known : (m s : ℕ) → is_known (unit (length u.live.boot + m)).registers s ≡ ltb s old.shape.rrids
  known m s = ap (λ (z : Shape). ltb s z.rrids) (stands m).registers.unlocked.shape

  pub unknown_case : (m : ℕ) (a : Access) → (a.rrid < old.shape.rrids → ⊥) → kind_at m a ≡ 6
  unknown_case m a strange =
      let c = (stands m).registers in
      let part = (all_parts (λ (w : RegPair). w.index ≡ index_of Hwcfg0 → ⊥) (done m) (to_do m) (subst (AreNot (index_of Hwcfg0)) (sym (cut m)) (update_not_enable old.shape stalls tables whole u.stalling u.rewrites.each update))).0 in
      let one : value_of ((image_of old).writes ++ done m) (index_of Hwcfg0) ≡ 1 =
      value_append 0 (image_of old).writes (done m) (index_of Hwcfg0) ∙ (value_kept _ (index_of Hwcfg0) (done m) part ∙ image_enables old) in
      let past : ltb a.rrid old.shape.rrids ≡ false = ⊎_elim (λ (l : a.rrid < old.shape.rrids). absurd (strange l)) (λ (l : old.shape.rrids ≤ a.rrid). search (nat_tests, arith)) (cases_lt a.rrid old.shape.rrids) in
      unknown_kind (unit (length u.live.boot + m)).registers a (c.enabled ∙ ap (λ n. n == 1) one) (known m a.rrid ∙ past)

  pub before_case : (m : ℕ) (a : Access) → IsValidAccess a → ((b : ℕ) → IsDrainedReading h b → length u.live.boot + m < b)
      → kind_at m a ≡ policy_decision old a
  before_case m a valid later =
      let none = none_drained h (length u.live.boot + m) later in
      let each : AllByRecursion NotDrained (take m u.live.others) = all_before NotDrained u.live.others m
      (λ j x l e. not_drained h xs u.log (length u.live.boot + j) x (among_others (image_of old).writes stalls tables xs u.live j ∙ e) (none (length u.live.boot + j) (omega arith))) in
      let own = all_filter NotDrained (is_by 1) (take m u.live.others) each in
      let some = before_reading stalls tables (events_by 1 u.live.others) (own_before m u.live.others) (own_from m u.live.others) u.live.own (own_cut m u.live.others) own in
      let part = all_parts IsStall (done m) some.0 (subst (AllByRecursion IsStall) some.1 u.stalling) in
      decides_standing (unit (length u.live.boot + m)).registers old ((image_of old).writes ++ done m) u.good_old u.fits_old (stands m).registers (with_stalls (image_of old).writes (done m) part.0) a valid

  -- after the release caller 1 writes nothing
  rest_quiet : (m r : ℕ) → IsRelease h r → r < length u.live.boot + m → to_do m ≡ []
  rest_quiet m r rel after =
      of_none (drop m u.live.others) (all_from (λ x. is_by 1 x ≡ true → IsNoLoggedWrite x) u.live.others m
      (λ j x l e. let here = u.log.here (length u.live.boot + j) x (among_others (image_of old).writes stalls tables xs u.live j ∙ e) in
      quiet (length u.live.boot + j) x.event here.0 (omega arith)))
    where
      quiet : (k : ℕ) (e : Event) → event_at h k ≡ Some e → r < k → (caller_of e == 1) ≡ true → IsNoWriteEvent e
      quiet k (RegWrite unit caller index value) q l t =
          let one : caller ≡ 1 = eqb-true caller 1 t in
          let w : IsUpdateWrite h k = record { unit = unit; index = index; value = value; event = q ∙ ap (λ c. Some (RegWrite unit c index value)) one } in
          let m = rel.last k w in
          absurd (omega arith)
      quiet k _ q l t = tt

  pub after_case : (m r : ℕ) (a : Access) → IsValidAccess a → IsRelease h r → r < length u.live.boot + m
      → kind_at m a ≡ policy_decision new a
  after_case m r a valid rel after =
      let at = reading rel.place rel.reading.drained in
      let all : done m ≡ stalls ++ (tables ++ release_write ∷ []) = sym (append-nil (done m)) ∙ (ap (λ ws. done m ++ ws) (sym (rest_quiet m r rel after)) ∙ (cut m ∙ at.all)) in
      let same : SameValues ((image_of old).writes ++ done m) (image_of new).writes =
      λ i p q. ap (λ ws. value_of ((image_of old).writes ++ ws) i) all ∙ with_update old.shape (image_of old).writes (image_of new).writes stalls tables u.stalling u.rewrites i p q in
      decides_standing (unit (length u.live.boot + m)).registers new ((image_of old).writes ++ done m) u.good_new u.fits_new
      (subst (λ z. Stands z ((image_of old).writes ++ done m) (unit (length u.live.boot + m)).registers) u.same_shape (stands m).registers) same a valid

  -- ---- from the drained reading up to the release

  -- the writes are the stalls and a part of the tables' writes
  tables_done : (b n : ℕ) → (at : AtReading b) → at.number ≤ n → (to_do n ≡ [] → ⊥)
      → (part rest : List RegPair) × (done n ≡ stalls ++ part) × (tables ≡ part ++ rest)
  tables_done b n at from more =
      let longer = before_longer at.number n u.live.others from in
      let part = writes_in longer.0 in
      let is : done n ≡ stalls ++ part = ap writes_in longer.1 ∙ (writes_both (own_before at.number u.live.others) longer.0 ∙ ap (λ ws. ws ++ part) at.before) in
      let ends : part ++ to_do n ≡ tables ++ release_write ∷ [] =
      same_first stalls (part ++ to_do n) (tables ++ release_write ∷ []) (sym (append_assoc stalls part (to_do n)) ∙ (ap (λ ws. ws ++ to_do n) (sym is) ∙ (cut n ∙ at.all))) in
      let rest = tables_part tables part (to_do n) ends more in
      (part, rest.0, is, rest.1)

  -- so each requester that the stalls leave stalled is stalled
  stalled_at : (b r k s : ℕ) → IsDrainedReading h b → IsRelease h r → b ≤ k → k ≤ r → s < old.shape.rrids → flag_from s false stalls ≡ true
      → is_flagged (state_at h k 0) s ≡ true
  stalled_at b r k s read rel l m known stalled =
      let at = reading b read.drained in
      let n : ℕ = k - length u.live.boot in
      let is : k ≡ length u.live.boot + n = let e = at.is in omega arith in
      let t = tables_done b n at (let e = at.is in omega arith) (more n (omega arith)) in
      let quiet = all_parts StallsNobody t.0 t.1 (subst StallNobody t.3 (rewrites_stall_nobody old.shape tables u.rewrites.each)) in
      let on : flag_from s false ((image_of old).writes ++ done n) ≡ true =
      flag_append s false (image_of old).writes (done n)
      ∙ (ap (λ c. flag_from s c (done n)) (flag_kept s false (image_of old).writes (image_stalls_nobody old u.good_old u.fits_old))
      ∙ (ap (flag_from s false) t.2
      ∙ (flag_append s false stalls t.0 ∙ (flag_kept s (flag_from s false stalls) t.0 quiet.0 ∙ stalled)))) in
      ap (λ o. is_flagged o s) (own_at h 0 k old.shape u.unit) ∙ subst (λ j. is_stalled (unit j) s ≡ true) (sym is) ((stands n).stalled s known ∙ on)
    where
      -- the release is still to come
      more : (n : ℕ) → length u.live.boot + n ≤ r → to_do n ≡ [] → ⊥
      more n l =
          let w = rel.write in
          let e : Event = RegWrite w.unit 1 w.index w.value in
          let answer = answered h r e w.event in
          let x : LoggedEvent = record { place = r; event = e; reply = answer.0 } in
          let p = past r x (u.log.there r e answer.0 w.event answer.1) (omega arith) in
          let is = p.is in
          write_there n p.number u.live.others x (pair w.index w.value) (omega arith) p.here refl refl

  -- ---- a verdict stands on one of the two sides

  some_write : (b : ℕ) → IsDrainedReading h b → ((k : ℕ) → IsUpdateWrite h k → ⊥) → ⊥
  some_write b read none =
      let at = reading b read.drained in
      let nothing = of_none u.live.others (all_from (λ x. is_by 1 x ≡ true → IsNoLoggedWrite x) u.live.others 0
      (λ j x l e. let here = u.log.here (length u.live.boot + j) x (among_others (image_of old).writes stalls tables xs u.live j ∙ e) in
      quiet (length u.live.boot + j) x.event here.0)) in
      let n : release_write ∷ [] ≡ [] = nothing_after tables (release_write ∷ []) (nothing_after stalls (tables ++ release_write ∷ []) (sym at.all ∙ nothing)) in
      absurd (cc)
    where
      quiet : (k : ℕ) (e : Event) → event_at h k ≡ Some e → (caller_of e == 1) ≡ true → IsNoWriteEvent e
      quiet k (RegWrite unit caller index value) q t =
          let one : caller ≡ 1 = eqb-true caller 1 t in
          absurd (none k (record { unit = unit; index = index; value = value; event = q ∙ ap (λ c. Some (RegWrite unit c index value)) one }))
      quiet k _ q t = tt

  pub sides : (p caller q : ℕ) → event_at h p ≡ Some (Judge 0 caller q)
      → ((b r : ℕ) → IsDrainedReading h b → IsRelease h r → b < p → p < r → ⊥) → IsBeforeReading h p ⊎ IsAfterRelease h p
  sides p caller q event between = by (least h p)
    where
      at_judgement : (k : ℕ) (e : Event) → event_at h k ≡ Some e → p ≡ k → e ≡ Judge 0 caller q
      at_judgement k e f same = let both : Some e ≡ Some (Judge 0 caller q) = sym f ∙ (ap (event_at h) (sym same) ∙ event) in cc

      by : ((b : ℕ) × (b < p) × IsDrainedReading h b) ⊎ ((k : ℕ) → k < p → ReadsDrained h k → ⊥) → IsBeforeReading h p ⊎ IsAfterRelease h p
      by (inr none) = inl (λ b read. ⊎_elim
          (λ (l : b < p). absurd (none b l read.drained))
          (λ (l : p ≤ b). ⊎_elim
          (λ (same : p ≡ b). let n : drain_read ≡ Judge 0 caller q = at_judgement b drain_read read.drained.event same in absurd (cc))
          (λ (ne : p ≡ b → ⊥). ⊎_elim (λ (m : p < b). m) (λ (m : b ≤ p). absurd (ne (omega arith))) (cases_lt p b))
          (cases_eq p b))
          (cases_lt b p))
      by (inl f) =
          let found = release_there h f.0 f.2 (some_write f.0 f.2) in
          let w = found.1.write in
          let after : found.0 < p = ⊎_elim
          (λ (l : found.0 < p). l)
          (λ (l : p ≤ found.0). ⊎_elim
          (λ (same : p ≡ found.0). let n : RegWrite w.unit 1 w.index w.value ≡ Judge 0 caller q = at_judgement found.0 (RegWrite w.unit 1 w.index w.value) w.event same in absurd (cc))
          (λ (ne : p ≡ found.0 → ⊥). ⊎_elim (λ (m : p < found.0). absurd (between f.0 found.0 f.2 found.1 f.1 m)) (λ (m : found.0 ≤ p). absurd (ne (omega arith))) (cases_lt p found.0))
          (cases_eq p found.0))
          (cases_lt found.0 p) in
          inr (found.0, found.1, after)

  -- ---- a verdict

  -- its access, and the place past the boot section whose registers decide it
  pub record IsJudged (p caller q : ℕ) (verdict : AnyVerdict) : Type 0 where
    pub access : Access
    pub submission : IsSubmission h q 0 caller access
    pub earlier : q < p
    pub valid : IsValidAccess access
    pub number : ℕ
    pub is : p ≡ length u.live.boot + number
    pub kind : kind_of_verdict verdict ≡ kind_at number access

  pub judged : (p caller q : ℕ) (verdict : AnyVerdict) → event_at h p ≡ Some (Judge 0 caller q)
      → reply_at h p ≡ Some (replies.Verdict verdict) → IsJudged p caller q verdict
  judged p caller q verdict event reply =
      let d = law_verdicts h 0 caller q p verdict event reply in
      let there = shape_there h 0 p d.state d.here in
      let shapes : Some there.0 ≡ Some old.shape = sym there.1 ∙ u.unit in
      let shape : there.0 ≡ old.shape = cc in
      let x : LoggedEvent = record { place = p; event = Judge 0 caller q; reply = replies.Verdict verdict } in
      let logged = u.log.there p (Judge 0 caller q) (replies.Verdict verdict) event reply in
      let at = past p x logged (past_boot (image_of old).writes stalls tables xs u.live p x logged tt) in
      let state : d.state ≡ unit (length u.live.boot + at.number) = sym there.2 ∙ (ap (λ z. own_state h 0 z p) shape ∙ ap unit at.is) in
      record {
        access = d.access;
        submission = d.submission.event;
        earlier = d.before;
        valid = u.accesses q caller d.access d.submission.event;
        number = at.number;
        is = at.is;
        kind = ap kind_of_verdict d.verdict_is ∙ (verdict_kind d.state d.access (decision d.state.registers d.access) ∙ ap (λ (y : UnitState). kind_of (decision y.registers d.access)) state);
      }

  -- None on a requester that the stalls leave stalled stands between the drained reading and the release.
  pub none_between : (p caller q : ℕ) (verdict : AnyVerdict) → event_at h p ≡ Some (Judge 0 caller q)
      → reply_at h p ≡ Some (replies.Verdict verdict) → (j : IsJudged p caller q verdict) → j.access.rrid < old.shape.rrids
      → flag_from j.access.rrid false stalls ≡ true
      → (b r : ℕ) → IsDrainedReading h b → IsRelease h r → b < p → p < r → ⊥
  none_between p caller q verdict event reply j known stalled b r read rel l m =
      law_windows h 0 j.access.rrid b p
      (record { caller = 1; value = read.drained.value; event = read.drained.event; reply = read.drained.reply; idle = read.drained.idle; flagged = λ k from upto. stalled_at b r k j.access.rrid read rel from (omega arith) known stalled; later = l })
      (record { caller = caller; place = q; access = j.access; verdict = verdict; event = event; reply = reply; submission = j.submission; requester = refl })
