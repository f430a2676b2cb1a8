-- What a state's registers keep of an earlier state's: guarded bits stay, so locks do, and each line of the
-- table of guards names what it named.
use Rattle.std.proofs.Common.{◌≡◌, ℕ, ◌+◌, ◌-◌, ◌≤◌, Bool, true, false, not, cond, ◌&&◌, ◌||◌, ◌==◌, eqb, ltb, leb, List, Option, Some, None, arith, refl, sym, ap, ◌∙◌, subst}
use Rattle.std.proofs.lemmas.Bool.{ltb-true, lt-ltb, and_parts, and_from, or_left, or_right, false≢true}
use Rattle.event_words.specs.declared.register.Register.{Register}
use Rattle.event_words.specs.declared.register.Register.TheVariants.{Hwcfg0, Hwcfg1, Hwcfg2, Mdstall, Mdstallh, Rridscp, Mdlck, Mdlckh, Mdcfglck, Entrylck, ErrCfg, ErrInfo, ErrReqaddr, ErrReqaddrh, ErrReqid, Mdcfg, SrcmdEn, SrcmdEnh, SrcmdR, SrcmdRh, SrcmdW, SrcmdWh, SrcmdPerm, SrcmdPermh, EntryAddr, EntryAddrh, EntryCfg}
use Rattle.event_words.specs.Registers.{Registers, word_at, bits_of, has_bit, has_pair_bit, register_at, has_register, index_of}
use Rattle.event_words.specs.Guards.{is_locked, is_low_locked, is_high_locked, is_read_only_bit, is_field_bit, is_guarded, is_guarded_of, reg}
use Rattle.event_words.specs.Valid.{IsValidShape}
use Rattle.event_words.proofs.Indexes.{register_at-there, register_at-tells}

pub record Follows (r s : Registers) : Type 0 where
  pub shape : s.shape ≡ r.shape
  pub kept : (index i : ℕ) → is_guarded r index i ≡ true → has_bit (word_at s index) i ≡ has_bit (word_at r index) i
  pub domains : bits_of 1 7 (reg r Mdcfglck) ≤ bits_of 1 7 (reg s Mdcfglck)
  pub entries : bits_of 1 16 (reg r Entrylck) ≤ bits_of 1 16 (reg s Entrylck)

-- ---- tests that stay true

whole_stays : (a b t : Bool) → (a ≡ true → b ≡ true) → (a && t) ≡ true → (b && t) ≡ true
whole_stays a b t f h = let p = and_parts a t h in and_from b t (f p.0) p.1

part_stays : (t a b : Bool) → (a ≡ true → b ≡ true) → (t && a) ≡ true → (t && b) ≡ true
part_stays t a b f h = let p = and_parts t a h in and_from t b p.0 (f p.1)

either_stays : (a b c d : Bool) → (a ≡ true → b ≡ true) → (c ≡ true → d ≡ true) → (a || c) ≡ true → (b || d) ≡ true
either_stays true b c d f g h = or_left b d (f refl)
either_stays false b c d f g h = or_right b d (g h)

less_stays : (m a b : ℕ) → a ≤ b → ltb m a ≡ true → ltb m b ≡ true
less_stays m a b l h = lt-ltb m b (omega (arith, ltb-true m a h))

-- ---- the bits that the lines read

-- a bit that a line names is guarded
pub guarded_by : (o : Option Register) (r : Registers) (q : Register) (i : ℕ) → o ≡ Some q → is_locked r q i ≡ true
    → is_guarded_of r o i ≡ true
guarded_by o r q i e h = ap (λ o. is_guarded_of r o i) e ∙ or_right (is_read_only_bit r.shape q i) (is_locked r q i) h

-- so it keeps its value
stays : (r s : Registers) → Follows r s → (q : Register) (i : ℕ) → register_at r.shape (index_of q) ≡ Some q → is_locked r q i ≡ true
    → has_bit (reg s q) i ≡ has_bit (reg r q) i
stays r s f q i e h = f.kept (index_of q) i (guarded_by (register_at r.shape (index_of q)) r q i e h)

-- A bit that guards itself where it is set stays set.
stays_set : (r s : Registers) → Follows r s → (q : Register) (i : ℕ) → register_at r.shape (index_of q) ≡ Some q
    → (has_bit (reg r q) i ≡ true → is_locked r q i ≡ true)
    → has_bit (reg r q) i ≡ true → has_bit (reg s q) i ≡ true
stays_set r s f q i e own h = stays r s f q i e (own h) ∙ h

enabled_stays : (r s : Registers) → Follows r s → has_bit (reg r Hwcfg0) 0 ≡ true → has_bit (reg s Hwcfg0) 0 ≡ true
enabled_stays r s f = stays_set r s f Hwcfg0 0 refl (λ h. or_left (has_bit (reg r Hwcfg0) 0) _ h)

prient_stays : (r s : Registers) → Follows r s → not (has_bit (reg r Hwcfg0) 13) ≡ true → not (has_bit (reg s Hwcfg0) 13) ≡ true
prient_stays r s f h = ap not (stays r s f Hwcfg0 13 refl (or_left (not (has_bit (reg r Hwcfg0) 13)) _ h)) ∙ h

mdlck_stays : (r s : Registers) → Follows r s → (i : ℕ) → has_bit (reg r Mdlck) i ≡ true → has_bit (reg s Mdlck) i ≡ true
mdlck_stays r s f i = stays_set r s f Mdlck i refl (λ h. or_left (has_bit (reg r Mdlck) i) _ h)

mdlckh_stays : (r s : Registers) → Follows r s → (i : ℕ) → has_bit (reg r Mdlckh) i ≡ true → has_bit (reg s Mdlckh) i ≡ true
mdlckh_stays r s f i = stays_set r s f Mdlckh i refl (λ h. or_left (has_bit (reg r Mdlckh) i) _ h)

-- a locked domain's bit, in one of the two
pair_stays : (t : Bool) (a b c d i j : ℕ) → (has_bit a i ≡ true → has_bit c i ≡ true) → (has_bit b j ≡ true → has_bit d j ≡ true)
    → cond t (has_bit a i) (has_bit b j) ≡ true → cond t (has_bit c i) (has_bit d j) ≡ true
pair_stays true a b c d i j p q h = p h
pair_stays false a b c d i j p q h = q h

domain_stays : (r s : Registers) → Follows r s → (i : ℕ) → has_pair_bit (reg r Mdlck) (reg r Mdlckh) i ≡ true
    → has_pair_bit (reg s Mdlck) (reg s Mdlckh) i ≡ true
domain_stays r s f i = pair_stays (ltb i 32) _ _ _ _ i (i - 32) (mdlck_stays r s f i) (mdlckh_stays r s f (i - 32))

mdcfglck_stays : (r s : Registers) → Follows r s → has_bit (reg r Mdcfglck) 0 ≡ true → has_bit (reg s Mdcfglck) 0 ≡ true
mdcfglck_stays r s f = stays_set r s f Mdcfglck 0 refl (λ h. and_from (has_bit (reg r Mdcfglck) 0) true h refl)

entrylck_stays : (r s : Registers) → Follows r s → has_bit (reg r Entrylck) 0 ≡ true → has_bit (reg s Entrylck) 0 ≡ true
entrylck_stays r s f = stays_set r s f Entrylck 0 refl (λ h. and_from (has_bit (reg r Entrylck) 0) true h refl)

err_cfg_stays : (r s : Registers) → Follows r s → has_bit (reg r ErrCfg) 0 ≡ true → has_bit (reg s ErrCfg) 0 ≡ true
err_cfg_stays r s f = stays_set r s f ErrCfg 0 refl (λ h. and_from (has_bit (reg r ErrCfg) 0) true h refl)

-- bit l of a requester that has registers
srcmd_stays : (r s : Registers) → IsValidShape r.shape → Follows r s → (n : ℕ) → (eqb r.shape.srcmd 0 && ltb n r.shape.rrids) ≡ true
    → has_bit (reg r (SrcmdEn n)) 0 ≡ true → has_bit (reg s (SrcmdEn n)) 0 ≡ true
srcmd_stays r s v f n e =
    stays_set r s f (SrcmdEn n) 0 (register_at-there r.shape (SrcmdEn n) v e) (λ h. or_left _ false (and_from (has_bit (reg r (SrcmdEn n)) 0) true h refl))

-- ---- each line of the table

without_sps : (a b c : Bool) → (a && (b && c)) ≡ true → (a && c) ≡ true
without_sps true true c e = e
without_sps true false c e = absurd (false≢true e)
without_sps false b c e = e

module _ (r : Registers) (ws : List ℕ) (v : IsValidShape r.shape) (f : Follows r (record r { words = ws })) where
  abbrev later : Registers
  later = record r { words = ws }

  low_stays : (n : ℕ) (q : Register) (i : ℕ) → (eqb r.shape.srcmd 0 && ltb n r.shape.rrids) ≡ true → is_low_locked r n q i ≡ true
      → is_low_locked later n q i ≡ true
  low_stays n q i e =
      either_stays _ _ _ _ (whole_stays _ _ (is_field_bit r.shape q i) (srcmd_stays r later v f n e))
      (part_stays (leb 1 i) _ _ (domain_stays r later f (i - 1 + 1)))

  high_stays : (n : ℕ) (q : Register) (i : ℕ) → (eqb r.shape.srcmd 0 && ltb n r.shape.rrids) ≡ true → is_high_locked r n q i ≡ true
      → is_high_locked later n q i ≡ true
  high_stays n q i e =
      either_stays _ _ _ _ (whole_stays _ _ (is_field_bit r.shape q i) (srcmd_stays r later v f n e)) (domain_stays r later f (i + 31 + 1))

  hwcfg0_stays : (i : ℕ) → is_locked r Hwcfg0 i ≡ true → is_locked later Hwcfg0 i ≡ true
  hwcfg0_stays i =
      either_stays _ _ _ _ (part_stays (i == 0) _ _ (enabled_stays r later f))
      (either_stays _ _ _ _ (part_stays (i == 13) _ _ (prient_stays r later f))
      (part_stays (leb 17 i && ltb i 24) _ _ (part_stays (r.shape.mdcfg == 2) _ _ (enabled_stays r later f))))

  -- What a line names it names later too.
  locked_stays : (q : Register) (i : ℕ) → has_register r.shape q ≡ true → is_locked r q i ≡ true → is_locked later q i ≡ true
  locked_stays Hwcfg0 i e = hwcfg0_stays i
  locked_stays Hwcfg1 i e = λ h. h
  locked_stays Hwcfg2 i e = part_stays (ltb i 16) _ _ (prient_stays r later f)
  locked_stays Mdstall i e = λ h. h
  locked_stays Mdstallh i e = λ h. h
  locked_stays Rridscp i e = λ h. h
  locked_stays Mdlck i e = either_stays _ _ _ _ (mdlck_stays r later f i) (whole_stays _ _ (is_field_bit r.shape Mdlck i) (mdlck_stays r later f 0))
  locked_stays Mdlckh i e = either_stays _ _ _ _ (mdlckh_stays r later f i) (whole_stays _ _ (is_field_bit r.shape Mdlckh i) (mdlck_stays r later f 0))
  locked_stays Mdcfglck i e = whole_stays _ _ (is_field_bit r.shape Mdcfglck i) (mdcfglck_stays r later f)
  locked_stays Entrylck i e = whole_stays _ _ (is_field_bit r.shape Entrylck i) (entrylck_stays r later f)
  locked_stays ErrCfg i e = whole_stays _ _ (is_field_bit r.shape ErrCfg i) (err_cfg_stays r later f)
  locked_stays ErrInfo i e = λ h. h
  locked_stays ErrReqaddr i e = λ h. h
  locked_stays ErrReqaddrh i e = λ h. h
  locked_stays ErrReqid i e = λ h. h
  locked_stays (Mdcfg m) i e = whole_stays _ _ (is_field_bit r.shape (Mdcfg m) i) (less_stays m _ _ f.domains)
  locked_stays (SrcmdEn n) i e = low_stays n (SrcmdEn n) i e
  locked_stays (SrcmdEnh n) i e = high_stays n (SrcmdEnh n) i e
  locked_stays (SrcmdR n) i e = low_stays n (SrcmdR n) i (without_sps (eqb r.shape.srcmd 0) r.shape.sps (ltb n r.shape.rrids) e)
  locked_stays (SrcmdRh n) i e = high_stays n (SrcmdRh n) i (without_sps (eqb r.shape.srcmd 0) r.shape.sps (ltb n r.shape.rrids) e)
  locked_stays (SrcmdW n) i e = low_stays n (SrcmdW n) i (without_sps (eqb r.shape.srcmd 0) r.shape.sps (ltb n r.shape.rrids) e)
  locked_stays (SrcmdWh n) i e = high_stays n (SrcmdWh n) i (without_sps (eqb r.shape.srcmd 0) r.shape.sps (ltb n r.shape.rrids) e)
  locked_stays (SrcmdPerm m) i e = whole_stays _ _ (is_field_bit r.shape (SrcmdPerm m) i) (domain_stays r later f (m + 1))
  locked_stays (SrcmdPermh m) i e = whole_stays _ _ (is_field_bit r.shape (SrcmdPermh m) i) (domain_stays r later f (m + 1))
  locked_stays (EntryAddr n) i e = whole_stays _ _ (is_field_bit r.shape (EntryAddr n) i) (less_stays n _ _ f.entries)
  locked_stays (EntryAddrh n) i e = whole_stays _ _ (is_field_bit r.shape (EntryAddrh n) i) (less_stays n _ _ f.entries)
  locked_stays (EntryCfg n) i e = whole_stays _ _ (is_field_bit r.shape (EntryCfg n) i) (less_stays n _ _ f.entries)

  guarded_of_stays : (o : Option Register) (i : ℕ) → ((q : Register) → o ≡ Some q → has_register r.shape q ≡ true)
      → is_guarded_of r o i ≡ true → is_guarded_of later o i ≡ true
  guarded_of_stays None i had h = h
  guarded_of_stays (Some q) i had h = either_stays _ _ _ _ (λ k. k) (locked_stays q i (had q refl)) h

-- A bit that is guarded is guarded later too.
pub guarded_stays : (r s : Registers) → IsValidShape r.shape → Follows r s → (index i : ℕ) → is_guarded r index i ≡ true
    → is_guarded s index i ≡ true
guarded_stays r s v f index i h =
    subst (λ z. is_guarded (record { shape = z; words = s.words }) index i ≡ true) (sym f.shape)
    (guarded_of_stays r s.words v (record { shape = refl; kept = f.kept; domains = f.domains; entries = f.entries }) (register_at r.shape index) i (λ q e. (register_at-tells r.shape index q e).1) h)
