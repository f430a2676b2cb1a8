-- The mask of kept bits as it is built: a set of bits a line, as a number, and their union.
use Rattle.std.specs.Prelude.{ℕ, ◌*◌, ◌^◌, ◌/◌, ◌==◌, ◌&&◌, nat_lt, Bool, not, Option, Some, None, if◌then◌else◌, sum_by, bit_or}
use Rattle.event_words.specs.declared.register.Register.{Register}
use Rattle.event_words.specs.declared.register.Register.TheVariants.{Hwcfg0, Hwcfg1, Hwcfg2, Mdstall, Mdstallh, Rridscp, Mdlck, Mdlckh, Mdcfglck, Entrylck, ErrCfg, ErrInfo, ErrReqaddr, ErrReqaddrh, ErrReqid, Mdcfg, SrcmdEn, SrcmdEnh, SrcmdR, SrcmdRh, SrcmdW, SrcmdWh, SrcmdPerm, SrcmdPermh, EntryAddr, EntryAddrh, EntryCfg}
use Rattle.event_words.specs.Registers.{Registers, fields_of, register_at, bits_of, has_bit}
use Rattle.event_words.specs.Guards.{reg, is_enabled, is_prient_prog, is_locked_domain, bits_from, whole, read_only_bits}

abbrev pub where_true : Bool → ℕ → ℕ
where_true holds bits = if holds then bits else 0

-- the lock bits of domains: bit m + 1 for domain m in the low word, bit m - 31 in the high one
abbrev pub low_locks : Registers → ℕ
low_locks r = reg r Mdlck / 2 * 2

abbrev pub high_locks : Registers → ℕ
high_locks r = reg r Mdlckh

-- a register of requester s, which has the bits of the domains that `locks` has
abbrev pub srcmd_guards : Registers → ℕ → Register → ℕ → ℕ
srcmd_guards r s q locks =
    bit_or (where_true (has_bit (reg r (SrcmdEn s)) 0) (whole r.shape q)) locks

-- a register of domain m
abbrev pub perm_guards : Registers → ℕ → Register → ℕ
perm_guards r m q = where_true (is_locked_domain r m) (whole r.shape q)

-- a register that the bit l of MDLCK guards whole, and each bit of it that is 1
abbrev pub mdlck_guards : Registers → Register → ℕ
mdlck_guards r q = bit_or (reg r q) (where_true (has_bit (reg r Mdlck) 0) (whole r.shape q))

abbrev pub entry_guards : Registers → ℕ → Register → ℕ
entry_guards r i q = where_true (nat_lt i (bits_of 1 16 (reg r Entrylck))) (whole r.shape q)

-- The bits that are guarded beside those of the read-only fields.
abbrev pub locks_of : Registers → Register → ℕ
locks_of r Hwcfg0 =
    bit_or (where_true (is_enabled r) 1)
    (bit_or (where_true (not (is_prient_prog r)) (2 ^ 13))
    (where_true ((r.shape.mdcfg == 2) && is_enabled r) (bits_from 17 7)))
locks_of r Hwcfg1 = 0
locks_of r Hwcfg2 = where_true (not (is_prient_prog r)) (bits_from 0 16)
locks_of r Mdstall = 0
locks_of r Mdstallh = 0
locks_of r Rridscp = 0
locks_of r Mdlck = mdlck_guards r Mdlck
locks_of r Mdlckh = mdlck_guards r Mdlckh
locks_of r Mdcfglck = where_true (has_bit (reg r Mdcfglck) 0) (whole r.shape Mdcfglck)
locks_of r Entrylck = where_true (has_bit (reg r Entrylck) 0) (whole r.shape Entrylck)
locks_of r ErrCfg = where_true (has_bit (reg r ErrCfg) 0) (whole r.shape ErrCfg)
locks_of r ErrInfo = 0
locks_of r ErrReqaddr = 0
locks_of r ErrReqaddrh = 0
locks_of r ErrReqid = 0
locks_of r (Mdcfg m) =
    where_true (nat_lt m (bits_of 1 7 (reg r Mdcfglck))) (whole r.shape (Mdcfg m))
locks_of r (SrcmdEn s) = srcmd_guards r s (SrcmdEn s) (low_locks r)
locks_of r (SrcmdEnh s) = srcmd_guards r s (SrcmdEnh s) (high_locks r)
locks_of r (SrcmdR s) = srcmd_guards r s (SrcmdR s) (low_locks r)
locks_of r (SrcmdRh s) = srcmd_guards r s (SrcmdRh s) (high_locks r)
locks_of r (SrcmdW s) = srcmd_guards r s (SrcmdW s) (low_locks r)
locks_of r (SrcmdWh s) = srcmd_guards r s (SrcmdWh s) (high_locks r)
locks_of r (SrcmdPerm m) = perm_guards r m (SrcmdPerm m)
locks_of r (SrcmdPermh m) = perm_guards r m (SrcmdPermh m)
locks_of r (EntryAddr i) = entry_guards r i (EntryAddr i)
locks_of r (EntryAddrh i) = entry_guards r i (EntryAddrh i)
locks_of r (EntryCfg i) = entry_guards r i (EntryCfg i)

abbrev pub mask_of : Registers → Option Register → ℕ
mask_of r None = 0
mask_of r (Some q) = bit_or (sum_by read_only_bits (fields_of r.shape q)) (locks_of r q)

-- The mask of the register at an index.
abbrev pub keep_mask : Registers → ℕ → ℕ
keep_mask r index = mask_of r (register_at r.shape index)
