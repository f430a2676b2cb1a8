-- Which requesters a set of domains selects.
use Rattle.std.specs.Prelude.{ℕ, ◌&&◌, Bool}
use Rattle.std.specs.List.{range_with_len, list_any}
use Rattle.event_words.specs.Registers.{Registers, has_bit}
use Rattle.event_words.specs.Domains.{is_associated}

-- Requester s is associated with some domain of a mask, which has bit m for domain m.
abbrev pub is_among : Registers → ℕ → ℕ → Bool
is_among r domains s =
    list_any (λ m. has_bit domains m && is_associated r s m) (range_with_len 0 r.shape.domains)
