-- A machine that adds up the words that it takes, modulo 2 ^ 32.
use Rattle.std.specs.Prelude.{ℕ, ◌+◌, ◌%◌, ◌^◌}
use Rattle.event_words.specs.declared.reply.Reply.{Reply}
use Rattle.event_words.specs.declared.reply.Reply.TheVariants.{Value}

pub record AdderView : Type 0 where
  pub sum : ℕ
  pub next_place : ℕ
  pub places : ℕ

abbrev pub sum_after : ℕ → ℕ → ℕ → ℕ
sum_after sum place word = (sum + word % 2 ^ 32) % 2 ^ 32

abbrev pub sum_reply : ℕ → ℕ → ℕ → Reply
sum_reply sum place word = Value (sum_after sum place word)
