-- Judgements until the reply isn't Held.
use Rattle.std.proofs.Common.{◌≡◌, ℕ, suc, ◌+◌, ◌-◌, ◌<◌, ◌≤◌, false, List, [], ◌∷◌, ◌++◌, length, refl, sym, ap, ◌∙◌, arith, length-append, append_assoc}
use Rattle.event_words.specs.declared.event.Event.{Event}
use Rattle.event_words.specs.declared.reply.Reply.{Reply}
use Rattle.event_words.specs.declared.reply.Reply.TheVariants as replies
use Rattle.event_words.specs.declared.record.LoggedEvent.{LoggedEvent}
use Rattle.event_words.specs.Events.{caller_of}
use Rattle.event_words.specs.Records.{is_held}
use Rattle.event_words.specs.Valid.{IsValidEvent}
use Rattle.event_words.specs.Word.{word_of}
use Rattle.shared_log.specs.Callers.{CallerView, AfterCall}
use Rattle.shared_log.proofs.Histories.{logged_call}
use Rattle.cascade_path.specs.Making.{MakesEvents}
use Rattle.cascade_path.specs.Stages.{JudgesUntil}
use Rattle.cascade_path.proofs.Making.{makes_none, makes_one, makes_both, same_number}
use Rattle.cascade_path.proofs.Repeats.{judgements_left, judgements-held, judgements-last, some_judgements}

module _ {M S : Type 0} (after : S → ℕ → ℕ → S) (reply : S → ℕ → ℕ → Reply) where
  -- after i judgements, all of which replied Held
  pub record Judging (c : CallerView M S) (e : Event) (max i : ℕ) (d : CallerView M S) : Type 0 where
    pub made : List LoggedEvent
    pub adds : MakesEvents after reply c made d
    pub count : length made ≡ i
    pub so_far : (rest : List LoggedEvent) → judgements_left max e (made ++ rest) ≡ judgements_left (max - i) e rest

  pub judging_none : (c : CallerView M S) (e : Event) (max : ℕ) → Judging c e max 0 c
  judging_none c e max = record {
    made = [];
    adds = makes_none after reply c;
    count = refl;
    so_far = λ rest. let n : max ≡ max - 0 = omega arith in ap (λ (k : ℕ). judgements_left k e rest) n;
  }

  -- the events with one judgement more
  pub judged_more : (c d f : CallerView M S) (e : Event) (max i : ℕ) (r : Reply) (b : Judging c e max i d) (call : AfterCall after reply d (word_of e) r f) → IsValidEvent e → caller_of e ≡ c.number
      → MakesEvents after reply c (b.made ++ logged_call after reply d e r f call ∷ []) f
  judged_more c d f e max i r b call valid own =
      makes_both after reply c d f b.made (logged_call after reply d e r f call ∷ []) b.adds
      (makes_one after reply d f e r call valid (own ∙ sym (same_number after reply c d b.made b.adds)))

  next_left : (c d : CallerView M S) (e : Event) (max i : ℕ) (b : Judging c e max i d) → i < max → (x : LoggedEvent) (rest : List LoggedEvent)
      → judgements_left max e ((b.made ++ x ∷ []) ++ rest) ≡ judgements_left (suc (max - (i + 1))) e (x ∷ rest)
  next_left c d e max i b h x rest =
      let n : max - i ≡ suc (max - (i + 1)) = omega arith in
      ap (judgements_left max e) (append_assoc b.made (x ∷ []) rest) ∙ b.so_far (x ∷ rest) ∙ ap (λ (k : ℕ). judgements_left k e (x ∷ rest)) n

  pub judging_held : (c d f : CallerView M S) (e : Event) (max i : ℕ) (r : Reply) → Judging c e max i d → i < max → AfterCall after reply d (word_of e) r f → IsValidEvent e → caller_of e ≡ c.number → r ≡ replies.Held
      → Judging c e max (i + 1) f
  judging_held c d f e max i r b h call valid own held =
      let x : LoggedEvent = logged_call after reply d e r f call in record {
        made = b.made ++ x ∷ [];
        adds = judged_more c d f e max i r b call valid own;
        count = let n = b.count in omega (arith, length-append b.made (x ∷ []));
        so_far = λ rest. next_left c d e max i b h x rest ∙ judgements-held (max - (i + 1)) e x rest refl held;
      }

  pub judging_last : (c d f : CallerView M S) (e : Event) (max i : ℕ) (r : Reply) → Judging c e max i d → i < max → AfterCall after reply d (word_of e) r f → IsValidEvent e → caller_of e ≡ c.number → is_held r ≡ false
      → JudgesUntil after reply c e max r f
  judging_last c d f e max i r b h call valid own last =
      let x : LoggedEvent = logged_call after reply d e r f call in record {
        made = b.made ++ x ∷ [];
        adds = judged_more c d f e max i r b call valid own;
        few = let n = b.count in omega (arith, length-append b.made (x ∷ []));
        record_is = λ rest. some_judgements max e ((b.made ++ x ∷ []) ++ rest) (omega arith) ∙ next_left c d e max i b h x rest ∙ judgements-last (max - (i + 1)) e x rest refl last;
      }

  pub judging_end : (c d : CallerView M S) (e : Event) (max i : ℕ) → Judging c e max i d → max ≤ i → i ≤ max → 1 ≤ max → JudgesUntil after reply c e max replies.Held d
  judging_end c d e max i b low high some = record {
    made = b.made;
    adds = b.adds;
    few = let n = b.count in omega arith;
    record_is = λ rest. some_judgements max e (b.made ++ rest) some ∙ b.so_far rest ∙ (let n : max - i ≡ 0 = omega arith in ap (λ (k : ℕ). judgements_left k e rest) n);
  }
