-- For the crates above: a caller's own events, with their places and replies, through calls and in a
-- closed history.
use Rattle.std.proofs.Common.{◌≡◌, ℕ, List, [], ◌∷◌, ◌++◌, length, sym, ap, ◌∙◌, arith}
use Rattle.std.proofs.lemmas.List.{nil_from_length}
use Rattle.event_words.specs.declared.event.Event.{Event}
use Rattle.event_words.specs.declared.reply.Reply.{Reply}
use Rattle.event_words.specs.declared.record.LoggedEvent.{LoggedEvent}
use Rattle.event_words.specs.Events.{caller_of}
use Rattle.event_words.specs.Records.{events_by}
use Rattle.event_words.specs.Runs.{run, logged}
use Rattle.event_words.specs.Valid.{IsValidEvent}
use Rattle.event_words.specs.Word.{word_of}
use Rattle.event_words.proofs.Runs.{events-of-others, events-of-beginning, events-after-call}
use Rattle.shared_log.specs.Words.{words_by}
use Rattle.shared_log.specs.Callers.{CallerView, AfterCall, KeepsBudget}
use Rattle.shared_log.specs.OwnEvents.{own_events}
use Rattle.shared_log.specs.Histories.{HoldsCaller}

module _ {M S : Type 0} (after : S → ℕ → ℕ → S) (reply : S → ℕ → ℕ → Reply) where
  -- the event of a call, at its place
  abbrev pub logged_call : (c : CallerView M S) (e : Event) (answer : Reply) (d : CallerView M S) → AfterCall after reply c (word_of e) answer d → LoggedEvent
  logged_call c e answer d call = record { place = length (c.log ++ call.between); event = e; reply = answer }

  -- A call adds exactly its event to the caller's own, with its place and the reply that it answered.
  pub own_events-after-call : (c d : CallerView M S) (e : Event) (answer : Reply) (call : AfterCall after reply c (word_of e) answer d) → IsValidEvent e → caller_of e ≡ c.number
      → own_events after reply d ≡ own_events after reply c ++ logged_call c e answer d call ∷ []
  own_events-after-call c d e answer call valid own =
      let l : List ℕ = c.log ++ call.between in
      let it : Reply → LoggedEvent = λ r. record { place = length l; event = e; reply = r } in
      let none : words_by (caller_of e) call.between ≡ [] = ap (λ n. words_by n call.between) own ∙ call.others in
      ap (λ (x : CallerView M S). events_by x.number (logged after reply x.first d.log)) call.same
      ∙ ap (λ (k : List ℕ). events_by c.number (logged after reply c.first k)) call.log
      ∙ ap (λ n. events_by n (logged after reply c.first (l ++ word_of e ∷ []))) (sym own)
      ∙ events-after-call after reply c.first c.log call.between e valid none
      ∙ ap (λ n. events_by n (logged after reply c.first c.log) ++ it (reply (run after c.first l) (length l) (word_of e)) ∷ []) own
      ∙ ap (λ r. own_events after reply c ++ it r ∷ []) (sym call.answered)

  -- The caller's own events of a history that holds the caller are those of its log.
  pub own_events-in-history : (history : List ℕ) (c : CallerView M S) → HoldsCaller history c → events_by c.number (logged after reply c.first history) ≡ own_events after reply c
  own_events-in-history history c h =
      ap (λ (k : List ℕ). events_by c.number (logged after reply c.first k)) h.log.begins
      ∙ events-of-beginning after reply c.number c.first c.log h.log.rest h.log.no_more

  -- A caller that made no event yet has none in its log.
  pub own_events-at-first : (c : CallerView M S) → KeepsBudget c → c.left ≡ c.budget → own_events after reply c ≡ []
  own_events-at-first c budget left = events-of-others after reply c.number 0 c.first c.log (nil_from_length (words_by c.number c.log) (omega arith))
