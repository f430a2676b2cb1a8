-- Events of one caller, one after another.
use Rattle.std.proofs.Common.{◌≡◌, ℕ, List, [], ◌∷◌, ◌++◌, refl, sym, ap, ◌∙◌, arith, length-append, append_assoc, append-nil}
use Rattle.event_words.specs.declared.event.Event.{Event}
use Rattle.event_words.specs.declared.reply.Reply.{Reply}
use Rattle.event_words.specs.declared.record.LoggedEvent.{LoggedEvent}
use Rattle.event_words.specs.Events.{caller_of}
use Rattle.event_words.specs.Valid.{IsValidEvent}
use Rattle.event_words.specs.Word.{word_of}
use Rattle.shared_log.specs.Callers.{SharedView, CallerView, Belongs, AfterCall}
use Rattle.shared_log.specs.OwnEvents.{own_events}
use Rattle.shared_log.proofs.Histories.{logged_call, own_events-after-call}
use Rattle.cascade_path.specs.Making.{MakesEvents}

module _ {M S : Type 0} (after : S → ℕ → ℕ → S) (reply : S → ℕ → ℕ → Reply) where
  pub makes_none : (c : CallerView M S) → MakesEvents after reply c [] c
  makes_none c = record { own = sym (append-nil (own_events after reply c)); later = []; log = sym (append-nil c.log); left = omega arith; same = refl }

  pub makes_one : (c d : CallerView M S) (e : Event) (r : Reply) (call : AfterCall after reply c (word_of e) r d) → IsValidEvent e → caller_of e ≡ c.number → MakesEvents after reply c (logged_call after reply c e r d call ∷ []) d
  makes_one c d e r call valid own = record {
    own = own_events-after-call after reply c d e r call valid own;
    later = call.between ++ word_of e ∷ [];
    log = call.log ∙ append_assoc c.log call.between (word_of e ∷ []);
    left = call.left;
    same = call.same;
  }

  pub makes_both : (c d f : CallerView M S) (made more : List LoggedEvent) → MakesEvents after reply c made d → MakesEvents after reply d more f → MakesEvents after reply c (made ++ more) f
  makes_both c d f made more a b = record {
    own = b.own ∙ ap (λ (l : List LoggedEvent). l ++ more) a.own ∙ append_assoc (own_events after reply c) made more;
    later = a.later ++ b.later;
    log = b.log ∙ ap (λ (l : List ℕ). l ++ b.later) a.log ∙ append_assoc c.log a.later b.later;
    left = let x = a.left in let y = b.left in omega (arith, length-append made more);
    same = b.same ∙ ap (λ (v : CallerView M S). let w : CallerView M S = record v { log = f.log; left = f.left; machine = f.machine } in w) a.same;
  }

  pub same_number : (c d : CallerView M S) (made : List LoggedEvent) → MakesEvents after reply c made d → d.number ≡ c.number
  same_number c d made a = ap (λ (v : CallerView M S). v.number) a.same

  pub belongs_still : (c d : CallerView M S) (made : List LoggedEvent) (s : SharedView) → MakesEvents after reply c made d → Belongs c s → Belongs d s
  belongs_still c d made s a b = (ap (λ (v : CallerView M S). v.table) a.same ∙ b.0, ap (λ (v : CallerView M S). v.callers) a.same ∙ b.1, ap (λ (v : CallerView M S). v.budget) a.same ∙ b.2)
