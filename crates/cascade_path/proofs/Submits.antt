-- What the calls of a submission make.
use Rattle.std.proofs.Common.{◌≡◌, ℕ, ◌+◌, true, false, [], ◌∷◌, ◌++◌, length, refl, sym, ap, ◌∙◌, subst, length-append, inl, inr}
use Rattle.event_words.specs.declared.access.Access.{Access}
use Rattle.event_words.specs.declared.event.Event.{Event}
use Rattle.event_words.specs.declared.event.Event.TheVariants as events
use Rattle.event_words.specs.declared.reply.Reply.{Reply}
use Rattle.event_words.specs.declared.reply.Reply.TheVariants as replies
use Rattle.event_words.specs.declared.record.LoggedEvent.{LoggedEvent}
use Rattle.event_words.specs.Records.{is_aimed, wide_event}
use Rattle.event_words.specs.Valid.{IsValidEvent, is_narrow}
use Rattle.event_words.specs.Word.{word_of}
use Rattle.shared_log.specs.Callers.{CallerView, AfterCall}
use Rattle.shared_log.proofs.Histories.{logged_call}
use Rattle.cascade_path.specs.declared.chain.ChainReply.TheVariants.{Odd}
use Rattle.cascade_path.specs.Stages.{MissesAim, Submits}
use Rattle.cascade_path.proofs.Making.{makes_one, makes_both, same_number}

module _ {M S : Type 0} (after : S → ℕ → ℕ → S) (reply : S → ℕ → ℕ → Reply) where
  stands_last : (c d : CallerView M S) (e : Event) (r : Reply) (call : AfterCall after reply c (word_of e) r d) → (logged_call after reply c e r d call).place + 1 ≡ length d.log
  stands_last c d e r call = sym (ap length call.log ∙ length-append (c.log ++ call.between) (word_of e ∷ []))

  pub submits_narrow : (c d : CallerView M S) (unit number : ℕ) (a : Access) (r : Reply) → AfterCall after reply c (word_of (events.Submit unit number a)) r d → number ≡ c.number → IsValidEvent (events.Submit unit number a) → is_narrow a ≡ true
      → Submits after reply c unit a r d
  submits_narrow c d unit number a r call own valid narrow = submits
      (subst (λ (n : ℕ). AfterCall after reply c (word_of (events.Submit unit n a)) r d) own call)
      (subst (λ (n : ℕ). IsValidEvent (events.Submit unit n a)) own valid)
    where
      submits : AfterCall after reply c (word_of (events.Submit unit c.number a)) r d → IsValidEvent (events.Submit unit c.number a) → Submits after reply c unit a r d
      submits call valid =
          let e : Event = events.Submit unit c.number a in record {
            before = [];
            last = logged_call after reply c e r d call;
            adds = makes_one after reply c d e r call valid refl;
            is = inl (record { narrow = narrow; alone = refl; event = refl });
            place = stands_last c d e r call;
            replied = refl;
          }

  pub misses_aim : (c d : CallerView M S) (stage number : ℕ) (a : Access) (r : Reply) → AfterCall after reply c (word_of (events.Aim number a.addr)) r d → number ≡ c.number → IsValidEvent (events.Aim number a.addr) → is_narrow a ≡ false → is_aimed r ≡ false
      → MissesAim after reply c stage a (Odd stage r) d
  misses_aim c d stage number a r call own valid wide refused = misses
      (subst (λ (n : ℕ). AfterCall after reply c (word_of (events.Aim n a.addr)) r d) own call)
      (subst (λ (n : ℕ). IsValidEvent (events.Aim n a.addr)) own valid)
    where
      misses : AfterCall after reply c (word_of (events.Aim c.number a.addr)) r d → IsValidEvent (events.Aim c.number a.addr) → MissesAim after reply c stage a (Odd stage r) d
      misses call valid =
          let e : Event = events.Aim c.number a.addr in record {
            aim = logged_call after reply c e r d call;
            adds = makes_one after reply c d e r call valid refl;
            is = record { wide = wide; aims = refl; refused = refused };
            decides = refl;
          }

  pub submits_wide : (c b d : CallerView M S) (unit number : ℕ) (a : Access) (first r : Reply) → AfterCall after reply c (word_of (events.Aim number a.addr)) first b → AfterCall after reply b (word_of (wide_event unit number a)) r d → number ≡ c.number
      → IsValidEvent (events.Aim number a.addr) → IsValidEvent (wide_event unit number a) → is_narrow a ≡ false → first ≡ replies.Aimed → Submits after reply c unit a r d
  submits_wide c b d unit number a first r aiming call own valid_aim valid wide aimed = submits
      (subst (λ (n : ℕ). AfterCall after reply c (word_of (events.Aim n a.addr)) first b) own aiming)
      (subst (λ (n : ℕ). AfterCall after reply b (word_of (wide_event unit n a)) r d) own call)
      (subst (λ (n : ℕ). IsValidEvent (events.Aim n a.addr)) own valid_aim)
      (subst (λ (n : ℕ). IsValidEvent (wide_event unit n a)) own valid)
    where
      submits : AfterCall after reply c (word_of (events.Aim c.number a.addr)) first b → AfterCall after reply b (word_of (wide_event unit c.number a)) r d → IsValidEvent (events.Aim c.number a.addr) → IsValidEvent (wide_event unit c.number a) → Submits after reply c unit a r d
      submits aiming call valid_aim valid =
          let e : Event = events.Aim c.number a.addr in
          let f : Event = wide_event unit c.number a in
          let x : LoggedEvent = logged_call after reply c e first b aiming in
          let y : LoggedEvent = logged_call after reply b f r d call in
          let one = makes_one after reply c b e first aiming valid_aim refl in record {
            before = x ∷ [];
            last = y;
            adds = makes_both after reply c b d (x ∷ []) (y ∷ []) one (makes_one after reply b d f r call valid (sym (same_number after reply c b (x ∷ []) one)));
            is = inr (record { wide = wide; aim = x; after_aim = refl; aims = refl; aimed = aimed; event = refl });
            place = stands_last b d f r call;
            replied = refl;
          }
