-- The caller's word stands at its place, or another caller's stands there and is taken.
use Rattle.std.proofs.Common.{◌≡◌, ℕ, ◌-◌, ◌<◌, eqb, [], ◌∷◌, ◌++◌, length, sym, ap, ◌∙◌, subst, arith, length-append}
use prog.Atomic.{either}
use Rattle.atomic_table.specs.Table.{Allows}
use Rattle.event_words.specs.Word.{word_of}
use Rattle.event_words.specs.Runs.{caller_of_word, IsEventWord}
use Rattle.event_words.proofs.Runs.{caller_of_word-word_of, word_of-is_word}
use Rattle.shared_log.specs.Words.{words_by}
use Rattle.shared_log.specs.SeatViews.{with_word}
use Rattle.shared_log.specs.Rule.{IsSharedLog}
use Rattle.shared_log.specs.Callers.{AfterOthers}
use Rattle.shared_log.specs.Exchanges.{AfterExchange}
use Rattle.shared_log.proofs.WordLists.{words-snoc-other, words-snoc-own}
use Rattle.shared_log.proofs.LogSteps.{exchange_allowed}
use Rattle.shared_log.proofs.Callers.{no_others, own_words_below_budget, one_word_more, word_of_others_more, after_call, caller_of_fields}
use Rattle.shared_log.proofs.caller.Caller.call.Goals as goal

pub word-init : goal.word-init
word-init g c = record {
  empty = c.self.invariant.0;
  is = c.self.invariant.1;
  some_left = let e = ap (λ d. d.left) c.self.view_is in let h = c.requires.left in omega arith;
  so_far = subst (λ d. AfterOthers c.args.self.now d) (sym c.self.view_is) (no_others c.args.self.now);
}

pub compare_exchange-found-requires : goal.compare_exchange-found-requires
compare_exchange-found-requires g c =
    let m = g.M.Machine in
    let i = c.word.invariant.is in
    let h = c.word.invariant.so_far in
    let seat = c.word.self-inside.seat in
    let k = c.shared.inside.table.shared in
    let same : seat.table_id ≡ k.table_id = ap (λ d. d.table) h.same ∙ c.requires.belongs.0 ∙ sym (ap (λ l. l.table) c.shared.view_is) in
    let room : c.word.self-inside.place < seat.table_id.words = i.room c.word.invariant.some_left in
    let mine : caller_of_word c.pack-word.result ≡ seat.me.0.number = ap caller_of_word c.pack-word.ensures.word ∙ caller_of_word-word_of c.args.event c.requires.event.0 ∙ c.requires.event.1 ∙ sym (ap (λ d. d.number) h.same) in
    let event : IsEventWord c.pack-word.result = subst IsEventWord (sym c.pack-word.ensures.word) (word_of-is_word c.args.event c.requires.event.0) in (
      same,
      subst (λ (n : ℕ). c.word.self-inside.place < n) (ap (λ t. t.words) same) room,
      subst (λ (n : ℕ). Allows (λ s. IsSharedLog k.key.callers k.key.budget s.words s.views) k.table_id.slots seat.id seat.me n (λ x. either (eqb x 0) c.pack-word.result x) (λ x me'. (me'.1 ≡ seat.me.1) × AfterExchange c.pack-word.result seat.me.0 x me'.0))
          (sym i.place_is)
          (exchange_allowed k.key.callers k.key.budget k.table_id.slots seat.id seat.me c.pack-word.result i.live mine event (own_words_below_budget m.state m.next_place m.places m.after i c.word.invariant.some_left)),
    )

pub word-preserved : goal.word-preserved
word-preserved g c =
    let m = g.M.Machine in
    let i = c.word.invariant.is in
    let ex = c.compare_exchange-found.ensures in
    let lost = ex.2.1.lost c.if-found-eq0.false in
    let other : words_by c.word.self-inside.number (c.word.self-inside.seat.me.0.log ++ c.compare_exchange-found.result ∷ []) ≡ words_by c.word.self-inside.number c.word.self-inside.seat.me.0.log
    = words-snoc-other c.word.self-inside.number c.word.self-inside.seat.me.0.log c.compare_exchange-found.result (λ e. lost.1 (e ∙ sym i.number_is)) in
    let left = i.left_is in record {
      empty = ex.2.0 ∙ c.word.invariant.empty;
      is = one_word_more m.state m.next_place m.places m.after i c.compare_exchange-found.result c.compare_exchange-found.new.seat.me.0 c.word.self-inside.left c.advance.new.self c.compare_exchange-found.new.seat.table_id.words
          lost.0 ex.2.1.valid (ap (λ t. t.words) ex.0) c.advance.ensures.state c.advance.ensures.next c.advance.ensures.places (omega (arith, ap length other));
      some_left = c.word.invariant.some_left;
      so_far = word_of_others_more m.state m.next_place m.places m.after c.word.self-inside.seat.table_id c.word.self-inside.seat.me.0 c.word.self-inside.left c.word.self-inside.machine (m.state c.word.self-inside.first.value) c.word.invariant.so_far c.compare_exchange-found.result c.compare_exchange-found.new.seat.me.0 c.compare_exchange-found.new.seat.table_id c.advance.new.self lost.0 lost.1 ex.0;
    }

-- the caller's fields after a won exchange
won_fields : goal.invariant_of-self
won_fields g c =
    let m = g.M.Machine in
    let i = c.word.invariant.is in
    let ex = c.compare_exchange-found.ensures in
    let won = ex.2.1.won c.if-found-eq0.true in
    let mine : caller_of_word c.pack-word.result ≡ c.word.self-inside.number = ap caller_of_word c.pack-word.ensures.word ∙ caller_of_word-word_of c.args.event c.requires.event.0 ∙ c.requires.event.1 ∙ sym (ap (λ d. d.number) c.word.invariant.so_far.same) ∙ i.number_is in
    let own : words_by c.word.self-inside.number (c.word.self-inside.seat.me.0.log ++ c.pack-word.result ∷ []) ≡ words_by c.word.self-inside.number c.word.self-inside.seat.me.0.log ++ c.pack-word.result ∷ []
    = words-snoc-own c.word.self-inside.number c.word.self-inside.seat.me.0.log c.pack-word.result mine in
    let left = i.left_is in
    let some_left = c.word.invariant.some_left in (
      ex.2.0 ∙ c.word.invariant.empty,
      one_word_more m.state m.next_place m.places m.after i c.pack-word.result c.compare_exchange-found.new.seat.me.0 (c.word.self-inside.left - 1) c.apply.new.self c.compare_exchange-found.new.seat.table_id.words
          won ex.2.1.valid (ap (λ t. t.words) ex.0) c.apply.ensures.state c.apply.ensures.next c.apply.ensures.places
          (omega (arith, ap length own, length-append (words_by c.word.self-inside.number c.word.self-inside.seat.me.0.log) (c.pack-word.result ∷ []))),
    )

pub invariant_of-self : goal.invariant_of-self
invariant_of-self g c = won_fields g c

pub returns-then-found-eq0-clause-call : goal.returns-then-found-eq0-clause-call
returns-then-found-eq0-clause-call g c =
    let m = g.M.Machine in
    let i = c.word.invariant.is in
    let h = c.word.invariant.so_far in
    let ex = c.compare_exchange-found.ensures in
    let won = ex.2.1.won c.if-found-eq0.true in
    let some_left = c.word.invariant.some_left in
    after_call m.state m.next_place m.places m.after m.reply c.word.self-inside.seat.table_id i h (word_of c.args.event) c.compare_exchange-found.new.seat.me.0 (c.word.self-inside.left - 1) c.apply.new.self c.compare_exchange-found.new.seat.table_id c.apply.result
    (won ∙ ap (with_word c.word.self-inside.seat.me.0) c.pack-word.ensures.word) ex.0 (omega arith) (c.apply.ensures.reply ∙ ap (m.reply (m.state c.word.self-inside.machine) c.word.self-inside.place) c.pack-word.ensures.word)

pub returns-then-found-eq0-clause-caller : goal.returns-then-found-eq0-clause-caller
returns-then-found-eq0-clause-caller g c =
    let m = g.M.Machine in
    caller_of_fields m.state m.next_place m.places m.after c.compare_exchange-found.new.seat.table_id (won_fields g c).1
