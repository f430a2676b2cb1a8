-- A read and a write of a unit do what they do to the state that it stands for.
use Rattle.std.proofs.Common.{◌≡◌, ℕ, ◌^◌, ◌/◌, ◌%◌, ◌<◌, Bool, true, false, ◌&&◌, not, eqb, ltb, List, [], ◌∷◌, Option, Some, None, length, map, filter, count_by, arith, refl, sym, ap, ◌∙◌, subst, length-set}
use Rattle.std.specs.List.{AllByRecursion}
use Rattle.std.proofs.Math.Bool.{and-false}
use Rattle.std.proofs.lemmas.Bool.Decides.{nat_tests}
use Rattle.event_words.specs.declared.access.Access.{Access}
use Rattle.event_words.specs.declared.reply.Denial.{Denial}
use Rattle.event_words.specs.declared.register.Register.{Register}
use Rattle.event_words.specs.declared.register.Register.TheVariants.{Mdstall, Rridscp, ErrInfo}
use Rattle.event_words.specs.Registers.{Registers, index_of, write_at, register_at, has_bit}
use Rattle.event_words.specs.Guards.{guarded_bits, reg}
use Rattle.event_words.specs.Denials.{recorded}
use Rattle.event_words.specs.Stalls.{flag_of, flags_after, flags_after_rridscp, differs, is_selected}
use Rattle.event_words.proofs.Cases.{by_test}
use Rattle.stall_queue.specs.declared.QueuedSubmission.{QueuedSubmission}
use Rattle.stall_queue.specs.Queues.{is_of}
use Rattle.std.proofs.lemmas.List.FromFn.{length-map-range_with_len}
use Rattle.unit_core.specs.declared.Submission.{Submission}
use Rattle.unit_core.specs.declared.parts.IopmpUnit.{IopmpUnit}
use Rattle.unit_core.specs.declared.kept.Kept.{Kept}
use Rattle.unit_core.specs.Submissions.{released_item}
use Rattle.unit_core.specs.Places.{IsHeldBack}
use Rattle.unit_core.specs.Units.{read_value, after_write}
use Rattle.unit_core.specs.Parts.{part_read, IsHeld, IsWritten, stays_until, moved_for}
use Rattle.unit_core.specs.Places.{items_of, queued_among, Agrees, state_with, state_of}
use Rattle.unit_core.proofs.Busy.{flag_known, busy_same}
use Rattle.unit_core.proofs.SubmissionLists.{items_released, queued_released, flying_stalled, flying_moved}
use Rattle.unit_core.proofs.HeldBack.{all_released}

-- ---- a read

pub sim_read : (x : IopmpUnit) (items : List Submission) (index : ℕ) → Agrees x items → part_read x index ≡ read_value (state_with x items) index
sim_read x items index t =
    let b = busy_same x.stall.flags x.stall.counts items (λ s h. t.counts s (omega (arith, t.flags))) in
    rw b refl

-- ---- what stays

pub written_shape : (r : Registers) (index value keep : ℕ) (o : Option Register) → (write_at r index value keep o).shape ≡ r.shape
written_shape r index value keep None = refl
written_shape r index value keep (Some q) = refl

pub recorded_shape : (r : Registers) (a : Access) (d : Denial) → (recorded r a d).shape ≡ r.shape
recorded_shape r a d = by_test (d.kept && not (has_bit (reg r ErrInfo) 0)) _ (λ t. rw t refl) (λ f. rw f refl)

after_rridscp_len : (flags : List Bool) (value : ℕ) → length (flags_after_rridscp flags value) ≡ length flags
after_rridscp_len flags value = by_test (eqb (value / 2 ^ 30) 1) _
    (λ t. rw t (length-set flags (value % 2 ^ 16) true))
    (λ f. by_test (eqb (value / 2 ^ 30) 2) _ (λ t. rw (f, t) (length-set flags (value % 2 ^ 16) false)) (λ g. rw (f, g) refl))

pub flags_after_len : (r : Registers) (flags : List Bool) (index value : ℕ) → length flags ≡ r.shape.rrids → length (flags_after r flags index value) ≡ r.shape.rrids
flags_after_len r flags index value h = by_test (eqb index (index_of Mdstall)) _
    (λ t. rw t (length-map-range_with_len (λ s. differs (has_bit value 0) (is_selected r value s)) 0 r.shape.rrids))
    (λ f. by_test (eqb index (index_of Rridscp)) _ (λ t. rw (f, t) (after_rridscp_len flags value ∙ h)) (λ g. rw (f, g) h))

-- ---- a write

known_pairs : (flags : List Bool) (xs : List Submission) → AllByRecursion (IsHeldBack flags) xs → AllByRecursion (λ (w : QueuedSubmission). w.rrid < length flags) (queued_among xs)
known_pairs flags [] h = tt
known_pairs flags (x ∷ xs) h = by_test x.queued _
    (λ t. rw t (flag_known flags x.access.rrid (h.0 t), known_pairs flags xs h.1))
    (λ f. rw f (known_pairs flags xs h.1))

held_pairs : (flags : List Bool) (xs : List Submission) → AllByRecursion (IsHeldBack flags) xs → AllByRecursion (IsHeld flags) (queued_among xs)
held_pairs flags [] h = tt
held_pairs flags (x ∷ xs) h = by_test x.queued _
    (λ t. rw t (h.0 t, held_pairs flags xs h.1))
    (λ f. rw f (held_pairs flags xs h.1))

pub held_queue : (x : IopmpUnit) (items : List Submission) → Agrees x items → AllByRecursion (IsHeld x.stall.flags) x.queue.items
held_queue x items t = subst (AllByRecursion (IsHeld x.stall.flags)) (sym t.queue) (held_pairs x.stall.flags items t.held)

stays_known : (flags : List Bool) (k : ℕ) (xs : List QueuedSubmission) → AllByRecursion (λ (w : QueuedSubmission). w.rrid < k) xs → filter (stays_until flags k) xs ≡ filter (λ (w : QueuedSubmission). flag_of flags w.rrid) xs
stays_known flags k [] h = refl
stays_known flags k (w ∷ xs) h =
    let rest = stays_known flags k xs h.1 in
    let l : w.rrid < k = h.0 in
    let b : ltb w.rrid k ≡ true = grind (arith, nat_tests) in
    by_test (flag_of flags w.rrid) _ (λ t. rw t (ap (λ ys. w ∷ ys) rest)) (λ f. rw (f, b) rest)

moved_stalled : (flags : List Bool) (k s : ℕ) (xs : List QueuedSubmission) → flag_of flags s ≡ true → moved_for flags k xs s ≡ 0
moved_stalled flags k s xs t = rw (t, and-false (ltb s k)) refl

moved_known : (flags : List Bool) (k s : ℕ) (xs : List QueuedSubmission) → flag_of flags s ≡ false → s < k → moved_for flags k xs s ≡ count_by (is_of s) xs
moved_known flags k s xs t l = let b : ltb s k ≡ true = grind (arith, nat_tests) in rw (b, t) refl

abbrev pub new_items : IopmpUnit → List Submission → List Submission
new_items y items = map (released_item y.stall.flags) items

pub written_queue : (x y : IopmpUnit) (items : List Submission) (index value : ℕ) → Agrees x items → IsWritten x y index value → y.queue.items ≡ filter (λ (w : QueuedSubmission). flag_of y.stall.flags w.rrid) x.queue.items
written_queue x y items index value t w =
    let fl = flags_after x.regs x.stall.flags index value in
    let known : AllByRecursion (λ (v : QueuedSubmission). v.rrid < x.regs.shape.rrids) x.queue.items =
    subst (AllByRecursion (λ (v : QueuedSubmission). v.rrid < x.regs.shape.rrids)) (sym t.queue) (subst (λ k. AllByRecursion (λ (v : QueuedSubmission). v.rrid < k) (queued_among items)) t.flags (known_pairs x.stall.flags items t.held)) in
    w.released.items ∙ (stays_known fl x.regs.shape.rrids x.queue.items known ∙ ap (λ fs. filter (λ (v : QueuedSubmission). flag_of fs v.rrid) x.queue.items) (sym w.released.flags))

pub written_tied : (x y : IopmpUnit) (items : List Submission) (index value : ℕ) → Agrees x items → IsWritten x y index value → Agrees y (new_items y items)
written_tied x y items index value t w =
    let shape : y.regs.shape ≡ x.regs.shape = ap (λ (r : Registers). r.shape) w.regs ∙ written_shape x.regs index value (guarded_bits x.regs index) (register_at x.regs.shape index) in
    let rrids : y.regs.shape.rrids ≡ x.regs.shape.rrids = ap (λ (h : Rattle.event_words.specs.declared.shape.Shape.Shape). h.rrids) shape in
    let queue : y.regs.shape.queue ≡ x.regs.shape.queue = ap (λ (h : Rattle.event_words.specs.declared.shape.Shape.Shape). h.queue) shape in
    record {
      flags = ap length w.released.flags ∙ (flags_after_len x.regs x.stall.flags index value t.flags ∙ sym rrids);
      counts_len = w.released.len ∙ (t.counts_len ∙ sym rrids);
      size = w.released.size ∙ (t.size ∙ sym queue);
      counts = λ s h.
          let c = w.released.counts s in
          let l : s < x.regs.shape.rrids = omega arith in
          let old = t.counts s l in
          let fl = ap (λ fs. flag_of fs s) w.released.flags in
          let q : count_by (is_of s) x.queue.items ≡ count_by (is_of s) (queued_among items) = ap (count_by (is_of s)) t.queue in
          by_test (flag_of y.stall.flags s) _
          (λ f. let m = moved_stalled (flags_after x.regs x.stall.flags index value) x.regs.shape.rrids s x.queue.items (sym fl ∙ f) in
          let n = flying_stalled y.stall.flags s items f in omega (arith, c, old, m, n))
          (λ f. let m = moved_known (flags_after x.regs x.stall.flags index value) x.regs.shape.rrids s x.queue.items (sym fl ∙ f) l in
          let n = flying_moved y.stall.flags s items f in omega (arith, c, old, m, n, q));
      queue = written_queue x y items index value t w ∙ (ap (filter (λ (v : QueuedSubmission). flag_of y.stall.flags v.rrid)) t.queue ∙ sym (queued_released y.stall.flags items));
      held = all_released y.stall.flags items;
    }

pub written_state : (x y : IopmpUnit) (items : List Submission) (index value : ℕ) → IsWritten x y index value → state_with y (new_items y items) ≡ after_write (state_with x items) index value
written_state x y items index value w = rw (w.regs, w.released.flags) refl

pub sim_write : (u : ℕ) (x y : IopmpUnit) (ws : List Kept) (index value : ℕ) → Agrees x (items_of u x.queue.items ws) → IsWritten x y index value
    → Agrees y (items_of u y.queue.items ws) × (state_of u y ws ≡ after_write (state_of u x ws) index value)
sim_write u x y ws index value t w =
    let e : items_of u y.queue.items ws ≡ new_items y (items_of u x.queue.items ws) = ap (λ q. items_of u q ws) (written_queue x y _ index value t w) ∙ items_released u x.queue.items ws y.stall.flags t.queue in (
      subst (Agrees y) (sym e) (written_tied x y _ index value t w),
      ap (state_with y) e ∙ written_state x y (items_of u x.queue.items ws) index value w,
    )
