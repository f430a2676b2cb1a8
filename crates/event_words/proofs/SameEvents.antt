-- Events that are the same by the test are one, and each is the same as itself.
use Rattle.std.proofs.Common.{◌≡◌, ℕ, Bool, true, false, ◌&&◌, cond, eqb, refl, sym, ap, ◌∙◌, eq-eqb}
use Rattle.std.proofs.lemmas.Bool.{and_from, and_parts, eqb-true}
use Rattle.event_words.specs.declared.access.Access.{Access}
use Rattle.event_words.specs.declared.access.Kind.{Kind}
use Rattle.event_words.specs.declared.access.Kind.TheVariants.{Read, Write, Fetch}
use Rattle.event_words.specs.declared.event.Event.{Event}
use Rattle.event_words.specs.declared.event.Event.TheVariants as events
use Rattle.event_words.specs.Events.{same_event, same_access}
use Rattle.event_words.specs.Word.{kind_code}

-- ---- the test tells

abbrev kind_of : ℕ → Kind
kind_of n = cond (eqb n 0) Read (cond (eqb n 1) Write Fetch)

kind_back : (k : Kind) → kind_of (kind_code k) ≡ k
kind_back Read = refl
kind_back Write = refl
kind_back Fetch = refl

same_kind : (a b : Kind) → eqb (kind_code a) (kind_code b) ≡ true → a ≡ b
same_kind a b h = sym (kind_back a) ∙ ap kind_of (eqb-true (kind_code a) (kind_code b) h) ∙ kind_back b

access_of : (r s : ℕ) (k l : Kind) (d e n m : ℕ) → r ≡ s → k ≡ l → d ≡ e → n ≡ m
    → (let a : Access = record { rrid = r; kind = k; addr = d; len = n } in a) ≡ record { rrid = s; kind = l; addr = e; len = m }
access_of r s k l d e n m p q x y = cc

same_access_is : (a b : Access) → same_access a b ≡ true → a ≡ b
same_access_is a b h =
    let one = and_parts (eqb a.rrid b.rrid) _ h in
    let two = and_parts (eqb (kind_code a.kind) (kind_code b.kind)) _ one.1 in
    let three = and_parts (eqb a.addr b.addr) _ two.1 in
    access_of a.rrid b.rrid a.kind b.kind a.addr b.addr a.len b.len
    (eqb-true a.rrid b.rrid one.0) (same_kind a.kind b.kind two.0) (eqb-true a.addr b.addr three.0) (eqb-true a.len b.len three.1)

two_are : (a a' b b' : ℕ) → (eqb a a' && eqb b b') ≡ true → (a ≡ a') × (b ≡ b')
two_are a a' b b' t = let p = and_parts (eqb a a') (eqb b b') t in (eqb-true a a' p.0, eqb-true b b' p.1)

head_is : (u u' c c' : ℕ) (rest : Bool) → (eqb u u' && (eqb c c' && rest)) ≡ true → (u ≡ u') × (c ≡ c') × (rest ≡ true)
head_is u u' c c' rest t =
    let p = and_parts (eqb u u') (eqb c c' && rest) t in
    let q = and_parts (eqb c c') rest p.1 in
    (eqb-true u u' p.0, eqb-true c c' q.0, q.1)

pub same_event_is : (e x : Event) → same_event e x ≡ true → x ≡ e
same_event_is (events.RegWrite u c i v) (events.RegWrite u' c' i' v') h =
    let p = head_is u u' c c' (eqb i i' && eqb v v') h in
    let q = two_are i i' v v' p.2 in
    cc (p.0, p.1, q.0, q.1)
same_event_is (events.RegRead u c i) (events.RegRead u' c' i') h =
    let p = head_is u u' c c' (eqb i i') h in
    cc (p.0, p.1, eqb-true i i' p.2)
same_event_is (events.Submit u c a) (events.Submit u' c' a') h =
    let p = head_is u u' c c' (same_access a a') h in
    cc (p.0, p.1, same_access_is a a' p.2)
same_event_is (events.Judge u c p) (events.Judge u' c' p') h =
    let q = head_is u u' c c' (eqb p p') h in
    cc (q.0, q.1, eqb-true p p' q.2)
same_event_is (events.Aim c a) (events.Aim c' a') h =
    let p = two_are c c' a a' h in
    cc (p.0, p.1)
same_event_is (events.Wide u c s k n) (events.Wide u' c' s' k' n') h =
    let p = head_is u u' c c' (eqb s s' && (eqb (kind_code k) (kind_code k') && eqb n n')) h in
    let q = and_parts (eqb s s') (eqb (kind_code k) (kind_code k') && eqb n n') p.2 in
    let r = and_parts (eqb (kind_code k) (kind_code k')) (eqb n n') q.1 in
    cc (p.0, p.1, eqb-true s s' q.0, same_kind k k' r.0, eqb-true n n' r.1)
same_event_is _ _ h = absurd (let n : false ≡ true = h in cc)

-- ---- an event is the same as itself

self : (n : ℕ) → eqb n n ≡ true
self n = eq-eqb n n refl

pub same_event_self : (e : Event) → same_event e e ≡ true
same_event_self (events.RegWrite u c i v) = and_from _ _ (self u) (and_from _ _ (self c) (and_from _ _ (self i) (self v)))
same_event_self (events.RegRead u c i) = and_from _ _ (self u) (and_from _ _ (self c) (self i))
same_event_self (events.Submit u c a) = and_from _ _ (self u) (and_from _ _ (self c) (and_from _ _ (self a.rrid) (and_from _ _ (self (kind_code a.kind)) (and_from _ _ (self a.addr) (self a.len)))))
same_event_self (events.Judge u c p) = and_from _ _ (self u) (and_from _ _ (self c) (self p))
same_event_self (events.Aim c a) = and_from _ _ (self c) (self a)
same_event_self (events.Wide u c s k n) = and_from _ _ (self u) (and_from _ _ (self c) (and_from _ _ (self s) (and_from _ _ (self (kind_code k)) (self n))))
