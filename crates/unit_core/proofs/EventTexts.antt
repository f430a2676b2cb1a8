-- The line of an event tells the event.
use Rattle.std.proofs.Common.{◌≡◌, ℕ, ◌*◌, ◌^◌, ◌<◌, ◌≤◌, List, [], ◌∷◌, ◌++◌, drop, decimal, codes, refl, sym, ap, ◌∙◌, arith, append_assoc}
use Rattle.std.proofs.lemmas.List.{append_cancel_left}
use Rattle.event_words.specs.declared.access.Access.{Access}
use Rattle.event_words.specs.declared.access.Kind.{Kind}
use Rattle.event_words.specs.declared.access.Kind.TheVariants.{Read, Write, Fetch}
use Rattle.event_words.specs.declared.event.Event.{Event}
use Rattle.event_words.specs.declared.event.Event.TheVariants.{RegWrite, RegRead, Submit, Judge, Aim, Wide}
use Rattle.event_words.specs.declared.record.LoggedEvent.{LoggedEvent}
use Rattle.event_words.specs.Events.{caller_of}
use Rattle.event_words.specs.Texts.{hexadecimal, kind_text, event_text, reply_text}
use Rattle.event_words.specs.Valid.{IsValidHead, IsValidAccess, IsValidEvent}
use Rattle.event_words.specs.ReportLines.{event_line}
use Rattle.event_words.proofs.Numerals.{Tells, both, decimal_tells, hexadecimal_tells, same_first}

-- ---- the fields of an event

letter_tells : (c : ℕ) → Tells (c ∷ []) (c ∷ []) (Unit {0})
letter_tells c r s e = (tt, ap (drop 2) e)

kind_tells : (a b : Kind) → Tells (kind_text a) (kind_text b) (a ≡ b)
kind_tells Read Read r s e = (refl, ap (drop 2) e)
kind_tells Write Write r s e = (refl, ap (drop 2) e)
kind_tells Fetch Fetch r s e = (refl, ap (drop 2) e)
kind_tells _ _ r s e = absurd (omega (arith, same_first _ _ _ _ e))

unit_tells : (u c u' c' : ℕ) → IsValidHead u c → IsValidHead u' c' → Tells (decimal u) (decimal u') (u ≡ u')
unit_tells u c u' c' v w = decimal_tells u u' (omega (arith, v.unit_below)) (omega (arith, w.unit_below))

-- offsets are in bytes
offset_tells : (i i' : ℕ) → i < 2 ^ 22 → i' < 2 ^ 22 → Tells (hexadecimal (i * 4)) (hexadecimal (i' * 4)) (i * 4 ≡ i' * 4)
offset_tells i i' p q = hexadecimal_tells (i * 4) (i' * 4) (omega arith) (omega arith)

value_tells : (n n' : ℕ) → n < 2 ^ 32 → n' < 2 ^ 32 → Tells (hexadecimal n) (hexadecimal n') (n ≡ n')
value_tells n n' p q = hexadecimal_tells n n' (omega arith) (omega arith)

address_tells : (a b : ℕ) → a < 2 ^ 52 → b < 2 ^ 52 → Tells (hexadecimal a) (hexadecimal b) (a ≡ b)
address_tells a b p q = hexadecimal_tells a b (omega arith) (omega arith)

-- An access has at least one byte, so it begins below 2 ^ 52.
begins_below : (a : Access) → IsValidAccess a → a.addr < 2 ^ 52
begins_below a v = omega (arith, v.below_end, v.shortest)

-- requesters and lengths
number_tells : (m n : ℕ) → m ≤ 4096 → n ≤ 4096 → Tells (decimal m) (decimal n) (m ≡ n)
number_tells m n p q = decimal_tells m n (omega arith) (omega arith)

-- where an address stands in one and `@` in the other
address_or_aim : (addr len len' : ℕ) → Tells (hexadecimal addr ++ (codes " " ++ decimal len)) (codes "@" ++ (codes " " ++ decimal len')) ⊥
address_or_aim addr len len' r s e = absurd (omega (arith, same_first _ _ _ _ e))

-- ---- an event

three : {X C : Type 0} (f : ℕ → ℕ → C → X) (a a' b b' : ℕ) (c c' : C) → a ≡ a' → b ≡ b' → c ≡ c' → f a b c ≡ f a' b' c'
three f a a' b b' c c' p q r = ap (λ x. f x b c) p ∙ ap (λ x. f a' x c) q ∙ ap (f a' b') r

four : {X B : Type 0} (f : ℕ → B → ℕ → ℕ → X) (a a' : ℕ) (b b' : B) (c c' d d' : ℕ) → a ≡ a' → b ≡ b' → c ≡ c' → d ≡ d' → f a b c d ≡ f a' b' c' d'
four f a a' b b' c c' d d' p q r s = ap (λ x. f x b c d) p ∙ ap (λ x. f a' x c d) q ∙ ap (λ x. f a' b' x d) r ∙ ap (f a' b' c') s

-- the fields that a Submit and a Wide begin with
head_tells : (u c u' c' s s' : ℕ) (k k' : Kind) (p q : List ℕ) {P : Type 0} → IsValidHead u c → IsValidHead u' c' → s ≤ 63 → s' ≤ 63 → Tells p q P
    → Tells (codes "t " ++ (decimal u ++ (codes " " ++ (decimal s ++ (codes " " ++ (kind_text k ++ (codes " " ++ p))))))) (codes "t " ++ (decimal u' ++ (codes " " ++ (decimal s' ++ (codes " " ++ (kind_text k' ++ (codes " " ++ q)))))))
    (Unit {0} × ((u ≡ u') × ((s ≡ s') × ((k ≡ k') × P))))
head_tells u c u' c' s s' k k' p q v w f g rest =
    both (codes "t") (codes "t") _ _ (letter_tells 116) (both (decimal u) (decimal u') _ _ (unit_tells u c u' c' v w)
    (both (decimal s) (decimal s') _ _ (number_tells s s' (omega arith) (omega arith)) (both (kind_text k) (kind_text k') p q (kind_tells k k') rest)))

five : (u u' c c' i i' : ℕ) (k k' : Kind) (n n' : ℕ) → u ≡ u' → c ≡ c' → i ≡ i' → k ≡ k' → n ≡ n' → Wide u c i k n ≡ Wide u' c' i' k' n'
five u u' c c' i i' k k' n n' p q r s t = three (λ x y z. Wide x y z k n) u u' c c' i i' p q r ∙ (ap (λ x. Wide u' c' i' x n) s ∙ ap (Wide u' c' i' k') t)

pub event_tells : (x y : Event) → IsValidEvent x → IsValidEvent y → caller_of x ≡ caller_of y → Tells (event_text x) (event_text y) (x ≡ y)
event_tells (RegWrite u c i n) (RegWrite u' c' i' n') v w callers r s e =
    let t = both (codes "w") (codes "w") _ _ (letter_tells 119) (both (decimal u) (decimal u') _ _ (unit_tells u c u' c' v.0 w.0)
    (both (hexadecimal (i * 4)) (hexadecimal (i' * 4)) _ _ (offset_tells i i' v.1 w.1) (value_tells n n' v.2 w.2))) r s e in
    (four RegWrite u u' c c' i i' n n' t.0.1.0 callers (omega (arith, t.0.1.1.0)) t.0.1.1.1, t.1)
event_tells (RegRead u c i) (RegRead u' c' i') v w callers r s e =
    let t = both (codes "r") (codes "r") _ _ (letter_tells 114) (both (decimal u) (decimal u') _ _ (unit_tells u c u' c' v.0 w.0) (offset_tells i i' v.1 w.1)) r s e in
    (three RegRead u u' c c' i i' t.0.1.0 callers (omega (arith, t.0.1.1)), t.1)
event_tells (Submit u c a) (Submit u' c' b) v w callers r s e =
    let lengths = number_tells a.len b.len v.1.longest w.1.longest in
    let t = head_tells u c u' c' a.rrid b.rrid a.kind b.kind _ _ v.0 w.0 v.1.rrid w.1.rrid
    (both (hexadecimal a.addr) (hexadecimal b.addr) _ _ (address_tells a.addr b.addr (begins_below a v.1) (begins_below b w.1)) lengths) r s e in
    let access : a ≡ b = four (λ i k d l. record { rrid = i; kind = k; addr = d; len = l }) a.rrid b.rrid a.kind b.kind a.addr b.addr a.len b.len t.0.1.1.0 t.0.1.1.1.0 t.0.1.1.1.1.0 t.0.1.1.1.1.1 in
    (three Submit u u' c c' a b t.0.1.0 callers access, t.1)
event_tells (Submit u c a) (Wide u' c' i' k' n') v w callers r s e =
    let t = head_tells u c u' c' a.rrid i' a.kind k' _ _ v.0 w.0 v.1.rrid w.1 (address_or_aim a.addr a.len n') r s e in
    absurd t.0.1.1.1.1
event_tells (Wide u c i k n) (Submit u' c' b) v w callers r s e =
    let t = head_tells u' c' u c b.rrid i b.kind k _ _ w.0 v.0 w.1.rrid v.1 (address_or_aim b.addr b.len n) s r (sym e) in
    absurd t.0.1.1.1.1
event_tells (Wide u c i k n) (Wide u' c' i' k' n') v w callers r s e =
    let t = head_tells u c u' c' i i' k k' _ _ v.0 w.0 v.1 w.1 (both (codes "@") (codes "@") _ _ (letter_tells 64) (number_tells n n' v.3 w.3)) r s e in
    (five u u' c c' i i' k k' n n' t.0.1.0 callers t.0.1.1.0 t.0.1.1.1.0 t.0.1.1.1.1.1, t.1)
event_tells (Judge u c k) (Judge u' c' k') v w callers r s e =
    let places = decimal_tells k k' (omega (arith, v.1)) (omega (arith, w.1)) in
    let t = both (codes "j") (codes "j") _ _ (letter_tells 106) (both (decimal u) (decimal u') _ _ (unit_tells u c u' c' v.0 w.0) places) r s e in
    (three Judge u u' c c' k k' t.0.1.0 callers t.0.1.1, t.1)
event_tells (Aim c a) (Aim c' b) v w callers r s e =
    let t = both (codes "a") (codes "a") (hexadecimal a) (hexadecimal b) (letter_tells 97) (address_tells a b v.1 w.1) r s e in
    (ap (λ x. Aim x a) callers ∙ ap (Aim c') t.0.1, t.1)
event_tells _ _ v w callers r s e = absurd (omega (arith, same_first _ _ _ _ e))

-- ---- a line

caller_small : (e : Event) → IsValidEvent e → caller_of e < 2 ^ 64
caller_small (RegWrite u c i n) v = omega (arith, v.0.caller_below)
caller_small (RegRead u c i) v = omega (arith, v.0.caller_below)
caller_small (Submit u c a) v = omega (arith, v.0.caller_below)
caller_small (Judge u c k) v = omega (arith, v.0.caller_below)
caller_small (Aim c a) v = omega (arith, v.0)
caller_small (Wide u c i k n) v = omega (arith, v.0.caller_below)

-- Two lines of one place, whatever follows each.
pub line_tells : (x y : LoggedEvent) → x.place ≡ y.place → IsValidEvent x.event → IsValidEvent y.event → (r s : List ℕ) → event_line x ++ r ≡ event_line y ++ s → x.event ≡ y.event
line_tells x y places v w r s e = events
  where
    reply_end : LoggedEvent → List ℕ
    reply_end z = 61 ∷ 32 ∷ (reply_text z.reply ++ codes "\n")

    caller_end : LoggedEvent → List ℕ
    caller_end z = event_text z.event ++ (codes " " ++ reply_end z)

    place_end : LoggedEvent → List ℕ
    place_end z = codes " " ++ (decimal (caller_of z.event) ++ (codes " " ++ caller_end z))

    after_place_same : place_end x ++ r ≡ place_end y ++ s
    after_place_same =
        append_cancel_left (decimal y.place) (place_end x ++ r) (place_end y ++ s)
        (ap (λ k. decimal k ++ (place_end x ++ r)) (sym places) ∙ sym (append_assoc (decimal x.place) (place_end x) r) ∙ e ∙ append_assoc (decimal y.place) (place_end y) s)

    callers : (caller_of x.event ≡ caller_of y.event) × (caller_end x ++ r ≡ caller_end y ++ s)
    callers =
        decimal_tells (caller_of x.event) (caller_of y.event) (caller_small x.event v) (caller_small y.event w) (caller_end x ++ r) (caller_end y ++ s)
        (sym (append_assoc (decimal (caller_of x.event)) (codes " " ++ caller_end x) r) ∙ ap (drop 1) after_place_same ∙ append_assoc (decimal (caller_of y.event)) (codes " " ++ caller_end y) s)

    events : x.event ≡ y.event
    events =
        (event_tells x.event y.event v w callers.0 (reply_end x ++ r) (reply_end y ++ s)
        (sym (append_assoc (event_text x.event) (codes " " ++ reply_end x) r) ∙ callers.1 ∙ append_assoc (event_text y.event) (codes " " ++ reply_end y) s)).0
