-- What a unit takes of a valid event submits a valid access.
use Rattle.std.proofs.Common.{◌≡◌, ℕ, ◌+◌, ◌≤◌, ◌^◌, List, Some, None, leb, subst}
use Rattle.std.specs.Prelude.{IfSome}
use Rattle.std.proofs.lemmas.Bool.{leb-true}
use Rattle.event_words.specs.declared.access.Access.{Access}
use Rattle.event_words.specs.declared.event.Event.{Event}
use Rattle.event_words.specs.declared.event.Event.TheVariants.{RegWrite, RegRead, Submit, Judge, Aim, Wide}
use Rattle.event_words.specs.Valid.{IsValidAccess, IsValidEvent}
use Rattle.event_words.proofs.Cases.{by_test}
use Rattle.unit_core.specs.Submissions.{submitted}
use Rattle.unit_core.specs.Units.{taken_as, submission_of, wide_access}

same_event : (e t : Event) (P : Event → Type 0) → P e → Some e ≡ Some t → P t
same_event e t P h q = let d : e ≡ t = cc in subst P d h

-- what a submission of an access is taken as, if it is taken
wide_taken : (unit caller : ℕ) (a : Access) (t : Event) (P : Event → Type 0) → (a.addr + a.len ≤ 2 ^ 52 → P (Submit unit caller a)) → submission_of unit caller a ≡ Some t → P t
wide_taken unit caller a t P h e = by_test (leb (a.addr + a.len) (2 ^ 52)) _
    (λ f. let g : Some (Submit unit caller a) ≡ Some t = rw f at e in same_event (Submit unit caller a) t P (h (leb-true (a.addr + a.len) (2 ^ 52) f)) g)
    (λ f. absurd (let n : None ≡ Some t = rw f at e in cc))

abbrev pub SubmitsValid : Event → Type 0
SubmitsValid t = IfSome (submitted t) (λ s. IsValidAccess s.access)

-- What is taken submits a valid access.
pub taken_valid : (aims : List ℕ) (e t : Event) → IsValidEvent e → taken_as aims e ≡ Some t → SubmitsValid t
taken_valid aims (RegWrite unit caller index value) t h q = same_event (RegWrite unit caller index value) t SubmitsValid tt q
taken_valid aims (RegRead unit caller index) t h q = same_event (RegRead unit caller index) t SubmitsValid tt q
taken_valid aims (Submit unit caller access) t h q = same_event (Submit unit caller access) t SubmitsValid h.1 q
taken_valid aims (Judge unit caller place) t h q = same_event (Judge unit caller place) t SubmitsValid tt q
taken_valid aims (Aim caller addr) t h q = absurd (let n : None ≡ Some t = q in cc)
taken_valid aims (Wide unit caller rrid kind len) t h q =
    wide_taken unit caller (wide_access aims caller rrid kind len) t SubmitsValid (λ l. record { rrid = h.1; shortest = h.2; longest = h.3; below_end = l }) q
