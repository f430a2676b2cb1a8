-- Between its commands a lane has no Aim without its Wide.
use Rattle.std.proofs.Common.{◌≡◌, ℕ, ◌≤◌, false, List, [], ◌∷◌, ◌++◌, None, sym, ap, ◌∙◌, subst, arith, append-nil}
use Rattle.std.specs.List.{last_or}
use Rattle.event_words.specs.declared.record.LoggedEvent.{LoggedEvent}
use Rattle.checker_workers.specs.Ports.{PortView, EndWhole, RestsSince, is_aim, is_aim_logged, port_events}
use Rattle.checker_workers.specs.Pieces.{MakesEvents}
use Rattle.cascade_path.proofs.Causes.{last_behind}

-- one event more, which is no Aim
pub ends_one : (made : List LoggedEvent) (x : LoggedEvent) → is_aim x.event ≡ false → EndWhole (made ++ x ∷ [])
ends_one made x h = ap is_aim_logged (last_behind None made x []) ∙ h

pub ends_both : (xs ys : List LoggedEvent) → EndWhole xs → EndWhole ys → EndWhole (xs ++ ys)
ends_both xs [] h k = ap (λ (l : List LoggedEvent). is_aim_logged (last_or None l)) (append-nil xs) ∙ h
ends_both xs (y ∷ ys) h k = ap is_aim_logged (last_behind None xs y ys) ∙ k

pub rests_first : (first : ℕ) (p : PortView) → first ≤ p.left → RestsSince first p
rests_first first p h less = absurd (omega arith)

-- after whole events
pub rests_after : (first : ℕ) (p q : PortView) (made : List LoggedEvent) → RestsSince first p → MakesEvents p made q → EndWhole made → RestsSince first q
rests_after first p q [] rests m whole less =
    let own : port_events q ≡ port_events p = m.own ∙ append-nil (port_events p) in
    let left = m.left in
    subst EndWhole (sym own) (rests (omega arith))
rests_after first p q (x ∷ xs) rests m whole less = ap (λ (l : List LoggedEvent). is_aim_logged (last_or None l)) m.own ∙ ap is_aim_logged (last_behind None (port_events p) x xs) ∙ whole
