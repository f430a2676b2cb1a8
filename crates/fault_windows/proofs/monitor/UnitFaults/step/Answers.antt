use Rattle.fault_windows.proofs.Seen.{seen_shown, seen_read, seen_write, seen_answer, seen_aim}
use Rattle.fault_windows.proofs.monitor.UnitFaults.step.Goals as goal

pub returns-then-index-eq-WINDOWS-clause-seen : goal.returns-then-index-eq-WINDOWS-clause-seen
returns-then-index-eq-WINDOWS-clause-seen c = λ h k seen at. (seen_shown h k c.args.rrid _ _ _ c.args.event.now c.args.reply.now c.args.self.now c.show.new.self c.show.result c.in-RegRead.is c.if-index-eq-WINDOWS.true c.show.ensures.shown seen at).0

pub returns-then-index-eq-WINDOWS-clause-shown : goal.returns-then-index-eq-WINDOWS-clause-shown
returns-then-index-eq-WINDOWS-clause-shown c = λ h k seen at. (seen_shown h k c.args.rrid _ _ _ c.args.event.now c.args.reply.now c.args.self.now c.show.new.self c.show.result c.in-RegRead.is c.if-index-eq-WINDOWS.true c.show.ensures.shown seen at).1

pub returns-else-index-eq-WINDOWS-clause-seen : goal.returns-else-index-eq-WINDOWS-clause-seen
returns-else-index-eq-WINDOWS-clause-seen c = λ h k seen at. (seen_read h k c.args.rrid _ _ _ c.args.event.now c.args.reply.now c.args.self.now c.in-RegRead.is c.if-index-eq-WINDOWS.false seen at).0

pub returns-else-index-eq-WINDOWS-clause-shown : goal.returns-else-index-eq-WINDOWS-clause-shown
returns-else-index-eq-WINDOWS-clause-shown c = λ h k seen at. (seen_read h k c.args.rrid _ _ _ c.args.event.now c.args.reply.now c.args.self.now c.in-RegRead.is c.if-index-eq-WINDOWS.false seen at).1

pub returns-in-RegWrite-clause-seen : goal.returns-in-RegWrite-clause-seen
returns-in-RegWrite-clause-seen c = λ h k seen at. (seen_write h k c.args.rrid _ _ _ _ c.args.event.now c.args.reply.now c.args.self.now c.rewrite.new.self c.in-RegWrite.is c.rewrite.ensures seen at).0

pub returns-in-RegWrite-clause-shown : goal.returns-in-RegWrite-clause-shown
returns-in-RegWrite-clause-shown c = λ h k seen at. (seen_write h k c.args.rrid _ _ _ _ c.args.event.now c.args.reply.now c.args.self.now c.rewrite.new.self c.in-RegWrite.is c.rewrite.ensures seen at).1

pub returns-in-Submit-clause-seen : goal.returns-in-Submit-clause-seen
returns-in-Submit-clause-seen c = λ h k seen at. (seen_answer h k c.args.rrid c.args.event.now c.args.reply.now c.args.self.now c.answer.new.self c.in-Submit.is c.answer.ensures seen at).0

pub returns-in-Submit-clause-shown : goal.returns-in-Submit-clause-shown
returns-in-Submit-clause-shown c = λ h k seen at. (seen_answer h k c.args.rrid c.args.event.now c.args.reply.now c.args.self.now c.answer.new.self c.in-Submit.is c.answer.ensures seen at).1

pub returns-in-Aim-clause-seen : goal.returns-in-Aim-clause-seen
returns-in-Aim-clause-seen c = λ h k seen at. (seen_aim h k c.args.rrid _ _ c.args.event.now c.args.reply.now c.args.self.now c.in-Aim.is seen at).0

pub returns-in-Aim-clause-shown : goal.returns-in-Aim-clause-shown
returns-in-Aim-clause-shown c = λ h k seen at. (seen_aim h k c.args.rrid _ _ c.args.event.now c.args.reply.now c.args.self.now c.in-Aim.is seen at).1
