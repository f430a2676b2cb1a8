-- A port and a lane may go to another thread.
use denote.Param.Send.{IsSend, sendable, struct_send, view_send, recorded_send}
use denote.Struct.Declared.{shape}
use Rattle.std.proofs.Crossing.{crosses}
use Rattle.shared_log.proofs.Crossing.{caller_send}
use Rattle.event_words.proofs.reply.Reply.TheSendSync as reply
use Rattle.event_words.proofs.section.Section.TheSendSync as section
use Rattle.unit_core.specs.contracts.fabric.Fabric as fabric
use Rattle.unit_core.specs.contracts.fabric.FabricUnits as units
use Rattle.unit_core.specs.contracts.fabric.FabricMachine.TheImpl as machine
use Rattle.unit_core.proofs.fabric.Fabric.TheSendSync as replica
use Rattle.checker_workers.proofs.ticket.Ticket.TheSendSync as ticket
use Rattle.checker_workers.specs.contracts.port.Port as port
use Rattle.checker_workers.specs.contracts.port.Port.TheInside as port_inside
use Rattle.checker_workers.specs.contracts.lane.Lane as lane
use Rattle.checker_workers.specs.contracts.lane.Lane.TheInside as lane_inside

port_fields : IsSend port_inside.the_row
port_fields = recorded_send port_inside.the_field.row _ _ port_inside.the_type.to_one (struct_send (shape port_inside.the_type) (caller_send fabric.the_row units.the_row machine.ghosts replica.the_send, (search (sendable, crosses, reply.the_send) depth 12, tt)))

pub port_send : IsSend port.the_row
port_send = view_send port_inside.the_row _ _ _ _ port_fields

lane_fields : IsSend lane_inside.the_row
lane_fields =
    recorded_send lane_inside.the_field.row _ _ lane_inside.the_type.to_one
    (struct_send (shape lane_inside.the_type) (search (sendable, section.the_send) depth 12, (port_send, (search (sendable, crosses, ticket.the_send) depth 12, (search sendable depth 12, tt)))))

pub lane_send : IsSend lane.the_row
lane_send = view_send lane_inside.the_row _ _ _ _ lane_fields
