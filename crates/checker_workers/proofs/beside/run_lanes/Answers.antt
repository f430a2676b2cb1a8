-- Lanes may go to other threads.
use denote.Exit.{yes}
use denote.Param.Send.{param_send, arg_send}
use Rattle.checker_workers.proofs.Crossing.{lane_send}
use Rattle.checker_workers.proofs.beside.run_lanes.Goals as goal

pub for_each_mut-requires-send-T : goal.for_each_mut-requires-send-T
for_each_mut-requires-send-T g c κs within = param_send 1 _ (arg_send _ yes _ lane_send)
