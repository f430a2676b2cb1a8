-- Callers of the test's machine may go to other threads.
use denote.Exit.{yes}
use denote.Param.Send.{param_send, arg_send}
use Rattle.shared_log.proofs.Crossing.{adder_caller_send}
use Rattle.shared_log.proofs.tests.run_all.Goals as goal

pub for_each_mut-requires-send-T : goal.for_each_mut-requires-send-T
for_each_mut-requires-send-T g c κs within = param_send 1 _ (arg_send _ yes _ adder_caller_send)
