-- `expire_flows` is a check of time over the flows (`Checked`).
use Rattle.state.proofs.PartLoops.{timed_flows, Checked}
use Rattle.flow_walks.proofs.expire_flows.Given as goal

abbrev pub invariant-loop-i : goal.invariant-loop-i
invariant-loop-i l = Checked timed_flows l.sizes l.clock l.initial.state l.initial.found l.state l.found l.i
