-- `expire_slots` is a check of time over the slots (`Checked`).
use Rattle.state.proofs.PartLoops.{timed_slots, Checked}
use Rattle.slot_walks.proofs.expire_slots.Given as goal

abbrev pub invariant-loop-i : goal.invariant-loop-i
invariant-loop-i l = Checked timed_slots l.sizes l.clock l.initial.state l.initial.found l.state l.found l.i
