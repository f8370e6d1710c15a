-- `sweep` walks upward: a walk from `i` on sweeps and stops where the walk from the start does (`Swept`).
use Rattle.slot_walks.proofs.SlotChecks.{Swept}
use Rattle.slot_walks.proofs.sweep.Given as goal

abbrev pub invariant-loop-i : goal.invariant-loop-i
invariant-loop-i l = Swept l.sizes l.peer l.tag l.initial.state l.state l.i
