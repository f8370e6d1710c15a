-- `used_tags` meets its contract. The loop's invariant: the byte is that of the places before `i`.
use Rattle.config.specs.Config.{flow_count}
use Rattle.flows.specs.Table.{used_tags}
use Rattle.state.specs.Stack.{stack_of}
use lib.ListN.{take}
use mathlib.Core.Path.{◌≡◌}
use Prim.Native.Nat.{◌≤◌}
use Rattle.flow_walks.proofs.used_tags.Given as goal

abbrev pub invariant-loop-i : goal.invariant-loop-i
invariant-loop-i l = (l.i ≤ flow_count) × (l.used ≡ used_tags l.peer (take l.i (stack_of l.sizes l.state).flows))
