-- So far the first i slots are regular; one that is not makes the answer no (`blocks_not`).
use Prim.Native.Nat.{◌≤◌}
use Rattle.octets.specs.Region.{Regular}
use Rattle.state.specs.Layout.{slots_at}
use Rattle.state.specs.Slot.{slot_codec}
use Rattle.kept.proofs.slots_hold.Given as goal

abbrev pub invariant-loop-i : goal.invariant-loop-i
invariant-loop-i l = (l.i ≤ l.slots) × Regular (slot_codec l.body) l.i slots_at l.state
