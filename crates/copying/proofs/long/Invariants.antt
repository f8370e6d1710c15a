-- `long` copies a front in steps of 32; the last 32 begin in that front or at its end. The measure is what is left.
use Prim.Native.Nat.{◌≤◌, ◌-◌}
use mathlib.Core.Path.{◌≡◌}
use lib.ListN.{length}
use Rattle.copying.proofs.Front.{front}
use Rattle.copying.proofs.long.Given as goal

abbrev pub invariant-loop-i : goal.invariant-loop-i
invariant-loop-i l = record { within : l.i ≤ length l.src; copied : l.dst ≡ front l.i l.src l.initial.dst }

abbrev pub decreases-loop-i : goal.decreases-loop-i
decreases-loop-i l = length l.src - l.i
