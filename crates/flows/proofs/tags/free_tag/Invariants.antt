-- The search stops at the first free tag from `start` on. The invariant: each tag met so far is used.
use Prim.Native.Nat.{ℕ, ◌+◌, ◌%◌, ◌<◌}
use mathlib.Core.Path.{◌≡◌}
use mathlib.Core.Bool.{false}
use Rattle.flows.specs.Tags.{is_free_in}
use Rattle.flows.proofs.tags.free_tag.Given as goal

abbrev pub invariant-loop-i : goal.invariant-loop-i
invariant-loop-i l = (k : ℕ) → k < l.i → is_free_in l.used ((l.start % 8 + k) % 8) ≡ false
