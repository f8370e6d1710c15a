-- `earliest_of` walks downward: `best` is the earliest of the slots from `i` on that pass.
use Rattle.std.specs.Prelude.{◌<◌, Bool, IfSome, unwrap_or}
use Rattle.slot.specs.declared.Reassembler.{Reassembler}
use Rattle.slot_walks.specs.SlotWalks.{Computes}
use Rattle.slot_walks.proofs.SlotSearch.{Seen}
use Rattle.slot_walks.proofs.earliest_of.Given as goal

abbrev pub invariant-loop-i : goal.invariant-loop-i
invariant-loop-i g l = record {
  slot : IfSome l.best (λ j. j < l.sizes.slots);
  seen : (p : Reassembler → Bool) → Computes (goal.F-post g l.passes) p → Seen l.sizes l.state p l.i (unwrap_or l.best l.sizes.slots);
}
