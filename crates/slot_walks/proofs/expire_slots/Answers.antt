use Rattle.state.proofs.PartLoops.{timed_slots, check_start, check_next, check_done}
use borrow.Author.Rules.{rules}
use native.Mathlib.Omega.{arith}
use Rattle.slot_walks.proofs.expire_slots.Goals as goal

pub loop-i-init : goal.loop-i-init
loop-i-init c = check_start timed_slots _ _ _ _ c.requires

pub expire_slot-found-requires : goal.expire_slot-found-requires
expire_slot-found-requires c = (c.loop-i.invariant.walked.made.kept, search rules)

pub loop-i-preserved : goal.loop-i-preserved
loop-i-preserved c =
    check_next timed_slots _ _ _ _ _ _ _ c.loop-i.invariant c.expire_slot-found.new.state _ (omega arith) c.expire_slot-found.ensures

pub returns : goal.returns
returns c = check_done timed_slots _ _ _ _ _ _ _ c.loop-i.invariant (omega arith)
