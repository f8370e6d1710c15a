use borrow.Author.Rules.{rules}
use native.Mathlib.Omega.{arith}
use Rattle.slot_walks.proofs.SlotChecks.{sweep_start, sweep_stops, sweep_goes_on, sweep_ends}
use Rattle.slot_walks.proofs.sweep.Goals as goal

pub loop-i-init : goal.loop-i-init
loop-i-init c = sweep_start _ _ _ _ c.requires

pub sweep_slot-requires : goal.sweep_slot-requires
sweep_slot-requires c = (c.loop-i.invariant.walked.made.kept, search rules)

pub returns-then-sweep_slot : goal.returns-then-sweep_slot
returns-then-sweep_slot c =
    sweep_stops _ _ _ _ _ c.sweep_slot.new.state _ c.loop-i.invariant (omega arith) _ c.sweep_slot.ensures c.if-sweep_slot.true

pub loop-i-preserved : goal.loop-i-preserved
loop-i-preserved c =
    sweep_goes_on _ _ _ _ _ c.sweep_slot.new.state _ c.loop-i.invariant (omega arith) _ c.sweep_slot.ensures c.if-sweep_slot.false

pub returns : goal.returns
returns c = sweep_ends _ _ _ _ _ _ c.loop-i.invariant (omega arith)
