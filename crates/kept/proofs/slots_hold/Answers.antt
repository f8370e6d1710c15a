use Rattle.state.specs.Layout.{slots_at}
use Rattle.state.specs.Slot.{slot_codec}
use Rattle.kept.proofs.TellLaws.{says_no_lem, says_yes, refuted, shown}
use Rattle.kept.proofs.BlockLaws.{blocks_none, blocks_more, blocks_not, blocks_all}
use borrow.Author.Rules.{rules}
use Rattle.std.proofs.lemmas.Bool.{not_from_true, not_from_false}
use Rattle.kept.proofs.slots_hold.Goals as goal

pub loop-i-init : goal.loop-i-init
loop-i-init c = (search rules, blocks_none _ _ _)

pub returns-then-not-slot_holds : goal.returns-then-not-slot_holds
returns-then-not-slot_holds c =
    says_no_lem (blocks_not (slot_codec c.args.body) c.args.state.now c.args.slots slots_at c.loop-i.i (search rules) (refuted c.slot_holds.ensures (not_from_false _ c.if-not-slot_holds.true)))

pub loop-i-preserved : goal.loop-i-preserved
loop-i-preserved c =
    (search rules, blocks_more (slot_codec c.args.body) c.args.state.now slots_at c.loop-i.i c.loop-i.invariant.1 (shown c.slot_holds.ensures (not_from_true _ c.if-not-slot_holds.false)))

pub returns : goal.returns
returns c =
    says_yes (blocks_all (slot_codec c.args.body) c.args.state.now c.args.slots slots_at c.loop-i.i (search rules) (search rules) c.loop-i.invariant.1)
