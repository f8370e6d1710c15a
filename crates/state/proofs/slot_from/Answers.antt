-- `slot_from` reads the slot where its bytes lie in the buffer (`from_some`), and gives a blank one where they do not (`from_none`).
use native.Mathlib.Omega.{arith}
use Rattle.octets.proofs.Froms.{from_none, from_some}
use Rattle.slot.specs.Slot.{blank_slot}
use Rattle.state.specs.Layout.{slot_width}
use Rattle.state.specs.Slot.{slot_of}
use Rattle.state.proofs.slot_from.Goals as goal

pub returns-then-saturating_sub-lt-SLOT_WIDTH : goal.returns-then-saturating_sub-lt-SLOT_WIDTH
returns-then-saturating_sub-lt-SLOT_WIDTH c =
    from_none slot_of blank_slot c.args.at slot_width c.args.b.now c.saturating_sub.ensures c.if-saturating_sub-lt-SLOT_WIDTH.true c.blank.ensures

pub slot_in-requires : goal.slot_in-requires
slot_in-requires c = let e = c.saturating_sub.ensures in let l = c.if-saturating_sub-lt-SLOT_WIDTH.false in omega (arith, e, l)

pub returns : goal.returns
returns c =
    from_some slot_of blank_slot c.args.at slot_width c.args.b.now c.saturating_sub.ensures c.if-saturating_sub-lt-SLOT_WIDTH.false c.slot_in.ensures
