-- Slot i is what its block says, or the blank one past the last; its fields have their ranges (`slot_read`, `slot_none`).
use native.Mathlib.Omega.{arith}
use mathlib.Core.Path.{sym, ap, ◌∙◌}
use Rattle.octets.proofs.Part.{lent}
use Rattle.state.specs.Layout.{slot_width}
use Rattle.state.specs.Slot.{slot_of}
use Rattle.state.proofs.StackLaws.{slot_read, slot_none}
use Rattle.state.proofs.slot_at.Goals as goal

pub returns-then-sizes-i : goal.returns-then-sizes-i
returns-then-sizes-i c =
    slot_none _ _ c.requires c.args.i _ (omega arith) c.blank.ensures

pub returns : goal.returns
returns c =
    slot_read _ _ c.requires c.args.i _ (omega arith)
    (c.slot_in.ensures ∙ sym (ap slot_of (lent _ slot_width c.args.state.now)))
