-- The slot's block is lent, and read.
use mathlib.Core.Path.{ap, ◌∙◌}
use Rattle.octets.proofs.Part.{lent}
use Rattle.state.specs.Layout.{slot_width}
use Rattle.state.specs.Slot.{slot_of}
use Rattle.state.proofs.slot_in.Goals as goal

pub returns : goal.returns
returns c =
    c.read_slot.ensures ∙ ap slot_of (lent c.args.at slot_width c.args.b.now)
