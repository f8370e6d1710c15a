-- A slot laid over its block is slot i of the stack (`slot_store`); past the last nothing is stored (`slot_stays`).
use native.Mathlib.Omega.{arith}
use Rattle.octets.specs.Bytes.{lay}
use Rattle.state.specs.Slot.{slot_bytes}
use Rattle.state.proofs.StackLaws.{slot_store, slot_whole, slot_stays}
use Rattle.state.proofs.put_slot.Goals as goal

pub returns-then-sizes-i : goal.returns-then-sizes-i
returns-then-sizes-i c =
    slot_stays _ _ c.requires.0 c.args.i c.args.s (omega arith)

pub returns : goal.returns
returns c =
    let x = c.args.s in
    slot_store _ _ c.requires.0 (lay 0 (slot_bytes x)) _ c.args.i x (omega arith) (slot_whole _ x) c.requires.1 c.write_slot.ensures
