-- A store of two fields in a slot's bytes gives the bytes of the slot with that sequence and length (`progress_bytes`).
use native.Mathlib.Omega.{arith}
use Rattle.octets.specs.Bytes.{puts}
use Rattle.state.specs.Slot.{progress_row}
use Rattle.state.specs.Stack.{stack_of, slot_at}
use Rattle.state.proofs.SlotLaws.{progress_bytes, progress_ok}
use Rattle.state.proofs.StackLaws.{slot_ok, slot_store, slot_stays}
use Rattle.state.proofs.put_progress.Goals as goal

pub returns-then-sizes-i : goal.returns-then-sizes-i
returns-then-sizes-i c =
    slot_stays _ _ c.requires.0 c.args.i _ (omega arith)

pub returns : goal.returns
returns c =
    let z = c.args.sizes in
    let i = c.args.i in
    let p = c.args.p in
    let x = slot_at i (stack_of z c.args.state.now) in
    let ok = progress_ok z.body p x c.requires.1 c.requires.0.sizes.body (slot_ok _ _ c.requires.0 i) in
    slot_store _ _ c.requires.0 (puts 5 (progress_row p)) _ i _ (omega arith) (progress_bytes p x) ok c.write_progress.ensures
