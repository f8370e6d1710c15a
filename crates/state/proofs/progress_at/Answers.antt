-- A slot's sequence stands at its byte 5, its length at its bytes 6 and 7 (`slot_field`).
use native.Mathlib.Omega.{arith}
use Prim.Native.Nat.{◌<◌}
use mathlib.Core.Path.{sym, ap, subst, ◌∙◌}
use Rattle.slot.specs.declared.Reassembler.{Reassembler}
use Rattle.state.specs.declared.Progress.{Progress}
use Rattle.state.specs.Slot.{progress_of, ProgressOk}
use Rattle.state.proofs.SlotLaws.{slot_progress}
use Rattle.state.proofs.StackLaws.{slot_ok, slot_past, slot_field}
use Rattle.state.proofs.progress_at.Goals as goal

pub returns-then-sizes-i : goal.returns-then-sizes-i
returns-then-sizes-i c =
    let e = ap {B = Progress} (λ (x : Reassembler). progress_of x) (slot_past c.args.sizes c.args.state.now c.requires c.args.i (omega arith)) in
    (sym e, record { seq = omega arith; len = omega arith })

pub returns : goal.returns
returns c =
    let z = c.args.sizes in
    let i = c.args.i in
    let h : i < z.slots = omega arith in
    let ok = slot_ok _ _ c.requires i in
    let e = slot_progress z.body _ ok _ _ (c.get-seq.ensures ∙ slot_field _ _ c.requires i 5 1 h) (c.get-len.ensures ∙ slot_field _ _ c.requires i 6 2 h) in
    (e, subst (λ (p : Progress). ProgressOk z.body p) (sym e) (record { seq = ok.seq; len = ok.len }))
