-- `copy` cuts off what does not fit, and moves the rest whole (`lay_clip`).
use native.Mathlib.Omega.{arith}
use mathlib.Core.Path.{◌≡◌, sym, ◌∙◌}
use Prim.Native.Nat.{◌-◌}
use lib.ListN.{length, take}
use lib.Seq.{length-take-le}
use Rattle.octets.proofs.Part.{lay_front, lay_clip}
use Rattle.copying.proofs.copy.Goals as goal

pub returns : goal.returns
returns c =
    let z = c.args in
    let n = c.min-n.result - 0 in
    let s = z.src.now in
    let d = z.dst.now in
    let l : length (take n s) ≡ n = length-take-le n s (omega arith) in
    c.whole.ensures ∙ sym (lay_front (take n s) d (omega arith)) ∙ lay_clip n s d (omega arith)
