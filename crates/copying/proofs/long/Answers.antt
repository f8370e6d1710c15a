use native.Mathlib.Omega.{arith}
use mathlib.Core.Path.{refl}
use Rattle.copying.proofs.Front.{front_zero, front_next, front_last, moved_on}
use Rattle.copying.proofs.long.Goals as goal

pub loop-i-init : goal.loop-i-init
loop-i-init c = record { within = omega arith; copied = front_zero _ _ }

pub loop-i-preserved : goal.loop-i-preserved
loop-i-preserved c =
    let l = c.loop-i in
    let m = moved_on _ _ _ _ 16 16 32 c.pair16.ensures refl refl (omega arith) (omega arith) in
    record { within = omega arith; copied = front_next _ _ l.i l.i 32 l.invariant.copied m (omega arith) (omega arith) (omega arith) }

pub returns : goal.returns
returns c =
    let l = c.loop-i in
    let m = moved_on _ _ _ _ 16 16 32 c.pair16-2.ensures (omega arith) refl (omega arith) (omega arith) in
    front_last _ _ l.i 32 l.invariant.copied m (omega arith) (omega arith) (omega arith)
