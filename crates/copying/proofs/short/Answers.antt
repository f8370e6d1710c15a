-- `short` moves both ends, which overlap or meet: 4 bytes and 4, or the first byte and the last two, one by one.
use native.Mathlib.Omega.{arith}
use mathlib.Core.Path.{refl}
use Prim.Native.Nat.{◌+◌, ◌-◌}
use lib.ListN.{length}
use Rattle.copying.proofs.Front.{moved, both_ends, front_all, front_byte, front_zero}
use Rattle.copying.proofs.short.Goals as goal

pub returns-then-n-lt1 : goal.returns-then-n-lt1
returns-then-n-lt1 c = let z = c.args in front_all z.src.now z.dst.now 0 (front_zero _ _) (omega arith)

pub returns-then-n-ge4 : goal.returns-then-n-ge4
returns-then-n-ge4 c =
    let g = c.type_inv.src in
    both_ends _ _ 4 (moved _ _ 0 4 c.load-lo.ensures c.store.ensures (omega arith) g)
    (moved _ _ _ 4 c.load-hi.ensures c.store-then-n-ge4.ensures (omega arith) g) (omega arith) (omega arith)

pub returns-then-n-lt2 : goal.returns-then-n-lt2
returns-then-n-lt2 c =
    let z = c.args in
    let s = z.src.now in
    let d = z.dst.now in
    front_all s d 1 (front_byte s d 0 0 (front_zero s d) refl (omega arith) (omega arith) (omega arith) (omega arith) (omega arith)) (omega arith)

pub returns : goal.returns
returns c =
    let z = c.args in
    let s = z.src.now in
    let d = z.dst.now in
    let n = length s in
    let a = front_byte s d 0 0 (front_zero s d) refl (omega arith) (omega arith) (omega arith) (omega arith) (omega arith) in
    let b = front_byte s d 1 (n - 2) a refl (omega arith) (omega arith) (omega arith) (omega arith) (omega arith) in
    front_all s d (n - 1 + 1) (front_byte s d (n - 2 + 1) (n - 1) b refl (omega arith) (omega arith) (omega arith) (omega arith) (omega arith)) (omega arith)
