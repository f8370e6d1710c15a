-- The pool of the largest sizes is far below 2^64 bytes, so the place of a body never wraps.
use Prim.Native.Nat.{ℕ, ◌*◌, ◌^◌, ◌≤◌, ◌<◌}
use native.Mathlib.Omega.{arith}
use native.Mathlib.Nat.{mul-le-mul}
use Rattle.state.specs.declared.Sizes.{Sizes}
use Rattle.state.specs.Layout.{SizesOk}

pub pool_fits : (z : Sizes) → SizesOk z → (n : ℕ) → n ≤ z.slots → z.body * n < 2 ^ 64
pool_fits z ok n h =
    let m : n ≤ 255 = omega arith in
    let l : z.body * n ≤ 65535 * 255 = mul-le-mul ok.body m in
    omega arith
