-- The `put` of u8 stores one byte, which is the number's only one; past the end nothing is stored.
use native.Mathlib.Omega.{arith}
use Prim.Native.Nat.{◌%◌}
use mathlib.Core.Path.{◌≡◌}
use borrow.Author.Rules.{rules}
use Rattle.octets.specs.Bytes.{le}
use Rattle.octets.proofs.Part.{lay-set, lay_past}
use Rattle.octets.proofs.U8Uint.put.Goals as goal

pub returns-then-b-at : goal.returns-then-b-at
returns-then-b-at c = search (rules, lay_past)

pub returns : goal.returns
unfolding le
returns c =
    let a = c.args in
    let m : a.x % 256 ≡ a.x = omega arith in
    rw m (lay-set a.at a.x a.b.now)
