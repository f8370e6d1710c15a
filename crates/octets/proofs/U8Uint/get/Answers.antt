-- The `get` of u8 reads one byte, which is the field of width 1; past the end there is nothing to read.
use borrow.Author.Rules.{rules}
use native.Mathlib.Omega.{arith}
use Rattle.octets.specs.Bytes.{num}
use Rattle.octets.proofs.Part.{part_one}
use Rattle.octets.proofs.Number.{get_past}
use Rattle.octets.proofs.U8Uint.get.Goals as goal

pub returns-then-b-at : goal.returns-then-b-at
returns-then-b-at c = search (rules, get_past)

pub returns : goal.returns
unfolding num
returns c = let a = c.args in rw (part_one a.at a.b.now (omega arith)) (omega arith)
