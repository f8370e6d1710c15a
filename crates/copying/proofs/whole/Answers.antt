-- `whole` goes by the length; the moves of both ends overlap or meet.
use native.Mathlib.Omega.{arith}
use Rattle.copying.proofs.Front.{ends_at_once}
use Rattle.copying.proofs.whole.Goals as goal

pub returns-then-n-le16 : goal.returns-then-n-le16
returns-then-n-le16 c = let z = c.args in ends_at_once z.src.now z.dst.now 8 c.pair8.ensures (omega arith) (omega arith)

pub returns-then-n-le32 : goal.returns-then-n-le32
returns-then-n-le32 c = let z = c.args in ends_at_once z.src.now z.dst.now 16 c.pair16.ensures (omega arith) (omega arith)
