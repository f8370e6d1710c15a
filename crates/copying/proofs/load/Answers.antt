-- `load` reads the number of a window (`window_read`).
use native.Mathlib.Omega.{arith}
use Rattle.octets.proofs.Number.{window_read}
use Rattle.copying.proofs.load.Goals as goal

pub returns : goal.returns
returns g c = window_read _ _ _ (rw c.WIDTH.ensures at c.get.ensures) (omega arith)
