-- `store` stores the number to a window (`window_store`).
use native.Mathlib.Omega.{arith}
use Rattle.octets.proofs.Number.{window_store}
use Rattle.copying.proofs.store.Goals as goal

pub returns : goal.returns
returns g c = rw c.WIDTH.ensures (window_store _ _ _ _ (rw c.WIDTH.ensures at c.put.ensures) (omega arith))
