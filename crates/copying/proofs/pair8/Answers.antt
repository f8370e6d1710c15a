-- `pair8` stores the two numbers that it reads, whose bytes are those read (`moved`).
use native.Mathlib.Omega.{arith}
use mathlib.Core.Path.{ap, ◌∙◌}
use Rattle.octets.specs.Bytes.{over}
use Rattle.copying.proofs.Front.{moved}
use Rattle.copying.proofs.pair8.Goals as goal

pub returns : goal.returns
returns c =
    let g = c.type_inv.src in
    moved _ _ _ 8 c.load-hi.ensures c.store-2.ensures (omega arith) g ∙ ap (over _ _) (moved _ _ _ 8 c.load-lo.ensures c.store.ensures (omega arith) g)
