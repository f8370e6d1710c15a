-- `pair16` moves each 16 as 8 and 8 side by side (`moved_on`).
use native.Mathlib.Omega.{arith}
use mathlib.Core.Path.{refl, ap, ◌∙◌}
use Rattle.octets.specs.Bytes.{over}
use Rattle.copying.proofs.Front.{moved_on}
use Rattle.copying.proofs.pair16.Goals as goal

pub returns : goal.returns
returns c =
    moved_on _ _ _ _ 8 8 16 c.pair8-2.ensures refl refl (omega arith) (omega arith) ∙ ap (over _ _) (moved_on _ _ _ _ 8 8 16 c.pair8.ensures refl refl (omega arith) (omega arith))
