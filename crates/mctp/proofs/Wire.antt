-- The four bytes of a header's number are the header's bytes.
use Prim.Native.Nat.{ℕ, ◌+◌, ◌*◌, ◌<◌}
use native.Mathlib.Omega.{arith}
use mathlib.Core.Path.{◌≡◌}
use mathlib.Core.List.{[], ◌∷◌}
use Rattle.octets.specs.Bytes.{le, num}
use Rattle.octets.proofs.Number.{le-num, Bytes}

pub le_four : (w x y z : ℕ) → w < 256 → x < 256 → y < 256 → z < 256 → le 4 (w + 256 * (x + 256 * (y + 256 * z))) ≡ w ∷ x ∷ y ∷ z ∷ []
unfolding num Bytes
le_four w x y z h i j k =
    let l = w ∷ x ∷ y ∷ z ∷ [] in
    let e : w + 256 * (x + 256 * (y + 256 * z)) ≡ num l = omega arith in
    rw e (le-num l (h, (i, (j, (k, tt)))))
