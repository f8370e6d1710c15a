-- The pool: slot i keeps its body from byte B i on. What a write into one slot's part makes of that part, and that it leaves every other slot's part.
use Prim.Native.Nat.{ℕ, suc, ◌+◌, ◌*◌, ◌≤◌, ◌<◌}
use native.Mathlib.Nat.{mul-le-mul_left}
use native.Mathlib.Decide.{dec_lt}
use native.Mathlib.Omega.{arith}
use mathlib.Core.Path.{◌≡◌, refl, ap, ◌∙◌}
use mathlib.Core.Logic.{◌≢◌}
use mathlib.Core.List.{List, ◌++◌}
use lib.ListN.{length}
use Rattle.octets.specs.Bytes.{part, over}
use Rattle.octets.proofs.Part.{part-add, part_below, part_above, part_same, length_over}

-- of two slots the lower one's part ends where the upper one's begins, or before
pub slot_le : (B i j : ℕ) → i < j → B * i + B ≤ B * j
slot_le B i j h = omega (arith, mul-le-mul_left {m = suc i} {n = j} B h)

-- n bytes of slot i's body
abbrev pub body_at : ℕ → ℕ → ℕ → List ℕ → List ℕ
body_at B i n pool = part (B * i) n pool

-- l bytes stand in slot i, and bs comes after them
module _ (B i l : ℕ) (bs pool : List ℕ) (fits : l + length bs ≤ B) (holds : B * i + B ≤ length pool) where
  pub pool_length : length (over (B * i + l) bs pool) ≡ length pool
  pool_length = length_over (B * i + l) bs pool (omega arith)

  pub body_append : body_at B i (l + length bs) (over (B * i + l) bs pool) ≡ body_at B i l pool ++ bs
  body_append =
      part-add (B * i) l (length bs) (over (B * i + l) bs pool)
      ∙ ap (λ (r : List ℕ). r ++ part (B * i + l) (length bs) (over (B * i + l) bs pool)) (part_below (B * i + l) (B * i) l bs pool (omega arith) (omega arith))
      ∙ ap (λ (r : List ℕ). part (B * i) l pool ++ r) (part_same (B * i + l) (length bs) bs pool refl (omega arith))

  pub body_apart : (j n : ℕ) → n ≤ B → j ≢ i → body_at B j n (over (B * i + l) bs pool) ≡ body_at B j n pool
  body_apart j n h ne = go (dec_lt j i)
    where
      go : Dec (j < i) → body_at B j n (over (B * i + l) bs pool) ≡ body_at B j n pool
      go (yes q) = part_below (B * i + l) (B * j) n bs pool (omega (arith, slot_le B j i q)) (omega arith)
      go (no q) = part_above (B * i + l) (B * j) n bs pool (omega (arith, slot_le B i j (omega (arith, ne)))) (omega arith)
