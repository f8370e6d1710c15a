-- A choice by a test, with its laws. It unfolds only where a proof asks for it,
-- so goals stay small, and `search` finds the test's value among the branches taken.
-- Leans on nothing.
use Rattle.std.specs.Prelude.{◌≡◌, Bool, true, false}
use Rattle.std.proofs.Math.Path.{refl}

module _ {A : Type 0} where
  unfoldable pub pick : Bool → A → A → A
  pick true x y = x
  pick false x y = y

  pub pick_true : (b : Bool) (x y : A) → b ≡ true → pick b x y ≡ x
  unfolding pick
  pick_true b x y e = rw e

  pub pick_false : (b : Bool) (x y : A) → b ≡ false → pick b x y ≡ y
  unfolding pick
  pick_false b x y e = rw e

  -- proof by cases: what holds of each branch under its test holds of the choice
  pub pick_cases : (P : A → Type 0) {b : Bool} {x y : A} → (b ≡ true → P x) → (b ≡ false → P y) → P (pick b x y)
  unfolding pick
  pick_cases P {b = true} t f = t refl
  pick_cases P {b = false} t f = f refl
