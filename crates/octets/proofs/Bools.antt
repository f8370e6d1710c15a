-- True and false are different, and every test has one of the two values.
use Prim.Native.Nat.{ℕ}
use native.Mathlib.Omega.{arith}
use mathlib.Core.Path.{◌≡◌, refl}
use mathlib.Core.Bool.{Bool, true, false}

pub no_both : {b : Bool} → b ≡ true → b ≡ false → ⊥
no_both p q = let z : ◌≡◌ {A = ℕ} 0 1 = cc in omega arith

pub false_true : {A : Type 0} → false ≡ true → A
false_true e = absurd (no_both e refl)

pub bool_cases : {P : Type 0} (b : Bool) → (b ≡ true → P) → (b ≡ false → P) → P
bool_cases true t f = t refl
bool_cases false t f = f refl

pub fails : (b : Bool) → (b ≡ true → ⊥) → b ≡ false
fails true n = absurd (n refl)
fails false n = refl
