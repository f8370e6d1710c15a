-- Bits of a number by halving: bit 0 is the remainder by 2, bit t + 1 is bit t of the half.
use Prim.Native.Nat.{ℕ, zero, suc, ◌+◌, ◌*◌, ◌/◌, ◌%◌, ◌^◌, ◌≤◌, ◌<◌}
use native.Mathlib.Nat.{pow-suc, mul_comm, div-one, mod-lt}
use native.Mathlib.Omega.{arith}
use mathlib.Core.Path.{◌≡◌, refl, sym, ap, ◌∙◌}
use mathlib.Core.Bool.{Bool, true, false}
use lib.Dec.{eqb}
use lib.Pow.{shr-shr}
use Rattle.octets.specs.Pick.{pick, pick_true, pick_false}
use Rattle.mctp.specs.Header.{bit}
use Rattle.flows.specs.Tags.{is_set, set_bit}

-- a test as a bit
pub bit_one : (b : Bool) → eqb (bit b 1) 1 ≡ b
bit_one true = refl
bit_one false = refl

pub bit_small : (b : Bool) (n : ℕ) → bit b n ≤ n
bit_small true n = omega arith
bit_small false n = omega arith

pub twice : (k : ℕ) → 2 ^ suc k ≡ 2 * 2 ^ k
twice k = pow-suc 2 k ∙ mul_comm (2 ^ k) 2

-- n over 2 to the t + 1 is its half over 2 to the t
pub halved : (t n : ℕ) → n / 2 ^ suc t ≡ n / 2 / 2 ^ t
halved t n = let e : 1 + t ≡ suc t = omega arith in sym (shr-shr n 1 t ∙ ap (λ (k : ℕ). n / 2 ^ k) e)

-- a clear bit leaves room for it
pub room : (t w n : ℕ) → t < w → n < 2 ^ w → (n / 2 ^ t % 2 ≡ 1 → ⊥) → n + 2 ^ t < 2 ^ w
room t zero n h k c = absurd (omega arith)
room zero (suc w) n h k c = let e = twice w in let o : n % 2 ≡ 1 → ⊥ = (λ q. c (rw (div-one n) q)) in odd (n % 2) o (mod-lt n (omega arith)) (λ z. omega arith)
  where
    odd : (r : ℕ) → (r ≡ 1 → ⊥) → r < 2 → (r ≡ 0 → n + 1 < 2 ^ suc w) → n + 1 < 2 ^ suc w
    odd r f h g = g (omega arith)
room (suc t) (suc w) n h k c =
    let e = twice w in
    let u = twice t in
    let r : n / 2 + 2 ^ t < 2 ^ w = room t w (n / 2) (omega arith) (omega arith) (λ q. c (rw (halved t n) q)) in
    omega arith

-- setting bit t + 1 is setting bit t of the half
pub set_halved : (t n : ℕ) → set_bit (suc t) n ≡ n % 2 + 2 * set_bit t (n / 2)
unfolding set_bit
set_halved t n = rw (halved t n, twice t) (both (is_set t (n / 2)) (2 ^ t))
  where
    both : (b : Bool) (p : ℕ) → pick b n (n + 2 * p) ≡ n % 2 + 2 * pick b (n / 2) (n / 2 + p)
    both true p = rw (pick_true true n (n + 2 * p) refl, pick_true true (n / 2) (n / 2 + p) refl) (omega arith)
    both false p = rw (pick_false false n (n + 2 * p) refl, pick_false false (n / 2) (n / 2 + p) refl) (omega arith)
