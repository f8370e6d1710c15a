-- The least of a number and of the remaining times of a list: it is at most each of them, and it is one of them.
use Prim.Native.Nat.{ℕ, zero, suc, ◌≤◌, min}
use native.Mathlib.Nat.{le_refl}
use native.Mathlib.Decide.{dec_le}
use native.Mathlib.Omega.{arith}
use mathlib.Core.Path.{◌≡◌, refl, sym, ap, ◌∙◌}
use mathlib.Core.Logic.{◌⊎◌, inl, inr}
use mathlib.Core.List.{List, [], ◌∷◌, map}
use lib.ListN.{get_or}
use Rattle.stamp.specs.declared.Timeout.{Timeout}
use Rattle.stamp.specs.declared.Timeout.TheVariants.{Untimed, Expired, Left}
use Rattle.stamp.specs.Stamp.{sooner_of}
use Rattle.stamp.specs.Checks.{least_left}

-- n is the least of `most` and of what the times f leave
pub record LeastOf (n most : ℕ) {A : Type 0} (f : A → Timeout) (d : A) (l : List A) : Type 0 where
  pub bound : n ≤ most
  pub below : (k m : ℕ) → f (get_or l k d) ≡ Left m → n ≤ m
  pub met : (n ≡ most) ⊎ ((k : ℕ) × (f (get_or l k d) ≡ Left n))

sooner_bound : (t : Timeout) (n : ℕ) → sooner_of t n ≤ n
sooner_bound Untimed n = le_refl n
sooner_bound Expired n = le_refl n
sooner_bound (Left m) n = omega arith

sooner_met : (t : Timeout) (n : ℕ) → (sooner_of t n ≡ n) ⊎ (t ≡ Left (sooner_of t n))
sooner_met Untimed n = inl refl
sooner_met Expired n = inl refl
sooner_met (Left m) n = go (dec_le m n)
  where
    go : Dec (m ≤ n) → (min m n ≡ n) ⊎ (Left m ≡ Left (min m n))
    go (yes h) = let e : m ≡ min m n = omega arith in inr (rw (sym e))
    go (no h) = inl (omega arith)

sooner_below : (t : Timeout) (n m : ℕ) → t ≡ Left m → sooner_of t n ≤ m
sooner_below t n m e = rw e (omega arith)

module _ {A : Type 0} (f : A → Timeout) (d : A) where
  -- the least after x and then l
  least_more : (x : A) (l : List A) (n r : ℕ) → LeastOf r (sooner_of (f x) n) f d l → LeastOf r n f d (x ∷ l)
  least_more x l n r o = record { bound = omega (arith, o.bound, sooner_bound (f x) n); below = low; met = go o.met }
    where
      low : (k m : ℕ) → f (get_or (x ∷ l) k d) ≡ Left m → r ≤ m
      low zero m e = omega (arith, o.bound, sooner_below (f x) n m e)
      low (suc k) m e = o.below k m e

      Met : Type 0
      Met = (r ≡ n) ⊎ ((k : ℕ) × (f (get_or (x ∷ l) k d) ≡ Left r))

      first : r ≡ sooner_of (f x) n → (sooner_of (f x) n ≡ n) ⊎ (f x ≡ Left (sooner_of (f x) n)) → Met
      first e (inl q) = inl (e ∙ q)
      first e (inr q) = inr (0, q ∙ ap Left (sym e))

      go : (r ≡ sooner_of (f x) n) ⊎ ((k : ℕ) × (f (get_or l k d) ≡ Left r)) → Met
      go (inl e) = first e (sooner_met (f x) n)
      go (inr q) = inr (suc q.0, q.1)

  -- the same where no time runs for the element past the end
  pub least_left_lem : f d ≡ Untimed → (l : List A) (n : ℕ) → LeastOf (least_left (map f l) n) n f d l
  unfolding least_left
  least_left_lem e [] n = record { bound = le_refl n; below = λ k m x. absurd (untimed m x); met = inl refl }
    where
      untimed : (m : ℕ) → f d ≡ Left m → ⊥
      untimed m x = let z : ◌≡◌ {A = ℕ} 0 1 = cc in omega arith
  least_left_lem e (x ∷ l) n = least_more x l n (least_left (map f l) (sooner_of (f x) n)) (least_left_lem e l (sooner_of (f x) n))
