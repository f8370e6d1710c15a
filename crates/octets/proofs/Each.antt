-- What a place of a list holds after a store or a map.
use Prim.Native.Nat.{ℕ, zero, suc}
use mathlib.Core.Path.{◌≡◌, refl, sym, ap}
use mathlib.Core.Logic.{◌⊎◌, inl, inr, ⊎_elim}
use mathlib.Core.List.{List, [], ◌∷◌, map}
use lib.ListN.{get_or, set}

-- a place of a list after a store: the stored value, or what stood there
pub get_d_set : {A : Type 0} (l : List A) (i j : ℕ) (a d : A) → ((j ≡ i) × (get_or (set l i a) j d ≡ a)) ⊎ (get_or (set l i a) j d ≡ get_or l j d)
get_d_set [] i j a d = inr refl
get_d_set (x ∷ l) zero zero a d = inl (refl, refl)
get_d_set (x ∷ l) zero (suc j) a d = inr refl
get_d_set (x ∷ l) (suc i) zero a d = inr refl
get_d_set (x ∷ l) (suc i) (suc j) a d = ⊎_elim (λ w. inl (ap suc w.0, w.1)) inr (get_d_set l i j a d)

-- a place of a list after a map that keeps the default
pub get_d_mapped : {A : Type 0} (g : A → A) (l : List A) (j : ℕ) (d : A) → g d ≡ d → get_or (map g l) j d ≡ g (get_or l j d)
get_d_mapped g [] j d e = sym e
get_d_mapped g (x ∷ l) zero d e = refl
get_d_mapped g (x ∷ l) (suc j) d e = get_d_mapped g l j d e
