-- Cases of an answer: its number, and what holds of it where it is a refusal.
use Prim.Native.Nat.{ℕ}
use mathlib.Core.Path.{◌≡◌, refl, sym, ap, subst, ◌∙◌}
use mathlib.Core.Bool.{true, false}
use mathlib.Core.List.{List, []}
use lib.Dec.{eqb}
use Rattle.octets.specs.Pick.{pick_true, pick_false}
use Rattle.mctp.specs.Answer.{Answer, gives, refuses, answer_no}
use Rattle.promises.specs.Refusals.{is_one, Among, first_nonzero}

-- the answer's number is k, and P holds of it where it is a refusal
abbrev pub Says : ℕ → (ℕ → List ℕ → Type 0) → Answer → Type 0
Says k P (gives vs) = k ≡ 0
Says k P (refuses n vs) = (k ≡ n) × P n vs

module _ (k : ℕ) (P : ℕ → List ℕ → Type 0) (a : Answer) where
  pub refusal : (n : ℕ) (vs : List ℕ) → Says k P a → a ≡ refuses n vs → P n vs
  refusal n vs h e = (subst (Says k P) e h).1

pub number : (k : ℕ) (P : ℕ → List ℕ → Type 0) (a : Answer) → Says k P a → answer_no a ≡ k
number k P (gives vs) h = sym h
number k P (refuses n vs) h = sym h.0

-- P holds of the answer where it is a refusal
abbrev pub Where : (ℕ → List ℕ → Type 0) → Answer → Type 0
Where P a = Says (answer_no a) P a

-- what follows from what holds of a refusal
pub weaker : (k : ℕ) (P Q : ℕ → List ℕ → Type 0) (a : Answer) → ((n : ℕ) (vs : List ℕ) → P n vs → Q n vs) → Says k P a → Says k Q a
weaker k P Q (gives vs) f h = h
weaker k P Q (refuses n vs) f h = (h.0, f n vs h.1)

-- a number that comes alone
pub sole : {numbers : List ℕ} {n : ℕ} → is_one n numbers ≡ true → Among numbers n []
sole i = record { number = i; alone = refl }

-- without a first refusal it is the second, and otherwise the first
pub first_none : (n m : ℕ) → n ≡ 0 → first_nonzero n m ≡ m
first_none n m e = ap (λ (x : ℕ). first_nonzero x m) e ∙ pick_true _ _ _ refl

pub first_some : (n m k : ℕ) → n ≡ k → eqb k 0 ≡ false → first_nonzero n m ≡ k
first_some n m k e f = ap (λ (x : ℕ). first_nonzero x m) e ∙ pick_false _ _ _ f
