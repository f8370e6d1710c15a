-- Laws of a test that answers a question exactly: yes, no, what a test shows, the same question put in another way, and `==` of slices.
use mathlib.Core.Path.{◌≡◌, refl}
use mathlib.Core.Bool.{Bool, true, false, not}
use mathlib.Core.List.{List}
use Prim.Native.Nat.{ℕ}
use lib.Dec.{eqb}
use borrow.Author.Tests.{not-true, not-false}
use Rattle.std.specs.Cmp.Lexicographic.{pointwise}
use Rattle.std.proofs.lemmas.Bool.Decides.{Decides-eqb}
use Rattle.std.proofs.lemmas.Slice.Eq.{slice_eq-Decides}
use Rattle.octets.proofs.Bools.{no_both, false_true}
use Rattle.kept.specs.Tells.{Tells}

module _ {P : Type 0} where
  pub says_no_lem : (P → ⊥) → Tells P false
  says_no_lem n = record { sound = λ e. false_true e; complete = λ p. absurd (n p) }

  pub says_yes : P → Tells P true
  says_yes p = record { sound = λ e. p; complete = λ q. refl }

  -- a test that failed, and one that did not: `if !test {`
  pub refuted : {r : Bool} → Tells P r → not r ≡ true → P → ⊥
  refuted t e p = no_both (t.complete p) (not-true _ e)

  pub shown : {r : Bool} → Tells P r → not r ≡ false → P
  shown t e = t.sound (not-false _ e)

  -- its two halves
  pub halves : {r : Bool} → Tells P r → (r ≡ true → P) × (P → r ≡ true)
  halves t = (t.sound, t.complete)

  pub tells_as : {Q : Type 0} {r : Bool} → Tells P r → (P → Q) → (Q → P) → Tells Q r
  tells_as t f g = record { sound = λ e. f (t.sound e); complete = λ q. t.complete (g q) }

-- `==` of two slices of numbers
pub slices_tell : (a b : List ℕ) {r : Bool} → r ≡ pointwise eqb a b → Tells (a ≡ b) r
slices_tell a b {r} e = let d = slice_eq-Decides Decides-eqb a b r e in record { sound = d.0; complete = d.1 }
