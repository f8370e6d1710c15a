-- `is_listed` looks for a cookie that is given; an absent cookie is in no list.
use mathlib.Core.Path.{◌≡◌, refl, ◌∙◌}
use mathlib.Core.Bool.{false}
use mathlib.Core.List.{List, [], ◌∷◌}
use Prim.Native.Nat.{ℕ}
use lib.Dec.{eqb}
use Rattle.std.specs.Prelude.{None, Some}
use Rattle.std.specs.List.{list_any}
use Rattle.octets.specs.Pick.{pick}
use Rattle.octets.proofs.Bools.{bool_cases}
use Rattle.slot.specs.Slot.{listed}
use Rattle.slot_walks.proofs.is_listed.Goals as goal

absent : (l : List ℕ) → false ≡ listed l None
absent [] = refl
absent (x ∷ l) = refl

any_listed : (l : List ℕ) (x : ℕ) → list_any (λ y. eqb y x) l ≡ listed l (Some (record { 0 = x }))
unfolding pick
any_listed [] x = refl
any_listed (y ∷ l) x = bool_cases (eqb y x) (λ e. rw e) (λ e. rw e (any_listed l x))

pub returns-in-None : goal.returns-in-None
returns-in-None c = rw c.in-None.is (absent c.args.cookies.now)

pub returns-in-Some : goal.returns-in-Some
returns-in-Some c = rw c.in-Some.is (c.contains.ensures.value ∙ any_listed c.args.cookies.now c.in-Some.c.0)
