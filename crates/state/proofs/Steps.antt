-- Three laws: a stack may be written in another way; a call that answers and makes a stack may come after another store; one call has only one outcome.
use Prim.Native.Nat.{ℕ}
use mathlib.Core.Path.{◌≡◌, sym, ap, subst, ◌∙◌}
use mathlib.Core.List.{List}
use Rattle.state.specs.declared.Sizes.{Sizes}
use Rattle.state.specs.Stack.{Stack, Becomes, stack_of}
use Rattle.state.proofs.StackLaws.{and_then, determined}

-- the same stack, written in another way
pub becomes_as : (z : Sizes) (b b' : List ℕ) {s t : Stack} → s ≡ t → Becomes z b b' s → Becomes z b b' t
becomes_as z b b' e h = subst (λ (x : Stack). Becomes z b b' x) e h

module _ {A : Type 0} (z : Sizes) (b : List ℕ) where
  -- the answer, and what the bytes become: the shape of every contract
  abbrev pub Met : A → Stack → A → List ℕ → Type 0
  Met said st r b' = (r ≡ said) × Becomes z b b' st

  pub pinned : (said : A) (st : Stack) (r s : A) (x y : List ℕ) → Met said st r x → Met said st s y → (r ≡ s) × (x ≡ y)
  pinned said st r s x y p q = (p.0 ∙ sym q.0, determined z b x y st p.1 q.1)

pub then_says : {A : Type 0} (z : Sizes) (f : Stack → A) (g : Stack → Stack) (b x y : List ℕ) (st : Stack) (r : A) → Becomes z b x st
    → Met z x (f (stack_of z x)) (g (stack_of z x)) r y → Met z b (f st) (g st) r y
then_says z f g b x y st r p q = (q.0 ∙ ap f p.view, and_then z g b x y st p q.1)
