-- A plan and its bytes together are the step.
use Prim.Native.Nat.{ℕ}
use mathlib.Core.Path.{◌≡◌, refl, ap, ◌∙◌}
use mathlib.Core.Bool.{Bool, true, false}
use mathlib.Core.List.{List, []}
use lib.ListN.{length}
use Rattle.octets.specs.Pick.{pick}
use Rattle.mctp.specs.declared.Error.{Error}
use Rattle.mctp.specs.declared.Error.TheVariants.{InvalidInput, NoSpace}
use Rattle.fragment.specs.declared.Fragmenter.{Fragmenter}
use Rattle.fragment.specs.declared.Plan.{Plan}
use Rattle.fragment.specs.declared.Plan.TheVariants.{Still, Emits}
use Rattle.fragment.specs.declared.SendOutput.{SendOutput}
use Rattle.fragment.specs.declared.SendOutput.TheVariants.{Error as Failed}
use Rattle.fragment.specs.Step.{Step, step_of, refused, emitted, emit_of, plan_of, next_by, output_by, written_by}

-- a plan's answer and its bytes
abbrev pub carried : Fragmenter → List ℕ → Plan → Step
carried f payload p = record { result = record { next = next_by f p; output = output_by p }; bytes = written_by p payload }

module _ {A B : Type 0} (g : A → B) where
  either : (b : Bool) {x y : A} {u v : B} → g x ≡ u → g y ≡ v → g (pick b x y) ≡ pick b u v
  unfolding pick
  either true p q = p
  either false p q = q

module _ (f : Fragmenter) (payload : List ℕ) where
  -- a plan that writes nothing
  still_carried : (o : SendOutput) → carried f payload (Still o) ≡ record { result = record { next = f; output = o }; bytes = [] }
  unfolding next_by output_by written_by
  still_carried o = refl

  -- a refused step writes nothing
  refused_carried : (e : Error) → carried f payload (Still (Failed e f.cookie)) ≡ refused f e
  refused_carried e = still_carried (Failed e f.cookie)

  emit_carried : (n : ℕ) → carried f payload (Emits (emit_of f (length payload) n)) ≡ emitted f payload n
  unfolding next_by output_by written_by
  emit_carried n = refl

  -- the step is its plan, carried out
  pub step_planned : (n : ℕ) {p : Plan} → p ≡ plan_of f (length payload) n → carried f payload p ≡ step_of f payload n
  unfolding step_of plan_of
  step_planned n is =
      let g = carried f payload in
      ap g is ∙ either g _ (still_carried _) (either g _ (refused_carried NoSpace) (either g _ (refused_carried InvalidInput) (emit_carried n)))

  -- and the fragmenter and the answer that the plan tells are the step's result
  pub step-told : (n : ℕ) {p : Plan} {next : Fragmenter} {output : SendOutput} → p ≡ plan_of f (length payload) n → next ≡ next_by f p → output ≡ output_by p
      → record { next = next; output = output } ≡ (step_of f payload n).result
  step-told n is a b = rw (a, b) (ap (λ (s : Step). s.result) (step_planned n is))
