-- Two steps for proofs that walk a function's MIR: what needs nothing is added to a goal, and two clauses that need nothing are joined.
use mathlib.Core.List.{List}
use seplogic.Ra.Ura.{Ura}
use base.Logic.{SProp, ent, sep, emp, via, comm∗, mono_l, emp∗}
use types.Logic.{Logic}
use contract.Monad.{fact, fact_i}
use types.Kit.{Item, prop, Step, step}

-- a goal P ∗ Q where Q needs nothing: P is left
pub also : {M : Type 1} {𝓤 : Ura M} {𝓛 : Logic 𝓤} {K : Type 0} {Γ : List (Item 𝓤)} → K → {P Q : SProp 𝓤} → ent 𝓤 (emp 𝓤) Q
    → Step K 𝓛 Γ (prop P) Γ (prop (sep 𝓤 P Q))
also {𝓤 = 𝓤} t {P} {Q} h = step (λ s. record { prf = via 𝓤 P s.prf (via 𝓤 (sep 𝓤 (emp 𝓤) P) (emp∗ 𝓤 P) (via 𝓤 (sep 𝓤 Q P) (mono_l 𝓤 P h) (comm∗ 𝓤 Q P))) })

module _ {M : Type 1} (𝓤 : Ura M) where
  -- a claim that holds needs nothing
  pub plainly : {φ : Type 0} → φ → ent 𝓤 (emp 𝓤) (fact 𝓤 φ)
  plainly {φ} x = fact_i 𝓤 φ (emp 𝓤) x

  -- nor do two such claims
  pub both : {P Q : SProp 𝓤} → ent 𝓤 (emp 𝓤) P → ent 𝓤 (emp 𝓤) Q → ent 𝓤 (emp 𝓤) (sep 𝓤 P Q)
  both {P} {Q} h k = via 𝓤 Q k (via 𝓤 (sep 𝓤 (emp 𝓤) Q) (emp∗ 𝓤 Q) (mono_l 𝓤 Q h))
