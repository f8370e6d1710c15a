-- The own EID is the head's first byte.
use Prim.Native.Nat.{ℕ}
use mathlib.Core.Path.{ap, ◌∙◌}
use Rattle.mctp.specs.declared.Eid.{Eid}
use Rattle.state.specs.declared.Head.{Head}
use Rattle.state.specs.Head.{head_of}
use Rattle.state.proofs.StackLaws.{head_get}
use Rattle.state.proofs.own_eid.Goals as goal

pub returns : goal.returns
unfolding head_of
returns c =
    ap {B = Eid} (λ (n : ℕ). record { 0 = n }) c.get.ensures ∙ ap (λ (h : Head). h.own_eid) (head_get c.args.sizes c.args.state.now)
