-- The MTU stands in the head, at byte 32.
use mathlib.Core.Path.{ap, ◌∙◌}
use Rattle.state.specs.declared.Head.{Head}
use Rattle.state.specs.Head.{head_of}
use Rattle.state.proofs.StackLaws.{head_get}
use Rattle.state.proofs.mtu_at.Goals as goal

pub returns : goal.returns
unfolding head_of
returns c =
    c.get.ensures ∙ ap (λ (h : Head). h.mtu) (head_get c.args.sizes c.args.state.now)
