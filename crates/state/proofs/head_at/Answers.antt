-- The head is what its block says (`head_get`).
use mathlib.Core.Path.{◌∙◌}
use Rattle.state.proofs.StackLaws.{head_get, head_ok}
use Rattle.state.proofs.head_at.Goals as goal

pub returns : goal.returns
returns c =
    let b = c.args.state.now in
    let e = c.read_head.ensures ∙ head_get c.args.sizes b in
    (e, rw e (head_ok c.args.sizes b c.requires))
