-- `renew`: a new stack is kept, and a refusal leaves the bytes as they were.
use borrow.Author.Rules.{rules}
use Rattle.performing.proofs.Starts.{begins_kept}
use Rattle.vectors_calls.proofs.renew.Goals as goal

pub returns : goal.returns
returns c =
    begins_kept _ _ _ c.args.state.now _ _ c.begin.ensures (search rules)
