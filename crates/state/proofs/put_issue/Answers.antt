-- A store of one field in the head's bytes gives the bytes of the head with that field changed (`issue_bytes`).
use native.Mathlib.Omega.{arith}
use Rattle.octets.specs.Bytes.{le, lay}
use Rattle.state.specs.Stack.{stack_of}
use Rattle.state.proofs.HeadLaws.{issue_bytes, issue_ok}
use Rattle.state.proofs.StackLaws.{head_ok, head_store}
use Rattle.state.proofs.put_issue.Goals as goal

pub returns : goal.returns
returns c =
    let n = c.args.issue in
    let x = (stack_of c.args.sizes c.args.state.now).head in
    head_store _ _ c.requires (lay 24 (le 8 n)) _ _ (issue_bytes n x) (issue_ok n x (omega arith) (head_ok _ _ c.requires)) c.put.ensures
