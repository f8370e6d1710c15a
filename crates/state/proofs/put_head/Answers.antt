-- A head laid over its block is the stack's head (`head_store`).
use Rattle.octets.specs.Bytes.{lay}
use Rattle.state.specs.Head.{head_bytes}
use Rattle.state.proofs.StackLaws.{head_store, head_whole}
use Rattle.state.proofs.put_head.Goals as goal

pub returns : goal.returns
returns c =
    let h = c.args.h in
    head_store _ _ c.requires.0 (lay 0 (head_bytes h)) _ h (head_whole _ h) c.requires.1 c.write_head.ensures
