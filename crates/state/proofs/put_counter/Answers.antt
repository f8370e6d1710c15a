-- A store of one field in the head's bytes gives the bytes of the head with that field changed (`counter_bytes`).
use native.Mathlib.Omega.{arith}
use Rattle.octets.specs.Bytes.{le, lay}
use Rattle.state.specs.Stack.{stack_of}
use Rattle.state.proofs.HeadLaws.{counter_bytes, counter_ok}
use Rattle.state.proofs.StackLaws.{head_ok, head_store}
use Rattle.state.proofs.put_counter.Goals as goal

pub returns : goal.returns
returns c =
    let n = c.args.counter in
    let x = (stack_of c.args.sizes c.args.state.now).head in
    head_store _ _ c.requires (lay 4 (le 4 n)) _ _ (counter_bytes n x) (counter_ok n x (omega arith) (head_ok _ _ c.requires)) c.put.ensures
