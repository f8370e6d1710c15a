-- `write_head` stores the head's row, which is its bytes laid over the front (`puts-lay`).
use Rattle.octets.specs.Bytes.{puts}
use Rattle.octets.proofs.Number.{puts-lay}
use Rattle.state.specs.Head.{head_bytes, head_row}
use Rattle.state.proofs.write_head.Goals as goal

pub returns : goal.returns
unfolding puts head_bytes
returns c =
    rw (
      c.put-8.ensures,
      c.put-7.ensures,
      c.put-6.ensures,
      c.put-5.ensures,
      c.put-4.ensures,
      c.put-3.ensures,
      c.put-2.ensures,
      c.put.ensures,
    ) (puts-lay 0 (head_row c.args.h) c.args.b.now)
