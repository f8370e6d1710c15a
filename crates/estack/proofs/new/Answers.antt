use borrow.Author.Rules.{rules}
use Rattle.state.proofs.Fresh as fresh
use Rattle.state.specs.Layout.{SizesOk}
use Rattle.estack.proofs.new.Goals as goal

-- zeros over the front are a fresh stack, so the head is stored in a kept state
pub put_head-requires : goal.put_head-requires
put_head-requires c =
    let ok : SizesOk c.args.sizes = record { slots = c.if-sizes-gt255.false; body = c.if-sizes-gt65535.false } in
    (rw c.clear.ensures (fresh.fresh_becomes c.args.sizes c.args.state.now ok (search rules)).kept, search rules)
