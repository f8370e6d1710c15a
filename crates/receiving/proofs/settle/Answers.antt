-- `settle` stores the slot, concludes, and copies the plan's bytes to the slot's part of the pool: they fit the body, so they lie within the pool.
use Prim.Native.Nat.{ℕ, ◌+◌, ◌-◌, ◌*◌, ◌<◌, ◌≤◌}
use native.Mathlib.Omega.{arith}
use mathlib.Core.Path.{ap, ◌∙◌}
use lib.ListN.{length}
use borrow.Author.Rules.{rules}
use Rattle.state.specs.Stack.{Stack, stack_of, with_slot}
use Rattle.state.proofs.StackLaws.{and_then}
use Rattle.slot.specs.Handle.{next_issue}
use Rattle.receiving.specs.Conclude.{said_of, concluded}
use Rattle.receiving.proofs.Entered.{in_lent_pool, copied}
use Rattle.receiving.proofs.settle.Goals as goal

pub put_slot-requires : goal.put_slot-requires
put_slot-requires c = (c.requires.0, c.requires.4)

pub conclude-said-requires : goal.conclude-said-requires
conclude-said-requires c = c.put_slot.ensures.kept

pub overflow_mul-at : goal.overflow_mul-at
overflow_mul-at c = let r = in_lent_pool c.args.sizes.body c.args.i c.args.sizes.slots c.args.t.at (length c.args.packet.now - c.args.t.from) (length c.args.pool.now) c.requires.2 c.requires.1 c.requires.3.fits in search rules

pub overflow_add-at : goal.overflow_add-at
overflow_add-at c = let r = in_lent_pool c.args.sizes.body c.args.i c.args.sizes.slots c.args.t.at (length c.args.packet.now - c.args.t.from) (length c.args.pool.now) c.requires.2 c.requires.1 c.requires.3.fits in search rules

pub slice_bounds-copy-count : goal.slice_bounds-copy-count
slice_bounds-copy-count c = let r = in_lent_pool c.args.sizes.body c.args.i c.args.sizes.slots c.args.t.at (length c.args.packet.now - c.args.t.from) (length c.args.pool.now) c.requires.2 c.requires.1 c.requires.3.fits in search rules

pub slice_bounds-copy-start : goal.slice_bounds-copy-start
slice_bounds-copy-start c = let r = in_lent_pool c.args.sizes.body c.args.i c.args.sizes.slots c.args.t.at (length c.args.packet.now - c.args.t.from) (length c.args.pool.now) c.requires.2 c.requires.1 c.requires.3.fits in search rules

pub slice_bounds-copy-end : goal.slice_bounds-copy-end
slice_bounds-copy-end c = let r = in_lent_pool c.args.sizes.body c.args.i c.args.sizes.slots c.args.t.at (length c.args.packet.now - c.args.t.from) (length c.args.pool.now) c.requires.2 c.requires.1 c.requires.3.fits in search rules

pub returns : goal.returns
returns c =
    let st = stack_of c.args.sizes c.args.state.now in
    record {
      said = c.conclude-said.ensures.0 ∙ ap (λ (x : Stack). said_of c.args.t.whole c.args.i (next_issue x.head.issue)) c.put_slot.ensures.view;
      stack = and_then c.args.sizes (concluded c.args.t.whole c.args.key) c.args.state.now c.put_slot.new.state c.conclude-said.new.state (with_slot c.args.i c.args.t.slot st) c.put_slot.ensures c.conclude-said.ensures.1;
      bytes = copied (c.args.sizes.body * c.args.i + c.args.t.at) c.args.t.from c.args.packet.now c.args.pool.now (in_lent_pool c.args.sizes.body c.args.i c.args.sizes.slots c.args.t.at (length c.args.packet.now - c.args.t.from) (length c.args.pool.now) c.requires.2 c.requires.1 c.requires.3.fits) c.copy.new.dst c.copy.ensures;
    }
