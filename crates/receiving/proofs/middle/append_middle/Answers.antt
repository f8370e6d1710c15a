-- `append_middle` counts the event, stores sequence and length, and copies the packet's bytes behind the body: they fit it, so they fit the pool.
use Prim.Native.Nat.{ℕ, ◌+◌, ◌-◌, ◌*◌, ◌%◌, ◌<◌, ◌≤◌}
use native.Mathlib.Omega.{arith}
use mathlib.Core.Path.{refl, sym}
use lib.ListN.{length}
use borrow.Author.Rules.{rules}
use Rattle.std.specs.Prelude.{None, Ok}
use Rattle.state.specs.Slot.{progress}
use Rattle.state.specs.Stack.{Stack, stack_of, slot_at, with_slot, ticked}
use Rattle.state.proofs.StackLaws.{and_then}
use Rattle.receiving.proofs.Entered.{in_lent_pool, copied}
use Rattle.receiving.proofs.Receipts.{makes_as}
use Rattle.receiving.proofs.MiddleLaws.{goes_room, middle}
use Rattle.receiving.proofs.middle.append_middle.Goals as goal

pub tick-requires : goal.tick-requires
tick-requires c = c.requires.0

pub put_progress-requires : goal.put_progress-requires
put_progress-requires c =
    (c.tick.ensures.1.kept, record { seq = omega arith; len = goes_room c.args.h c.args.p (length c.args.packet.now - 4) c.args.sizes.body c.requires.5 c.requires.6 })

pub overflow_mul-at : goal.overflow_mul-at
overflow_mul-at c = let r = in_lent_pool c.args.sizes.body c.args.i c.args.sizes.slots c.args.p.len (length c.args.packet.now - 4) (length c.args.pool.now) c.requires.2 c.requires.3 (goes_room c.args.h c.args.p (length c.args.packet.now - 4) c.args.sizes.body c.requires.5 c.requires.6) in search rules

pub overflow_add-at : goal.overflow_add-at
overflow_add-at c = let r = in_lent_pool c.args.sizes.body c.args.i c.args.sizes.slots c.args.p.len (length c.args.packet.now - 4) (length c.args.pool.now) c.requires.2 c.requires.3 (goes_room c.args.h c.args.p (length c.args.packet.now - 4) c.args.sizes.body c.requires.5 c.requires.6) in search rules

pub slice_bounds-copy-count : goal.slice_bounds-copy-count
slice_bounds-copy-count c = let r = in_lent_pool c.args.sizes.body c.args.i c.args.sizes.slots c.args.p.len (length c.args.packet.now - 4) (length c.args.pool.now) c.requires.2 c.requires.3 (goes_room c.args.h c.args.p (length c.args.packet.now - 4) c.args.sizes.body c.requires.5 c.requires.6) in search rules

pub slice_bounds-copy-start : goal.slice_bounds-copy-start
slice_bounds-copy-start c = let r = in_lent_pool c.args.sizes.body c.args.i c.args.sizes.slots c.args.p.len (length c.args.packet.now - 4) (length c.args.pool.now) c.requires.2 c.requires.3 (goes_room c.args.h c.args.p (length c.args.packet.now - 4) c.args.sizes.body c.requires.5 c.requires.6) in search rules

pub slice_bounds-copy-end : goal.slice_bounds-copy-end
slice_bounds-copy-end c = let r = in_lent_pool c.args.sizes.body c.args.i c.args.sizes.slots c.args.p.len (length c.args.packet.now - 4) (length c.args.pool.now) c.requires.2 c.requires.3 (goes_room c.args.h c.args.p (length c.args.packet.now - 4) c.args.sizes.body c.requires.5 c.requires.6) in search rules

pub returns : goal.returns
returns c =
    let st = stack_of c.args.sizes c.args.state.now in
    let n = length c.args.packet.now - 4 in
    makes_as c.args.sizes (Ok None) (sym (middle c.args.sizes.body c.args.h c.args.packet.now (slot_at c.args.i st) c.args.i st c.args.p c.requires.4 c.requires.5 c.requires.6))
    (record {
      said = refl;
      stack = and_then c.args.sizes (λ (x : Stack). with_slot c.args.i (progress ((c.args.h.seq % 4 + 1) % 4) (c.args.p.len + n) (slot_at c.args.i x)) x) c.args.state.now c.tick.new.state c.put_progress.new.state (ticked st) c.tick.ensures.1 c.put_progress.ensures;
      bytes = copied (c.args.sizes.body * c.args.i + c.args.p.len) 4 c.args.packet.now c.args.pool.now (in_lent_pool c.args.sizes.body c.args.i c.args.sizes.slots c.args.p.len (length c.args.packet.now - 4) (length c.args.pool.now) c.requires.2 c.requires.3 (goes_room c.args.h c.args.p (length c.args.packet.now - 4) c.args.sizes.body c.requires.5 c.requires.6)) c.copy.new.dst c.copy.ensures;
    })
