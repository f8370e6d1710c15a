-- `receive_collecting` goes the short way where the packet is a middle one, and otherwise enters the slot that it decodes: both make what the definition says.
use mathlib.Core.Path.{sym, ap, ◌∙◌}
use Rattle.std.specs.Prelude.{Ok}
use Rattle.slot.specs.declared.Reassembler.{Reassembler}
use Rattle.state.specs.Stack.{stack_of}
use Rattle.receiving.specs.Receive.{land}
use Rattle.receiving.proofs.Receipts.{makes_as}
use Rattle.receiving.proofs.receive_collecting.Goals as goal

pub progress_at-p-requires : goal.progress_at-p-requires
progress_at-p-requires c = c.requires.0

pub is_middle-requires : goal.is_middle-requires
is_middle-requires c = c.progress_at-p.ensures.1.len

pub append_middle-requires : goal.append_middle-requires
append_middle-requires c =
    (c.requires.0, c.requires.3, c.requires.4, c.requires.5, c.progress_at-p.ensures.0, c.progress_at-p.ensures.1.len, sym c.is_middle.ensures ∙ c.if-is_middle.true)

pub returns-then-is_middle : goal.returns-then-is_middle
returns-then-is_middle c = c.append_middle.ensures

pub slot_at-s-requires : goal.slot_at-s-requires
slot_at-s-requires c = c.requires.0

pub feed-requires : goal.feed-requires
feed-requires c =
    (c.requires.0, c.requires.1, c.requires.2, c.requires.3, c.requires.4, c.requires.5, c.slot_at-s.ensures.1)

pub returns : goal.returns
returns c =
    makes_as c.args.sizes c.feed.result (ap (λ (x : Reassembler). land c.args.sizes.body c.args.i (stack_of c.args.sizes c.args.state.now) c.args.h c.args.packet.now (Ok x)) c.slot_at-s.ensures.0) c.feed.ensures
