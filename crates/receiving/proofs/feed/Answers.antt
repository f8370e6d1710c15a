-- `feed` counts the event and asks `reassemble` what the packet makes of the slot: freed, it is stored blank; taken, its next record has its ranges.
use Prim.Native.Nat.{ℕ, ◌^◌, ◌<◌}
use mathlib.Core.Path.{sym, ap, subst, ◌∙◌}
use Rattle.std.specs.Prelude.{Err, Ok}
use Rattle.slot.specs.declared.Reassembler.{Reassembler}
use Rattle.slot.specs.Slot.{blank_slot}
use Rattle.slot.specs.Handle.{next_issue}
use Rattle.slot.proofs.HandleLaws.{issue_fits}
use Rattle.state.proofs.SlotLaws.{blank_ok}
use Rattle.state.specs.Stack.{Stack, stack_of, ticked, with_slot}
use Rattle.state.proofs.StackLaws.{head_ok}
use Rattle.state.proofs.Steps.{becomes_as}
use Rattle.receiving.specs.Receive.{refuse, settled}
use Rattle.receiving.proofs.Entered.{entered_ok, ticked_ok}
use Rattle.receiving.proofs.Receipts.{makes_as, makes_then, refusal, lands}
use Rattle.receiving.proofs.feed.Goals as goal

pub tick-stamp-requires : goal.tick-stamp-requires
tick-stamp-requires c = c.requires.0

pub issue_at-requires : goal.issue_at-requires
issue_at-requires c = c.tick-stamp.ensures.1.kept

pub put_slot-requires : goal.put_slot-requires
put_slot-requires c =
    (c.tick-stamp.ensures.1.kept, rw c.blank.ensures (blank_ok c.args.sizes.body))

pub settle-requires : goal.settle-requires
settle-requires c =
    let i = c.next_issue-issue.ensures ∙ ap next_issue c.issue_at.ensures in
    let fits = subst (λ (m : ℕ). m < 2 ^ 64) (sym i) (issue_fits _ (head_ok c.args.sizes c.tick-stamp.new.state c.tick-stamp.ensures.1.kept).issue) in
    let ok = entered_ok c.args.sizes.body c.tick-stamp.result c.next_issue-issue.result c.args.h c.args.packet.now c.requires.0.sizes.body (ticked_ok c.args.sizes c.args.state.now c.tick-stamp.new.state c.tick-stamp.result c.tick-stamp.ensures.0 c.tick-stamp.ensures.1) fits c.args.s c.requires.2 c.requires.6 c.in-Ok.t (sym c.receive.ensures.value ∙ c.in-Ok.is) in
    (c.tick-stamp.ensures.1.kept, c.requires.5, c.requires.4, c.receive.ensures.planned c.requires.3 c.requires.6.len c.in-Ok.t c.in-Ok.is, ok)

pub returns-in-Err : goal.returns-in-Err
returns-in-Err c =
    let st = stack_of c.args.sizes c.args.state.now in
    let i = c.next_issue-issue.ensures ∙ ap next_issue (c.issue_at.ensures ∙ ap (λ (x : Stack). x.head.issue) c.tick-stamp.ensures.1.view) in
    makes_as c.args.sizes (Err c.in-Err.err) (lands c.args.sizes.body c.args.i st c.args.h c.args.packet.now c.args.s (Err c.in-Err.err) c.tick-stamp.result c.next_issue-issue.result (sym c.in-Err.is ∙ c.receive.ensures.value) c.tick-stamp.ensures.0 i)
    (makes_then c.args.sizes (Err c.in-Err.err) (λ (x : Stack). refuse c.in-Err.err (with_slot c.args.i blank_slot x)) (ticked st) c.tick-stamp.ensures.1
    (refusal c.args.sizes c.in-Err.err c.args.pool.now (with_slot c.args.i blank_slot (stack_of c.args.sizes c.tick-stamp.new.state))
    (becomes_as c.args.sizes c.tick-stamp.new.state c.put_slot.new.state (ap (λ (x : Reassembler). with_slot c.args.i x (stack_of c.args.sizes c.tick-stamp.new.state)) c.blank.ensures) c.put_slot.ensures)))

pub returns-in-Ok : goal.returns-in-Ok
returns-in-Ok c =
    let st = stack_of c.args.sizes c.args.state.now in
    let i = c.next_issue-issue.ensures ∙ ap next_issue (c.issue_at.ensures ∙ ap (λ (x : Stack). x.head.issue) c.tick-stamp.ensures.1.view) in
    makes_as c.args.sizes c.settle.result (lands c.args.sizes.body c.args.i st c.args.h c.args.packet.now c.args.s (Ok c.in-Ok.t) c.tick-stamp.result c.next_issue-issue.result (sym c.in-Ok.is ∙ c.receive.ensures.value) c.tick-stamp.ensures.0 i)
    (makes_then c.args.sizes c.settle.result (λ (x : Stack). settled c.args.sizes.body c.args.i x c.args.h.key c.args.packet.now (Ok c.in-Ok.t)) (ticked st) c.tick-stamp.ensures.1 c.settle.ensures)
