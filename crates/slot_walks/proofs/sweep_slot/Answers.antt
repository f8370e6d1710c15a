-- `sweep_slot` tests as the definition does: a slot that is no reply, or has a handle out, stays as it was.
use mathlib.Core.Path.{sym, ap, subst, ◌∙◌}
use Rattle.slot.specs.declared.Reassembler.{Reassembler}
use Rattle.slot.specs.Slot.{is_reply, handle_taken}
use Rattle.state.specs.Slot.{SlotOk}
use Rattle.state.specs.Stack.{stack_of, slot_at}
use Rattle.state.proofs.PartLoops.{slot_part, stored_as, same_stored}
use Rattle.state.proofs.SlotLaws.{blank_ok}
use Rattle.slot_walks.proofs.SlotChecks.{swept_slot, stops, frees, passes}
use borrow.Author.Rules.{rules}
use Rattle.slot_walks.proofs.sweep_slot.Goals as goal

pub returns-then-not-is_reply : goal.returns-then-not-is_reply
returns-then-not-is_reply c =
    let z = c.args.sizes in
    let b = c.args.state.now in
    let i = c.args.i in
    let p = c.args.peer in
    let t = c.args.tag in
    let a = slot_at i (stack_of z b) in
    let e = sym c.slot_at-s.ensures.0 in
    let r = ap (is_reply p t) e ∙ sym c.is_reply.ensures ∙ c.if-not-is_reply.true in
    let w = passes p t a r in
    (w.0, stored_as slot_part z b i b a (swept_slot p t a) w.1 (same_stored slot_part z b i c.requires.0))

pub returns-then-handle_taken : goal.returns-then-handle_taken
returns-then-handle_taken c =
    let z = c.args.sizes in
    let b = c.args.state.now in
    let i = c.args.i in
    let p = c.args.peer in
    let t = c.args.tag in
    let a = slot_at i (stack_of z b) in
    let e = sym c.slot_at-s.ensures.0 in
    let r = ap (is_reply p t) e ∙ sym c.is_reply.ensures ∙ c.if-not-is_reply.false in
    let h = ap handle_taken e ∙ sym c.handle_taken.ensures ∙ c.if-handle_taken.true in
    let w = stops p t a r h in
    (w.0, stored_as slot_part z b i b a (swept_slot p t a) w.1 (same_stored slot_part z b i c.requires.0))

pub put_slot-requires : goal.put_slot-requires
put_slot-requires c =
    let B = c.args.sizes.body in
    (search rules, subst (λ (s : Reassembler). SlotOk B s) (sym c.blank.ensures) (blank_ok B))

pub returns : goal.returns
returns c =
    let z = c.args.sizes in
    let b = c.args.state.now in
    let i = c.args.i in
    let p = c.args.peer in
    let t = c.args.tag in
    let a = slot_at i (stack_of z b) in
    let e = sym c.slot_at-s.ensures.0 in
    let r = ap (is_reply p t) e ∙ sym c.is_reply.ensures ∙ c.if-not-is_reply.false in
    let h = ap handle_taken e ∙ sym c.handle_taken.ensures ∙ c.if-handle_taken.false in
    let w = frees p t a r h in
    (w.0, stored_as slot_part z b i _ _ (swept_slot p t a) (c.blank.ensures ∙ w.1) c.put_slot.ensures)
