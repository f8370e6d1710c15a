-- `expire_slot` asks for the slot's time once: an expired slot becomes blank, any other stays as it was.
use mathlib.Core.Path.{sym, subst}
use Rattle.slot.specs.declared.Reassembler.{Reassembler}
use Rattle.state.specs.Slot.{SlotOk}
use Rattle.state.proofs.SlotLaws.{blank_ok}
use Rattle.state.proofs.PartLoops.{timed_slots, expire_gone, expire_stays}
use borrow.Author.Rules.{rules}
use Rattle.slot_walks.proofs.expire_slot.Goals as goal

pub put_slot-requires : goal.put_slot-requires
put_slot-requires c =
    let B = c.args.sizes.body in
    (search rules, subst (λ (s : Reassembler). SlotOk B s) (sym c.blank.ensures) (blank_ok B))

pub returns-then-is_expired : goal.returns-then-is_expired
returns-then-is_expired c =
    expire_gone timed_slots _ _ _ _ _ c.slot_at.ensures.0 c.check_expired-t.ensures c.noted-found.ensures c.is_expired.ensures
    c.if-is_expired.true c.blank.ensures c.put_slot.ensures

pub returns-else-is_expired : goal.returns-else-is_expired
returns-else-is_expired c =
    expire_stays timed_slots _ _ _ _ _ c.slot_at.ensures.0 c.check_expired-t.ensures c.noted-found.ensures c.is_expired.ensures
    c.if-is_expired.false c.requires.0
