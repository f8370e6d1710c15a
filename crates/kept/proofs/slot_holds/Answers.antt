-- The slot is read, and the ranges that its bytes do not give are tested; written out again it equals the block exactly where the block holds a slot (`reheld`).
use mathlib.Core.Path.{refl, ◌≡◌, ◌∙◌}
use Rattle.state.specs.Layout.{slot_width}
use Rattle.slot.specs.Slot.{blank_slot}
use Rattle.octets.proofs.Froms.{from_read}
use Prim.Native.Nat.{ℕ, ◌+◌, ◌≤◌}
use mathlib.Core.List.{List}
use mathlib.Core.Bool.{Bool, true}
use lib.ListN.{length, get_or}
use mir.Syntax.{w8}
use mir.Val.{Fits}
use Rattle.slot.specs.declared.Reassembler.{Reassembler}
use Rattle.kept.specs.Tells.{Tells}
use Rattle.kept.specs.Ranges.{SlotRanges}
use Rattle.state.specs.Slot.{slot_of, slot_from, slot_codec, SlotOk}
use Rattle.state.proofs.SlotLaws.{slot_lawful}
use Rattle.kept.proofs.TellLaws.{says_no_lem, refuted, slices_tell}
use Rattle.kept.proofs.BlockLaws.{unheld, reheld}
use Rattle.kept.proofs.RangeLaws.{slot_ranged, slot_tested}
use Rattle.std.proofs.lemmas.Bool.{not_from_false}
use Rattle.kept.proofs.slot_holds.Goals as goal

-- the slot is in range where the test says so
ranged : (at B : ℕ) (b : List ℕ) (s : Reassembler) {r : Bool} → ((i : ℕ) → Fits w8 (get_or b i 0)) → at + slot_width ≤ length b → s ≡ slot_from at b → Tells (SlotRanges B s) r → r ≡ true → SlotOk B s
ranged at B b s k fits is t e = slot_ranged at slot_width b k B (from_read slot_of blank_slot at slot_width b fits is) (t.sound e)

pub returns-then-not-slot_ranges : goal.returns-then-not-slot_ranges
returns-then-not-slot_ranges c =
    says_no_lem (unheld (slot_codec c.args.body) c.args.at c.args.state.now (from_read slot_of blank_slot c.args.at slot_width c.args.state.now c.requires c.slot_from-s.ensures) (λ ok. refuted c.slot_ranges.ensures (not_from_false _ c.if-not-slot_ranges.true) (slot_tested _ _ ok)))

pub write_slot-requires : goal.write_slot-requires
write_slot-requires c = let ok = ranged c.args.at c.args.body c.args.state.now c.slot_from-s.result c.type_inv.state c.requires c.slot_from-s.ensures c.slot_ranges.ensures c.if-not-slot_ranges.false in (ok.tag, ok.wide)

pub returns : goal.returns
returns c =
    reheld (slot_codec c.args.body) c.args.at c.args.state.now (from_read slot_of blank_slot c.args.at slot_width c.args.state.now c.requires c.slot_from-s.ensures) (slot_lawful c.args.body) (ranged c.args.at c.args.body c.args.state.now c.slot_from-s.result c.type_inv.state c.requires c.slot_from-s.ensures c.slot_ranges.ensures c.if-not-slot_ranges.false) _ _ refl (c.as_slice.ensures ∙ c.write_slot.ensures) (search slices_tell)
