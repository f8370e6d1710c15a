-- A slot's first four bytes are its state and its key (`slot_word`).
use native.Mathlib.Omega.{arith}
use mathlib.Core.Path.{sym, ap, ◌∙◌}
use Rattle.slot.specs.declared.Reassembler.{Reassembler}
use Rattle.state.specs.Slot.{key_word}
use Rattle.state.proofs.SlotLaws.{slot_word}
use Rattle.state.proofs.StackLaws.{slot_ok, slot_past, slot_field}
use Rattle.state.proofs.word_at.Goals as goal

pub returns-then-sizes-i : goal.returns-then-sizes-i
returns-then-sizes-i c =
    sym (ap (λ (x : Reassembler). key_word x) (slot_past c.args.sizes c.args.state.now c.requires c.args.i (omega arith)))

pub returns : goal.returns
returns c =
    let i = c.args.i in
    c.get.ensures ∙ slot_field _ _ c.requires i 0 4 (omega arith) ∙ slot_word c.args.sizes.body _ (slot_ok _ _ c.requires i)
