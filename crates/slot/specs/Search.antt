-- Which slot a search finds in a list of slots of any length:
-- the first that collects the key, else the first empty one; and the earliest that is done.
-- Leans on `find`, and on specs/Slot.antt.
use Rattle.std.specs.Prelude.{ℕ, suc, Bool, List, [], ◌∷◌, ltb, length, get_or, None, Option, Some}
use Rattle.octets.specs.Pick.{pick}
use Rattle.octets.specs.Find.{placed, find}
use Rattle.stamp.specs.Stamp.{earlier}
use Rattle.slot.specs.declared.Reassembler.{Reassembler}
use Rattle.slot.specs.Slot.{blank_slot, is_empty, is_done, collects}
use Rattle.mctp.specs.declared.Header.{Header}

-- rule 39: the first collecting slot with the packet's key, else the first empty slot, else the number of slots. A bad header matches no slot
unfoldable pub slot_for : Option Header → List Reassembler → ℕ
slot_for None slots = find is_empty slots
slot_for (Some h) slots =
    pick (ltb (find (collects h.key) slots) (length slots)) (find (collects h.key) slots) (find is_empty slots)

-- the earliest done slot that passes, the lowest index of equal stamps, or the number of slots; a slot with a handle out is passed over
unfoldable pub earliest : (Reassembler → Bool) → List Reassembler → ℕ
earliest f [] = 0
earliest f (s ∷ l) =
    pick (is_done s)
    (pick (f s) (pick (ltb (earliest f l) (length l)) (pick (earlier (get_or l (earliest f l) blank_slot).stamp s.stamp) (suc (earliest f l)) 0) 0)
    (suc (earliest f l)))
    (suc (earliest f l))

-- the same as an option
abbrev pub earliest_place : (Reassembler → Bool) → List Reassembler → Option ℕ
earliest_place f l = placed (length l) (earliest f l)
