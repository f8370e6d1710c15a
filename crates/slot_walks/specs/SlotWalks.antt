-- What a walk over the slots of a stack looks for and makes.
-- A cancel's sweep; the better of two messages; what a test computes.
-- Leans on `slot` for one slot, on `state` for its first bytes.
use Rattle.std.specs.Prelude.{ℕ, ◌≡◌, Bool, true, false, List, [], ◌∷◌, length, get_or, ltb, eqb}
use Rattle.octets.specs.Pick.{pick}
use Rattle.mctp.specs.declared.Eid.{Eid}
use Rattle.mctp.specs.declared.TagValue.{TagValue}
use Rattle.stamp.specs.Stamp.{earlier}
use Rattle.slot.specs.declared.Reassembler.{Reassembler}
use Rattle.slot.specs.Slot.{blank_slot, is_reply, handle_taken}
use Rattle.state.specs.Slot.{key_word}

-- a cancel walks the slots upward: it frees the replies of that peer and tag, and stops at one with a handle out
unfoldable pub swept : Eid → TagValue → List Reassembler → List Reassembler
swept peer tag [] = []
swept peer tag (s ∷ l) =
    pick (is_reply peer tag s) (pick (handle_taken s) (s ∷ l) (blank_slot ∷ swept peer tag l)) (s ∷ swept peer tag l)

unfoldable pub blocked : Eid → TagValue → List Reassembler → Bool
blocked peer tag [] = false
blocked peer tag (s ∷ l) = pick (is_reply peer tag s) (pick (handle_taken s) true (blocked peer tag l)) (blocked peer tag l)

-- a test's answers are those of p
abbrev pub Computes : (Reassembler → Bool → Type 0) → (Reassembler → Bool) → Type 0
Computes post p = (s : Reassembler) (b : Bool) → post s b → b ≡ p s

-- whether a slot's first four bytes are that number
abbrev pub has_word : ℕ → Reassembler → Bool
has_word w s = eqb (key_word s) w

-- the better of slot i, which passes the test, and the best of the slots after it, if there is one: the one with the earlier stamp, and slot i when the stamps are equal
unfoldable pub better_of : ℕ → ℕ → List Reassembler → ℕ
better_of i best slots =
    pick (ltb best (length slots)) (pick (earlier (get_or slots best blank_slot).stamp (get_or slots i blank_slot).stamp) best i) i
