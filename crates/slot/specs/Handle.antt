-- docs/RULES.md 78 and 79: a handle is a slot's index and an issue number; the numbers are one count for the whole stack.
-- Leans on `octets` for `pick`.
use Rattle.std.specs.Prelude.{ℕ, ◌+◌, List, [], ◌∷◌, ltb}
use Rattle.octets.specs.Pick.{pick}
use Rattle.slot.specs.declared.ReceiveHandle.{ReceiveHandle}

-- the number of the next handle that goes out: one count serves the whole stack, and it stays at 2^64 - 1
unfoldable pub next_issue : ℕ → ℕ
next_issue n = pick (ltb n 18446744073709551615) (n + 1) n

-- a handle in numbers: the slot's index and the number under which it went out. No handle has number 0 (`issue_some`)
abbrev pub handle_words : ReceiveHandle → List ℕ
handle_words h = h.index ∷ h.issue ∷ []
