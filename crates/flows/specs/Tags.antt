-- Tags as bits of a byte, and the search for a free one.
-- The search's promise says what it finds, not how.
-- Leans on `find`.
use Rattle.std.specs.Prelude.{ℕ, zero, suc, ◌+◌, ◌-◌, ◌*◌, ◌/◌, ◌%◌, ◌^◌, Bool, not, List, [], ◌∷◌, ltb, eqb, None, Option, Some}
use Rattle.std.specs.Int.Count.{ones}
use Rattle.octets.specs.Pick.{pick}
use Rattle.octets.specs.Find.{find}
use Rattle.mctp.specs.declared.Eid.{Eid}
use Rattle.mctp.specs.Terms.{same_eid}
use Rattle.mctp.specs.Header.{bit}
use Rattle.flows.specs.declared.Flow.{Flow}
use Rattle.mctp.specs.declared.TagValue.{TagValue}

-- the number whose n low bits are what f says of t, t + 1, ..
unfoldable pub bits_of : (ℕ → Bool) → ℕ → ℕ → ℕ
bits_of f t zero = 0
bits_of f t (suc n) = bit (f t) 1 + 2 * bits_of f (t + 1) n

-- whether bit t is set
abbrev pub is_set : ℕ → ℕ → Bool
is_set t byte = eqb (byte / 2 ^ t % 2) 1

-- the number with bit t set
unfoldable pub set_bit : ℕ → ℕ → ℕ
set_bit t byte = pick (is_set t byte) byte (byte + 2 ^ t)

-- a peer's used-tag byte, with one more flow of the table looked at
unfoldable pub marked : Eid → Flow → ℕ → ℕ
marked peer f used = pick f.used (pick (same_eid f.peer peer) (set_bit f.tag.0 used) used) used

-- the eight tags from start on, 0 after 7
abbrev pub turn : ℕ → List ℕ
turn start =
    start % 8 ∷ (start + 1) % 8 ∷ (start + 2) % 8 ∷ (start + 3) % 8 ∷ (start + 4) % 8 ∷ (start + 5) % 8 ∷ (start + 6) % 8 ∷ (start + 7) % 8 ∷ []

abbrev pub is_free_in : ℕ → ℕ → Bool
is_free_in used t = not (is_set t used)

-- the first free tag from start on, 0 after 7
unfoldable pub free_tag_of : ℕ → ℕ → Option TagValue
free_tag_of used start =
    pick (ltb (find (is_free_in used) (turn start)) 8) (Some (record { 0 = (start + find (is_free_in used) (turn start)) % 8 })) None

-- how many tags are free: the zeros among the eight used-tag bits
abbrev pub free_count : ℕ → ℕ
free_count used = 8 - ones used

-- how many of the n numbers t, t + 1, .. do not pass the test
unfoldable pub count_free : (ℕ → Bool) → ℕ → ℕ → ℕ
count_free f t zero = 0
count_free f t (suc n) = bit (not (f t)) 1 + count_free f (t + 1) n
