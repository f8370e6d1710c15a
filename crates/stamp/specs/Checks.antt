-- What a check of time finds: the least of the remaining times, and whether anything expired.
-- Leans on `Stamp` for one time.
use Rattle.std.specs.Prelude.{ℕ, Bool, true, List, [], ◌∷◌}
use Rattle.octets.specs.Pick.{pick}
use Rattle.stamp.specs.declared.Timeout.{Timeout}
use Rattle.stamp.specs.declared.Check.{Check}
use Rattle.stamp.specs.Stamp.{is_expired, sooner_of}

-- the least of a number and every remaining time
unfoldable pub least_left : List Timeout → ℕ → ℕ
least_left [] least = least
least_left (t ∷ l) least = least_left l (sooner_of t least)

-- whether one of them is expired, or one before them was
unfoldable pub any_expired : List Timeout → Bool → Bool
any_expired [] any = any
any_expired (t ∷ l) any = any_expired l (pick (is_expired t) true any)

-- what a check finds, added to what it found before
abbrev pub check_of : List Timeout → Check → Check
check_of l c = record { least = least_left l c.least; expired = any_expired l c.expired }
