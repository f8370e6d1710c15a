-- docs/RULES.md 20 to 24: a stamp is a clock and a 32-bit counter, and stamps are ordered by clock and then by counter.
-- At age 6,000 a stamp has 0 left; at age 6,001 it is expired, and so is a stamp later than now.
-- Leans on `pick` alone.
use Rattle.std.specs.Prelude.{ℕ, ◌+◌, ◌-◌, min, Bool, true, false, ltb}
use Rattle.octets.specs.Pick.{pick}
use Rattle.stamp.specs.declared.EventStamp.{EventStamp}
use Rattle.stamp.specs.declared.Timeout.{Timeout}
use Rattle.stamp.specs.declared.Timeout.TheVariants.{Untimed, Expired, Left}

-- the counter's largest value
abbrev pub last_count : ℕ
last_count = 4294967295

-- an event adds 1 to the counter, and the sum is its stamp; at its largest value the counter stays
unfoldable pub next : EventStamp → EventStamp
next s = pick (ltb s.counter last_count) (record { clock = s.clock; counter = s.counter + 1 }) s

-- a later clock sets the counter to 0, an equal one keeps it; an earlier one is refused before it comes to this
unfoldable pub clocked : ℕ → EventStamp → EventStamp
clocked t s = pick (ltb s.clock t) (record { clock = t; counter = 0 }) s

-- whether a is before b, by clock and then by counter
unfoldable pub earlier : EventStamp → EventStamp → Bool
earlier a b = pick (ltb a.clock b.clock) true (pick (ltb b.clock a.clock) false (ltb a.counter b.counter))

-- the clock now less the stamp's own
abbrev pub age : EventStamp → ℕ → ℕ
age s now = now - s.clock

-- whether the age exceeds the timeout or the stamp is later than now
unfoldable pub expired : EventStamp → ℕ → ℕ → Bool
expired s now timeout = pick (ltb now s.clock) true (ltb timeout (age s now))

-- expired, or what is left: the timeout less the age
unfoldable pub timeout_of : EventStamp → ℕ → ℕ → Timeout
timeout_of s now timeout = pick (expired s now timeout) Expired (Left (timeout - age s now))

abbrev pub is_expired : Timeout → Bool
is_expired Untimed = false
is_expired Expired = true
is_expired (Left n) = false

-- the smaller of a time and what is left; what is untimed or expired has nothing left to compare
abbrev pub sooner_of : Timeout → ℕ → ℕ
sooner_of Untimed least = least
sooner_of Expired least = least
sooner_of (Left n) least = min n least
