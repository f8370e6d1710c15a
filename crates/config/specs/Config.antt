-- docs/RULES.md 5: the sizes and times of a stack, each number once; the constants of the code say the same.
-- Leans on nothing.
use Rattle.std.specs.Prelude.{ℕ}

-- slots of a board
abbrev pub slot_count : ℕ
slot_count = 4

-- the most bytes that a message's body holds
abbrev pub max_payload : ℕ
max_payload = 1032

-- places for flows
abbrev pub flow_count : ℕ
flow_count = 64

-- the MTU of a send, header included
abbrev pub min_mtu : ℕ
min_mtu = 5

abbrev pub max_mtu : ℕ
max_mtu = 255

-- milliseconds after which a slot expires
abbrev pub slot_time : ℕ
slot_time = 6000

-- milliseconds after which a flow expires
abbrev pub flow_time : ℕ
flow_time = 6000

-- milliseconds until the next check of time, at most
abbrev pub interval : ℕ
interval = 100
