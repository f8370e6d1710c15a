-- The head holds what a stack has only one of, in 40 bytes.
-- Each update changes the fields that it names (`head_with`).
-- Leans on `octets` for numbers in bytes, on `stamp` for the clock.
use Rattle.std.specs.Prelude.{ℕ, ◌+◌, ◌%◌, ◌^◌, ◌<◌, ◌≤◌, List, [], ◌∷◌}
use Rattle.config.specs.Config.{interval}
use Rattle.octets.specs.Bytes.{field, pack}
use Rattle.octets.specs.Region.{Codec}
use Rattle.mctp.specs.declared.Eid.{Eid}
use Rattle.stamp.specs.declared.EventStamp.{EventStamp}
use Rattle.state.specs.Layout.{head_width}
use Rattle.state.specs.declared.Head.{Head}

abbrev pub head_row : Head → List (ℕ × ℕ)
head_row h =
    (1, h.own_eid.0) ∷ (1, h.next_tag) ∷ (2, h.next_seq) ∷ (4, h.now.counter) ∷ (8, h.now.clock) ∷ (8, h.next_timeout) ∷ (8, h.issue) ∷ (8, h.mtu) ∷ []

unfoldable pub head_bytes : Head → List ℕ
head_bytes h = pack (head_row h)

unfoldable pub head_of : List ℕ → Head
head_of b = record {
  own_eid = record { 0 = field 0 1 b };
  mtu = field 32 8 b;
  now = record { clock = field 8 8 b; counter = field 4 4 b };
  next_timeout = field 16 8 b;
  next_tag = field 1 1 b;
  next_seq = field 2 1 b;
  issue = field 24 8 b;
}

-- the ranges that a head's fields always have
pub record HeadOk (h : Head) : Type 0 where
  pub own : h.own_eid.0 < 256
  pub tag : h.next_tag < 8
  pub seq : h.next_seq < 4
  pub counter : h.now.counter < 2 ^ 32
  pub clock : h.now.clock < 2 ^ 64
  pub planned : h.next_timeout < 2 ^ 64
  pub issue : h.issue < 2 ^ 64
  pub mtu : h.mtu < 2 ^ 64
  pub soon : h.next_timeout ≤ h.now.clock + interval  -- a planned check is at most 100 ms away

abbrev pub head_codec : Codec Head
head_codec = record { width = head_width; enc = head_bytes; dec = head_of; Ok = HeadOk }

-- the head with new values for all fields but its MTU
abbrev pub head_with : Eid → EventStamp → ℕ → ℕ → ℕ → ℕ → Head → Head
head_with own now planned tag seq issue h = record { own_eid = own; mtu = h.mtu; now = now; next_timeout = planned; next_tag = tag; next_seq = seq; issue = issue }

-- the head with one field changed
abbrev pub with_own : Eid → Head → Head
with_own own h = head_with own h.now h.next_timeout h.next_tag h.next_seq h.issue h

abbrev pub with_now : EventStamp → Head → Head
with_now now h = head_with h.own_eid now h.next_timeout h.next_tag h.next_seq h.issue h

abbrev pub with_counter : ℕ → Head → Head
with_counter n h = with_now (record { clock = h.now.clock; counter = n }) h

abbrev pub with_planned : ℕ → Head → Head
with_planned t h = head_with h.own_eid h.now t h.next_tag h.next_seq h.issue h

abbrev pub with_next_tag : ℕ → Head → Head
with_next_tag n h = head_with h.own_eid h.now h.next_timeout n h.next_seq h.issue h

-- the sequence goes up by 1 modulo 4
abbrev pub with_next_seq : Head → Head
with_next_seq h = head_with h.own_eid h.now h.next_timeout h.next_tag ((h.next_seq % 4 + 1) % 4) h.issue h

abbrev pub with_issue : ℕ → Head → Head
with_issue n h = head_with h.own_eid h.now h.next_timeout h.next_tag h.next_seq n h
