-- The ranges that the width of a field does not give; the rest of `HeadOk` and `SlotOk` follows from the bytes.
-- Leans on `state` for the head, on `slot` for a slot's record.
use Rattle.std.specs.Prelude.{ℕ, ◌+◌, ◌<◌, ◌≤◌}
use Rattle.config.specs.Config.{interval}
use Rattle.slot.specs.declared.Reassembler.{Reassembler}
use Rattle.state.specs.declared.Head.{Head}

pub record HeadRanges (h : Head) : Type 0 where
  pub tag : h.next_tag < 8
  pub seq : h.next_seq < 4
  pub soon : h.next_timeout ≤ h.now.clock + interval

pub record SlotRanges (B : ℕ) (s : Reassembler) : Type 0 where
  pub seq : s.next_seq < 4
  pub len : s.len ≤ B
