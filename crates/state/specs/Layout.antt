-- Where the parts of the state lie: a head, the flow places, then the slots; the code's constants say the same.
-- The number of slots moves the end of the state, and nothing before the slots.
-- Leans on `flows` for a place's width, on `config` for their number.
use Rattle.std.specs.Prelude.{ℕ, ◌+◌, ◌*◌, ◌≤◌}
use Rattle.config.specs.Config.{flow_count}
use Rattle.flows.specs.Codec.{flow_width}
use Rattle.state.specs.declared.Sizes.{Sizes}

abbrev pub head_width : ℕ
head_width = 40

abbrev pub slot_width : ℕ
slot_width = 40

abbrev pub flows_at : ℕ
flows_at = head_width

abbrev pub slots_at : ℕ
slots_at = flows_at + flow_width * flow_count

-- the bytes of a state
abbrev pub size : Sizes → ℕ
size z = slots_at + slot_width * z.slots

-- sizes that a state can have
pub record SizesOk (z : Sizes) : Type 0 where
  pub slots : z.slots ≤ 255
  pub body : z.body ≤ 65535
