-- The remaining times of a stack's slots and flows.
-- Leans on `flows` and `slot` for what time a record has.
use Rattle.std.specs.Prelude.{ℕ, List, map}
use Rattle.stamp.specs.declared.Timeout.{Timeout}
use Rattle.flows.specs.Table.{flow_timeout}
use Rattle.slot.specs.Slot.{slot_timeout}
use Rattle.state.specs.Stack.{Stack}

abbrev pub slot_times : ℕ → Stack → List Timeout
slot_times now st = map (slot_timeout now) st.slots

abbrev pub flow_times : ℕ → Stack → List Timeout
flow_times now st = map (flow_timeout now) st.flows
