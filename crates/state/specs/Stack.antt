-- The stack that a buffer holds: a head, a list of flow places, a list of slots. `Kept` is the one premise of every call: bytes such as earlier calls give.
-- `Becomes` says what a store makes: the stack that is then held, and what lies past the state as it was.
-- Leans on `Layout`, `Head`, `Slot` and on `flows` for a place's codec; on `octets` for blocks of equal width.
use Rattle.std.specs.Prelude.{ℕ, ◌≤◌, ◌≡◌, List, ◌++◌, length, get_or, set, drop}
use Rattle.config.specs.Config.{flow_count}
use Rattle.octets.specs.Bytes.{part}
use Rattle.octets.specs.Region.{region, Holds, Regular, bytes}
use Rattle.stamp.specs.declared.EventStamp.{EventStamp}
use Rattle.stamp.specs.Stamp.{next}
use Rattle.flows.specs.declared.Flow.{Flow}
use Rattle.flows.specs.Codec.{flow_codec}
use Rattle.flows.specs.Table.{no_flow}
use Rattle.slot.specs.declared.Reassembler.{Reassembler}
use Rattle.slot.specs.Slot.{blank_slot}
use Rattle.state.specs.declared.Sizes.{Sizes}
use Rattle.state.specs.declared.Head.{Head}
use Rattle.state.specs.Layout.{head_width, flows_at, slots_at, size, SizesOk}
use Rattle.state.specs.Head.{head_codec, head_bytes, head_of, with_now}
use Rattle.state.specs.Slot.{slot_codec}

pub record Stack : Type 0 where
  pub head : Head
  pub flows : List Flow
  pub slots : List Reassembler

-- what the bytes say
unfoldable pub stack_of : Sizes → List ℕ → Stack
stack_of z b = record {
  head = head_of (part 0 head_width b);
  flows = region flow_codec flow_count flows_at b;
  slots = region (slot_codec z.body) z.slots slots_at b;
}

-- the bytes of a stack
unfoldable pub encode : Stack → List ℕ
encode st = head_bytes st.head ++ (bytes flow_codec st.flows ++ bytes (slot_codec 0) st.slots)

-- bytes such as earlier calls give: each part is the bytes of a record whose fields have their ranges. `new` gives such bytes, every store keeps them so
-- (`Becomes`), and nothing more is asked, so the contracts hold for every such state
pub record Kept (z : Sizes) (b : List ℕ) : Type 0 where
  pub sizes : SizesOk z
  pub long : size z ≤ length b
  pub head : Holds head_codec 0 b
  pub flows : Regular flow_codec flow_count flows_at b
  pub slots : Regular (slot_codec z.body) z.slots slots_at b

-- the bytes b become b', which hold st; what lies past the state stays
pub record Becomes (z : Sizes) (b b' : List ℕ) (st : Stack) : Type 0 where
  pub view : stack_of z b' ≡ st
  pub kept : Kept z b'
  pub rest : drop (size z) b' ≡ drop (size z) b

abbrev pub with_head : Head → Stack → Stack
with_head h st = record { head = h; flows = st.flows; slots = st.slots }

abbrev pub with_flow : ℕ → Flow → Stack → Stack
with_flow i f st = record { head = st.head; flows = set st.flows i f; slots = st.slots }

abbrev pub with_slot : ℕ → Reassembler → Stack → Stack
with_slot i s st = record { head = st.head; flows = st.flows; slots = set st.slots i s }

abbrev pub slot_at : ℕ → Stack → Reassembler
slot_at i st = get_or st.slots i blank_slot

abbrev pub flow_at : ℕ → Stack → Flow
flow_at i st = get_or st.flows i no_flow

-- the stack with another stamp of the last event
abbrev pub with_stamp : EventStamp → Stack → Stack
with_stamp now st = with_head (with_now now st.head) st

-- the stack with one more event counted
abbrev pub ticked : Stack → Stack
ticked st = with_stamp (next st.head.now) st

abbrev pub with_slots : List Reassembler → Stack → Stack
with_slots slots st = record { head = st.head; flows = st.flows; slots = slots }

abbrev pub with_flows : List Flow → Stack → Stack
with_flows flows st = record { head = st.head; flows = flows; slots = st.slots }
