-- A slot in 40 bytes: its state, then its key in wire order, so that one number of 4 bytes tells what it collects.
-- `SlotOk` gives the ranges that a slot's fields always have.
-- Leans on `octets` for numbers in bytes, on `mctp` for keys and types, on `slot` for the record.
use Rattle.std.specs.Prelude.{ℕ, ◌+◌, ◌-◌, ◌*◌, ◌/◌, ◌%◌, ◌^◌, ◌<◌, ◌≤◌, List, [], ◌∷◌, ◌++◌, eqb, ltb, length}
use Rattle.octets.specs.Pick.{pick}
use Rattle.octets.specs.Bytes.{field, pack, part}
use Rattle.octets.specs.Region.{Codec}
use Rattle.mctp.specs.declared.Key.{Key}
use Rattle.mctp.specs.Terms.{cookie_no, cookie_value, cookie_of}
use Rattle.mctp.specs.Header.{bit, type_byte, type_of}
use Rattle.flows.specs.declared.Flow.{Flow}
use Rattle.flows.specs.Table.{no_flow}
use Rattle.flows.specs.Codec.{flow_width, flow_of}
use Rattle.slot.specs.declared.State.{State}
use Rattle.slot.specs.declared.State.TheVariants.{Empty, Collecting, Done, HandleOut}
use Rattle.slot.specs.declared.Reassembler.{Reassembler}
use Rattle.slot.specs.Slot.{state_no, blank_slot}
use Rattle.state.specs.declared.Progress.{Progress}
use Rattle.state.specs.Layout.{slot_width}

abbrev pub issue_no : State → ℕ
issue_no Empty = 0
issue_no Collecting = 0
issue_no Done = 0
issue_no (HandleOut n) = n

unfoldable pub state_from : ℕ → ℕ → State
state_from n issue = pick (eqb n 1) Collecting (pick (eqb n 2) Done (pick (eqb n 3) (HandleOut issue) Empty))

-- TO and tag, as the low bits of a header's byte 3
abbrev pub owner_tag : Key → ℕ
owner_tag k = bit k.owner 8 + k.tag.0

-- the fields of a slot in two rows, as they are stored
abbrev pub lead_row : ℕ → ℕ → ℕ → ℕ → ℕ → ℕ → ℕ → List (ℕ × ℕ)
lead_row state dest source from kind seq len = (1, state) ∷ (1, dest) ∷ (1, source) ∷ (1, from) ∷ (1, kind) ∷ (1, seq) ∷ (2, len) ∷ []

abbrev pub rest_row : ℕ → ℕ → ℕ → ℕ → ℕ → List (ℕ × ℕ)
rest_row counter has clock value issue = (4, counter) ∷ (4, has) ∷ (8, clock) ∷ (8, value) ∷ (8, issue) ∷ []

abbrev pub slot_row : Reassembler → List (ℕ × ℕ)
slot_row s =
    lead_row (state_no s.state) s.key.dest.0 s.key.source.0 (owner_tag s.key) (type_byte s.typ s.ic) s.next_seq s.len
    ++ rest_row s.stamp.counter (cookie_no s.cookie) s.stamp.clock (cookie_value s.cookie) (issue_no s.state)

unfoldable pub slot_bytes : Reassembler → List ℕ
slot_bytes s = pack (slot_row s)

unfoldable pub slot_of : List ℕ → Reassembler
slot_of b = record {
  state = state_from (field 0 1 b) (field 32 8 b);
  key = record {
    source = record { 0 = field 2 1 b };
    dest = record { 0 = field 1 1 b };
    owner = eqb (field 3 1 b / 8) 1;
    tag = record { 0 = field 3 1 b % 8 };
  };
  typ = (type_of (field 4 1 b)).typ;
  ic = (type_of (field 4 1 b)).ic;
  next_seq = field 5 1 b;
  len = field 6 2 b;
  cookie = cookie_of (field 12 1 b) (field 24 8 b);
  stamp = record { clock = field 16 8 b; counter = field 8 4 b };
}

-- the slot whose bytes start at byte `at` of b; a blank one where they do not all lie in b
abbrev pub slot_from : ℕ → List ℕ → Reassembler
slot_from at b = pick (ltb (length b - at) slot_width) blank_slot (slot_of (part at slot_width b))

-- the same for a flow
abbrev pub flow_from : ℕ → List ℕ → Flow
flow_from at b = pick (ltb (length b - at) flow_width) no_flow (flow_of (part at flow_width b))

-- the ranges that a slot's fields always have; B is the most bytes that a body holds
pub record SlotOk (B : ℕ) (s : Reassembler) : Type 0 where
  pub dest : s.key.dest.0 < 256
  pub source : s.key.source.0 < 256
  pub tag : s.key.tag.0 < 8
  pub typ : s.typ.0 < 128
  pub seq : s.next_seq < 4
  pub len : s.len ≤ B
  pub wide : s.len < 2 ^ 16
  pub counter : s.stamp.counter < 2 ^ 32
  pub clock : s.stamp.clock < 2 ^ 64
  pub value : cookie_value s.cookie < 2 ^ 64
  pub issue : issue_no s.state < 2 ^ 64

abbrev pub slot_codec : ℕ → Codec Reassembler
slot_codec B = record { width = slot_width; enc = slot_bytes; dec = slot_of; Ok = SlotOk B }

abbrev pub progress_row : Progress → List (ℕ × ℕ)
progress_row p = (1, p.seq) ∷ (2, p.len) ∷ []

-- the ranges that a slot's progress always has
pub record ProgressOk (B : ℕ) (p : Progress) : Type 0 where
  pub seq : p.seq < 4
  pub len : p.len ≤ B

-- the slot with another sequence to expect and another length
abbrev pub progress : ℕ → ℕ → Reassembler → Reassembler
progress seq len s = record { state = s.state; key = s.key; typ = s.typ; ic = s.ic; next_seq = seq; len = len; cookie = s.cookie; stamp = s.stamp }

-- the sequence that a slot expects, and how much it holds
abbrev pub progress_of : Reassembler → Progress
progress_of s = record { seq = s.next_seq; len = s.len }

-- a state's number and a key as one number
abbrev pub word_of : ℕ → Key → ℕ
word_of n k = n + 256 * (k.dest.0 + 256 * (k.source.0 + 256 * owner_tag k))

abbrev pub key_word : Reassembler → ℕ
key_word s = word_of (state_no s.state) s.key
