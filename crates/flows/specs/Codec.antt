-- A flow in 32 bytes: used, peer and tag come first, so that one number of 4 bytes tells which peer and tag a place belongs to.
-- `FlowOk` gives the ranges that a flow's fields always have.
-- Leans on `octets` for rows of numbers.
use Rattle.std.specs.Prelude.{ℕ, ◌+◌, ◌*◌, ◌^◌, ◌<◌, List, [], ◌∷◌, eqb, None, Option, Some}
use Rattle.octets.specs.Pick.{pick}
use Rattle.octets.specs.Bytes.{field, pack}
use Rattle.octets.specs.Region.{Codec}
use Rattle.mctp.specs.Terms.{cookie_no, cookie_value, cookie_of}
use Rattle.mctp.specs.Header.{bit}
use Rattle.stamp.specs.declared.EventStamp.{EventStamp}
use Rattle.flows.specs.declared.Flow.{Flow}

abbrev pub flow_width : ℕ
flow_width = 32

abbrev pub expiry_no : Option EventStamp → ℕ
expiry_no None = 0
expiry_no (Some s) = 1

abbrev pub expiry_stamp : Option EventStamp → EventStamp
expiry_stamp None = record { clock = 0; counter = 0 }
expiry_stamp (Some s) = s

unfoldable pub expiry_of : ℕ → ℕ → ℕ → Option EventStamp
expiry_of n clock counter = pick (eqb n 1) (Some (record { clock = clock; counter = counter })) None

-- the fields of a flow, each a width and a number
abbrev pub flow_row : ℕ → ℕ → ℕ → ℕ → ℕ → ℕ → ℕ → ℕ → List (ℕ × ℕ)
flow_row used peer tag has kind value clock counter =
    (1, used) ∷ (1, peer) ∷ (2, tag) ∷ (2, has) ∷ (2, kind) ∷ (8, value) ∷ (8, clock) ∷ (8, counter) ∷ []

abbrev pub flow_fields : Flow → List (ℕ × ℕ)
flow_fields f =
    flow_row (bit f.used 1) f.peer.0 f.tag.0 (cookie_no f.cookie) (expiry_no f.expiry) (cookie_value f.cookie)
    (expiry_stamp f.expiry).clock (expiry_stamp f.expiry).counter

unfoldable pub flow_bytes : Flow → List ℕ
flow_bytes f = pack (flow_fields f)

unfoldable pub flow_of : List ℕ → Flow
flow_of b = record {
  used = eqb (field 0 1 b) 1;
  peer = record { 0 = field 1 1 b };
  tag = record { 0 = field 2 1 b };
  cookie = cookie_of (field 4 1 b) (field 8 8 b);
  expiry = expiry_of (field 6 1 b) (field 16 8 b) (field 24 4 b);
}

-- the ranges that a flow's fields always have
pub record FlowOk (f : Flow) : Type 0 where
  pub peer : f.peer.0 < 256
  pub tag : f.tag.0 < 8
  pub value : cookie_value f.cookie < 2 ^ 64
  pub clock : (expiry_stamp f.expiry).clock < 2 ^ 64
  pub counter : (expiry_stamp f.expiry).counter < 2 ^ 32

abbrev pub flow_codec : Codec Flow
flow_codec = record { width = flow_width; enc = flow_bytes; dec = flow_of; Ok = FlowOk }

-- its first four bytes as one number
abbrev pub flow_word : Flow → ℕ
flow_word f = bit f.used 1 + 256 * (f.peer.0 + 256 * f.tag.0)
