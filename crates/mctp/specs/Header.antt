-- The packet on the wire (DSP0236, docs/RULES.md 9): byte 0 reserved bits and version 1, byte 1 destination, byte 2 source,
-- byte 3 SOM, EOM, sequence, TO and tag; with SOM byte 4 holds IC and type. Reserved bits are encoded as 0 and ignored when read.
-- Leans on `pick` alone.
use Rattle.std.specs.Prelude.{ℕ, ◌+◌, ◌*◌, ◌/◌, ◌%◌, ◌<◌, List, [], ◌∷◌, Bool, true, false, length, get_or, ltb, eqb, None, Option, Some}
use Rattle.octets.specs.Pick.{pick}
use Rattle.mctp.specs.declared.MsgType.{MsgType}
use Rattle.mctp.specs.declared.MsgIC.{MsgIC}
use Rattle.mctp.specs.declared.TypeIC.{TypeIC}
use Rattle.mctp.specs.declared.Header.{Header}

-- what bytes 1, 2 and 3 of a header say
abbrev pub fields_of : ℕ → ℕ → ℕ → Header
fields_of d s f = record {
  key = record { source = record { 0 = s }; dest = record { 0 = d }; owner = eqb (f / 8 % 2) 1; tag = record { 0 = f % 8 } };
  som = eqb (f / 128) 1;
  eom = eqb (f / 64 % 2) 1;
  seq = f / 16 % 4;
}

-- the header of a packet: bad under 4 bytes, or with a version that is not 1
unfoldable pub header_of : List ℕ → Option Header
header_of p = pick (ltb (length p) 4) None (pick (eqb (get_or p 0 0 % 16) 1) (Some (fields_of (get_or p 1 0) (get_or p 2 0) (get_or p 3 0))) None)

-- n where the bit is set, else 0
abbrev pub bit : Bool → ℕ → ℕ
bit true n = n
bit false n = 0

-- byte 3
abbrev pub flags_of : Header → ℕ
flags_of h = bit h.som 128 + (bit h.eom 64 + (h.seq % 4 * 16 + (bit h.key.owner 8 + h.key.tag.0 % 8)))

-- a header's four bytes
abbrev pub header_bytes : Header → List ℕ
header_bytes h = 1 ∷ h.key.dest.0 ∷ h.key.source.0 ∷ flags_of h ∷ []

-- a body starts at byte 5 with SOM, else at byte 4
abbrev pub lead : Bool → ℕ
lead true = 5
lead false = 4

-- byte 4, with SOM
abbrev pub type_byte : MsgType → MsgIC → ℕ
type_byte typ ic = bit ic.0 128 + typ.0 % 128

abbrev pub type_of : ℕ → TypeIC
type_of b = record { typ = record { 0 = b % 128 }; ic = record { 0 = eqb (b / 128) 1 } }

-- the bytes between a header and its body
abbrev pub intro : Bool → ℕ → List ℕ → List ℕ
intro true kind body = kind ∷ body
intro false kind body = body

-- a header whose fields have their widths
pub record HeaderOk (h : Header) : Type 0 where
  pub dest : h.key.dest.0 < 256
  pub source : h.key.source.0 < 256
  pub tag : h.key.tag.0 < 8
  pub seq : h.seq < 4
