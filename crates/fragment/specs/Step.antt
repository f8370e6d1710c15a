-- docs/RULES.md 29 to 36: one step, in its order, and the bytes that it writes.
-- A later step with room for 4 bytes emits a header alone; `emitted` covers that too, since it asks nothing about the room.
-- Leans on `mctp` for the header's bytes.
use Rattle.std.specs.Prelude.{ℕ, ◌+◌, ◌-◌, ◌%◌, ◌≤◌, ◌<◌, min, Bool, true, false, List, [], ◌++◌, ltb, eqb, length, Err, Ok, Option, Result}
use Rattle.config.specs.Config.{min_mtu, max_mtu}
use Rattle.octets.specs.Pick.{pick}
use Rattle.octets.specs.Bytes.{part}
use Rattle.mctp.specs.declared.Eid.{Eid}
use Rattle.mctp.specs.declared.MsgType.{MsgType}
use Rattle.mctp.specs.declared.MsgIC.{MsgIC}
use Rattle.mctp.specs.declared.Tag.{Tag}
use Rattle.mctp.specs.declared.Header.{Header}
use Rattle.mctp.specs.declared.Error.{Error}
use Rattle.mctp.specs.declared.Error.TheVariants.{InvalidInput, NoSpace, BadArgument}
use Rattle.mctp.specs.Terms.{tag_of, key_under}
use Rattle.mctp.specs.Header.{header_bytes, lead, type_byte, intro}
use Rattle.fragment.specs.declared.Fragmenter.{Fragmenter}
use Rattle.fragment.specs.declared.SendOutput.{SendOutput}
use Rattle.fragment.specs.declared.SendOutput.TheVariants.{Packet, Complete, Error as Failed}
use Rattle.fragment.specs.declared.Fragmented.{Fragmented}
use Rattle.fragment.specs.declared.Cut.{Cut}
use Rattle.fragment.specs.declared.Plan.{Plan}
use Rattle.fragment.specs.declared.Plan.TheVariants.{Still, Emits}
use Rattle.mctp.specs.declared.AppCookie.{AppCookie}

-- a fragmenter that has sent nothing
abbrev pub fresh : MsgType → Eid → Eid → Tag → ℕ → Option AppCookie → MsgIC → ℕ → Fragmenter
fresh typ src dest tag mtu cookie ic seq = record {
  src = src;
  dest = dest;
  typ = typ;
  tag = tag;
  ic = ic;
  seq = seq % 4;
  mtu = mtu;
  first = true;
  done = false;
  cookie = cookie;
  payload_used = 0;
}

-- a tag above 7 or a type above 127 is InvalidInput, and an MTU outside 5 to 255 is BadArgument
unfoldable pub new_of : MsgType → Eid → Eid → Tag → ℕ → Option AppCookie → MsgIC → ℕ → Result Fragmenter Error
new_of typ src dest tag mtu cookie ic seq =
    pick (ltb 7 (tag_of tag).0) (Err InvalidInput)
    (pick (ltb 127 typ.0) (Err InvalidInput)
    (pick (ltb mtu min_mtu) (Err BadArgument)
    (pick (ltb max_mtu mtu) (Err BadArgument) (Ok (fresh typ src dest tag mtu cookie ic seq)))))

-- total room: the smaller of buffer and MTU
abbrev pub room_of : Fragmenter → ℕ → ℕ
room_of f n = min n f.mtu

-- the body bytes that go out: as much of what is left as fits
abbrev pub fitting : Fragmenter → ℕ → ℕ → ℕ
fitting f size n = min (size - f.payload_used) (room_of f n - lead f.first)

-- EOM is set exactly when all payload is used
abbrev pub ends : Fragmenter → ℕ → ℕ → Bool
ends f size n = eqb (f.payload_used + fitting f size n) size

abbrev pub header_for : Fragmenter → Bool → Header
header_for f eom = record { key = key_under f.src f.dest f.tag; som = f.first; eom = eom; seq = f.seq }

-- the packet: the header, the type byte if it is the first packet, and the body
abbrev pub packet_for : Fragmenter → List ℕ → ℕ → List ℕ
packet_for f payload n =
    header_bytes (header_for f (ends f (length payload) n))
    ++ intro f.first (type_byte f.typ f.ic) (part f.payload_used (fitting f (length payload) n) payload)

-- the fragmenter after a packet that took n body bytes: the sequence goes up by 1 modulo 4, it is no longer first, and it is done exactly with EOM
abbrev pub advanced_by : Fragmenter → ℕ → Bool → Fragmenter
advanced_by f n eom = record {
  src = f.src;
  dest = f.dest;
  typ = f.typ;
  tag = f.tag;
  ic = f.ic;
  seq = (f.seq % 4 + 1) % 4;
  mtu = f.mtu;
  first = false;
  done = eom;
  cookie = f.cookie;
  payload_used = f.payload_used + n;
}

abbrev pub next_of : Fragmenter → ℕ → ℕ → Fragmenter
next_of f size n = advanced_by f (fitting f size n) (ends f size n)

-- what a step makes: the next fragmenter and the answer, and the bytes over the front of the packet buffer
pub record Step : Type 0 where
  pub result : Fragmented
  pub bytes : List ℕ

abbrev pub refused : Fragmenter → Error → Step
refused f e = record { result = record { next = f; output = Failed e f.cookie }; bytes = [] }

abbrev pub emitted : Fragmenter → List ℕ → ℕ → Step
emitted f payload n = record {
  result = record { next = next_of f (length payload) n; output = Packet (lead f.first + fitting f (length payload) n) };
  bytes = packet_for f payload n;
}

-- rules 30 to 33: where it is done, Complete with tag and cookie; a buffer under 5 bytes (first) or 4 (later) is NoSpace; a payload shorter than what was used
-- is InvalidInput; otherwise a packet
unfoldable pub step_of : Fragmenter → List ℕ → ℕ → Step
step_of f payload n =
    pick f.done (record { result = record { next = f; output = Complete f.tag f.cookie }; bytes = [] })
    (pick (ltb n (lead f.first)) (refused f NoSpace)
    (pick (ltb (length payload) f.payload_used) (refused f InvalidInput) (emitted f payload n)))

-- The same step in two parts: a plan, from the sizes of payload and buffer alone, and then the bytes that it writes. `step_of` is the two together (`step_planned`).
abbrev pub emit_of : Fragmenter → ℕ → ℕ → Cut
emit_of f size n = record {
  next = next_of f size n;
  header = header_for f (ends f size n);
  kind = type_byte f.typ f.ic;
  from = f.payload_used;
  len = fitting f size n;
  total = lead f.first + fitting f size n;
}

unfoldable pub plan_of : Fragmenter → ℕ → ℕ → Plan
plan_of f size n =
    pick f.done (Still (Complete f.tag f.cookie))
    (pick (ltb n (lead f.first)) (Still (Failed NoSpace f.cookie))
    (pick (ltb size f.payload_used) (Still (Failed InvalidInput f.cookie)) (Emits (emit_of f size n))))

-- the fragmenter after a step with that plan: where nothing is written it stays as it was
unfoldable pub next_by : Fragmenter → Plan → Fragmenter
next_by f (Still output) = f
next_by f (Emits c) = c.next

unfoldable pub output_by : Plan → SendOutput
output_by (Still output) = output
output_by (Emits c) = Packet c.total

unfoldable pub written_by : Plan → List ℕ → List ℕ
written_by (Still output) payload = []
written_by (Emits c) payload = header_bytes c.header ++ intro c.header.som c.kind (part c.from c.len payload)

-- a packet's body lies within the payload, and the packet has room in the buffer
pub record Fits (c : Cut) (size n : ℕ) : Type 0 where
  pub within : c.from + c.len ≤ size
  pub room : lead c.header.som + c.len ≤ n

abbrev pub Writable : Plan → ℕ → ℕ → Type 0
Writable (Still output) size n = Unit
Writable (Emits c) size n = Fits c size n

-- the ranges of a fragmenter that `new` gave and steps changed
pub record Sound (f : Fragmenter) : Type 0 where
  pub seq : f.seq < 4
  pub tag : (tag_of f.tag).0 < 8
  pub typ : f.typ.0 < 128
  pub least : min_mtu ≤ f.mtu
  pub most : f.mtu ≤ max_mtu
