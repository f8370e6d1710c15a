-- docs/RULES.md 40 to 51: what a packet makes of one slot. B is the most that a body holds; `now` is the event's stamp; `issue` is the
-- number of a handle that goes out. A packet frees the slot, or the slot takes it: then its plan says which of its bytes go where in the body.
-- Leans on `mctp` for the header and the refusals.
use Rattle.std.specs.Prelude.{ℕ, ◌+◌, ◌-◌, ◌%◌, ◌≤◌, Bool, true, false, List, ltb, eqb, length, get_or, Err, None, Ok, Option, Result, Some}
use Rattle.octets.specs.Pick.{pick}
use Rattle.mctp.specs.declared.Eid.{Eid}
use Rattle.mctp.specs.declared.Header.{Header}
use Rattle.mctp.specs.declared.Error.TheVariants.{InvalidInput, NoSpace, Unreachable}
use Rattle.mctp.specs.Terms.{same_eid, null_eid, any_eid}
use Rattle.mctp.specs.Header.{header_of, type_of}
use Rattle.stamp.specs.declared.EventStamp.{EventStamp}
use Rattle.slot.specs.declared.State.TheVariants.{Collecting, HandleOut}
use Rattle.slot.specs.declared.Reassembler.{Reassembler}
use Rattle.reassemble.specs.declared.Intake.{Intake}
use Rattle.slot.specs.Slot.{is_empty}
use Rattle.mctp.specs.declared.AppCookie.{AppCookie}
use Rattle.mctp.specs.declared.Error.{Error}

-- whether the destination is the own EID or 0
unfoldable pub is_local : Eid → Eid → Bool
is_local own dest = pick (same_eid dest own) true (same_eid dest null_eid)

-- whether a header is good and its destination is the own EID or 0
abbrev pub local_header : Eid → Option Header → Bool
local_header own (Some h) = is_local own h.key.dest
local_header own None = false

abbrev pub local_packet : Eid → List ℕ → Bool
local_packet own p = local_header own (header_of p)

-- rule 40: whether a header may open an empty slot
unfoldable pub opening : Eid → Header → Bool
opening own h = pick (is_local own h.key.dest) (pick (same_eid h.key.source any_eid) false h.som) false

-- a slot that collects, with nothing in it yet
abbrev pub opened : Header → Option AppCookie → Reassembler
opened h cookie = record {
  state = Collecting;
  key = h.key;
  typ = record { 0 = 0 };
  ic = record { 0 = false };
  next_seq = 0;
  len = 0;
  cookie = cookie;
  stamp = record { clock = 0; counter = 0 };
}

-- rules 41 and 42: a reply (TO=0) without a flow of its source and tag is Unreachable; with one it opens the slot under the flow's cookie
unfoldable pub gate_reply : Header → Bool → Option AppCookie → Result Reassembler Error
gate_reply h stands cookie = pick stands (Ok (opened h cookie)) (Err Unreachable)

-- rules 40 to 42, for an empty slot: a destination that is neither the own EID nor 0, source 255, or no SOM is InvalidInput. A request (TO=1) opens the slot
-- with no cookie
unfoldable pub gate_empty : Eid → Header → Bool → Option AppCookie → Result Reassembler Error
gate_empty own h stands cookie =
    pick (opening own h) (pick h.key.owner (Ok (opened h None)) (gate_reply h stands cookie)) (Err InvalidInput)

-- rule 43: a slot that collects under the key asks none of this
unfoldable pub gate : Eid → Reassembler → Header → Bool → Option AppCookie → Result Reassembler Error
gate own s h stands cookie = pick (is_empty s) (gate_empty own h stands cookie) (Ok s)

-- rule 46: SOM sets type, IC and the sequence to expect, empties the body and stamps the slot
abbrev pub begun : EventStamp → Header → ℕ → Reassembler → Reassembler
begun now h kind s = record {
  state = s.state;
  key = s.key;
  typ = (type_of kind).typ;
  ic = (type_of kind).ic;
  next_seq = h.seq;
  len = 0;
  cookie = s.cookie;
  stamp = now;
}

-- rules 49 and 50: the slot with n more bytes; with EOM it is done and stamped, and its handle is out
abbrev pub appended : Bool → EventStamp → ℕ → ℕ → Reassembler → Reassembler
appended eom now issue n s =
    pick eom
    (record { state = HandleOut issue; key = s.key; typ = s.typ; ic = s.ic; next_seq = (s.next_seq % 4 + 1) % 4; len = s.len + n; cookie = s.cookie; stamp = now })
    (record { state = s.state; key = s.key; typ = s.typ; ic = s.ic; next_seq = (s.next_seq % 4 + 1) % 4; len = s.len + n; cookie = s.cookie; stamp = s.stamp })

-- rules 47 to 50, for a packet whose body starts at `start`: a wrong sequence is InvalidInput and a body above B is NoSpace, and either frees the slot;
-- otherwise the body is appended
unfoldable pub append : ℕ → EventStamp → ℕ → Reassembler → Header → List ℕ → ℕ → Result Intake Error
append B now issue s h p start =
    pick (eqb h.seq s.next_seq)
    (pick (ltb B (s.len + (length p - start))) (Err NoSpace)
    (Ok (record { slot = appended h.eom now issue (length p - start) s; at = s.len; from = start; whole = h.eom })))
    (Err InvalidInput)

-- rule 45: SOM in a packet of 4 bytes is InvalidInput, and the slot is freed. Then come rules 46 to 50
unfoldable pub enter : ℕ → EventStamp → ℕ → Reassembler → Header → List ℕ → Result Intake Error
enter B now issue s h p =
    pick h.som (pick (ltb (length p) 5) (Err InvalidInput) (append B now issue (begun now h (get_or p 4 0) s) h p 5))
    (append B now issue s h p 4)

-- the plan's bytes lie in the packet, and fit the body
pub record Planned (t : Intake) (size B : ℕ) : Type 0 where
  pub within : t.from ≤ size
  pub fits : t.at + (size - t.from) ≤ B
