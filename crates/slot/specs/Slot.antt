-- A slot is empty, collecting or done; a done slot has a handle out or not (docs/RULES.md 37).
-- What a slot matches, and what a handle and time do to it.
-- Leans on `mctp` for keys, on `stamp` for time.
use Rattle.std.specs.Prelude.{ℕ, Bool, true, false, List, [], ◌∷◌, eqb, None, Option, Some}
use Rattle.config.specs.Config.{slot_time}
use Rattle.octets.specs.Pick.{pick}
use Rattle.mctp.specs.declared.Eid.{Eid}
use Rattle.mctp.specs.declared.TagValue.{TagValue}
use Rattle.mctp.specs.declared.Key.{Key}
use Rattle.mctp.specs.Terms.{same_key, same_eid, same_tag, same_bool}
use Rattle.stamp.specs.declared.Timeout.{Timeout}
use Rattle.stamp.specs.declared.Timeout.TheVariants.{Untimed}
use Rattle.stamp.specs.Stamp.{timeout_of, is_expired}
use Rattle.slot.specs.declared.State.{State}
use Rattle.slot.specs.declared.State.TheVariants.{Empty, Collecting, Done, HandleOut}
use Rattle.slot.specs.declared.Reassembler.{Reassembler}
use Rattle.mctp.specs.declared.AppCookie.{AppCookie}

-- an empty slot holds nothing
abbrev pub blank_slot : Reassembler
blank_slot = record {
  state = Empty;
  key = record { source = record { 0 = 0 }; dest = record { 0 = 0 }; owner = false; tag = record { 0 = 0 } };
  typ = record { 0 = 0 };
  ic = record { 0 = false };
  next_seq = 0;
  len = 0;
  cookie = None;
  stamp = record { clock = 0; counter = 0 };
}

-- 0 empty, 1 collecting, 2 done, 3 with a handle out
abbrev pub state_no : State → ℕ
state_no Empty = 0
state_no Collecting = 1
state_no Done = 2
state_no (HandleOut n) = 3

abbrev pub empty_state : State → Bool
empty_state Empty = true
empty_state Collecting = false
empty_state Done = false
empty_state (HandleOut n) = false

abbrev pub collecting_state : State → Bool
collecting_state Empty = false
collecting_state Collecting = true
collecting_state Done = false
collecting_state (HandleOut n) = false

abbrev pub done_state : State → Bool
done_state Empty = false
done_state Collecting = false
done_state Done = true
done_state (HandleOut n) = false

abbrev pub out_state : State → Bool
out_state Empty = false
out_state Collecting = false
out_state Done = false
out_state (HandleOut n) = true

abbrev pub issue_is : ℕ → State → Bool
issue_is m Empty = false
issue_is m Collecting = false
issue_is m Done = false
issue_is m (HandleOut n) = eqb n m

abbrev pub is_empty : Reassembler → Bool
is_empty s = empty_state s.state

-- whether it is done with no handle out (a slot whose handle is out is `handle_taken`)
abbrev pub is_done : Reassembler → Bool
is_done s = done_state s.state

abbrev pub handle_taken : Reassembler → Bool
handle_taken s = out_state s.state

-- whether the handle of that number is out
abbrev pub handle_is : ℕ → Reassembler → Bool
handle_is issue s = issue_is issue s.state

-- whether a slot in that state collects a packet, given whether the packet has its key: only a collecting slot does
abbrev pub collects_in : State → Bool → Bool
collects_in Empty same = false
collects_in Collecting same = same
collects_in Done same = false
collects_in (HandleOut n) same = false

abbrev pub collects : Key → Reassembler → Bool
collects k s = collects_in s.state (same_key s.key k)

-- whether it is from that peer, under that TO and tag; the destination is not looked at
unfoldable pub kept_under : Eid → Bool → TagValue → Reassembler → Bool
kept_under peer owner tag s = pick (same_eid s.key.source peer) (pick (same_bool s.key.owner owner) (same_tag s.key.tag tag) false) false

-- whether a cancel looks for it: it is not empty, and holds a reply of that peer and tag
unfoldable pub is_reply : Eid → TagValue → Reassembler → Bool
is_reply peer tag s = pick (is_empty s) false (kept_under peer false tag s)

abbrev pub listed : List ℕ → Option AppCookie → Bool
listed [] c = false
listed (x ∷ l) None = false
listed (x ∷ l) (Some c) = pick (eqb x c.0) true (listed l (Some c))

-- time runs for a collecting slot from SOM, for a done one from EOM unless a handle is out
abbrev pub time_in : State → Timeout → Timeout
time_in Empty t = Untimed
time_in Collecting t = t
time_in Done t = t
time_in (HandleOut n) t = Untimed

abbrev pub slot_timeout : ℕ → Reassembler → Timeout
slot_timeout now s = time_in s.state (timeout_of s.stamp now slot_time)

-- an expired slot becomes empty, any other stays as it was
unfoldable pub faded_slot : ℕ → Reassembler → Reassembler
faded_slot now s = pick (is_expired (slot_timeout now s)) blank_slot s

abbrev pub with_state : State → Reassembler → Reassembler
with_state state s = record { state = state; key = s.key; typ = s.typ; ic = s.ic; next_seq = s.next_seq; len = s.len; cookie = s.cookie; stamp = s.stamp }

abbrev pub with_slot_cookie : Option AppCookie → Reassembler → Reassembler
with_slot_cookie cookie s = record { state = s.state; key = s.key; typ = s.typ; ic = s.ic; next_seq = s.next_seq; len = s.len; cookie = cookie; stamp = s.stamp }
