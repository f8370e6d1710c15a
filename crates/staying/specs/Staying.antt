-- Which calls name a handle: finish, return and set cookie under that very index and number. No other call takes a message whose handle is out.
-- Which calls end a message with no handle out. How many flows a peer and tag have. And what a packet that is taken writes to the pool.
-- Leans on `promises` for calls and worlds.
use Rattle.std.specs.Prelude.{ℕ, suc, ◌+◌, ◌*◌, ◌≤◌, ◌≡◌, Bool, true, false, not, ◌&&◌, List, [], ◌∷◌, eqb, ltb, length, take, drop, None, Ok, Option, Some}
use Rattle.config.specs.Config.{slot_time}
use Rattle.octets.specs.Pick.{pick}
use Rattle.octets.specs.Bytes.{part, over}
use Rattle.mctp.specs.declared.Eid.{Eid}
use Rattle.mctp.specs.declared.TagValue.{TagValue}
use Rattle.mctp.specs.declared.Header.{Header}
use Rattle.mctp.specs.Terms.{tag_of, is_owner}
use Rattle.mctp.specs.Header.{header_of}
use Rattle.stamp.specs.Stamp.{is_expired}
use Rattle.flows.specs.declared.Flow.{Flow}
use Rattle.flows.specs.Table.{is_flow}
use Rattle.slot.specs.declared.Reassembler.{Reassembler}
use Rattle.slot.specs.Slot.{is_done, handle_taken, is_reply, kept_under, listed, slot_timeout}
use Rattle.fragment.specs.Cutting.{body_in}
use Rattle.state.specs.Stack.{Stack, slot_at}
use Rattle.slot_walks.specs.SlotWalks.{blocked}
use Rattle.slot.specs.declared.ReceiveHandle.{ReceiveHandle}
use Rattle.handles.specs.declared.Message.{Message as Facts}
use Rattle.handles.specs.Handles.{fetch_of, by_source_of, by_cookie_of}
use Rattle.promises.specs.Calls.{Call, receive, elsewhere, update, start_send, cancel_flow, get_deferred, get_deferred_by_cookie, fetch_message, finished_receive, return_handle, set_cookie, set_eid, eid, is_local_dest, free_tags, World, step, receipt}
use Rattle.promises.specs.Delivery.{Message, read_from}
use Rattle.promises.specs.History.{takes}
use Rattle.mctp.specs.declared.AppCookie.{AppCookie}

-- ---- what takes a message whose handle is out

-- whether two handles have the same index and number
abbrev pub same_handle : ReceiveHandle → ReceiveHandle → Bool
same_handle h k = eqb h.index k.index && eqb h.issue k.issue

-- whether the call is a finish, a return or a set cookie under that very handle
abbrev pub names : ReceiveHandle → Call → Bool
names h (receive p) = false
names h (elsewhere n p) = false
names h (update t) = false
names h (start_send q) = false
names h (cancel_flow peer tag) = false
names h (get_deferred source tag) = false
names h (get_deferred_by_cookie cookies) = false
names h (fetch_message k n) = false
names h (finished_receive k) = same_handle h k
names h (return_handle k) = same_handle h k
names h (set_cookie k cookie) = same_handle h k
names h (set_eid n) = false
names h eid = false
names h (is_local_dest p) = false
names h (free_tags peer) = false

-- whether it is any other call
abbrev pub spares : ReceiveHandle → Call → Bool
spares h c = not (names h c)

-- ---- what ends a message with no handle out

-- what a lookup tells; any other call tells nothing of this kind
abbrev pub tells : Call → Stack → Option ReceiveHandle
tells (receive p) st = None
tells (elsewhere n p) st = None
tells (update t) st = None
tells (start_send q) st = None
tells (cancel_flow peer tag) st = None
tells (get_deferred source tag) st = (by_source_of source tag st).said
tells (get_deferred_by_cookie cookies) st = (by_cookie_of cookies st).said
tells (fetch_message k n) st = None
tells (finished_receive k) st = None
tells (return_handle k) st = None
tells (set_cookie k cookie) st = None
tells (set_eid n) st = None
tells eid st = None
tells (is_local_dest p) st = None
tells (free_tags peer) st = None

-- whether a lookup has told a handle of slot i
abbrev pub tells_of : ℕ → Option ReceiveHandle → Bool
tells_of i (Some h) = eqb h.index i
tells_of i None = false

-- whether an update at the clock t checks the times: t is not below the last clock, and the planned check is due
abbrev pub checks_at : ℕ → Stack → Bool
checks_at t st = not (ltb t st.head.now.clock) && not (ltb t st.head.next_timeout)

-- whether a cancel's walk comes to slot i: the tag is at most 7, and no reply of that peer and tag in a slot before it has its handle out
abbrev pub walks_to : ℕ → Eid → TagValue → Stack → Bool
walks_to i peer tag st = not (ltb 7 tag.0) && not (blocked peer tag (take i st.slots))

-- whether the call ends or takes what slot i holds with no handle out: a check of time that finds it expired, a cancel of its peer and tag that comes to it
-- where it is a reply, a lookup that takes it. No other call does
abbrev pub ends : ℕ → Call → Stack → Bool
ends i (receive p) st = false
ends i (elsewhere n p) st = false
ends i (update t) st = checks_at t st && is_expired (slot_timeout t (slot_at i st))
ends i (start_send q) st = false
ends i (cancel_flow peer tag) st = walks_to i peer tag st && is_reply peer tag (slot_at i st)
ends i (get_deferred source tag) st = tells_of i (by_source_of source tag st).said
ends i (get_deferred_by_cookie cookies) st = tells_of i (by_cookie_of cookies st).said
ends i (fetch_message k n) st = false
ends i (finished_receive k) st = false
ends i (return_handle k) st = false
ends i (set_cookie k cookie) st = false
ends i (set_eid n) st = false
ends i eid st = false
ends i (is_local_dest p) st = false
ends i (free_tags peer) st = false

-- whether no call of a run from w ends it, each in the state that it meets
unfoldable pub untouched : ℕ → ℕ → List Call → World → Bool
untouched B i [] w = true
untouched B i (c ∷ cs) w = not (ends i c w.stack) && untouched B i cs (step B c w)

-- whether the call seeks the message of the slot s, whatever stands in other slots: a clock more than 6,000 ms past its stamp, a cancel of its peer and tag
-- where it is a reply, a lookup by what it is kept under
abbrev pub seeks : Reassembler → Call → Bool
seeks s (receive p) = false
seeks s (elsewhere n p) = false
seeks s (update t) = ltb (s.stamp.clock + slot_time) t
seeks s (start_send q) = false
seeks s (cancel_flow peer tag) = is_reply peer tag s
seeks s (get_deferred source tag) = kept_under source (is_owner tag) (tag_of tag) s
seeks s (get_deferred_by_cookie cookies) = listed cookies s.cookie
seeks s (fetch_message k n) = false
seeks s (finished_receive k) = false
seeks s (return_handle k) = false
seeks s (set_cookie k cookie) = false
seeks s (set_eid n) = false
seeks s eid = false
seeks s (is_local_dest p) = false
seeks s (free_tags peer) = false

-- whether it is any other call
abbrev pub passes : Reassembler → Call → Bool
passes s c = not (seeks s c)

-- ---- a message, and what every call keeps of a stack

-- a fetch under the handle h, lent the watched pool, gives m
pub record Fetches (B : ℕ) (h : ReceiveHandle) (m : Message) (w : World) : Type 0 where
  pub facts : Facts
  pub fetched : fetch_of B h w.stack (length w.pool) ≡ Ok facts
  pub message : read_from w.pool facts ≡ m

-- the same message but for its cookie
abbrev pub with_cookie : Option AppCookie → Message → Message
with_cookie cookie m = record { key = m.key; typ = m.typ; ic = m.ic; body = m.body; cookie = cookie }

-- no slot's stamp is later than the clock; this holds in a new stack, and every call keeps it (`timely_stays`)
abbrev pub Timely : Stack → Type 0
Timely st = (k : ℕ) → (slot_at k st).stamp.clock ≤ st.head.now.clock

-- no body is longer than a slot's part of the pool; this holds where nothing was received yet, and every call keeps it (`short_stays`)
abbrev pub Short : ℕ → Stack → Type 0
Short B st = (k : ℕ) → (slot_at k st).len ≤ B

-- ---- the flows

-- how many places hold a flow of that peer and tag
unfoldable pub flows_of : Eid → TagValue → List Flow → ℕ
flows_of peer tag [] = 0
flows_of peer tag (f ∷ l) = pick (is_flow peer tag f) (suc (flows_of peer tag l)) (flows_of peer tag l)

-- ---- the pool

-- the pool past the slots' parts
abbrev pub tail_of : ℕ → World → List ℕ
tail_of B w = drop (B * length w.stack.slots) w.pool

-- the length of slot s's body before a packet of that header is appended: SOM sets it to 0
abbrev pub length_before : Header → Reassembler → ℕ
length_before h s = pick h.som 0 s.len

-- the packet p, lent the watched pool, is appended to slot j, where no message is done: it is answered "more" or with a handle, its body stands in the pool
-- where the slot's body ended, within the slot's part, and every other byte is as it was
pub record Appends (B j : ℕ) (p : List ℕ) (w : World) : Type 0 where
  pub header : Header
  pub read : header_of p ≡ Some header
  pub taken : takes (receipt B p w).said ≡ true
  pub unclosed : (is_done (slot_at j w.stack) ≡ false) × (handle_taken (slot_at j w.stack) ≡ false)
  pub fits : length_before header (slot_at j w.stack) + length (body_in p) ≤ B
  pub inside : B * j + B ≤ length w.pool
  pub pool : (step B (receive p) w).pool ≡ over (B * j + length_before header (slot_at j w.stack)) (body_in p) w.pool
  pub grown : (slot_at j (step B (receive p) w).stack).len ≡ length_before header (slot_at j w.stack) + length (body_in p)

-- slot j's part of the pool, its B bytes from byte B j, after a call: as it was, or the call is a receive whose packet is appended to it
pub data PartAfter (B j : ℕ) (w : World) (c : Call) : Type 0 where
  same : part (B * j) B (step B c w).pool ≡ part (B * j) B w.pool → PartAfter B j w c
  appends : (p : List ℕ) → c ≡ receive p → Appends B j p w → PartAfter B j w c
