-- docs/RULES.md 13 to 16: which refusals a call can give, by number, when each is given, and what it leaves of the stack.
-- Leans on `Calls`, and on the definitions of each call for its tests.
use Rattle.std.specs.Prelude.{ℕ, ◌+◌, ◌-◌, ◌*◌, ◌%◌, ◌≤◌, ◌<◌, ◌≡◌, ◌⊎◌, ◌≢◌, Bool, true, false, ◌&&◌, ◌||◌, List, [], ◌∷◌, ltb, eqb, length, get_or, None, Option, Some}
use Rattle.config.specs.Config.{min_mtu, max_mtu}
use Rattle.octets.specs.Pick.{pick}
use Rattle.octets.specs.Find.{find}
use Rattle.mctp.specs.declared.Eid.{Eid}
use Rattle.mctp.specs.declared.TagValue.{TagValue}
use Rattle.mctp.specs.Terms.{cookie_no, cookie_value}
use Rattle.mctp.specs.Header.{header_of}
use Rattle.flows.specs.Table.{no_flow, is_free, flow_place, standing, lasts, counted}
use Rattle.slot.specs.declared.Reassembler.{Reassembler}
use Rattle.slot.specs.Slot.{blank_slot, is_empty, is_reply, handle_taken}
use Rattle.slot.specs.Search.{slot_for}
use Rattle.reassemble.specs.Enter.{opening}
use Rattle.fragment.specs.declared.Fragmenter.{Fragmenter}
use Rattle.fragment.specs.Step.{Step}
use Rattle.state.specs.declared.Head.{Head}
use Rattle.state.specs.Head.{with_next_tag, with_now}
use Rattle.state.specs.Stack.{Stack, slot_at, with_head, with_slot, ticked}
use Rattle.sending.specs.declared.Send.{Send}
use Rattle.sending.specs.Sends.{bad_tag, mtu_of, start_send_of}
use Rattle.handles.specs.Handles.{is_good}
use Rattle.estack.specs.Basics.{free_tags_of}
use Rattle.promises.specs.Calls.{Call, receive, elsewhere, update, start_send, cancel_flow, get_deferred, get_deferred_by_cookie, fetch_message, finished_receive, return_handle, set_cookie, set_eid, eid, is_local_dest, free_tags, World}
use Rattle.mctp.specs.declared.Header.{Header}
use Rattle.mctp.specs.declared.Tag.{Tag}
use Rattle.mctp.specs.declared.Tag.TheVariants.{Owned}
use Rattle.mctp.specs.declared.Tag.TheVariants.{Unowned}

-- whether n is one of these
abbrev pub is_one : ℕ → List ℕ → Bool
is_one n [] = false
is_one n (m ∷ l) = eqb n m || is_one n l

-- the refusals that a call can give, by number
abbrev pub refusals_of : Call → List ℕ
refusals_of (receive p) = 1 ∷ 2 ∷ 5 ∷ 6 ∷ []
refusals_of (elsewhere n p) = 1 ∷ 2 ∷ 5 ∷ 6 ∷ []
refusals_of (update t) = 1 ∷ []
refusals_of (start_send q) = 1 ∷ 3 ∷ 4 ∷ []
refusals_of (cancel_flow peer tag) = 1 ∷ 3 ∷ []
refusals_of (get_deferred source tag) = []
refusals_of (get_deferred_by_cookie cookies) = []
refusals_of (fetch_message h n) = 3 ∷ 6 ∷ []
refusals_of (finished_receive h) = 3 ∷ []
refusals_of (return_handle h) = 3 ∷ []
refusals_of (set_cookie h cookie) = 3 ∷ []
refusals_of (set_eid n) = 1 ∷ []
refusals_of eid = []
refusals_of (is_local_dest p) = []
refusals_of (free_tags peer) = []

-- a refusal with one of these numbers, and with nothing beside it
pub record Among (numbers : List ℕ) (n : ℕ) (vs : List ℕ) : Type 0 where
  pub number : is_one n numbers ≡ true
  pub alone : vs ≡ []

-- a fragment step that is refused: NoSpace or InvalidInput with the cookie; fragmenter and packet buffer stay
pub record Unstepped (f : Fragmenter) (s : Step) (n : ℕ) (vs : List ℕ) : Type 0 where
  pub number : is_one n (1 ∷ 2 ∷ []) ≡ true
  pub cookie : vs ≡ cookie_no f.cookie ∷ cookie_value f.cookie ∷ []
  pub next : s.result.next ≡ f
  pub bytes : s.bytes ≡ []

-- whether the refusals of a call leave all as it was; this is so for a call that refuses nothing
abbrev pub still : Call → Bool
still (receive p) = false
still (elsewhere n p) = false
still (start_send q) = false
still (cancel_flow peer tag) = false
still (update t) = true
still (get_deferred source tag) = true
still (get_deferred_by_cookie cookies) = true
still (fetch_message h n) = true
still (finished_receive h) = true
still (return_handle h) = true
still (set_cookie h cookie) = true
still (set_eid n) = true
still eid = true
still (is_local_dest p) = true
still (free_tags peer) = true

-- ---- what a refused receive leaves

-- rule 39: the slot that a packet has, or the number of slots
abbrev pub place_of : List ℕ → Stack → ℕ
place_of p st = slot_for (header_of p) st.slots

-- rules 40 to 42: what an empty slot answers a packet: 1, 5, or 0 where the packet opens it
abbrev pub asked : Option Header → Stack → ℕ
asked None st = 1
asked (Some h) st = pick (opening st.head.own_eid h) (pick h.key.owner 0 (pick (standing h.key.source h.key.tag st.flows) 0 5)) 1

-- 2 where n more bytes are too many for a slot that holds l already, else 0
abbrev pub overlong : ℕ → ℕ → ℕ → ℕ
overlong B l n = pick (ltb B (l + n)) 2 0

-- rules 45, 47 and 48, why a packet that has its slot is dropped: 1 for SOM with 4 bytes only or for a wrong sequence, 2 for a body above B, and 0 where it is taken
abbrev pub dropped : ℕ → Option Header → List ℕ → Reassembler → ℕ
dropped B None p s = 0
dropped B (Some h) p s =
    pick h.som (pick (ltb (length p) 5) 1 (overlong B 0 (length p - 5)))
    (pick (eqb h.seq s.next_seq) (overlong B s.len (length p - 4)) 1)

-- the first of two refusals, or 0 where there is none
abbrev pub first_nonzero : ℕ → ℕ → ℕ
first_nonzero n m = pick (eqb n 0) m n

-- what a packet that has slot i is answered
abbrev pub slot_no : ℕ → Stack → List ℕ → Option Header → ℕ → ℕ
slot_no B st p r i = pick (is_empty (slot_at i st)) (first_nonzero (asked r st) (dropped B r p (slot_at i st))) (dropped B r p (slot_at i st))

-- what a packet is answered: 6 for the pool, 2 for want of a slot, or what its slot says
abbrev pub receive_no : ℕ → Stack → ℕ → List ℕ → ℕ
receive_no B st room p =
    pick (ltb room (B * length st.slots)) 6 (pick (ltb (place_of p st) (length st.slots)) (slot_no B st p (header_of p) (place_of p st)) 2)

-- a packet p of header r, for which the search found slot i of the stack st, is refused with n by a stack that is then st'
pub data Left (B : ℕ) (st : Stack) (room : ℕ) (p : List ℕ) (r : Option Header) (i n : ℕ) (st' : Stack) : Type 0 where
  -- the pool is too short: all stays as it was
  pool_short : room < B * length st.slots → n ≡ 6 → st' ≡ st → Left B st room p r i n st'
  -- there is no slot: all stays as it was
  no_slot : B * length st.slots ≤ room → length st.slots ≤ i → n ≡ 2 → st' ≡ st → Left B st room p r i n st'
  -- an empty slot that the packet does not open, with 1 or 5: one event counts
  shut_out : B * length st.slots ≤ room → i < length st.slots → is_empty (slot_at i st) ≡ true → asked r st ≡ n → is_one n (1 ∷ 5 ∷ []) ≡ true
      → st' ≡ ticked st → Left B st room p r i n st'
  -- an empty slot that the packet opens, with 1 or 2: two events count, and the slot is empty again
  not-begun : B * length st.slots ≤ room → i < length st.slots → is_empty (slot_at i st) ≡ true → asked r st ≡ 0
      → dropped B r p (slot_at i st) ≡ n → is_one n (1 ∷ 2 ∷ []) ≡ true → st' ≡ with_slot i blank_slot (ticked (ticked st)) → Left B st room p r i n st'
  -- a slot that collects, with 1 or 2: one event counts, and the slot is freed
  broken_off : B * length st.slots ≤ room → i < length st.slots → is_empty (slot_at i st) ≡ false
      → dropped B r p (slot_at i st) ≡ n → is_one n (1 ∷ 2 ∷ []) ≡ true → st' ≡ with_slot i blank_slot (ticked st) → Left B st room p r i n st'

-- the flows are as they were, and so is every slot but slot i
pub record Spared (st : Stack) (i : ℕ) (st' : Stack) : Type 0 where
  pub flows : st'.flows ≡ st.flows
  pub slots : (k : ℕ) → k ≢ i → slot_at k st' ≡ slot_at k st

-- ---- what a refused send leaves

-- the same send with another MTU
abbrev pub with_mtu : Option ℕ → Send → Send
with_mtu mtu q = record { dest = q.dest; typ = q.typ; tag = q.tag; expires = q.expires; ic = q.ic; mtu = mtu; cookie = q.cookie }

-- a fresh tag turns the tag counter up by 1 modulo 8, any other leaves it
abbrev pub tag_after : Option Tag → ℕ → ℕ
tag_after None n = (n % 8 + 1) % 8
tag_after (Some (Owned tag)) n = n
tag_after (Some (Unowned tag)) n = n

-- the head after a send that got no tag: the tag counter, and the event counter where an event counts
abbrev pub untagged : Option Tag → Bool → Head → Head
untagged tag event h = with_next_tag (tag_after tag h.next_tag) (with_now (counted event h.now) h)

-- 4 where no place of the table is free, else 0
abbrev pub full_no : Stack → ℕ
full_no st = pick (ltb (find is_free st.flows) (length st.flows)) 0 4

-- why an owned tag gets no flow: 4 where no tag is free or the table is full, 3 where its flow stands with an expiry, else 0
abbrev pub flow_no : Eid → Option Tag → Stack → ℕ
flow_no peer None st = pick (ltb 0 (free_tags_of peer st)) (full_no st) 4
flow_no peer (Some (Owned tag)) st =
    pick (standing peer tag st.flows) (pick (lasts (get_or st.flows (flow_place peer tag st.flows) no_flow)) 0 3) (full_no st)
flow_no peer (Some (Unowned tag)) st = 0

-- 3 for an MTU outside 5 to 255, else 0
abbrev pub mtu_no : ℕ → ℕ
mtu_no mtu = pick (ltb mtu min_mtu) 3 (pick (ltb max_mtu mtu) 3 0)

-- what a send is answered: 1 for a type above 127 or a tag above 7; otherwise its flow decides, and then its MTU
abbrev pub send_no : Send → Stack → ℕ
send_no q st =
    pick (ltb 127 q.typ.0) 1 (pick (bad_tag q.tag) 1 (first_nonzero (flow_no q.dest q.tag st) (mtu_no (mtu_of q.mtu st.head.mtu))))

-- a send is refused with n by the stack st, which is then st'
pub data Unsent (q : Send) (st : Stack) (n : ℕ) (st' : Stack) : Type 0 where
  -- a type above 127 or a tag above 7: all stays as it was
  invalid : (127 < q.typ.0) ⊎ (bad_tag q.tag ≡ true) → n ≡ 1 → st' ≡ st → Unsent q st n st'
  -- a fixed owned tag whose flow stands with an expiry: all stays as it was
  expiring : (tag : TagValue) → q.tag ≡ Some (Owned tag) → standing q.dest tag st.flows ≡ true
      → lasts (get_or st.flows (flow_place q.dest tag st.flows) no_flow) ≡ false → n ≡ 3 → st' ≡ st → Unsent q st n st'
  -- a fresh tag, and none is free for the peer: the tag counter has turned, and no event counts
  none_free : q.tag ≡ None → free_tags_of q.dest st ≡ 0 → n ≡ 4 → st' ≡ with_head (untagged q.tag false st.head) st → Unsent q st n st'
  -- the table is full: the event of a flow that expires counts all the same
  table_full : (q.tag ≡ None → 0 < free_tags_of q.dest st) → find is_free st.flows ≡ length st.flows → n ≡ 4
      → st' ≡ with_head (untagged q.tag q.expires st.head) st → Unsent q st n st'
  -- an MTU outside 5 to 255: it leaves the stack that the same send with an MTU of 5 leaves, with flow and sequence as they now are
  bad_mtu : (mtu_of q.mtu st.head.mtu < min_mtu) ⊎ (max_mtu < mtu_of q.mtu st.head.mtu) → n ≡ 3
      → st' ≡ (start_send_of (with_mtu (Some 5) q) st).stack → Unsent q st n st'

-- ---- what a refused cancel leaves

-- whether it is a reply of that peer and tag whose handle is out
abbrev pub stops : Eid → TagValue → Reassembler → Bool
stops peer tag s = is_reply peer tag s && handle_taken s

-- slot k after a cancel that stopped: a reply before the first whose handle is out is empty, any other slot is as it was
abbrev pub swept_at : Eid → TagValue → List Reassembler → ℕ → Reassembler
swept_at peer tag l k = pick (ltb k (find (stops peer tag) l) && is_reply peer tag (get_or l k blank_slot)) blank_slot (get_or l k blank_slot)

-- what a cancel is answered: 1 for a tag above 7, 3 where a handle is out, else 0
abbrev pub cancel_no : Eid → TagValue → Stack → ℕ
cancel_no peer tag st = pick (ltb 7 tag.0) 1 (pick (ltb (find (stops peer tag) st.slots) (length st.slots)) 3 0)

-- a cancel is refused with n by the stack st, which is then st'
pub data Uncancelled (peer : Eid) (tag : TagValue) (st : Stack) (n : ℕ) (st' : Stack) : Type 0 where
  -- a tag above 7: all stays as it was
  bad_tag_lem : 7 < tag.0 → n ≡ 1 → st' ≡ st → Uncancelled peer tag st n st'
  -- a handle is out: head and flows stay as they were
  under_handle : tag.0 ≤ 7 → find (stops peer tag) st.slots < length st.slots → n ≡ 3 → st'.head ≡ st.head → st'.flows ≡ st.flows
      → length st'.slots ≡ length st.slots → ((k : ℕ) → slot_at k st' ≡ swept_at peer tag st.slots k) → Uncancelled peer tag st n st'

-- ---- when each is given

-- the number that a call answers: 0, or the refusal that is due, in the order of the tests
abbrev pub says_no : ℕ → Call → World → ℕ
says_no B (receive p) w = receive_no B w.stack (length w.pool) p
says_no B (elsewhere n p) w = receive_no B w.stack n p
says_no B (update t) w = pick (ltb t w.stack.head.now.clock) 1 0
says_no B (start_send q) w = send_no q w.stack
says_no B (cancel_flow peer tag) w = cancel_no peer tag w.stack
says_no B (get_deferred source tag) w = 0
says_no B (get_deferred_by_cookie cookies) w = 0
says_no B (fetch_message h n) w = pick (ltb n (B * length w.stack.slots)) 6 (pick (is_good h w.stack) 0 3)
says_no B (finished_receive h) w = pick (is_good h w.stack) 0 3
says_no B (return_handle h) w = pick (is_good h w.stack) 0 3
says_no B (set_cookie h cookie) w = pick (is_good h w.stack) 0 3
says_no B (set_eid n) w = pick (ltb n 8) 1 (pick (ltb 254 n) 1 0)
says_no B eid w = 0
says_no B (is_local_dest p) w = 0
says_no B (free_tags peer) w = 0
