-- A call as numbers and bytes name it, and what performing it makes of what is lent.
-- State and pool are those of `steps`, and what is told is `performed`, of which the theorems speak: nothing here says again what a call does or answers.
-- Leans on `promises` for a call, its step and its answer, on `mctp` for an answer in a row, on `rows` for numbers read.
use Rattle.std.specs.Prelude.{ℕ, ◌≡◌, List, [], ◌∷◌, ltb, eqb, length}
use Rattle.config.specs.Config.{max_payload}
use Rattle.octets.specs.Pick.{pick}
use Rattle.octets.specs.Bytes.{over}
use Rattle.mctp.specs.Answer.{Answer, answer_no, answer_values, row_after}
use Rattle.state.specs.Stack.{stack_of, Becomes}
use Rattle.slot.specs.declared.ReceiveHandle.{ReceiveHandle}
use Rattle.receiving.specs.Receive.{Receipt, receive_of}
use Rattle.handles.specs.Handles.{done_as}
use Rattle.estack.specs.Basics.{fresh_stack, new_says}
use Rattle.promises.specs.Calls.{World, Call, receive, elsewhere, update, start_send, cancel_flow, get_deferred, get_deferred_by_cookie, fetch_message, finished_receive, return_handle, set_cookie, set_eid, eid, is_local_dest, free_tags, steps, performed}
use Rattle.rows.specs.Words.{word, narrow, is_yes, tag_from, cookie_from, good_send, send_of}
use Rattle.board.specs.Board.{board}

-- what is lent beside the state: the pool that we watch, another buffer, and a row for each kind of answer
pub record Lent : Type 0 where
  pub pool : List ℕ
  pub other : List ℕ
  pub handle : List ℕ
  pub message : List ℕ
  pub fragmenter : List ℕ

abbrev pub lent : List ℕ → List ℕ → List ℕ → List ℕ → List ℕ → Lent
lent p o h m f = record { pool = p; other = o; handle = h; message = m; fragmenter = f }

-- ---- which call the numbers name. None where they name no call. A number that stands for a byte is taken by its low eight bits (`narrow`)

abbrev pub handle_in : List ℕ → ReceiveHandle
handle_in w = record { index = word 0 w; issue = word 1 w }

-- 2 sets the EID, 3 tells it, 4 asks whether a packet is for us
unfoldable pub own_calls : ℕ → List ℕ → List ℕ → List Call
own_calls op w bytes =
    pick (eqb op 2) (set_eid (narrow (word 0 w)) ∷ []) (pick (eqb op 3) (eid ∷ []) (pick (eqb op 4) (is_local_dest bytes ∷ []) []))

-- 8 takes the clock, 10 and 11 look for a message that was kept
unfoldable pub look_calls : ℕ → List ℕ → List ℕ → List Call
look_calls op w cookies =
    pick (eqb op 8) (update (word 0 w) ∷ [])
    (pick (eqb op 10) (get_deferred (record { 0 = narrow (word 0 w) }) (tag_from (is_yes (narrow (word 1 w))) (narrow (word 2 w))) ∷ [])
    (pick (eqb op 11) (get_deferred_by_cookie cookies ∷ []) []))

-- 13 finishes, 14 returns, 15 sets the cookie
unfoldable pub handle_calls : ℕ → List ℕ → List Call
handle_calls op w =
    pick (eqb op 13) (finished_receive (handle_in w) ∷ [])
    (pick (eqb op 14) (return_handle (handle_in w) ∷ [])
    (pick (eqb op 15) (set_cookie (handle_in w) (cookie_from (is_yes (narrow (word 2 w))) (word 3 w)) ∷ []) []))

-- 16 cancels a flow, 17 counts the free tags
unfoldable pub flow_calls : ℕ → List ℕ → List Call
flow_calls op w =
    pick (eqb op 16) (cancel_flow (record { 0 = narrow (word 0 w) }) (record { 0 = narrow (word 1 w) }) ∷ [])
    (pick (eqb op 17) (free_tags (record { 0 = narrow (word 0 w) }) ∷ []) [])

-- the calls that are lent no buffer but the handle's row
unfoldable pub small_calls : ℕ → List ℕ → List ℕ → List ℕ → List Call
small_calls op w bytes cookies =
    pick (ltb op 5) (own_calls op w bytes)
    (pick (ltb op 12) (look_calls op w cookies) (pick (ltb op 16) (handle_calls op w) (flow_calls op w)))

-- 5 starts a send, where the row is a good send
unfoldable pub send_calls : List ℕ → List Call
send_calls w = pick (good_send w) (start_send (send_of w) ∷ []) []

-- 9 receives a packet and is lent the pool, 19 does so with the other buffer; 12 fetches from the pool, 20 from the other buffer. `pool` and `other` are the
-- lengths of these buffers
unfoldable pub calls_of : ℕ → List ℕ → List ℕ → List ℕ → ℕ → ℕ → List Call
calls_of op w bytes cookies pool other =
    pick (eqb op 9) (receive bytes ∷ [])
    (pick (eqb op 19) (elsewhere other bytes ∷ [])
    (pick (eqb op 12) (fetch_message (handle_in w) pool ∷ [])
    (pick (eqb op 20) (fetch_message (handle_in w) other ∷ [])
    (pick (eqb op 5) (send_calls w) (small_calls op w bytes cookies)))))

-- ---- what is told

-- what is told: a number, and what then stands in the other buffer and in the rows
pub record Told : Type 0 where
  pub said : ℕ
  pub other : List ℕ
  pub handle : List ℕ
  pub message : List ℕ
  pub fragmenter : List ℕ

-- a number alone
abbrev pub says : ℕ → Lent → Told
says n l = record { said = n; other = l.other; handle = l.handle; message = l.message; fragmenter = l.fragmenter }

-- 0 or the refusal's number
abbrev pub alone : Answer → Lent → Told
alone a l = says (answer_no a) l

-- the value is itself the number
abbrev pub itself : Answer → Lent → Told
itself a l = says (word 0 (answer_values a)) l

-- the values go to the row of two, the row of a message, the row of a fragmenter
abbrev pub in_two : Answer → Lent → Told
in_two a l = record { said = answer_no a; other = l.other; handle = row_after 2 a l.handle; message = l.message; fragmenter = l.fragmenter }

abbrev pub in_message : Answer → Lent → Told
in_message a l = record { said = answer_no a; other = l.other; handle = l.handle; message = row_after 10 a l.message; fragmenter = l.fragmenter }

abbrev pub in_fragmenter : Answer → Lent → Told
in_fragmenter a l = record { said = answer_no a; other = l.other; handle = l.handle; message = l.message; fragmenter = row_after 13 a l.fragmenter }

-- a receive that is lent the other buffer writes there
abbrev pub in_other : Receipt → Answer → Lent → Told
in_other r a l = record { said = answer_no a; other = over r.at r.bytes l.other; handle = row_after 2 a l.handle; message = l.message; fragmenter = l.fragmenter }

-- what is no call is answered 1, InvalidInput
unfoldable pub tells : ℕ → List Call → World → Lent → Told
tells B [] w l = says 1 l
tells B (receive p ∷ cs) w l = in_two (performed B (receive p) w) l
tells B (elsewhere n p ∷ cs) w l = in_other (receive_of B w.stack n p) (performed B (elsewhere n p) w) l
tells B (update t ∷ cs) w l = in_two (performed B (update t) w) l
tells B (start_send q ∷ cs) w l = in_fragmenter (performed B (start_send q) w) l
tells B (cancel_flow peer tag ∷ cs) w l = alone (performed B (cancel_flow peer tag) w) l
tells B (get_deferred source tag ∷ cs) w l = in_two (performed B (get_deferred source tag) w) l
tells B (get_deferred_by_cookie cookies ∷ cs) w l = in_two (performed B (get_deferred_by_cookie cookies) w) l
tells B (fetch_message h n ∷ cs) w l = in_message (performed B (fetch_message h n) w) l
tells B (finished_receive h ∷ cs) w l = alone (performed B (finished_receive h) w) l
tells B (return_handle h ∷ cs) w l = alone (performed B (return_handle h) w) l
tells B (set_cookie h cookie ∷ cs) w l = alone (performed B (set_cookie h cookie) w) l
tells B (set_eid n ∷ cs) w l = alone (performed B (set_eid n) w) l
tells B (eid ∷ cs) w l = itself (performed B eid w) l
tells B (is_local_dest p ∷ cs) w l = itself (performed B (is_local_dest p) w) l
tells B (free_tags peer ∷ cs) w l = itself (performed B (free_tags peer) w) l

-- ---- a new stack

-- where r is 0 the bytes b' hold a fresh stack; a refusal leaves the bytes as they were
pub record Begins (own mtu clock : ℕ) (b b' : List ℕ) (r : ℕ) : Type 0 where
  pub said : r ≡ answer_no (done_as (new_says board (length b) mtu))
  pub made : r ≡ 0 → Becomes board b b' (fresh_stack board (record { 0 = own }) mtu clock)
  pub left : (r ≡ 0 → ⊥) → b' ≡ b

-- ---- performed

abbrev pub world_of : List ℕ → Lent → World
world_of b l = record { stack = stack_of board b; pool = l.pool }

-- the bytes b hold the stack, and l is lent; after the call the bytes are b', what was lent is l', and r is answered
pub record Performs (cs : List Call) (b b' : List ℕ) (l l' : Lent) (r : ℕ) : Type 0 where
  pub stack : Becomes board b b' (steps max_payload cs (world_of b l)).stack
  pub pool : l'.pool ≡ (steps max_payload cs (world_of b l)).pool
  pub said : r ≡ (tells max_payload cs (world_of b l) l).said
  pub other : l'.other ≡ (tells max_payload cs (world_of b l) l).other
  pub handle : l'.handle ≡ (tells max_payload cs (world_of b l) l).handle
  pub message : l'.message ≡ (tells max_payload cs (world_of b l) l).message
  pub fragmenter : l'.fragmenter ≡ (tells max_payload cs (world_of b l) l).fragmenter
