-- Every public call on a stack with all its arguments: what it makes of the stack and of the pool that we watch, and what it answers.
-- B is the most bytes that a body holds.
-- A receive comes in two kinds: it is lent the watched pool, or any other buffer. No other call writes a pool.
-- Leans on the definitions that the contracts of `estack` cite, and on nothing else.
use Rattle.std.specs.Prelude.{ℕ, ◌+◌, Bool, true, false, not, ◌&&◌, List, [], ◌∷◌, leb, length, None, Option, Some}
use Rattle.config.specs.Config.{slot_time}
use Rattle.octets.specs.Bytes.{over}
use Rattle.mctp.specs.declared.Eid.{Eid}
use Rattle.mctp.specs.declared.TagValue.{TagValue}
use Rattle.mctp.specs.declared.Tag.{Tag}
use Rattle.mctp.specs.declared.Key.{Key}
use Rattle.mctp.specs.Terms.{same_key, same_eid, same_tag}
use Rattle.mctp.specs.Header.{header_of}
use Rattle.mctp.specs.Answer.{Answer, gives, flag_word}
use Rattle.fragment.specs.Answers.{started_as}
use Rattle.state.specs.Stack.{Stack}
use Rattle.slot.specs.declared.ReceiveHandle.{ReceiveHandle}
use Rattle.receiving.specs.Conclude.{received_as}
use Rattle.sending.specs.declared.Send.{Send}
use Rattle.receiving.specs.Receive.{Receipt, receive_of}
use Rattle.handles.specs.Handles.{done_as, fetched_as, deferred_as, fetch_of, finish_of, return_of, set_cookie_of, by_source_of, by_cookie_of}
use Rattle.sending.specs.Sends.{start_send_of}
use Rattle.updating.specs.Update.{updated_as, update_of}
use Rattle.estack.specs.Basics.{set_eid_of, local_of, cancel_of, free_tags_of}
use Rattle.mctp.specs.declared.AppCookie.{AppCookie}
use Rattle.mctp.specs.declared.Header.{Header}

pub data Call : Type 0 where
  receive : List ℕ → Call  -- a packet, lent the pool that we watch
  elsewhere : ℕ → List ℕ → Call  -- a packet, lent another buffer of that length
  update : ℕ → Call
  start_send : Send → Call
  cancel_flow : Eid → TagValue → Call
  get_deferred : Eid → Tag → Call
  get_deferred_by_cookie : List ℕ → Call
  fetch_message : ReceiveHandle → ℕ → Call
  finished_receive : ReceiveHandle → Call
  return_handle : ReceiveHandle → Call
  set_cookie : ReceiveHandle → Option AppCookie → Call
  set_eid : ℕ → Call
  eid : Call
  is_local_dest : List ℕ → Call
  free_tags : Eid → Call

-- a stack, and the pool that we watch
pub record World : Type 0 where
  pub stack : Stack
  pub pool : List ℕ

-- what a receive that is lent the watched pool makes
abbrev pub receipt : ℕ → List ℕ → World → Receipt
receipt B p w = receive_of B w.stack (length w.pool) p

abbrev pub with : Stack → World → World
with st w = record { stack = st; pool = w.pool }

unfoldable pub step : ℕ → Call → World → World
step B (receive p) w = record { stack = (receipt B p w).stack; pool = over (receipt B p w).at (receipt B p w).bytes w.pool }
step B (elsewhere n p) w = with (receive_of B w.stack n p).stack w
step B (update t) w = with (update_of t w.stack).stack w
step B (start_send q) w = with (start_send_of q w.stack).stack w
step B (cancel_flow peer tag) w = with (cancel_of peer tag w.stack).stack w
step B (get_deferred source tag) w = with (by_source_of source tag w.stack).stack w
step B (get_deferred_by_cookie cookies) w = with (by_cookie_of cookies w.stack).stack w
step B (fetch_message h n) w = w
step B (finished_receive h) w = with (finish_of h w.stack).stack w
step B (return_handle h) w = with (return_of h w.stack).stack w
step B (set_cookie h cookie) w = with (set_cookie_of h cookie w.stack).stack w
step B (set_eid n) w = with (set_eid_of n w.stack).stack w
step B eid w = w
step B (is_local_dest p) w = w
step B (free_tags peer) w = w

-- what a call answers, in numbers
abbrev pub performed : ℕ → Call → World → Answer
performed B (receive p) w = received_as (receipt B p w).said
performed B (elsewhere n p) w = received_as (receive_of B w.stack n p).said
performed B (update t) w = updated_as (update_of t w.stack).said
performed B (start_send q) w = started_as (start_send_of q w.stack).said
performed B (cancel_flow peer tag) w = done_as (cancel_of peer tag w.stack).said
performed B (get_deferred source tag) w = deferred_as (by_source_of source tag w.stack).said
performed B (get_deferred_by_cookie cookies) w = deferred_as (by_cookie_of cookies w.stack).said
performed B (fetch_message h n) w = fetched_as (fetch_of B h w.stack n)
performed B (finished_receive h) w = done_as (finish_of h w.stack).said
performed B (return_handle h) w = done_as (return_of h w.stack).said
performed B (set_cookie h cookie) w = done_as (set_cookie_of h cookie w.stack).said
performed B (set_eid n) w = done_as (set_eid_of n w.stack).said
performed B eid w = gives (w.stack.head.own_eid.0 ∷ [])
performed B (is_local_dest p) w = gives (flag_word (local_of p w.stack) ∷ [])
performed B (free_tags peer) w = gives (free_tags_of peer w.stack ∷ [])

unfoldable pub steps : ℕ → List Call → World → World
steps B [] w = w
steps B (c ∷ cs) w = steps B cs (step B c w)

-- whether a header is good and has that key
abbrev pub has_key : Key → Option Header → Bool
has_key K (Some h) = same_key h.key K
has_key K None = false

-- whether a message of that key is a reply of that peer and tag
abbrev pub reply_of : Key → Eid → TagValue → Bool
reply_of K peer tag = not K.owner && (same_eid K.source peer && same_tag K.tag tag)

-- whether a call may come between the fragments of a message of key K whose first fragment came at clock t₀: all may but a packet of that key, a cancel of its
-- peer and tag where it is a reply, and a clock more than 6,000 ms past t₀
abbrev pub permitted : Key → ℕ → Call → Bool
permitted K t₀ (receive p) = not (has_key K (header_of p))
permitted K t₀ (elsewhere n p) = not (has_key K (header_of p))
permitted K t₀ (update t) = leb t (t₀ + slot_time)
permitted K t₀ (start_send q) = true
permitted K t₀ (cancel_flow peer tag) = not (reply_of K peer tag)
permitted K t₀ (get_deferred source tag) = true
permitted K t₀ (get_deferred_by_cookie cookies) = true
permitted K t₀ (fetch_message h n) = true
permitted K t₀ (finished_receive h) = true
permitted K t₀ (return_handle h) = true
permitted K t₀ (set_cookie h cookie) = true
permitted K t₀ (set_eid n) = true
permitted K t₀ eid = true
permitted K t₀ (is_local_dest p) = true
permitted K t₀ (free_tags peer) = true
