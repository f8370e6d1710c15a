-- The premises can be met, by computation: on a fresh stack of 4 slots with 4,128 zero bytes for its pool.
use Prim.Native.Nat.{ℕ}
use mathlib.Core.Path.{◌≡◌, refl}
use mathlib.Core.Bool.{true, false}
use mathlib.Core.List.{List, [], ◌∷◌}
use lib.Dec.{lit≤}
use lib.ListN.{replicate}
use Rattle.std.specs.Prelude.{None, Some}
use Rattle.octets.specs.Pick.{pick}
use Rattle.octets.specs.Find.{find}
use Rattle.octets.specs.Bytes.{part, over}
use Rattle.mctp.specs.declared.Tag.TheVariants.{Owned}
use Rattle.mctp.specs.declared.Header.{Header}
use Rattle.mctp.specs.Terms.{same_key, same_bool}
use Rattle.mctp.specs.Header.{header_of}
use Rattle.stamp.specs.Stamp.{next, clocked, expired, timeout_of}
use Rattle.flows.specs.Tags.{bits_of, free_tag_of}
use Rattle.flows.specs.Table.{standing, is_flow, new_flow, insert_flow, with_tag, fresh_flow, set_flow, faded_flow}
use Rattle.slot.specs.Slot.{is_done, is_reply, kept_under, faded_slot}
use Rattle.slot.specs.Search.{slot_for, earliest}
use Rattle.reassemble.specs.Enter.{is_local, opening, gate, gate_empty, gate_reply, enter, append}
use Rattle.state.specs.Stack.{slot_at}
use Rattle.slot_walks.specs.SlotWalks.{swept, blocked}
use Rattle.stamp.specs.Checks.{least_left}
use Rattle.fragment.specs.Cutting.{Carries}
use Rattle.slot.specs.declared.ReceiveHandle.{ReceiveHandle}
use Rattle.slot.specs.Handle.{next_issue}
use Rattle.receiving.specs.Receive.{land, receive_at, receive_by, receive_of}
use Rattle.handles.specs.Handles.{is_good, handled, take_of, by_source_of}
use Rattle.sending.specs.declared.Send.{Send}
use Rattle.sending.specs.Sends.{owned_tag, tag_for, send_as, start_send_of}
use Rattle.updating.specs.Update.{checked, update_of}
use Rattle.estack.specs.Basics.{cancel_of}
use Rattle.promises.specs.Calls.{Call, receive, elsewhere, update, start_send, cancel_flow, get_deferred, get_deferred_by_cookie, finished_receive, return_handle, set_cookie, set_eid, World, step, steps}
use Rattle.promises.specs.Delivery.{message_at}
use Rattle.promises.specs.History.{noted, logged, history, since, gathered}
use Rattle.promises.proofs.Instances.{start}
use Rattle.staying.specs.Staying.{ends, untouched, Fetches, with_cookie}
use Rattle.staying.proofs.Stays.{message_stays, cookie_stays}
use Rattle.staying.proofs.Returned.{returned_stays, comes_back}
use Rattle.staying.proofs.Times.{fresh_returned}
use Rattle.staying.proofs.Single.{cancel_clears, reply_clears}
use Rattle.staying.proofs.Carried.{told_carried}

-- EID 9 sends one byte under its tag 1, and EID 10 another
abbrev one : List ℕ
one = 0x01 ∷ 0x08 ∷ 0x09 ∷ 0xC9 ∷ 0x01 ∷ 0x2A ∷ []

abbrev other : List ℕ
other = 0x01 ∷ 0x08 ∷ 0x0A ∷ 0xC9 ∷ 0x01 ∷ 0x77 ∷ []

-- the handle of the first
abbrev first : ReceiveHandle
first = record { index = 0; issue = 1 }

-- the world in which its message is handed out
abbrev held : World
held = steps 1032 (receive one ∷ []) start

-- ---- a message whose handle is out

-- a hundred seconds pass and another message comes; then lookups, a cancel, and calls under other handles
abbrev much : List Call
much =
    update 100000 ∷ receive other ∷ elsewhere 5000 one ∷ get_deferred (record { 0 = 9 }) (Owned (record { 0 = 1 })) ∷ get_deferred_by_cookie (7 ∷ []) ∷ cancel_flow (record { 0 = 9 }) (record { 0 = 1 })
    ∷ finished_receive (record { index = 0; issue = 2 }) ∷ return_handle (record { index = 1; issue = 1 }) ∷ set_cookie (record { index = 1; issue = 2 }) (Some (record { 0 = 5 })) ∷ set_eid 20 ∷ []

-- it is good, and its message is as it was
pub held_stays : (is_good first (steps 1032 much held).stack ≡ true) × (message_at 1032 0 (steps 1032 much held) ≡ message_at 1032 0 held)
unfolding is_local find pick steps step next receive_of receive_by receive_at header_of slot_for gate gate_empty gate_reply opening land enter append next_issue same_key same_bool over is_good
held_stays = message_stays 1032 first much held refl (lit≤ tt) refl

-- which is that byte
pub held_body : (message_at 1032 0 held).body ≡ 0x2A ∷ []
unfolding is_local find pick steps step next receive_of receive_by receive_at header_of slot_for gate gate_empty gate_reply opening land enter append next_issue same_key same_bool part over
held_body = refl

-- a cookie is set, and the same calls come: the message has that cookie, and is as it was otherwise
pub held_cookie : let w = steps 1032 much (step 1032 (set_cookie first (Some (record { 0 = 7 }))) held) in
    (is_good first w.stack ≡ true) × (message_at 1032 0 w ≡ with_cookie (Some (record { 0 = 7 })) (message_at 1032 0 held))
unfolding is_local find pick steps step next receive_of receive_by receive_at header_of slot_for gate gate_empty gate_reply opening land enter append next_issue same_key same_bool over is_good
held_cookie = cookie_stays 1032 first (Some (record { 0 = 7 })) much held refl (lit≤ tt) refl

-- ---- a message that was put back

-- it is put back at clock 0
abbrev back : World
back = step 1032 (return_handle first) held

-- six seconds pass, another message comes, and a lookup asks for another
abbrev while : List Call
while = update 6000 ∷ receive other ∷ get_deferred (record { 0 = 11 }) (Owned (record { 0 = 1 })) ∷ []

-- it is there with no handle out, and as it was
pub back_stays : (is_done (slot_at 0 (steps 1032 while back).stack) ≡ true) × (message_at 1032 0 (steps 1032 while back) ≡ message_at 1032 0 back)
unfolding is_local find pick steps step next receive_of receive_by receive_at header_of slot_for gate gate_empty gate_reply opening land enter append next_issue same_key same_bool over is_good
    untouched handled update_of checked clocked expired timeout_of faded_flow faded_slot least_left by_source_of take_of earliest kept_under
back_stays = returned_stays 1032 0 while back refl (lit≤ tt) refl

-- the same follows, too, since none of these calls seeks it
pub back_waits : (is_done (slot_at 0 (steps 1032 while back).stack) ≡ true) × (message_at 1032 0 (steps 1032 while back) ≡ message_at 1032 0 back)
unfolding is_local find pick steps step next receive_of receive_by receive_at header_of slot_for gate gate_empty gate_reply opening land enter append next_issue same_key same_bool over is_good handled kept_under
back_waits = fresh_returned 1032 (record { slots = 4; body = 1032 }) (record { 0 = 8 }) 64 0 (replicate 4128 0) (receive one ∷ return_handle first ∷ []) 0 while refl refl

-- a millisecond later it would be ended
pub back_ends : ends 0 (update 6001) (steps 1032 while back).stack ≡ true
unfolding is_local find pick steps step next receive_of receive_by receive_at header_of slot_for gate gate_empty gate_reply opening land enter append next_issue same_key same_bool over is_good
    handled update_of checked clocked expired timeout_of faded_flow faded_slot least_left by_source_of take_of earliest kept_under
back_ends = refl

-- a lookup gives it, under the handle of slot 0 that is numbered 3
pub held_back : Fetches 1032 (record { index = 0; issue = 3 }) (message_at 1032 0 held)
    (step 1032 (get_deferred (record { 0 = 9 }) (Owned (record { 0 = 1 }))) (steps 1032 while back))
unfolding is_local find pick steps step next receive_of receive_by receive_at header_of slot_for gate gate_empty gate_reply opening land enter append next_issue same_key same_bool over is_good
    untouched handled update_of checked clocked expired timeout_of faded_flow faded_slot least_left by_source_of take_of earliest kept_under
held_back =
    comes_back 1032 first (record { index = 0; issue = 3 }) while (get_deferred (record { 0 = 9 }) (Owned (record { 0 = 1 }))) held refl (lit≤ tt) (lit≤ tt) refl refl refl

-- ---- a flow

abbrev query : Send
query = record { dest = record { 0 = 9 }; typ = record { 0 = 1 }; tag = None; expires = true; ic = record { 0 = false }; mtu = None; cookie = None }

-- a send under a fresh tag, which is 1
abbrev asked : World
asked = steps 1032 (start_send query ∷ []) start

-- its flow stands
pub query_stands : standing (record { 0 = 9 }) (record { 0 = 1 }) asked.stack.flows ≡ true
unfolding is_local find pick steps step start_send_of send_as tag_for owned_tag set_flow fresh_flow with_tag insert_flow new_flow free_tag_of bits_of is_flow next
query_stands = refl

-- after a cancel no flow stands for it
pub query_cleared : standing (record { 0 = 9 }) (record { 0 = 1 }) (step 1032 (cancel_flow (record { 0 = 9 }) (record { 0 = 1 })) asked).stack.flows ≡ false
unfolding is_local find pick steps step start_send_of send_as tag_for owned_tag set_flow fresh_flow with_tag insert_flow new_flow free_tag_of bits_of is_flow next cancel_of swept blocked is_reply
query_cleared =
    cancel_clears 1032 (record { slots = 4; body = 1032 }) (record { 0 = 8 }) 64 0 (replicate 4128 0) (start_send query ∷ []) (record { 0 = 9 }) (record { 0 = 1 }) refl

-- its reply in one packet
abbrev reply : List ℕ
reply = 0x01 ∷ 0x08 ∷ 0x09 ∷ 0xC1 ∷ 0x01 ∷ 0x2A ∷ []

abbrev answered : Header
answered = record {
  key = record { source = record { 0 = 9 }; dest = record { 0 = 8 }; owner = false; tag = record { 0 = 1 } };
  som = true;
  eom = true;
  seq = 0;
}

-- after the reply is handed out no flow stands for it
pub query_answered : standing (record { 0 = 9 }) (record { 0 = 1 }) (step 1032 (receive reply) asked).stack.flows ≡ false
unfolding is_local find pick steps step start_send_of send_as tag_for owned_tag set_flow fresh_flow with_tag insert_flow new_flow free_tag_of bits_of is_flow next
    receive_of receive_by receive_at header_of slot_for gate gate_empty gate_reply opening land enter append next_issue same_key same_bool over
query_answered =
    reply_clears 1032 (record { slots = 4; body = 1032 }) (record { 0 = 8 }) 64 0 (replicate 4128 0) (start_send query ∷ []) reply first answered refl refl refl

-- ---- a message in packets

-- two fragments, and the third
abbrev two : List Call
two = receive (0x01 ∷ 0x08 ∷ 0x09 ∷ 0xBA ∷ 0x01 ∷ 0xAA ∷ []) ∷ update 100 ∷ receive (0x01 ∷ 0x08 ∷ 0x09 ∷ 0x0A ∷ []) ∷ []

abbrev third : List ℕ
third = 0x01 ∷ 0x08 ∷ 0x09 ∷ 0x5A ∷ 0xBB ∷ 0xCC ∷ []

abbrev three : List (List ℕ)
three = (0x01 ∷ 0x08 ∷ 0x09 ∷ 0xBA ∷ 0x01 ∷ 0xAA ∷ []) ∷ (0x01 ∷ 0x08 ∷ 0x09 ∷ 0x0A ∷ []) ∷ third ∷ []

-- what is handed out was carried by the three
pub three_carry : Carries (record { source = record { 0 = 9 }; dest = record { 0 = 8 }; owner = true; tag = record { 0 = 2 } }) (record { 0 = 1 }) (record { 0 = false }) 6 (0xAA ∷ 0xBB ∷ 0xCC ∷ []) three
unfolding is_local find pick steps step next update_of checked clocked expired timeout_of faded_flow faded_slot least_left receive_of receive_by receive_at header_of slot_for gate
    gate_empty gate_reply opening land enter append next_issue same_key same_bool part over logged history noted since gathered
three_carry = told_carried 1032 start refl (lit≤ tt) two refl third first refl
