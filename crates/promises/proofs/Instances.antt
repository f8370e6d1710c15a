-- The premises of demand 3 and of `cut_and-joined` can be met, by computation: a fresh stack of 4 slots and 64 free flow places, with 4,128 zero bytes for its pool.
use Prim.Native.Nat.{ℕ}
use mathlib.Core.Path.{◌≡◌, refl, subst}
use mathlib.Core.Bool.{true, false}
use mathlib.Core.List.{List, [], ◌∷◌}
use lib.Dec.{lit≤}
use lib.ListN.{replicate}
use Rattle.std.specs.Prelude.{None, Option, Some}
use Rattle.octets.specs.Pick.{pick}
use Rattle.octets.specs.Find.{find}
use Rattle.octets.specs.Bytes.{over, part}
use Rattle.mctp.specs.declared.Eid.{Eid}
use Rattle.mctp.specs.declared.Key.{Key}
use Rattle.mctp.specs.declared.MsgType.{MsgType}
use Rattle.mctp.specs.declared.MsgIC.{MsgIC}
use Rattle.mctp.specs.declared.Tag.{Tag}
use Rattle.mctp.specs.declared.Tag.TheVariants.{Owned}
use Rattle.mctp.specs.Terms.{same_key, same_bool}
use Rattle.mctp.specs.Answer.{gives}
use Rattle.mctp.specs.Header.{header_of}
use Rattle.stamp.specs.Stamp.{next, clocked, expired, timeout_of}
use Rattle.flows.specs.Tags.{bits_of, free_tag_of}
use Rattle.flows.specs.Table.{standing, is_flow, new_flow, insert_flow, with_tag, fresh_flow, set_flow, faded_flow}
use Rattle.slot.specs.Slot.{faded_slot}
use Rattle.slot.specs.Search.{slot_for}
use Rattle.reassemble.specs.Enter.{is_local, opening, gate, gate_empty, gate_reply, enter, append}
use Rattle.stamp.specs.Checks.{least_left}
use Rattle.fragment.specs.declared.Fragmenter.{Fragmenter}
use Rattle.fragment.specs.Step.{new_of, fresh, step_of}
use Rattle.fragment.specs.Cutting.{InTurn, joined, kind_in, Carries}
use Rattle.fragment.specs.Run.{written, after}
use Rattle.sending.specs.declared.Send.{Send}
use Rattle.slot.specs.Handle.{next_issue}
use Rattle.receiving.specs.Receive.{land, receive_at, receive_by, receive_of}
use Rattle.sending.specs.Sends.{owned_tag, tag_for, send_as, start_send_of}
use Rattle.updating.specs.Update.{checked, update_of}
use Rattle.estack.specs.Basics.{fresh_stack}
use Rattle.promises.specs.Calls.{World, Call, receive, elsewhere, update, start_send, cancel_flow, finished_receive, set_eid, step, steps, performed}
use Rattle.promises.specs.Delivery.{message_at, Delivers, cookie_for, Lawful}
use Rattle.promises.specs.History.{noted, logged, history, since, gathered, Exactly}
use Rattle.promises.proofs.HandOut.{hands_out}
use Rattle.promises.proofs.EndToEnd.{cut_and-joined}
use Rattle.promises.proofs.Told.{told, told_here}
use Rattle.mctp.specs.declared.AppCookie.{AppCookie}

-- own EID 8, MTU 64, clock 0; a body has at most 1,032 bytes
abbrev pub start : World
start = record { stack = fresh_stack (record { slots = 4; body = 1032 }) (record { 0 = 8 }) 64 0; pool = replicate 4128 0 }

-- type 1, no integrity check
abbrev typ : MsgType
typ = record { 0 = 1 }

abbrev ic : MsgIC
ic = record { 0 = false }

-- the premises hold of these packets, and the message is handed out with that cookie
abbrev Met : Key → List ℕ → List (List ℕ) → List (List Call) → World → Option AppCookie → Type 0
Met K body ps gaps w cookie =
    Lawful 1032 K typ ic 64 body ps gaps w × Delivers 1032 (record { key = K; typ = typ; ic = ic; body = body; cookie = cookie }) ps gaps w

met : (K : Key) (body : List ℕ) (ps : List (List ℕ)) (gaps : List (List Call)) (w : World) (cookie : Option AppCookie)
    → Lawful 1032 K typ ic 64 body ps gaps w → cookie_for K w.stack ≡ cookie → Met K body ps gaps w cookie
met K body ps gaps w cookie law e =
    (law, subst (λ (c : Option AppCookie). Delivers 1032 (record { key = K; typ = typ; ic = ic; body = body; cookie = c }) ps gaps w) e (hands_out 1032 K typ ic 64 body ps gaps w law))

-- ---- three fragments, with calls between

-- EID 9 asks EID 8 under its own tag 2
abbrev asks : Key
asks = record { source = record { 0 = 9 }; dest = record { 0 = 8 }; owner = true; tag = record { 0 = 2 } }

-- numbered 3, 0 and 1; the second carries nothing
abbrev three : List (List ℕ)
three = (0x01 ∷ 0x08 ∷ 0x09 ∷ 0xBA ∷ 0x01 ∷ 0xAA ∷ []) ∷ (0x01 ∷ 0x08 ∷ 0x09 ∷ 0x0A ∷ []) ∷ (0x01 ∷ 0x08 ∷ 0x09 ∷ 0x5A ∷ 0xBB ∷ 0xCC ∷ []) ∷ []

three_carried : Carries asks typ ic 64 (0xAA ∷ 0xBB ∷ 0xCC ∷ []) three
unfolding header_of InTurn joined kind_in pick
three_carried = record {
  start = 3;
  turn = (
    record { header = refl; whole = lit≤ tt; within = lit≤ tt },
    (record { header = refl; whole = lit≤ tt; within = lit≤ tt }, record { header = refl; whole = lit≤ tt; within = lit≤ tt }),
  );
  kind = refl;
  body = refl;
}

-- a whole message of EID 9 under its tag 1
abbrev other : List ℕ
other = 0x01 ∷ 0x08 ∷ 0x09 ∷ 0xC9 ∷ 0x01 ∷ 0x2A ∷ []

-- after the first fragment and after the second
abbrev between : List (List Call)
between =
    (update 5000 ∷ receive other ∷ set_eid 20 ∷ []) ∷ (elsewhere 5000 other ∷ finished_receive (record { index = 1; issue = 1 }) ∷ cancel_flow (record { 0 = 9 }) (record { 0 = 2 }) ∷ update 6000 ∷ []) ∷ []

-- a message of several fragments with calls between, with no cookie
pub three_met : Met asks (0xAA ∷ 0xBB ∷ 0xCC ∷ []) three between start None
unfolding header_of is_local find pick same_key same_bool
three_met =
    met asks (0xAA ∷ 0xBB ∷ 0xCC ∷ []) three between start None
    (record { carries = three_carried; fits = lit≤ tt; source = refl; dest = refl; begins = refl; pool = lit≤ tt; between = refl }) refl

-- ---- cut by a fragmenter, and joined

abbrev peer : Eid
peer = record { 0 = 9 }

abbrev own : Eid
own = record { 0 = 8 }

abbrev label : Tag
label = Owned (record { 0 = 2 })

-- EID 9 cuts for EID 8 under its own tag 2: MTU 6, no cookie, its first packet numbered 3
abbrev cutter : Fragmenter
cutter = fresh typ peer own label 6 None ic 3

abbrev sent : List ℕ
sent = 0xAA ∷ 0xBB ∷ 0xCC ∷ []

abbrev cut : List (List ℕ)
cut = (0x01 ∷ 0x08 ∷ 0x09 ∷ 0xBA ∷ 0x01 ∷ 0xAA ∷ []) ∷ (0x01 ∷ 0x08 ∷ 0x09 ∷ 0x4A ∷ 0xBB ∷ 0xCC ∷ []) ∷ []

-- after the first packet: time passes, and another message comes whole
abbrev gap : List (List Call)
gap = (update 5000 ∷ receive other ∷ []) ∷ []

-- what it writes, into buffers of 255 bytes
pub cut_packets_lem : written cutter sent (255 ∷ 255 ∷ 255 ∷ []) ≡ cut
unfolding written step_of pick part
cut_packets_lem = refl

-- `cut_and-joined` speaks of these packets: they hand out the body
pub cut_met : Delivers 1032 (record { key = asks; typ = typ; ic = ic; body = sent; cookie = None }) cut gap start
unfolding new_of after step_of header_of is_local find pick same_key same_bool
cut_met =
    subst (λ (ps : List (List ℕ)). Delivers 1032 (record { key = asks; typ = typ; ic = ic; body = sent; cookie = None }) ps gap start) cut_packets_lem
    (cut_and-joined typ peer own label 6 None ic 3 cutter refl sent (255 ∷ 255 ∷ 255 ∷ []) refl 1032 gap start (lit≤ tt) refl refl refl (lit≤ tt) refl)

-- ---- a reply, its flow standing

-- a send to EID 9 under a fresh tag, with an expiry and the cookie 77
abbrev query : Send
query = record { dest = record { 0 = 9 }; typ = typ; tag = None; expires = true; ic = ic; mtu = None; cookie = Some (record { 0 = 77 }) }

-- its reply comes under tag 1, which EID 9 does not own
abbrev replies : Key
replies = record { source = record { 0 = 9 }; dest = record { 0 = 8 }; owner = false; tag = record { 0 = 1 } }

abbrev two : List (List ℕ)
two = (0x01 ∷ 0x08 ∷ 0x09 ∷ 0x81 ∷ 0x01 ∷ 0xAA ∷ []) ∷ (0x01 ∷ 0x08 ∷ 0x09 ∷ 0x51 ∷ 0xBB ∷ []) ∷ []

two_carried : Carries replies typ ic 64 (0xAA ∷ 0xBB ∷ []) two
unfolding header_of InTurn joined kind_in pick
two_carried = record {
  start = 0;
  turn = (record { header = refl; whole = lit≤ tt; within = lit≤ tt }, record { header = refl; whole = lit≤ tt; within = lit≤ tt });
  kind = refl;
  body = refl;
}

-- its second fragment comes at the last moment, after another message
abbrev late : List (List Call)
late = (receive other ∷ update 6000 ∷ []) ∷ []

-- a reply whose flow stands, with the flow's cookie
pub reply_met : Met replies (0xAA ∷ 0xBB ∷ []) two late (steps 1032 (start_send query ∷ []) start) (Some (record { 0 = 77 }))
unfolding is_local find pick steps step start_send_of send_as tag_for owned_tag set_flow fresh_flow with_tag insert_flow new_flow free_tag_of bits_of is_flow next header_of same_key same_bool
reply_met =
    met replies (0xAA ∷ 0xBB ∷ []) two late (steps 1032 (start_send query ∷ []) start) (Some (record { 0 = 77 }))
    (record { carries = two_carried; fits = lit≤ tt; source = refl; dest = refl; begins = refl; pool = lit≤ tt; between = refl }) refl

-- ---- a restart in a slot that collects

-- a first fragment of the reply comes at 5,000 ms; at 6,001 ms the flow has expired, and the slot still collects
abbrev stranded : World
stranded = steps 1032 (start_send query ∷ update 5000 ∷ receive (0x01 ∷ 0x08 ∷ 0x09 ∷ 0xA1 ∷ 0x01 ∷ 0x77 ∷ []) ∷ update 6001 ∷ []) start

flow_gone : standing (record { 0 = 9 }) (record { 0 = 1 }) stranded.stack.flows ≡ false
unfolding is_local find pick steps step start_send_of send_as tag_for owned_tag set_flow fresh_flow with_tag insert_flow new_flow free_tag_of bits_of is_flow next
    update_of checked clocked expired timeout_of faded_flow faded_slot least_left receive_of receive_by receive_at header_of slot_for gate gate_empty gate_reply opening land enter append
flow_gone = refl

-- the reply begins again in that slot, with the cookie that the slot has, though the flow is gone
pub restart_met : Met replies (0xAA ∷ 0xBB ∷ []) two [] stranded (Some (record { 0 = 77 }))
unfolding is_local find pick steps step start_send_of send_as tag_for owned_tag set_flow fresh_flow with_tag insert_flow new_flow free_tag_of bits_of is_flow next
    update_of checked clocked expired timeout_of faded_flow faded_slot least_left receive_of receive_by receive_at header_of slot_for gate gate_empty gate_reply opening land enter append same_key same_bool over
restart_met =
    met replies (0xAA ∷ 0xBB ∷ []) two [] stranded (Some (record { 0 = 77 }))
    (record { carries = two_carried; fits = lit≤ tt; source = refl; dest = refl; begins = refl; pool = lit≤ tt; between = refl }) refl

-- ---- what was taken

-- noise, a first fragment, a second; then the third comes
abbrev taken : List Call
taken = receive [] ∷ receive (0x01 ∷ 0x08 ∷ 0x09 ∷ 0x5A ∷ []) ∷ receive (0x01 ∷ 0x08 ∷ 0x09 ∷ 0xBA ∷ 0x01 ∷ 0xAA ∷ []) ∷ update 100 ∷ receive (0x01 ∷ 0x08 ∷ 0x09 ∷ 0x0A ∷ []) ∷ []

abbrev third : List ℕ
third = 0x01 ∷ 0x08 ∷ 0x09 ∷ 0x5A ∷ 0xBB ∷ 0xCC ∷ []

third_handed : performed 1032 (receive third) (steps 1032 taken start) ≡ gives (0 ∷ 1 ∷ [])
unfolding is_local find pick steps step next update_of checked clocked expired timeout_of faded_flow faded_slot least_left receive_of receive_by receive_at header_of slot_for gate
    gate_empty gate_reply opening land enter append next_issue same_key same_bool over
third_handed = refl

-- `told` and `told_here` speak of this run
pub third_told : Exactly (message_at 1032 0 (step 1032 (receive third) (steps 1032 taken start))) third (logged 1032 (receive third) (steps 1032 taken start) (history 1032 taken start []))
third_told = told 1032 start refl (lit≤ tt) taken third (record { index = 0; issue = 1 }) third_handed

-- and the body is what the three fragments brought
pub third_body : (message_at 1032 0 (step 1032 (receive third) (steps 1032 taken start))).body ≡ 0xAA ∷ 0xBB ∷ 0xCC ∷ []
unfolding is_local find pick steps step next update_of checked clocked expired timeout_of faded_flow faded_slot least_left receive_of receive_by receive_at header_of slot_for gate
    gate_empty gate_reply opening land enter append next_issue same_key same_bool over logged history noted since gathered
third_body = told_here 1032 start refl (lit≤ tt) taken refl third (record { index = 0; issue = 1 }) third_handed
