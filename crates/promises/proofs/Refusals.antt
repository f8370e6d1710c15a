-- docs/RULES.md 13 to 16 as laws: each call gives the refusals that `refusals_of` lists and no others, each alone, and exactly when it is due (`says_no`). Each
-- of them is met; none changes a byte of a buffer; and most leave all as it was. `refused_receive`, `refused_send` and `refused_cancel` say what the others leave.
use Prim.Native.Nat.{ℕ}
use mathlib.Core.Path.{◌≡◌, refl, ap, ◌∙◌}
use mathlib.Core.Bool.{true}
use mathlib.Core.List.{List, [], ◌∷◌, flatten}
use lib.ListN.{length}
use Rattle.std.specs.Prelude.{Err, None, Option, Result, Some}
use Rattle.octets.specs.Pick.{pick, pick_true, pick_false, pick_cases}
use Rattle.octets.specs.Find.{find}
use Rattle.octets.specs.Bytes.{over}
use Rattle.octets.proofs.Part.{over-nil}
use Rattle.mctp.specs.declared.Error.{Error}
use Rattle.mctp.specs.Terms.{error_no, normal_eid, same_key, same_bool}
use Rattle.mctp.specs.Header.{header_of}
use Rattle.mctp.specs.Answer.{Answer, refuses, answer_no}
use Rattle.stamp.specs.Stamp.{next, clocked, expired, timeout_of}
use Rattle.flows.specs.Tags.{bits_of, free_tag_of}
use Rattle.flows.specs.Table.{is_flow, new_flow, insert_flow, with_tag, fresh_flow, fixed_flow, set_flow, faded_flow}
use Rattle.slot.specs.declared.Reassembler.{Reassembler}
use Rattle.slot.specs.Slot.{blank_slot, is_reply, kept_under, faded_slot, with_state, with_slot_cookie}
use Rattle.slot.specs.Search.{slot_for}
use Rattle.slot.specs.declared.State.TheVariants.{Done as Waiting}
use Rattle.reassemble.specs.Enter.{is_local, opening, gate, gate_empty, gate_reply, enter, append}
use Rattle.fragment.specs.declared.Fragmenter.{Fragmenter}
use Rattle.fragment.specs.Step.{Step, new_of, step_of}
use Rattle.fragment.specs.Answers.{output_as}
use Rattle.state.specs.declared.Sizes.{Sizes}
use Rattle.state.specs.Stack.{Stack}
use Rattle.stamp.specs.Checks.{least_left, any_expired}
use Rattle.slot_walks.specs.SlotWalks.{swept, blocked}
use Rattle.slot.specs.declared.ReceiveHandle.{ReceiveHandle}
use Rattle.slot.specs.Handle.{next_issue}
use Rattle.receiving.specs.Conclude.{received_as}
use Rattle.receiving.specs.Receive.{land, receive_at, receive_by, receive_of}
use Rattle.sending.specs.Sends.{owned_tag, tag_for, send_as, start_send_of}
use Rattle.updating.specs.Update.{Update, updated_as, checked, update_of}
use Rattle.handles.specs.Handles.{Handled, done_as, fetched_as, deferred_as, is_good, handled, fetch_of, by_source_of, by_cookie_of}
use Rattle.estack.specs.Basics.{new_says, set_eid_of, eid_set, cancel_of}
use Rattle.promises.specs.Calls.{Call, receive, elsewhere, update, start_send, cancel_flow, get_deferred, get_deferred_by_cookie, fetch_message, finished_receive, return_handle, set_cookie, set_eid, eid, is_local_dest, free_tags, World, with, step, receipt, performed}
use Rattle.promises.specs.Refusals.{refusals_of, place_of, receive_no, send_no, cancel_no, says_no, Among, Unstepped, still}
use Rattle.promises.specs.RefusalTable.{asks, opens, table, ways, Met}
use Rattle.promises.proofs.Facts.{no_true}
use Rattle.promises.proofs.Quiet.{Kind, here, there, silent, kind}
use Rattle.promises.proofs.Refused.{Says, Where, refusal, number, weaker, sole}
use Rattle.promises.proofs.RefusedReceive.{Unreceived, received_says, unreceived}
use Rattle.promises.proofs.RefusedSend.{Unsends, started-says}
use Rattle.promises.proofs.RefusedCancel.{Uncancels, cancelled_says}
use Rattle.mctp.specs.declared.Eid.{Eid}
use Rattle.handles.specs.declared.Message.{Message}
pub use Rattle.promises.proofs.RefusedReceive.{refused_receive, refused_same}
pub use Rattle.promises.proofs.RefusedSend.{refused_send}
pub use Rattle.promises.proofs.RefusedCancel.{refused_cancel}

-- ---- calls whose refusals leave all as it was

-- the number of a refusal, alone, and the world after
pub record Still (numbers : List ℕ) (w w' : World) (n : ℕ) (vs : List ℕ) : Type 0 where
  pub among : Among numbers n vs
  pub same : w' ≡ w

-- the same of a call whose number is k
abbrev Stays : ℕ → List ℕ → World → World → Answer → Type 0
Stays k numbers w w' a = Says k (Still numbers w w') a

module _ (w : World) where
  update_still : (B t : ℕ) → Stays (says_no B (update t) w) (1 ∷ []) w (with (update_of t w.stack).stack w) (updated_as (update_of t w.stack).said)
  unfolding update_of checked
  update_still B t =
      pick_cases P (λ y. (pick_true _ _ _ y, record { among = sole refl; same = refl }))
      (λ n. pick_cases P (λ _. pick_false _ _ _ n) (λ _. pick_false _ _ _ n))
    where
      P : Update → Type 0
      P u = Stays (says_no B (update t) w) (1 ∷ []) w (with u.stack w) (updated_as u.said)

  handled-still : (f : Reassembler → Reassembler) (h : ReceiveHandle)
      → Stays (pick (is_good h w.stack) 0 3) (3 ∷ []) w (with (handled f h w.stack).stack w) (done_as (handled f h w.stack).said)
  unfolding handled
  handled-still f h =
      pick_cases (λ (o : Handled). Stays (pick (is_good h w.stack) 0 3) (3 ∷ []) w (with o.stack w) (done_as o.said)) (λ g. pick_true _ _ _ g)
      (λ g. (pick_false _ _ _ g, record { among = sole refl; same = refl }))

  fetch_still : (B : ℕ) (h : ReceiveHandle) (room : ℕ) → Stays (says_no B (fetch_message h room) w) (3 ∷ 6 ∷ []) w w (fetched_as (fetch_of B h w.stack room))
  unfolding fetch_of
  fetch_still B h room =
      pick_cases P (λ s. (pick_true _ _ _ s, record { among = sole refl; same = refl }))
      (λ s. pick_cases P (λ g. pick_false _ _ _ s ∙ pick_true _ _ _ g) (λ g. (pick_false _ _ _ s ∙ pick_false _ _ _ g, record { among = sole refl; same = refl })))
    where
      P : Result Message Error → Type 0
      P r = Stays (says_no B (fetch_message h room) w) (3 ∷ 6 ∷ []) w w (fetched_as r)

  eid_still : (B n : ℕ) → Stays (says_no B (set_eid n) w) (1 ∷ []) w (with (set_eid_of n w.stack).stack w) (done_as (set_eid_of n w.stack).said)
  unfolding normal_eid
  eid_still B n =
      pick_cases P (λ a. (pick_true _ _ _ a, record { among = sole refl; same = refl }))
      (λ a. pick_cases P (λ b. (pick_false _ _ _ a ∙ pick_true _ _ _ b, record { among = sole refl; same = refl })) (λ b. pick_false _ _ _ a ∙ pick_false _ _ _ b))
    where
      P : Result Eid Error → Type 0
      P r = Stays (says_no B (set_eid n) w) (1 ∷ []) w (with (eid_set r w.stack).stack w) (done_as (eid_set r w.stack).said)

  deferred_still : (w' : World) (d : Option ReceiveHandle) → Stays 0 [] w w' (deferred_as d)
  deferred_still w' (Some h) = refl
  deferred_still w' None = refl

  stills : (B : ℕ) (c : Call) → still c ≡ true → Stays (says_no B c w) (refusals_of c) w (step B c w) (performed B c w)
  unfolding step
  stills B (receive p) s = absurd (no_true s)
  stills B (elsewhere n p) s = absurd (no_true s)
  stills B (update t) s = update_still B t
  stills B (start_send q) s = absurd (no_true s)
  stills B (cancel_flow peer tag) s = absurd (no_true s)
  stills B (get_deferred source tag) s = deferred_still (step B (get_deferred source tag) w) (by_source_of source tag w.stack).said
  stills B (get_deferred_by_cookie cookies) s = deferred_still (step B (get_deferred_by_cookie cookies) w) (by_cookie_of cookies w.stack).said
  stills B (fetch_message h n) s = fetch_still B h n
  stills B (finished_receive h) s = handled-still (λ s. blank_slot) h
  stills B (return_handle h) s = handled-still (with_state Waiting) h
  stills B (set_cookie h cookie) s = handled-still (with_slot_cookie cookie) h
  stills B (set_eid n) s = eid_still B n
  stills B eid s = refl
  stills B (is_local_dest p) s = refl
  stills B (free_tags peer) s = refl

-- update, set_eid, fetch, finish, return, set cookie: a refusal leaves all as it was
pub refused-still : (B : ℕ) (c : Call) (w : World) (n : ℕ) (vs : List ℕ) → still c ≡ true → performed B c w ≡ refuses n vs → step B c w ≡ w
refused-still B c w n vs s e = (refusal (says_no B c w) (Still (refusals_of c) w (step B c w)) (performed B c w) n vs (stills w B c s) e).same

-- ---- these refusals and no others

still_spoken : (B : ℕ) (c : Call) (w : World) → still c ≡ true → Says (says_no B c w) (Among (refusals_of c)) (performed B c w)
still_spoken B c w s = weaker (says_no B c w) (Still (refusals_of c) w (step B c w)) (Among (refusals_of c)) (performed B c w) (λ n vs u. u.among) (stills w B c s)

received_spoken : (B : ℕ) (st : Stack) (room : ℕ) (p : List ℕ)
    → Says (receive_no B st room p) (Among (1 ∷ 2 ∷ 5 ∷ 6 ∷ [])) (received_as (receive_of B st room p).said)
received_spoken B st room p =
    weaker (receive_no B st room p) (Unreceived B st room p (header_of p) (place_of p st) (receive_of B st room p)) (Among (1 ∷ 2 ∷ 5 ∷ 6 ∷ []))
    (received_as (receive_of B st room p).said) (λ n vs u. u.among) (received_says B st room p)

-- what every call says: its number, and that a refusal is one of its own and comes alone
spoken : (B : ℕ) (c : Call) (w : World) → Says (says_no B c w) (Among (refusals_of c)) (performed B c w)
spoken B (receive p) w = received_spoken B w.stack (length w.pool) p
spoken B (elsewhere n p) w = received_spoken B w.stack n p
spoken B (update t) w = still_spoken B (update t) w refl
spoken B (start_send q) w =
    weaker (send_no q w.stack) (Unsends q w.stack (start_send_of q w.stack).stack) (Among (refusals_of (start_send q)))
    (performed B (start_send q) w) (λ n vs u. u.among) (started-says q w.stack)
spoken B (cancel_flow peer tag) w =
    weaker (cancel_no peer tag w.stack) (Uncancels peer tag w.stack (cancel_of peer tag w.stack).stack) (Among (refusals_of (cancel_flow peer tag)))
    (performed B (cancel_flow peer tag) w) (λ n vs u. u.among) (cancelled_says peer tag w.stack)
spoken B (get_deferred source tag) w = still_spoken B (get_deferred source tag) w refl
spoken B (get_deferred_by_cookie cookies) w = still_spoken B (get_deferred_by_cookie cookies) w refl
spoken B (fetch_message h n) w = still_spoken B (fetch_message h n) w refl
spoken B (finished_receive h) w = still_spoken B (finished_receive h) w refl
spoken B (return_handle h) w = still_spoken B (return_handle h) w refl
spoken B (set_cookie h cookie) w = still_spoken B (set_cookie h cookie) w refl
spoken B (set_eid n) w = still_spoken B (set_eid n) w refl
spoken B eid w = still_spoken B eid w refl
spoken B (is_local_dest p) w = still_spoken B (is_local_dest p) w refl
spoken B (free_tags peer) w = still_spoken B (free_tags peer) w refl

-- a call's refusals are those that `refusals_of` lists, and no value comes with one
pub refusals : (B : ℕ) (c : Call) (w : World) (n : ℕ) (vs : List ℕ) → performed B c w ≡ refuses n vs → Among (refusals_of c) n vs
refusals B c w n vs e = refusal (says_no B c w) (Among (refusals_of c)) (performed B c w) n vs (spoken B c w) e

-- a call is refused exactly when a refusal is due, with that number
pub refused_when : (B : ℕ) (c : Call) (w : World) → answer_no (performed B c w) ≡ says_no B c w
refused_when B c w = number (says_no B c w) (Among (refusals_of c)) (performed B c w) (spoken B c w)

-- a fragment step's refusals
pub step_refusals : (f : Fragmenter) (payload : List ℕ) (room n : ℕ) (vs : List ℕ) → output_as (step_of f payload room).result.output ≡ refuses n vs
    → Unstepped f (step_of f payload room) n vs
unfolding step_of
step_refusals f payload room n vs e =
    refusal _ (Unstepped f (step_of f payload room)) (output_as (step_of f payload room).result.output) n vs
    (pick_cases P (λ _. refl)
    (λ _. pick_cases P (λ _. (refl, record { number = refl; cookie = refl; next = refl; bytes = refl }))
    (λ _. pick_cases P (λ _. (refl, record { number = refl; cookie = refl; next = refl; bytes = refl })) (λ _. refl))))
    e
  where
    P : Step → Type 0
    P s = Where (Unstepped f s) (output_as s.result.output)

-- what `new` refuses
pub new_refusals : (z : Sizes) (room mtu n : ℕ) (vs : List ℕ) → done_as (new_says z room mtu) ≡ refuses n vs → Among (2 ∷ 3 ∷ []) n vs
unfolding new_says
new_refusals z room mtu n vs e =
    refusal _ (Among (2 ∷ 3 ∷ [])) (done_as (new_says z room mtu)) n vs
    (pick_cases P (λ _. (refl, sole refl))
    (λ _. pick_cases P (λ _. (refl, sole refl))
    (λ _. pick_cases P (λ _. (refl, sole refl)) (λ _. pick_cases P (λ _. (refl, sole refl)) (λ _. refl)))))
    e
  where
    P : Result (Unit {0}) Error → Type 0
    P d = Where (Among (2 ∷ 3 ∷ [])) (done_as d)

-- ---- no refusal changes a byte of a buffer

-- it changes no byte of the pool that we watch, whatever the call
pub refused-buffers : (B : ℕ) (c : Call) (w : World) (n : ℕ) (vs : List ℕ) → performed B c w ≡ refuses n vs → (step B c w).pool ≡ w.pool
unfolding step
refused-buffers B c w n vs e = go c (kind B w c) e
  where
    go : (c : Call) → Kind B w c → performed B c w ≡ refuses n vs → (step B c w).pool ≡ w.pool
    go c (here p) e =
        ap (λ (bytes : List ℕ). over (receipt B p w).at bytes w.pool) (unreceived B w.stack (length w.pool) p n vs e).bytes
        ∙ over-nil (receipt B p w).at w.pool
    go c (there m p) e = refl
    go c (silent s) e = s.pool

-- and none of any other buffer that a receive is lent
pub refused_bytes : (B : ℕ) (st : Stack) (room : ℕ) (p : List ℕ) (err : Error) → (receive_of B st room p).said ≡ Err err → (receive_of B st room p).bytes ≡ []
refused_bytes B st room p err e = (unreceived B st room p (error_no err) [] (ap received_as e)).bytes

-- ---- each of them is met

pub refusals_met : Met table
unfolding asks pick find over header_of same_key same_bool next clocked expired timeout_of bits_of free_tag_of is_flow new_flow insert_flow with_tag fresh_flow set_flow faded_flow faded_slot is_reply kept_under slot_for is_local opening gate gate_empty gate_reply enter append new_of least_left any_expired next_issue land receive_at receive_by receive_of send_as owned_tag tag_for start_send_of checked update_of normal_eid is_good handled fetch_of swept blocked cancel_of step
refusals_met = (refl, (refl, (refl, (refl, (refl, (refl, (refl, (refl, (refl, (refl, tt))))))))))

-- and each is met in each of its ways
pub ways_met : Met ways
unfolding asks opens flatten pick find over header_of same_key same_bool next bits_of free_tag_of is_flow new_flow insert_flow with_tag fresh_flow set_flow fixed_flow slot_for is_local opening gate gate_empty gate_reply enter append new_of next_issue land receive_at receive_by receive_of send_as owned_tag tag_for start_send_of step
ways_met = (refl, (refl, tt))
