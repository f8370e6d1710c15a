-- A handle that is told is good: a fetch under it, lent the pool of the receive, gives the message in its slot.
use Prim.Native.Nat.{ℕ, ◌*◌, ◌≤◌, ◌<◌}
use native.Mathlib.Omega.{arith}
use mathlib.Core.Path.{◌≡◌, refl, sym, ap, subst, ◌∙◌}
use mathlib.Core.Bool.{Bool, true, false}
use mathlib.Core.List.{List}
use lib.Dec.{ltb}
use lib.ListN.{length, get_or, length-set}
use lib.Seq.{get_or-set_same}
use borrow.Author.Tests.{le-ltb, lt-ltb, eq-eqb, ltb-false}
use Rattle.std.specs.Prelude.{Err, None, Ok, Option, Result, Some}
use Rattle.octets.specs.Pick.{pick}
use Rattle.octets.specs.Bytes.{over}
use Rattle.octets.proofs.Bools.{bool_cases}
use Rattle.mctp.specs.Answer.{Answer, gives, answer_no, answer_values}
use Rattle.mctp.proofs.Answers.{error_some}
use Rattle.slot.specs.declared.State.TheVariants.{HandleOut}
use Rattle.mctp.specs.declared.Header.{Header}
use Rattle.slot.specs.declared.Reassembler.{Reassembler}
use Rattle.slot.specs.Slot.{blank_slot, issue_is}
use Rattle.reassemble.specs.Enter.{appended}
use Rattle.fragment.specs.Cutting.{body_in}
use Rattle.state.specs.Stack.{Stack, slot_at}
use Rattle.slot.specs.declared.ReceiveHandle.{ReceiveHandle}
use Rattle.receiving.specs.Conclude.{said_of, received_as}
use Rattle.slot.specs.Handle.{handle_words}
use Rattle.receiving.specs.Receive.{Receipt, receive_of}
use Rattle.handles.specs.Handles.{is_good, message_in, fetch_of}
use Rattle.promises.specs.Calls.{World, receive, step, receipt, performed}
use Rattle.promises.specs.History.{takes}
use Rattle.promises.proofs.Facts.{no_both, no_true}
use Rattle.promises.proofs.Pool.{slot_le, pool_length}
use Rattle.promises.proofs.Outcome.{Took, Outcome, quiet, dropped, took, receive_outcome}
use Rattle.mctp.specs.declared.Error.{Error}

pub fetch_is : (B : ℕ) (h : ReceiveHandle) (st : Stack) (room : ℕ) → B * length st.slots ≤ room → h.index < length st.slots
    → (slot_at h.index st).state ≡ HandleOut h.issue → fetch_of B h st room ≡ Ok (message_in B h.index (slot_at h.index st))
unfolding fetch_of is_good pick
fetch_is B h st room r i e =
    let g = ap (issue_is h.issue) e ∙ eq-eqb h.issue h.issue refl in
    rw (le-ltb room (B * length st.slots) r, lt-ltb h.index (length st.slots) i, g)

-- an answer whose number is 0 takes the packet
pub zero-takes : (r : Result (Option ReceiveHandle) Error) → answer_no (received_as r) ≡ 0 → takes r ≡ true
zero-takes (Ok None) e = refl
zero-takes (Ok (Some h)) e = refl
zero-takes (Err err) e = absurd (error_some err e)

-- an answer that gives a handle is that handle
pub as_told : (r : Result (Option ReceiveHandle) Error) (h : ReceiveHandle) → received_as r ≡ gives (handle_words h) → r ≡ Ok (Some h)
as_told (Ok None) h e = let z : ◌≡◌ {A = ℕ} 0 2 = ap (λ (a : Answer). length (answer_values a)) e in absurd (omega arith)
as_told (Ok (Some k)) h e =
    let v : handle_words k ≡ handle_words h = cc in
    let i : k.index ≡ h.index = cc in
    let n : k.issue ≡ h.issue = cc in
    ap (λ (x : ℕ). Ok (Some (record { index = x; issue = k.issue }))) i ∙ ap (λ (x : ℕ). Ok (Some (record { index = h.index; issue = x }))) n
as_told (Err err) h e = absurd (error_some err (ap answer_no e))

-- what is told with a handle is a message that is whole, under that slot and number
pub told_of : (b : Bool) (i n : ℕ) (h : ReceiveHandle) → said_of b i n ≡ Ok (Some h) → (b ≡ true) × (record { index = i; issue = n } ≡ h)
told_of true i n h e = let z : record { index = i; issue = n } ≡ h = cc in (refl, z)
told_of false i n h e = absurd (no_true (ap takes_more e))
  where
    takes_more : Result (Option ReceiveHandle) Error → Bool
    takes_more (Ok None) = false
    takes_more (Ok (Some k)) = true
    takes_more (Err err) = false

module _ (B : ℕ) (p : List ℕ) (w : World) (h : ReceiveHandle) where
  -- a pool that is too short would have been refused
  room_is : (receipt B p w).said ≡ Ok (Some h) → B * length w.stack.slots ≤ length w.pool
  unfolding receive_of pick
  room_is e =
      bool_cases (ltb (length w.pool) (B * length w.stack.slots)) (λ t. absurd (no_true (ap takes (rw t at e))))
      (λ f. ltb-false (length w.pool) (B * length w.stack.slots) f)

  Worth : Receipt → Type 0
  Worth r = fetch_of B h r.stack (length (over r.at r.bytes w.pool)) ≡ Ok (message_in B h.index (slot_at h.index r.stack))

  took_worth : (r : Receipt) (i : ℕ) (g : Header) → Took B w.stack p r i g → B * length w.stack.slots ≤ length w.pool → r.said ≡ Ok (Some h) → Worth r
  unfolding Worth pick
  took_worth r i g t room e =
      let k = told_of g.eom i t.issue h (sym t.said ∙ e) in
      let slot = appended g.eom t.now t.issue (length (body_in p)) t.base in
      let l = length-set w.stack.slots i slot in
      let holds = slot_le B i (length w.stack.slots) t.found in
      let size = pool_length B i t.base.len (body_in p) w.pool t.fits (omega arith) in
      let stored = ap (λ (x : List Reassembler). get_or x i blank_slot) t.slots ∙ get_or-set_same w.stack.slots i slot blank_slot t.found in
      let out = ap (λ (s : Reassembler). s.state) stored ∙ ap (λ (b : Bool). (appended b t.now t.issue (length (body_in p)) t.base).state) k.0 in
      subst (λ (x : ReceiveHandle). fetch_of B x r.stack (length (over r.at r.bytes w.pool)) ≡ Ok (message_in B x.index (slot_at x.index r.stack))) k.1
      (fetch_is B (record { index = i; issue = t.issue }) r.stack (length (over r.at r.bytes w.pool)) (rw (t.at, t.bytes, size, t.slots, l) room) (rw (t.slots, l) t.found) out)

  worth : (r : Receipt) → Outcome B w.stack p r → B * length w.stack.slots ≤ length w.pool → r.said ≡ Ok (Some h) → Worth r
  worth r (quiet s b n) room e = absurd (no_both (takes r.said) (rw e) n)
  worth r (dropped i g read src s b n) room e = absurd (no_both (takes r.said) (rw e) n)
  worth r (took i g t) room e = took_worth r i g t room e

  -- whatever came before: where a receive tells a handle, a fetch under it, lent the same pool, gives the message of that slot
  pub told_fetched : performed B (receive p) w ≡ gives (handle_words h)
      → fetch_of B h (step B (receive p) w).stack (length (step B (receive p) w).pool) ≡ Ok (message_in B h.index (slot_at h.index (step B (receive p) w).stack))
  unfolding step Worth
  told_fetched a =
      let e = as_told (receipt B p w).said h a in
      worth (receipt B p w) (receive_outcome B w.stack p (length w.pool)) (room_is e) e
