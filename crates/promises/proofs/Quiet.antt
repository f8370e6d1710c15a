-- Every call is a receive lent the watched pool, a receive lent another buffer, or a call that leaves the pool and the history alone. The last kind takes
-- no slot of a message between whose fragments it is permitted: not by a handle (none is out), by time (6,000 ms have not passed), by a lookup or a cancel.
use Prim.Native.Nat.{ℕ, ◌+◌, ◌-◌, ◌≤◌}
use native.Mathlib.Nat.{le_refl}
use native.Mathlib.Omega.{arith}
use mathlib.Core.Path.{◌≡◌, refl, sym, ap, ◌∙◌}
use mathlib.Core.Bool.{Bool, true, false, not, ◌&&◌}
use mathlib.Core.List.{List}
use borrow.Author.Tests.{le-ltb, leb-true, not-true}
use Rattle.std.specs.Prelude.{Err, Ok, Result}
use Rattle.config.specs.Config.{slot_time}
use Rattle.octets.specs.Pick.{pick, pick_cases}
use Rattle.mctp.specs.declared.Eid.{Eid}
use Rattle.mctp.specs.declared.TagValue.{TagValue}
use Rattle.mctp.specs.declared.Key.{Key}
use Rattle.mctp.specs.Terms.{same_bool, normal_eid}
use Rattle.stamp.specs.declared.EventStamp.{EventStamp}
use Rattle.stamp.specs.Stamp.{expired, timeout_of, is_expired}
use Rattle.slot.specs.declared.State.{State}
use Rattle.slot.specs.declared.State.TheVariants.{Done}
use Rattle.slot.specs.declared.Reassembler.{Reassembler}
use Rattle.slot.specs.Slot.{blank_slot, collects, out_state, done_state, handle_taken, is_done, is_reply, kept_under, listed, time_in, slot_timeout, with_state, with_slot_cookie}
use Rattle.state.specs.Stack.{Stack}
use Rattle.sending.specs.Sends.{start_send_of}
use Rattle.estack.specs.Basics.{eid_set}
use Rattle.promises.specs.Calls.{Call, receive, elsewhere, update, start_send, cancel_flow, get_deferred, get_deferred_by_cookie, fetch_message, finished_receive, return_handle, set_cookie, set_eid, eid, is_local_dest, free_tags, World, step, permitted, reply_of}
use Rattle.promises.specs.History.{Taken, logged}
use Rattle.promises.proofs.Facts.{no_both, no_true, same_bool_lem}
use Rattle.promises.proofs.Slots.{collects_state, collects_key, not_in}
use Rattle.promises.proofs.Clock.{send_same}
use Rattle.promises.proofs.Walks.{Touches, touches_by, untouched, out_idle, handled_touches, deferred_touches, source_touches, update_touches, cancel_touches}
use Rattle.mctp.specs.declared.Error.{Error}

-- the slot s collects under K since the clock t₀
pub record Open (K : Key) (t₀ : ℕ) (st : Stack) (s : Reassembler) : Type 0 where
  pub collects : collects K s ≡ true
  pub since : s.stamp.clock ≡ t₀
  pub later : t₀ ≤ st.head.now.clock

-- if the call is permitted between the fragments of a message, s is not that message's slot
pub record Spare (c : Call) (st : Stack) (s : Reassembler) : Type 0 where
  pub apart : (K : Key) (t₀ : ℕ) → permitted K t₀ c ≡ true → Open K t₀ st s → ⊥

pub record Silent (B : ℕ) (c : Call) (w : World) : Type 0 where
  pub slots : Touches (Spare c w.stack) w.stack (step B c w).stack
  pub pool : (step B c w).pool ≡ w.pool
  pub log : (H : List Taken) → logged B c w H ≡ H

pub data Kind (B : ℕ) (w : World) : Call → Type 0 where
  here : (p : List ℕ) → Kind B w (receive p)
  there : (n : ℕ) (p : List ℕ) → Kind B w (elsewhere n p)
  silent : {c : Call} → Silent B c w → Kind B w c

-- ---- what a call may take is spared

out_spared : {c : Call} (st : Stack) (s : Reassembler) → handle_taken s ≡ true → Spare c st s
out_spared st s e = record { apart = λ K t₀ ok o. no_both (handle_taken s) e (not_in K s o.collects out_state refl) }

done_spared : {c : Call} (st : Stack) (s : Reassembler) → is_done s ≡ true → Spare c st s
done_spared st s e = record { apart = λ K t₀ ok o. no_both (is_done s) e (not_in K s o.collects done_state refl) }

-- within the timeout, counted from the stamp, nothing expires
pub in_time : (s : EventStamp) (t n : ℕ) → s.clock ≤ t → t ≤ s.clock + n → is_expired (timeout_of s t n) ≡ false
unfolding timeout_of expired pick
in_time s t n h k = rw (le-ltb t s.clock h, le-ltb n (t - s.clock) (omega arith))

time_spared : (t : ℕ) (st : Stack) (s : Reassembler) → (st.head.now.clock ≤ t) × (is_expired (slot_timeout t s) ≡ true) → Spare (update t) st s
time_spared t st s e = record {
  apart = λ K t₀ ok o. no_both (is_expired (slot_timeout t s)) e.1
      (ap (λ (f : State). is_expired (time_in f (timeout_of s.stamp t slot_time))) (collects_state K s o.collects)
      ∙ in_time s.stamp t slot_time (omega (arith, o.since, o.later, e.0)) (omega (arith, o.since, leb-true t (t₀ + 6000) ok)));
}

all_three : (o a t : Bool) → same_bool o false ≡ true → a ≡ true → t ≡ true → not o && (a && t) ≡ true
all_three o a t p q r = rw (same_bool_lem o false p, q, r)

reply_of_lem : (peer : Eid) (tag : TagValue) (s : Reassembler) → is_reply peer tag s ≡ true → reply_of s.key peer tag ≡ true
unfolding is_reply kept_under
reply_of_lem peer tag s = pick_cases P (λ _. none) (λ _. pick_cases P (λ a. pick_cases P (λ o t. all_three _ _ _ o a t) (λ _. none)) (λ _. none))
  where
    P : Bool → Type 0
    P b = b ≡ true → reply_of s.key peer tag ≡ true

    none : P false
    none e = absurd (no_true e)

reply_spared : (peer : Eid) (tag : TagValue) (st : Stack) (s : Reassembler) → is_reply peer tag s ≡ true → Spare (cancel_flow peer tag) st s
reply_spared peer tag st s e = record {
  apart = λ K t₀ ok o. no_both (reply_of K peer tag)
      (ap (λ (k : Key). reply_of k peer tag) (sym (collects_key K s o.collects)) ∙ reply_of_lem peer tag s e) (not-true (reply_of K peer tag) ok);
}

-- ---- every call

unmoved : {c : Call} (st : Stack) → Touches (Spare c st) st st
unmoved st = untouched st st refl (le_refl st.head.now.clock)

eid_unmoved : {c : Call} (r : Result Eid Error) (st : Stack) → Touches (Spare c st) st (eid_set r st).stack
eid_unmoved (Ok own) st = untouched st (eid_set (Ok own) st).stack refl (le_refl st.head.now.clock)
eid_unmoved (Err err) st = unmoved st

module _ (B : ℕ) (w : World) where
  st : Stack
  st = w.stack

  pub kind : (c : Call) → Kind B w c
  unfolding step logged st
  kind (receive p) = here p
  kind (elsewhere n p) = there n p
  kind (update t) = silent (record { slots = touches_by st _ (time_spared t st) (update_touches t st); pool = refl; log = λ H. refl })
  kind (start_send q) =
      let s = send_same q st in
      silent (record { slots = untouched st (start_send_of q st).stack s.slots (rw s.clock (le_refl st.head.now.clock)); pool = refl; log = λ H. refl })
  kind (cancel_flow peer tag) =
      silent (record { slots = touches_by st _ (reply_spared peer tag st) (cancel_touches peer tag st); pool = refl; log = λ H. refl })
  kind (get_deferred source tag) =
      silent (record { slots = touches_by st _ (done_spared st) (source_touches source tag st); pool = refl; log = λ H. refl })
  kind (get_deferred_by_cookie cookies) =
      silent (record { slots = touches_by st _ (done_spared st) (deferred_touches (λ s. listed cookies s.cookie) st); pool = refl; log = λ H. refl })
  kind (fetch_message h n) = silent (record { slots = unmoved st; pool = refl; log = λ H. refl })
  kind (finished_receive h) =
      silent (record { slots = touches_by st _ (out_spared st) (handled_touches (λ s. blank_slot) (λ s e. refl) h st); pool = refl; log = λ H. refl })
  kind (return_handle h) =
      silent (record { slots = touches_by st _ (out_spared st) (handled_touches (with_state Done) (λ s e. refl) h st); pool = refl; log = λ H. refl })
  kind (set_cookie h cookie) =
      silent (record { slots = touches_by st _ (out_spared st) (handled_touches (with_slot_cookie cookie) (λ s e. out_idle s.state e) h st); pool = refl; log = λ H. refl })
  kind (set_eid n) = silent (record { slots = eid_unmoved (normal_eid n) st; pool = refl; log = λ H. refl })
  kind eid = silent (record { slots = unmoved st; pool = refl; log = λ H. refl })
  kind (is_local_dest p) = silent (record { slots = unmoved st; pool = refl; log = λ H. refl })
  kind (free_tags peer) = silent (record { slots = unmoved st; pool = refl; log = λ H. refl })
