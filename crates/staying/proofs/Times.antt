-- No stamp is later than the clock, after any calls from a new stack. So a message with no handle out stays while no call seeks it: no clock more than 6,000 ms
-- past its stamp, no cancel of its peer and tag, no lookup by what it is kept under. It does not matter what the calls find in other slots.
use Prim.Native.Nat.{ℕ, ◌+◌, ◌≤◌}
use native.Mathlib.Nat.{le_refl}
use native.Mathlib.Omega.{arith}
use mathlib.Core.Path.{◌≡◌, refl, sym, ap, subst, ◌∙◌}
use mathlib.Core.Bool.{Bool, true, not}
use mathlib.Core.List.{List, [], ◌∷◌}
use lib.Dec.{ltb}
use lib.ListN.{length}
use borrow.Author.Tests.{eqb-true, ltb-true, ltb-false, not-true}
use Rattle.octets.specs.Pick.{pick_cases}
use Rattle.octets.proofs.Bools.{bool_cases}
use Rattle.mctp.specs.declared.Eid.{Eid}
use Rattle.mctp.specs.declared.Tag.{Tag}
use Rattle.mctp.specs.Terms.{tag_of, is_owner}
use Rattle.slot.specs.declared.Reassembler.{Reassembler}
use Rattle.slot.specs.Slot.{is_done, is_reply, kept_under, listed}
use Rattle.slot.specs.Search.{earliest}
use Rattle.slot.proofs.Searches.{earliest_hit}
use Rattle.state.specs.declared.Sizes.{Sizes}
use Rattle.state.specs.Stack.{Stack, slot_at}
use Rattle.handles.specs.Handles.{Lookup, take_of, by_source_of}
use Rattle.estack.specs.Basics.{fresh_stack}
use Rattle.promises.specs.Calls.{Call, receive, elsewhere, update, start_send, cancel_flow, get_deferred, get_deferred_by_cookie, fetch_message, finished_receive, return_handle, set_cookie, set_eid, eid, is_local_dest, free_tags, World, step, steps}
use Rattle.promises.specs.Delivery.{message_at, all_of}
use Rattle.promises.proofs.Facts.{no_both, no_true, and_left, and_right, and_both, is_false}
use Rattle.promises.proofs.Clock.{receive_clock}
use Rattle.promises.proofs.Quiet.{Kind, here, there, silent, kind}
use Rattle.staying.specs.Staying.{tells_of, walks_to, ends, untouched, seeks, passes, Timely}
use Rattle.staying.proofs.Fates.{Fate, stays, goes, found, named, filled, fates}
use Rattle.staying.proofs.Stays.{short_stays, fresh_slot, fresh_short}
use Rattle.staying.proofs.Returned.{passed, in_time, returned_stays}

-- ---- no stamp is later than the clock

grows_by : (B : ℕ) (w : World) (c : Call) → Kind B w c → w.stack.head.now.clock ≤ (step B c w).stack.head.now.clock
unfolding step
grows_by B w c (here p) = rw (receive_clock B w.stack p (length w.pool)) (le_refl w.stack.head.now.clock)
grows_by B w c (there n p) = rw (receive_clock B w.stack p n) (le_refl w.stack.head.now.clock)
grows_by B w c (silent s) = s.slots.later

-- the clock does not go back
clock_grows : (B : ℕ) (c : Call) (w : World) → w.stack.head.now.clock ≤ (step B c w).stack.head.now.clock
clock_grows B c w = grows_by B w c (kind B w c)

fate_timely : (B : ℕ) (c : Call) (st : Stack) (k : ℕ) (s' : Reassembler) → (slot_at k st).stamp.clock ≤ st.head.now.clock → Fate B c st k s'
    → s'.stamp.clock ≤ st.head.now.clock
fate_timely B c st k s' q (stays e) = rw e q
fate_timely B c st k s' q (goes e o r) = rw e (omega arith)
fate_timely B c st k s' q (found e d r) = rw e q
fate_timely B c st k s' q (named h i z m l x) = omega arith
fate_timely B c st k s' q (filled d o l x) = x q

pub timely_stays : (B : ℕ) (calls : List Call) (w : World) → Timely w.stack → Timely (steps B calls w).stack
unfolding steps
timely_stays B [] w q = q
timely_stays B (c ∷ cs) w q =
    timely_stays B cs (step B c w)
    (λ k. omega (arith, clock_grows B c w, fate_timely B c w.stack k (slot_at k (step B c w).stack) (q k) ((fates B c w).each k)))

pub fresh_timely : (z : Sizes) (own : Eid) (mtu clock : ℕ) → Timely (fresh_stack z own mtu clock)
fresh_timely z own mtu clock k = rw (fresh_slot z own mtu clock k) (omega arith)

-- ---- a call that ends a message seeks it

take-seeks : (f : Reassembler → Bool) (i : ℕ) (st : Stack) → tells_of i (take_of (earliest f st.slots) st).said ≡ true → f (slot_at i st) ≡ true
unfolding take_of
take-seeks f i st =
    let k = earliest f st.slots in
    pick_cases (λ (r : Lookup). tells_of i r.said ≡ true → f (slot_at i st) ≡ true)
    (λ q e. subst (λ (j : ℕ). f (slot_at j st) ≡ true) (eqb-true k i e) (earliest_hit f st.slots (ltb-true k (length st.slots) q)).1)
    (λ _ e. absurd (no_true e))

source_seeks : (source : Eid) (tag : Tag) (i : ℕ) (st : Stack) → tells_of i (by_source_of source tag st).said ≡ true
    → kept_under source (is_owner tag) (tag_of tag) (slot_at i st) ≡ true
unfolding by_source_of
source_seeks source tag i st =
    pick_cases (λ (r : Lookup). tells_of i r.said ≡ true → kept_under source (is_owner tag) (tag_of tag) (slot_at i st) ≡ true) (λ _ e. absurd (no_true e))
    (λ _. take-seeks (kept_under source (is_owner tag) (tag_of tag)) i st)

pub ends-seeks : (i : ℕ) (c : Call) (st : Stack) → (slot_at i st).stamp.clock ≤ st.head.now.clock → ends i c st ≡ true → seeks (slot_at i st) c ≡ true
ends-seeks i (receive p) st q e = e
ends-seeks i (elsewhere n p) st q e = e
ends-seeks i (update t) st q e =
    let s = slot_at i st in
    bool_cases (ltb (s.stamp.clock + 6000) t) (λ y. y)
    (λ n. absurd (no_both (ends i (update t) st) e (in_time i t st q (ltb-false (s.stamp.clock + 6000) t n))))
ends-seeks i (start_send r) st q e = e
ends-seeks i (cancel_flow peer tag) st q e = and_right (walks_to i peer tag st) (is_reply peer tag (slot_at i st)) e
ends-seeks i (get_deferred source tag) st q e = source_seeks source tag i st e
ends-seeks i (get_deferred_by_cookie cookies) st q e = take-seeks (λ s. listed cookies s.cookie) i st e
ends-seeks i (fetch_message k n) st q e = e
ends-seeks i (finished_receive k) st q e = e
ends-seeks i (return_handle k) st q e = e
ends-seeks i (set_cookie k cookie) st q e = e
ends-seeks i (set_eid n) st q e = e
ends-seeks i eid st q e = e
ends-seeks i (is_local_dest p) st q e = e
ends-seeks i (free_tags peer) st q e = e

-- ---- a run of calls that do not seek it

run_passes : (B i : ℕ) (s : Reassembler) → is_done s ≡ true → (calls : List Call) (w : World) → slot_at i w.stack ≡ s → s.stamp.clock ≤ w.stack.head.now.clock
    → all_of (passes s) calls ≡ true → untouched B i calls w ≡ true
unfolding untouched
run_passes B i s d [] w e q ok = refl
run_passes B i s d (c ∷ cs) w e q ok =
    let n = not-true (seeks s c) (and_left (passes s c) (all_of (passes s) cs) ok) in
    let q' = subst (λ (x : Reassembler). x.stamp.clock ≤ w.stack.head.now.clock) (sym e) q in
    let x = is_false (ends i c w.stack) (λ y. no_both (seeks s c) (ap (λ (r : Reassembler). seeks r c) (sym e) ∙ ends-seeks i c w.stack q' y) n) in
    let one = passed B c w.stack i (slot_at i (step B c w).stack) (ap is_done e ∙ d) x ((fates B c w).each i) in
    and_both (not (ends i c w.stack)) (untouched B i cs (step B c w)) (ap not x)
    (run_passes B i s d cs (step B c w) (one ∙ e) (omega (arith, clock_grows B c w)) (and_right (passes s c) (all_of (passes s) cs) ok))

-- a message with no handle out, in slot i, with a stamp not later than the clock: a call that does not seek it does not end it, whatever else the calls do
pub unsought : (B i : ℕ) (calls : List Call) (w : World)
    → is_done (slot_at i w.stack) ≡ true → (slot_at i w.stack).stamp.clock ≤ w.stack.head.now.clock → all_of (passes (slot_at i w.stack)) calls ≡ true
    → untouched B i calls w ≡ true
unsought B i calls w d q ok = run_passes B i (slot_at i w.stack) d calls w refl q ok

-- from a new stack: after any calls a message with no handle out is still there, and the same, whatever calls come that do not seek it
pub fresh_returned : (B : ℕ) (z : Sizes) (own : Eid) (mtu clock : ℕ) (pool : List ℕ) (before : List Call) (i : ℕ) (calls : List Call)
    → let w = steps B before (record { stack = fresh_stack z own mtu clock; pool = pool }) in
    is_done (slot_at i w.stack) ≡ true → all_of (passes (slot_at i w.stack)) calls ≡ true
    → (is_done (slot_at i (steps B calls w).stack) ≡ true) × (message_at B i (steps B calls w) ≡ message_at B i w)
fresh_returned B z own mtu clock pool before i calls d ok =
    let w₀ : World = record { stack = fresh_stack z own mtu clock; pool = pool } in
    let w = steps B before w₀ in
    returned_stays B i calls w d (short_stays B before w₀ (fresh_short B z own mtu clock) i)
    (unsought B i calls w d (timely_stays B before w₀ (fresh_timely z own mtu clock) i) ok)
