-- A message that was put back, with its handle not out, stays as it is until a call ends it: a check of time that finds it expired, a cancel of its peer and
-- tag that comes to it, or a lookup that takes it (`ends`). Each of these does end it, and a lookup hands over that same message under a handle of its own.
use Prim.Native.Nat.{ℕ, zero, suc, ◌+◌, ◌*◌, ◌≤◌}
use native.Mathlib.Omega.{arith}
use mathlib.Core.Path.{◌≡◌, refl, sym, ap, subst, ◌∙◌}
use mathlib.Core.Bool.{Bool, true, false, not}
use mathlib.Core.List.{List, [], ◌∷◌}
use lib.Dec.{ltb}
use lib.ListN.{length, get_or, set, take, length-set}
use lib.Seq.{get_or-set_same}
use borrow.Author.Tests.{eq-eqb, eqb-true, ltb-true, ltb-false, not-true}
use Rattle.std.specs.Prelude.{None, Option, Some}
use Rattle.config.specs.Config.{slot_time}
use Rattle.octets.specs.Pick.{pick, pick_cases}
use Rattle.octets.proofs.Bools.{bool_cases}
use Rattle.octets.proofs.Each.{get_d_mapped}
use Rattle.mctp.specs.declared.Eid.{Eid}
use Rattle.mctp.specs.declared.TagValue.{TagValue}
use Rattle.mctp.specs.declared.Tag.{Tag}
use Rattle.mctp.specs.Terms.{tag_of, is_owner}
use Rattle.stamp.specs.Stamp.{timeout_of, is_expired}
use Rattle.slot.specs.declared.State.{State}
use Rattle.slot.specs.declared.State.TheVariants.{Empty, Collecting, Done, HandleOut}
use Rattle.slot.specs.declared.Reassembler.{Reassembler}
use Rattle.slot.specs.Slot.{blank_slot, out_state, is_done, handle_taken, handle_is, is_reply, kept_under, listed, time_in, slot_timeout, faded_slot, with_state}
use Rattle.slot.specs.Search.{earliest}
use Rattle.state.specs.declared.Sizes.{Sizes}
use Rattle.state.specs.Stack.{Stack, Kept, stack_of, slot_at}
use Rattle.slot_walks.specs.SlotWalks.{swept, blocked}
use Rattle.slot.specs.declared.ReceiveHandle.{ReceiveHandle}
use Rattle.slot.specs.Handle.{next_issue}
use Rattle.handles.specs.Handles as handles
use Rattle.handles.specs.Handles.{Lookup, is_good, message_in, take_of, by_source_of}
use Rattle.updating.specs.Update.{checked, update_of}
use Rattle.estack.specs.Basics.{cancel_of}
use Rattle.promises.specs.Calls.{Call, receive, elsewhere, update, start_send, cancel_flow, get_deferred, get_deferred_by_cookie, fetch_message, finished_receive, return_handle, set_cookie, set_eid, eid, is_local_dest, free_tags, World, step, steps}
use Rattle.promises.specs.Delivery.{Message, read_from, message_at, Hands, all_of}
use Rattle.promises.proofs.Facts.{no_both, no_true, and_left, and_right, is_false}
use Rattle.promises.proofs.Walks.{out_of, faded_blank}
use Rattle.promises.proofs.Quiet.{in_time as young}
use Rattle.promises.proofs.Stale.{good_is}
use Rattle.staying.specs.Staying.{spares, tells_of, checks_at, walks_to, ends, untouched, tells, Fetches}
use Rattle.staying.proofs.Fates.{done_in, clock_taken, check_due, Fate, stays, goes, found, named, filled, fates}
use Rattle.staying.proofs.Tail.{Whole, whole_stays, room_stays}
use Rattle.staying.proofs.Stays.{held_stays, kept_short, handed_held, Holds, message_by, fetch_good, handled_slot}

-- ---- one call

done_not_out : (m : ℕ) (s : Reassembler) → is_done s ≡ true → handle_is m s ≡ true → ⊥
done_not_out m s d y = no_both (handle_taken s) (ap out_state (out_of m s.state y)) (done_in s d)

done_whole : (s : Reassembler) → is_done s ≡ true → Whole s
done_whole s d n o = no_both (is_done s) d n

-- a call that does not end it leaves it
pub passed : (B : ℕ) (c : Call) (st : Stack) (k : ℕ) (s' : Reassembler) → is_done (slot_at k st) ≡ true → ends k c st ≡ false → Fate B c st k s' → s' ≡ slot_at k st
passed B c st k s' d n (stays e) = e
passed B c st k s' d n (goes e o r) = absurd (no_both (ends k c st) (r d) n)
passed B c st k s' d n (found e y r) = absurd (no_both (ends k c st) r n)
passed B c st k s' d n (named h i z m l x) = absurd (done_not_out h.issue (slot_at k st) d z)
passed B c st k s' d n (filled y o l x) = absurd (no_both (is_done (slot_at k st)) d y)

step-passes : (B i : ℕ) (c : Call) (w : World) (n : ℕ) → is_done (slot_at i w.stack) ≡ true → n ≤ B → ends i c w.stack ≡ false → Holds B i n w (step B c w)
step-passes B i c w n d l e = record {
  slot = passed B c w.stack i (slot_at i (step B c w).stack) d e ((fates B c w).each i);
  body = whole_stays B i n c w (done_whole (slot_at i w.stack) d) l;
}

-- a check of time within 6,000 ms of its stamp does not end it, where its stamp is not later than the clock
pub in_time : (i t : ℕ) (st : Stack) → (slot_at i st).stamp.clock ≤ st.head.now.clock → t ≤ (slot_at i st).stamp.clock + 6000 → ends i (update t) st ≡ false
in_time i t st a b =
    let s = slot_at i st in
    is_false (ends i (update t) st)
    (λ e. let y = and_left (checks_at t st) (is_expired (slot_timeout t s)) e in
    let q = ltb-false t st.head.now.clock (clock_taken t st y) in
    no_both (is_expired (slot_timeout t s)) (and_right (checks_at t st) (is_expired (slot_timeout t s)) e) (by s.state (young s.stamp t slot_time (omega arith) b)))
  where
    by : (f : State) → is_expired (timeout_of (slot_at i st).stamp t slot_time) ≡ false → is_expired (time_in f (timeout_of (slot_at i st).stamp t slot_time)) ≡ false
    by Empty e = refl
    by Collecting e = e
    by Done e = e
    by (HandleOut n) e = refl

-- ---- a call that ends it

update_ends : (i t : ℕ) (st : Stack) → ends i (update t) st ≡ true → slot_at i (update_of t st).stack ≡ blank_slot
unfolding update_of checked faded_slot pick
update_ends i t st e =
    let y = and_left (checks_at t st) (is_expired (slot_timeout t (slot_at i st))) e in
    let x = and_right (checks_at t st) (is_expired (slot_timeout t (slot_at i st))) e in
    rw (clock_taken t st y, check_due t st y) (get_d_mapped (faded_slot t) st.slots i blank_slot (faded_blank t) ∙ rw x)

module _ (peer : Eid) (tag : TagValue) where
  -- a reply that the walk comes to, with its handle not out, is freed
  swept_frees : (l : List Reassembler) (k : ℕ) → is_reply peer tag (get_or l k blank_slot) ≡ true → handle_taken (get_or l k blank_slot) ≡ false
      → blocked peer tag (take k l) ≡ false → get_or (swept peer tag l) k blank_slot ≡ blank_slot
  unfolding swept blocked pick
  swept_frees [] k y o b = refl
  swept_frees (s ∷ l) zero y o b = rw (y, o)
  swept_frees (s ∷ l) (suc k) y o b =
      bool_cases (is_reply peer tag s)
      (λ r. bool_cases (handle_taken s) (λ t. absurd (no_true (sym (rw (r, t) at b)))) (λ f. rw (r, f) (swept_frees l k y o (rw (r, f) at b))))
      (λ n. rw n (swept_frees l k y o (rw n at b)))

  cancel_ends : (i : ℕ) (st : Stack) → is_done (slot_at i st) ≡ true → ends i (cancel_flow peer tag) st ≡ true → slot_at i (cancel_of peer tag st).stack ≡ blank_slot
  unfolding cancel_of
  cancel_ends i st d e =
      let x = and_left (walks_to i peer tag st) (is_reply peer tag (slot_at i st)) e in
      let y = and_right (walks_to i peer tag st) (is_reply peer tag (slot_at i st)) e in
      let low = not-true (ltb 7 tag.0) (and_left (not (ltb 7 tag.0)) (not (blocked peer tag (take i st.slots))) x) in
      let b = not-true (blocked peer tag (take i st.slots)) (and_right (not (ltb 7 tag.0)) (not (blocked peer tag (take i st.slots))) x) in
      let freed = swept_frees st.slots i y (done_in (slot_at i st) d) b in
      pick_cases P (λ high. absurd (no_both (ltb 7 tag.0) high low)) (λ _. pick_cases P (λ _. freed) (λ _. freed))
    where
      P : handles.Handled → Type 0
      P o = slot_at i o.stack ≡ blank_slot

-- a lookup has put out the handle of the slot that it tells of
Looked : ℕ → Lookup → Type 0
Looked i r = tells_of i r.said ≡ true → is_done (slot_at i r.stack) ≡ false

take_ends : (i k : ℕ) (st : Stack) → Looked i (take_of k st)
unfolding take_of Looked
take_ends i k st =
    let s = with_state (HandleOut (next_issue st.head.issue)) (slot_at k st) in
    pick_cases (Looked i)
    (λ q e. subst (λ (j : ℕ). is_done (get_or (set st.slots k s) j blank_slot) ≡ false) (eqb-true k i e)
    (ap is_done (get_or-set_same st.slots k s blank_slot (ltb-true k (length st.slots) q))))
    (λ _ e. absurd (no_true e))

source_ends : (i : ℕ) (source : Eid) (tag : Tag) (st : Stack) → Looked i (by_source_of source tag st)
unfolding by_source_of Looked
source_ends i source tag st =
    pick_cases (Looked i) (λ _ e. absurd (no_true e)) (λ _. take_ends i (earliest (kept_under source (is_owner tag) (tag_of tag)) st.slots) st)

-- after a call that ends it, slot i holds no message with no handle out: `ends` is exact
pub ends-takes : (B i : ℕ) (c : Call) (w : World) → is_done (slot_at i w.stack) ≡ true → ends i c w.stack ≡ true → is_done (slot_at i (step B c w).stack) ≡ false
unfolding step Looked
ends-takes B i (receive p) w d e = absurd (no_true e)
ends-takes B i (elsewhere n p) w d e = absurd (no_true e)
ends-takes B i (update t) w d e = ap is_done (update_ends i t w.stack e)
ends-takes B i (start_send q) w d e = absurd (no_true e)
ends-takes B i (cancel_flow peer tag) w d e = ap is_done (cancel_ends peer tag i w.stack d e)
ends-takes B i (get_deferred source tag) w d e = source_ends i source tag w.stack e
ends-takes B i (get_deferred_by_cookie cookies) w d e = take_ends i (earliest (λ (s : Reassembler). listed cookies s.cookie) w.stack.slots) w.stack e
ends-takes B i (fetch_message k n) w d e = absurd (no_true e)
ends-takes B i (finished_receive k) w d e = absurd (no_true e)
ends-takes B i (return_handle k) w d e = absurd (no_true e)
ends-takes B i (set_cookie k cookie) w d e = absurd (no_true e)
ends-takes B i (set_eid n) w d e = absurd (no_true e)
ends-takes B i eid w d e = absurd (no_true e)
ends-takes B i (is_local_dest p) w d e = absurd (no_true e)
ends-takes B i (free_tags peer) w d e = absurd (no_true e)

-- ---- a run of calls

joined : (B i n : ℕ) (w w₁ w₂ : World) → Holds B i n w w₁ → Holds B i n w₁ w₂ → Holds B i n w w₂
joined B i n w w₁ w₂ a b = record { slot = b.slot ∙ a.slot; body = b.body ∙ a.body }

done_hold : (B i n : ℕ) → n ≤ B → (calls : List Call) (w : World) → is_done (slot_at i w.stack) ≡ true → untouched B i calls w ≡ true → Holds B i n w (steps B calls w)
unfolding steps untouched
done_hold B i n l [] w d ok = record { slot = refl; body = refl }
done_hold B i n l (c ∷ cs) w d ok =
    let e = not-true (ends i c w.stack) (and_left (not (ends i c w.stack)) (untouched B i cs (step B c w)) ok) in
    let one = step-passes B i c w n d l e in
    joined B i n w (step B c w) (steps B cs (step B c w)) one
    (done_hold B i n l cs (step B c w) (ap is_done one.slot ∙ d) (and_right (not (ends i c w.stack)) (untouched B i cs (step B c w)) ok))

-- a message with no handle out, in slot i: whatever calls come, if none of them ends it (a check of time that finds it expired, a cancel of its peer and tag
-- that comes to it, a lookup that takes it), it is still there with no handle out, and it is the same
pub returned_stays : (B i : ℕ) (calls : List Call) (w : World)
    → is_done (slot_at i w.stack) ≡ true → (slot_at i w.stack).len ≤ B → untouched B i calls w ≡ true
    → (is_done (slot_at i (steps B calls w).stack) ≡ true) × (message_at B i (steps B calls w) ≡ message_at B i w)
returned_stays B i calls w d l ok =
    let k = done_hold B i (slot_at i w.stack).len l calls w d ok in
    (ap is_done k.slot ∙ d, message_by B i w (steps B calls w) k)

-- in every state that a call accepts (`Kept`) no body is longer than its slot's part, so nothing but `Kept` is asked
pub kept_returned : (z : Sizes) (b : List ℕ) → Kept z b → (pool : List ℕ) (i : ℕ) (calls : List Call)
    → let w : World = record { stack = stack_of z b; pool = pool } in
    is_done (slot_at i w.stack) ≡ true → untouched z.body i calls w ≡ true
    → (is_done (slot_at i (steps z.body calls w).stack) ≡ true) × (message_at z.body i (steps z.body calls w) ≡ message_at z.body i w)
kept_returned z b ok pool i calls d rests = returned_stays z.body i calls (record { stack = stack_of z b; pool = pool }) d (kept_short z b ok i) rests

-- ---- a lookup

abbrev is_found : Option ReceiveHandle → Bool
is_found (Some x) = true
is_found None = false

not_found : {h : ReceiveHandle} → None ≡ Some h → ⊥
not_found e = no_true (ap is_found e)

-- a lookup has told h: the message of slot k is under it
record Takes (k : ℕ) (st : Stack) (h : ReceiveHandle) (r : Lookup) : Type 0 where
  pub index : h.index ≡ k
  pub slot : slot_at k r.stack ≡ with_state (HandleOut h.issue) (slot_at k st)
  pub count : length r.stack.slots ≡ length st.slots

takes : (k : ℕ) (st : Stack) (h : ReceiveHandle) → (take_of k st).said ≡ Some h → Takes k st h (take_of k st)
unfolding take_of
takes k st h =
    pick_cases (λ (r : Lookup). r.said ≡ Some h → Takes k st h r)
    (λ q e. let z : record { index = k; issue = next_issue st.head.issue } ≡ h = cc in
    let s = with_state (HandleOut (next_issue st.head.issue)) (slot_at k st) in
    record {
      index = ap (λ (x : ReceiveHandle). x.index) (sym z);
      slot = get_or-set_same st.slots k s blank_slot (ltb-true k (length st.slots) q) ∙ ap (λ (x : ReceiveHandle). with_state (HandleOut x.issue) (slot_at k st)) z;
      count = length-set st.slots k s;
    })
    (λ _ e. absurd (not_found e))

-- a fetch under the handle gives what stood in the slot
take_fetches : (B k : ℕ) (w : World) (h : ReceiveHandle) (r : Lookup) → B * length w.stack.slots ≤ length w.pool → Takes k w.stack h r
    → Fetches B h (message_at B h.index w) (record { stack = r.stack; pool = w.pool })
take_fetches B k w h r room t =
    let at : slot_at h.index r.stack ≡ with_state (HandleOut h.issue) (slot_at h.index w.stack) =
    subst (λ (x : ℕ). slot_at x r.stack ≡ with_state (HandleOut h.issue) (slot_at x w.stack)) (sym t.index) t.slot in
    record {
      facts = message_in B h.index (slot_at h.index r.stack);
      fetched = fetch_good B h r.stack (length w.pool) (good_is h r.stack ∙ (ap (handle_is h.issue) at ∙ eq-eqb h.issue h.issue refl)) (rw t.count room);
      message = ap (λ (s : Reassembler). read_from w.pool (message_in B h.index s)) at;
    }

source_takes : (source : Eid) (tag : Tag) (st : Stack) (h : ReceiveHandle) → (by_source_of source tag st).said ≡ Some h
    → Takes h.index st h (by_source_of source tag st)
unfolding by_source_of
source_takes source tag st h =
    pick_cases (λ (r : Lookup). r.said ≡ Some h → Takes h.index st h r) (λ _ e. absurd (not_found e))
    (λ _ e. own (takes (earliest (kept_under source (is_owner tag) (tag_of tag)) st.slots) st h e))
  where
    own : {k : ℕ} {r : Lookup} → Takes k st h r → Takes h.index st h r
    own {k = k} {r = r} t = subst (λ (x : ℕ). Takes x st h r) (sym t.index) t

-- whatever the world: a lookup that finds a message hands over, under the handle that it tells, the message as it stood in that slot
pub lookup_gives : (B : ℕ) (c : Call) (w : World) (h : ReceiveHandle) → B * length w.stack.slots ≤ length w.pool → tells c w.stack ≡ Some h
    → Fetches B h (message_at B h.index w) (step B c w)
unfolding step
lookup_gives B (receive p) w h room e = absurd (not_found e)
lookup_gives B (elsewhere n p) w h room e = absurd (not_found e)
lookup_gives B (update t) w h room e = absurd (not_found e)
lookup_gives B (start_send q) w h room e = absurd (not_found e)
lookup_gives B (cancel_flow peer tag) w h room e = absurd (not_found e)
lookup_gives B (get_deferred source tag) w h room e =
    take_fetches B h.index w h (by_source_of source tag w.stack) room (source_takes source tag w.stack h e)
lookup_gives B (get_deferred_by_cookie cookies) w h room e =
    let k = earliest (λ (s : Reassembler). listed cookies s.cookie) w.stack.slots in
    take_fetches B k w h (take_of k w.stack) room (takes k w.stack h e)
lookup_gives B (fetch_message k n) w h room e = absurd (not_found e)
lookup_gives B (finished_receive k) w h room e = absurd (not_found e)
lookup_gives B (return_handle k) w h room e = absurd (not_found e)
lookup_gives B (set_cookie k cookie) w h room e = absurd (not_found e)
lookup_gives B (set_eid n) w h room e = absurd (not_found e)
lookup_gives B eid w h room e = absurd (not_found e)
lookup_gives B (is_local_dest p) w h room e = absurd (not_found e)
lookup_gives B (free_tags peer) w h room e = absurd (not_found e)

-- a message with no handle out: after any calls that do not end it, a lookup that takes it hands over that same message
pub returned_found : (B i : ℕ) (calls : List Call) (c : Call) (h : ReceiveHandle) (w : World)
    → B * length w.stack.slots ≤ length w.pool → is_done (slot_at i w.stack) ≡ true → (slot_at i w.stack).len ≤ B → untouched B i calls w ≡ true
    → tells c (steps B calls w).stack ≡ Some h → h.index ≡ i → Fetches B h (message_at B i w) (step B c (steps B calls w))
returned_found B i calls c h w room d l ok e at =
    let w' = steps B calls w in
    subst (λ (m : Message). Fetches B h m (step B c w')) (ap (λ (j : ℕ). message_at B j w') at ∙ (returned_stays B i calls w d l ok).1)
    (lookup_gives B c w' h (room_stays B calls w room) e)

-- ---- a return

-- putting a message back leaves it as it is, with no handle out
record PutBack (B : ℕ) (h : ReceiveHandle) (w w' : World) : Type 0 where
  pub done : is_done (slot_at h.index w'.stack) ≡ true
  pub message : message_at B h.index w' ≡ message_at B h.index w
  pub len : (slot_at h.index w'.stack).len ≡ (slot_at h.index w.stack).len

put_back : (B : ℕ) (h : ReceiveHandle) (w : World) → is_good h w.stack ≡ true → PutBack B h w (step B (return_handle h) w)
unfolding step
put_back B h w g =
    let e = handled_slot (with_state Done) h w.stack g in
    record {
      done = ap is_done e;
      message = ap (λ (x : Reassembler). read_from w.pool (message_in B h.index x)) e;
      len = ap (λ (x : Reassembler). x.len) e;
    }

-- a message is put back under its good handle h; then come calls that do not end it; then a lookup takes it: the handle k that it tells fetches that same
-- message
pub comes_back : (B : ℕ) (h k : ReceiveHandle) (calls : List Call) (c : Call) (w : World)
    → is_good h w.stack ≡ true → (slot_at h.index w.stack).len ≤ B → B * length w.stack.slots ≤ length w.pool
    → untouched B h.index calls (step B (return_handle h) w) ≡ true
    → tells c (steps B calls (step B (return_handle h) w)).stack ≡ Some k → k.index ≡ h.index
    → Fetches B k (message_at B h.index w) (step B c (steps B calls (step B (return_handle h) w)))
unfolding steps
comes_back B h k calls c w g l room ok e at =
    let w₁ = step B (return_handle h) w in
    let q = put_back B h w g in
    subst (λ (m : Message). Fetches B k m (step B c (steps B calls w₁))) q.message
    (returned_found B h.index calls c k w₁ (room_stays B (return_handle h ∷ []) w room) q.done (rw q.len l) ok e at)

-- the whole way: a receive hands out m, calls come that spare its handle, it is put back, calls come that do not end it, and a lookup takes it. Then the handle
-- k that the lookup tells fetches m. Nothing is asked of the world
pub handed_back : (B : ℕ) (m : Message) (p : List ℕ) (w : World) (d : Hands B m p w) (before after : List Call) (c : Call) (k : ReceiveHandle)
    → let w₁ = step B (return_handle d.handle) (steps B before (step B (receive p) w)) in
    all_of (spares d.handle) before ≡ true → untouched B d.handle.index after w₁ ≡ true → tells c (steps B after w₁).stack ≡ Some k
    → k.index ≡ d.handle.index → Fetches B k m (step B c (steps B after w₁))
handed_back B m p w d before after c k ok rests e at =
    let w₀ = steps B before (step B (receive p) w) in
    let x = held_stays B d.handle m before (step B (receive p) w) (handed_held B m p w d) ok in
    subst (λ (n : Message). Fetches B k n (step B c (steps B after (step B (return_handle d.handle) w₀)))) x.message
    (comes_back B d.handle k after c w₀ x.good x.short x.long rests e at)
