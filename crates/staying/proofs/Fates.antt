-- What a call does to a slot: nothing; it empties one whose handle is not out; a lookup takes one that is done; a finish, a return or a set cookie changes
-- the one whose handle it names; a packet fills one that collects or is empty. A slot that is done goes only by a call that ends it (`ends`). No call grows
-- a body past B or stamps a slot later than the clock, and the number of slots stays.
use Prim.Native.Nat.{ℕ, zero, suc, ◌≤◌}
use native.Mathlib.Nat.{le_refl}
use native.Mathlib.Omega.{arith}
use mathlib.Core.Path.{◌≡◌, refl, sym, ap, subst, ◌∙◌}
use mathlib.Core.Logic.{⊎_elim}
use mathlib.Core.Bool.{Bool, true, false, not}
use mathlib.Core.List.{List, [], ◌∷◌}
use lib.Dec.{ltb}
use lib.ListN.{length, get_or, set, take, length-set, length-map}
use borrow.Author.Tests.{ltb-true, eq-eqb, not-true}
use Rattle.std.specs.Prelude.{Err, Ok, Result}
use Rattle.octets.specs.Pick.{pick_true, pick_false, pick_cases}
use Rattle.octets.proofs.Bools.{bool_cases}
use Rattle.octets.proofs.Each.{get_d_set, get_d_mapped}
use Rattle.mctp.specs.declared.Eid.{Eid}
use Rattle.mctp.specs.declared.TagValue.{TagValue}
use Rattle.mctp.specs.declared.Tag.{Tag}
use Rattle.mctp.specs.declared.Header.{Header}
use Rattle.mctp.specs.Terms.{normal_eid, tag_of, is_owner}
use Rattle.stamp.specs.Stamp.{clocked, is_expired}
use Rattle.stamp.specs.declared.Timeout.{Timeout}
use Rattle.slot.specs.declared.State.{State}
use Rattle.slot.specs.declared.State.TheVariants.{Empty, Collecting, Done, HandleOut}
use Rattle.slot.specs.declared.Reassembler.{Reassembler}
use Rattle.slot.specs.Slot.{blank_slot, out_state, done_state, handle_taken, handle_is, is_done, is_reply, kept_under, listed, time_in, faded_slot, with_state, with_slot_cookie}
use Rattle.slot.specs.Search.{earliest}
use Rattle.slot.proofs.Searches.{earliest_hit}
use Rattle.reassemble.specs.Enter.{appended}
use Rattle.flows.specs.declared.Flow.{Flow}
use Rattle.flows.specs.Table.{removed}
use Rattle.fragment.specs.Cutting.{body_in}
use Rattle.state.specs.Stack.{Stack, slot_at, with_stamp}
use Rattle.slot_walks.specs.SlotWalks.{swept, blocked}
use Rattle.slot.specs.declared.ReceiveHandle.{ReceiveHandle}
use Rattle.slot.specs.Handle.{next_issue}
use Rattle.receiving.specs.Receive.{Receipt}
use Rattle.handles.specs.Handles as handles
use Rattle.handles.specs.Handles.{Lookup, handled, take_of, by_source_of}
use Rattle.sending.specs.Sends.{start_send_of}
use Rattle.updating.specs.Update.{Update, checked, update_of}
use Rattle.estack.specs.Basics.{eid_set, cancel_of}
use Rattle.promises.specs.Calls.{Call, receive, elsewhere, update, start_send, cancel_flow, get_deferred, get_deferred_by_cookie, fetch_message, finished_receive, return_handle, set_cookie, set_eid, eid, is_local_dest, free_tags, World, step}
use Rattle.promises.proofs.Facts.{no_both, no_true, and_left, and_both}
use Rattle.promises.proofs.Slots.{parts}
use Rattle.promises.proofs.Gate.{lands_open}
use Rattle.promises.proofs.Outcome.{Base, Outcome, quiet, dropped, took, receive_outcome}
use Rattle.promises.proofs.Clock.{send_same}
use Rattle.promises.proofs.Walks.{faded_blank, swept-count}
use Rattle.promises.proofs.Stale.{good_is}
use Rattle.staying.specs.Staying.{same_handle, names, tells_of, checks_at, walks_to, ends}
use Rattle.mctp.specs.declared.Error.{Error}

-- ---- what a call looks at

-- no time runs for a slot whose handle is out
timed_in : (f : State) (t : Timeout) → is_expired (time_in f t) ≡ true → out_state f ≡ false
timed_in Empty t e = refl
timed_in Collecting t e = refl
timed_in Done t e = refl
timed_in (HandleOut n) t e = absurd (no_true e)

pub done_in : (s : Reassembler) → is_done s ≡ true → handle_taken s ≡ false
done_in s d = go s.state d
  where
    go : (f : State) → done_state f ≡ true → out_state f ≡ false
    go Empty e = refl
    go Collecting e = refl
    go Done e = refl
    go (HandleOut n) e = absurd (no_true e)

-- a packet stamps its slot with the clock, or leaves its stamp
base_early : (st : Stack) (i : ℕ) (h : Header) (p : List ℕ) (s : Reassembler) → Base st i h p s → (slot_at i st).stamp.clock ≤ st.head.now.clock
    → s.stamp.clock ≤ st.head.now.clock
base_early st i h p s b q =
    bool_cases h.som (λ y. rw (b.stamp y) (le_refl st.head.now.clock))
    (λ n. subst (λ (x : Reassembler). x.stamp.clock ≤ st.head.now.clock) (sym (b.goes_on n)) q)

-- ---- the fates

-- slot k of the stack st, and what it is after the call c
pub data Fate (B : ℕ) (c : Call) (st : Stack) (k : ℕ) (s' : Reassembler) : Type 0 where
  stays : s' ≡ slot_at k st → Fate B c st k s'
  goes : s' ≡ blank_slot → handle_taken (slot_at k st) ≡ false → (is_done (slot_at k st) ≡ true → ends k c st ≡ true) → Fate B c st k s'
  found : s' ≡ with_state (HandleOut (next_issue st.head.issue)) (slot_at k st) → is_done (slot_at k st) ≡ true → ends k c st ≡ true → Fate B c st k s'
  named : (h : ReceiveHandle) → h.index ≡ k → handle_is h.issue (slot_at k st) ≡ true → names h c ≡ true → s'.len ≤ (slot_at k st).len
      → s'.stamp.clock ≤ (slot_at k st).stamp.clock → Fate B c st k s'
  filled : is_done (slot_at k st) ≡ false → handle_taken (slot_at k st) ≡ false → s'.len ≤ B
      → ((slot_at k st).stamp.clock ≤ st.head.now.clock → s'.stamp.clock ≤ st.head.now.clock) → Fate B c st k s'

pub record Fates (B : ℕ) (c : Call) (st st' : Stack) : Type 0 where
  pub each : (k : ℕ) → Fate B c st k (slot_at k st')
  pub count : length st'.slots ≡ length st.slots

module _ (B : ℕ) (c : Call) (st : Stack) where
  -- the slots stay
  kept : (st' : Stack) → st'.slots ≡ st.slots → Fates B c st st'
  kept st' e = record { each = λ k. stays (ap (λ (l : List Reassembler). get_or l k blank_slot) e); count = ap length e }

  -- one slot is stored
  stored : (st' : Stack) (i : ℕ) (s : Reassembler) → st'.slots ≡ set st.slots i s → Fate B c st i s → Fates B c st st'
  stored st' i s e r = record {
    each = λ k. rw e (⊎_elim (here k) (λ q. stays q) (get_d_set st.slots i k s blank_slot));
    count = ap length e ∙ length-set st.slots i s;
  }
    where
      here : (k : ℕ) → (k ≡ i) × (get_or (set st.slots i s) k blank_slot ≡ s) → Fate B c st k (get_or (set st.slots i s) k blank_slot)
      here k q = subst (Fate B c st k) (sym q.1) (subst (λ (j : ℕ). Fate B c st j s) (sym q.0) r)

  -- ---- by a handle, by a lookup

  handled_fates : (f : Reassembler → Reassembler) (h : ReceiveHandle) → names h c ≡ true → (f (slot_at h.index st)).len ≤ (slot_at h.index st).len
      → (f (slot_at h.index st)).stamp.clock ≤ (slot_at h.index st).stamp.clock → Fates B c st (handled f h st).stack
  unfolding handled
  handled_fates f h y l m =
      pick_cases (λ (o : handles.Handled). Fates B c st o.stack)
      (λ e. stored _ h.index (f (slot_at h.index st)) refl (named h refl (sym (good_is h st) ∙ e) y l m)) (λ _. kept st refl)

  -- a lookup whose answer tells what it ends
  Looks : Lookup → Type 0
  Looks r = ((k : ℕ) → tells_of k r.said ≡ true → ends k c st ≡ true) → Fates B c st r.stack

  take_fates : (f : Reassembler → Bool) → Looks (take_of (earliest f st.slots) st)
  unfolding take_of Looks
  take_fates f =
      let i = earliest f st.slots in
      pick_cases Looks
      (λ e why. stored _ i (with_state (HandleOut (next_issue st.head.issue)) (slot_at i st)) refl
      (found refl (earliest_hit f st.slots (ltb-true i (length st.slots) e)).0 (why i (eq-eqb i i refl))))
      (λ _ _. kept st refl)

  source_fates : (source : Eid) (tag : Tag) → Looks (by_source_of source tag st)
  unfolding by_source_of Looks
  source_fates source tag = pick_cases Looks (λ _ _. kept st refl) (λ _. take_fates (kept_under source (is_owner tag) (tag_of tag)))

  eid_fates : (r : Result Eid Error) → Fates B c st (eid_set r st).stack
  eid_fates (Ok own) = kept (eid_set (Ok own) st).stack refl
  eid_fates (Err err) = kept st refl

  -- ---- by a packet: into a slot that collects or is empty

  receive_fates : (p : List ℕ) (r : Receipt) → Outcome B st p r → Fates B c st r.stack
  receive_fates p r (quiet e b f) = kept r.stack e
  receive_fates p r (dropped i h read src e b f) =
      let o = lands_open st.slots i h src in
      stored r.stack i blank_slot e (goes refl o.1 (λ d. absurd (no_both _ d o.0)))
  receive_fates p r (took i h t) =
      let o = lands_open st.slots i h t.source in
      let s = appended h.eom t.now t.issue (length (body_in p)) t.base in
      stored r.stack i s t.slots
      (filled o.0 o.1 (rw (parts h.eom t.now t.issue (length (body_in p)) t.base).len t.fits)
      (λ q. pick_cases (λ (x : Reassembler). x.stamp.clock ≤ st.head.now.clock) (λ _. rw t.clock (le_refl st.head.now.clock)) (λ _. base_early st i h p t.base t.is_base q)))

-- ---- by a check of time

-- time is checked where the clock is taken and the planned check has come, and nowhere else
due : (t : ℕ) (st : Stack) → ltb t st.head.now.clock ≡ false → ltb t st.head.next_timeout ≡ false → checks_at t st ≡ true
due t st a b = cc

pub clock_taken : (t : ℕ) (st : Stack) → checks_at t st ≡ true → ltb t st.head.now.clock ≡ false
clock_taken t st y = not-true (ltb t st.head.now.clock) (and_left (not (ltb t st.head.now.clock)) (not (ltb t st.head.next_timeout)) y)

pub check_due : (t : ℕ) (st : Stack) → checks_at t st ≡ true → ltb t st.head.next_timeout ≡ false
check_due t st y = not-true (ltb t st.head.next_timeout) (rw (clock_taken t st y) at y)

checked_fate : (B t : ℕ) (st : Stack) (k : ℕ) → checks_at t st ≡ true → Fate B (update t) st k (faded_slot t (slot_at k st))
unfolding faded_slot
checked_fate B t st k y =
    pick_cases (Fate B (update t) st k) (λ e. goes refl (timed_in (slot_at k st).state _ e) (λ _. and_both (checks_at t st) _ y e)) (λ _. stays refl)

update_fates : (B t : ℕ) (st : Stack) → Fates B (update t) st (update_of t st).stack
unfolding update_of checked
update_fates B t st =
    pick_cases P (λ _. kept B (update t) st st refl)
    (λ a. pick_cases P (λ _. kept B (update t) st (with_stamp (clocked t st.head.now) st) refl)
    (λ b. record {
      each = λ k. rw (get_d_mapped (faded_slot t) st.slots k blank_slot (faded_blank t)) (checked_fate B t st k (due t st a b));
      count = length-map st.slots (faded_slot t);
    }))
  where
    P : Update → Type 0
    P u = Fates B (update t) st u.stack

-- ---- by a cancel

-- a cancel's walk: a slot stays, or it is a reply that the walk comes to, and is freed
data Walked (peer : Eid) (tag : TagValue) (l : List Reassembler) (k : ℕ) (s' : Reassembler) : Type 0 where
  passed : s' ≡ get_or l k blank_slot → Walked peer tag l k s'
  freed : s' ≡ blank_slot → handle_taken (get_or l k blank_slot) ≡ false → is_reply peer tag (get_or l k blank_slot) ≡ true → blocked peer tag (take k l) ≡ false
      → Walked peer tag l k s'

module _ (peer : Eid) (tag : TagValue) where
  later : (s : Reassembler) (l : List Reassembler) (k : ℕ) (s' : Reassembler) → blocked peer tag (s ∷ take k l) ≡ blocked peer tag (take k l)
      → Walked peer tag l k s' → Walked peer tag (s ∷ l) (suc k) s'
  later s l k s' e (passed q) = passed q
  later s l k s' e (freed q o y b) = freed q o y (e ∙ b)

  swept_walks : (l : List Reassembler) (k : ℕ) → Walked peer tag l k (get_or (swept peer tag l) k blank_slot)
  unfolding swept blocked
  swept_walks [] k = passed refl
  swept_walks (s ∷ l) zero = pick_cases P (λ y. pick_cases P (λ _. passed refl) (λ o. freed refl o y refl)) (λ _. passed refl)
    where
      P : List Reassembler → Type 0
      P r = Walked peer tag (s ∷ l) 0 (get_or r 0 blank_slot)
  swept_walks (s ∷ l) (suc k) =
      pick_cases P
      (λ y. pick_cases P (λ _. passed refl) (λ o. later s l k _ (pick_true _ _ _ y ∙ pick_false _ _ _ o) (swept_walks l k)))
      (λ n. later s l k _ (pick_false _ _ _ n) (swept_walks l k))
    where
      P : List Reassembler → Type 0
      P r = Walked peer tag (s ∷ l) (suc k) (get_or r (suc k) blank_slot)

  cancel_fates : (B : ℕ) (st : Stack) → Fates B (cancel_flow peer tag) st (cancel_of peer tag st).stack
  unfolding cancel_of
  cancel_fates B st =
      pick_cases P (λ _. kept B (cancel_flow peer tag) st st refl)
      (λ n. pick_cases P (λ _. walk n st.flows) (λ _. walk n (removed peer tag st.flows)))
    where
      P : handles.Handled → Type 0
      P o = Fates B (cancel_flow peer tag) st o.stack

      fate : ltb 7 tag.0 ≡ false → (k : ℕ) (s' : Reassembler) → Walked peer tag st.slots k s' → Fate B (cancel_flow peer tag) st k s'
      fate n k s' (passed q) = stays q
      fate n k s' (freed q o y b) = goes q o (λ _. and_both (walks_to k peer tag st) _ (and_both _ _ (ap not n) (ap not b)) y)

      walk : ltb 7 tag.0 ≡ false → (l : List Flow) → P (record { stack = record { head = st.head; flows = l; slots = swept peer tag st.slots }; said = Ok tt })
      walk n l = record { each = λ k. fate n k _ (swept_walks st.slots k); count = swept-count peer tag st.slots }

-- ---- every call

same_self : (h : ReceiveHandle) → same_handle h h ≡ true
same_self h = rw (eq-eqb h.index h.index refl, eq-eqb h.issue h.issue refl)

pub fates : (B : ℕ) (c : Call) (w : World) → Fates B c w.stack (step B c w).stack
unfolding step Looks
fates B (receive p) w = receive_fates B (receive p) w.stack p _ (receive_outcome B w.stack p (length w.pool))
fates B (elsewhere n p) w = receive_fates B (elsewhere n p) w.stack p _ (receive_outcome B w.stack p n)
fates B (update t) w = update_fates B t w.stack
fates B (start_send q) w = kept B (start_send q) w.stack (start_send_of q w.stack).stack (send_same q w.stack).slots
fates B (cancel_flow peer tag) w = cancel_fates peer tag B w.stack
fates B (get_deferred source tag) w = source_fates B (get_deferred source tag) w.stack source tag (λ k e. e)
fates B (get_deferred_by_cookie cookies) w = take_fates B (get_deferred_by_cookie cookies) w.stack (λ s. listed cookies s.cookie) (λ k e. e)
fates B (fetch_message h n) w = kept B (fetch_message h n) w.stack w.stack refl
fates B (finished_receive h) w = handled_fates B (finished_receive h) w.stack (λ s. blank_slot) h (same_self h) (omega arith) (omega arith)
fates B (return_handle h) w = handled_fates B (return_handle h) w.stack (with_state Done) h (same_self h) (le_refl (slot_at h.index w.stack).len)
    (le_refl (slot_at h.index w.stack).stamp.clock)
fates B (set_cookie h cookie) w = handled_fates B (set_cookie h cookie) w.stack (with_slot_cookie cookie) h (same_self h) (le_refl (slot_at h.index w.stack).len)
    (le_refl (slot_at h.index w.stack).stamp.clock)
fates B (set_eid n) w = eid_fates B (set_eid n) w.stack (normal_eid n)
fates B eid w = kept B eid w.stack w.stack refl
fates B (is_local_dest p) w = kept B (is_local_dest p) w.stack w.stack refl
fates B (free_tags peer) w = kept B (free_tags peer) w.stack w.stack refl
