-- A stale handle stays stale. The mistake would be to free a slot by a stale handle, when the slot may hold another message by then. A call refuses a handle
-- that is no good; here no call makes one good again. After a call a slot has the state it had, or it has no handle out, or its handle is out under the next
-- number of the one count; and while that count goes up, the next number is above every number that has gone out.
use Prim.Native.Nat.{ℕ, zero, suc, ◌≤◌, ◌<◌}
use native.Mathlib.Nat.{le_refl}
use native.Mathlib.Omega.{arith}
use mathlib.Core.Path.{◌≡◌, refl, sym, ap, subst, ◌∙◌}
use mathlib.Core.Logic.{⊎_elim}
use mathlib.Core.Bool.{Bool, true, false}
use mathlib.Core.List.{List, [], ◌∷◌, map}
use lib.ListN.{length, get_or, set}
use lib.Seq.{get_or-set_same}
use borrow.Author.Tests.{ltb-false, ne_eqb}
use Rattle.std.specs.Prelude.{Err, None, Ok, Option, Result, Some}
use Rattle.octets.specs.Pick.{pick, pick_cases}
use Rattle.octets.proofs.Each.{get_d_set}
use Rattle.mctp.specs.declared.Eid.{Eid}
use Rattle.mctp.specs.declared.TagValue.{TagValue}
use Rattle.mctp.specs.declared.Tag.{Tag}
use Rattle.mctp.specs.declared.Key.{Key}
use Rattle.mctp.specs.declared.Header.{Header}
use Rattle.mctp.specs.declared.Error.{Error}
use Rattle.mctp.specs.declared.Error.TheVariants.{InvalidInput}
use Rattle.mctp.specs.Terms.{normal_eid, tag_of, is_owner}
use Rattle.mctp.specs.Header.{header_of}
use Rattle.slot.specs.declared.State.{State}
use Rattle.slot.specs.declared.State.TheVariants.{Empty, Collecting, Done, HandleOut}
use Rattle.slot.specs.declared.Reassembler.{Reassembler}
use Rattle.slot.specs.Slot.{blank_slot, out_state, issue_is, handle_is, kept_under, listed, faded_slot, with_state, with_slot_cookie}
use Rattle.slot.specs.Search.{slot_for, earliest}
use Rattle.reassemble.specs.Enter.{enter, appended}
use Rattle.fragment.specs.Cutting.{body_in}
use Rattle.stamp.specs.Stamp.{next, clocked}
use Rattle.state.specs.Stack.{Stack, slot_at, with_slot, ticked, with_stamp}
use Rattle.slot_walks.specs.SlotWalks.{swept}
use Rattle.slot.specs.declared.ReceiveHandle.{ReceiveHandle}
use Rattle.slot.specs.Handle.{next_issue}
use Rattle.receiving.specs.Conclude.{said_of, issue_after}
use Rattle.receiving.specs.Receive.{Receipt, refuse, settled, land, gate_of, receive_at, receive_by, receive_of}
use Rattle.sending.specs.declared.Send.{Send}
use Rattle.handles.specs.Handles as handles
use Rattle.handles.specs.Handles.{Lookup, is_good, handled, finish_of, return_of, take_of, by_source_of}
use Rattle.sending.specs.Sends.{Sent, owned_tag, tag_for, send_as, send_tagged, start_send_of}
use Rattle.updating.specs.Update.{Update, checked, update_of}
use Rattle.estack.specs.Basics.{eid_set, cancel_of}
use Rattle.promises.specs.Calls.{Call, receive, elsewhere, update, start_send, cancel_flow, get_deferred, get_deferred_by_cookie, fetch_message, finished_receive, return_handle, set_cookie, set_eid, eid, is_local_dest, free_tags, World, step, steps, receipt}
use Rattle.promises.specs.Stale.{counting}
use Rattle.promises.proofs.Facts.{no_true, is_false}
use Rattle.promises.proofs.Slots.{passes_in}
use Rattle.promises.proofs.Outcome.{Took, Outcome, quiet, dropped, took, receive_outcome}
use Rattle.promises.proofs.Clock.{send_same}
use Rattle.reassemble.specs.declared.Intake.{Intake}
use Rattle.mctp.specs.declared.Tag.TheVariants.{Owned}
use Rattle.mctp.specs.declared.Tag.TheVariants.{Unowned}

-- ---- the count

next_grows : (n : ℕ) → n ≤ next_issue n
unfolding next_issue
next_grows n = pick_cases (λ (m : ℕ). n ≤ m) (λ _. omega arith) (λ _. le_refl n)

-- while the count goes up, the next number is above every number that has gone out
next_above : (st : Stack) (n : ℕ) → n ≤ st.head.issue → counting st → n < next_issue st.head.issue
unfolding next_issue
next_above st n h c =
    pick_cases (λ (m : ℕ). n < m) (λ _. omega arith) (λ e. omega (arith, ltb-false st.head.issue 18446744073709551615 e))

-- ---- what a call does to a slot and to the count

-- a slot's state before and after, and the count before
pub data Renumbered (n : ℕ) (f f' : State) : Type 0 where
  same : f' ≡ f → Renumbered n f f'
  idle : out_state f' ≡ false → Renumbered n f f'
  fresh : f' ≡ HandleOut (next_issue n) → Renumbered n f f'

pub record Numbers (st st' : Stack) : Type 0 where
  pub each : (k : ℕ) → Renumbered st.head.issue (slot_at k st).state (slot_at k st').state
  pub count : st.head.issue ≤ st'.head.issue

-- the slots stay
kept : (st st' : Stack) → st'.slots ≡ st.slots → st.head.issue ≤ st'.head.issue → Numbers st st'
kept st st' e n = record { each = λ k. same (ap (λ (l : List Reassembler). (get_or l k blank_slot).state) e); count = n }

unmoved : (st : Stack) → Numbers st st
unmoved st = kept st st refl (le_refl st.head.issue)

-- one slot is stored
stored : (st st' : Stack) (i : ℕ) (s : Reassembler) → st'.slots ≡ set st.slots i s → st.head.issue ≤ st'.head.issue
    → Renumbered st.head.issue (slot_at i st).state s.state → Numbers st st'
stored st st' i s e n r = record { each = λ k. rw e (⊎_elim (here k) (there k) (get_d_set st.slots i k s blank_slot)); count = n }
  where
    P : ℕ → Reassembler → Type 0
    P k x = Renumbered st.head.issue (slot_at k st).state x.state

    here : (k : ℕ) → (k ≡ i) × (get_or (set st.slots i s) k blank_slot ≡ s) → P k (get_or (set st.slots i s) k blank_slot)
    here k q = subst (P k) (sym q.1) (subst (λ (j : ℕ). P j s) (sym q.0) r)

    there : (k : ℕ) → get_or (set st.slots i s) k blank_slot ≡ slot_at k st → P k (get_or (set st.slots i s) k blank_slot)
    there k q = same (ap (λ (x : Reassembler). x.state) q)

-- ---- by a handle, by a lookup

handled_numbers : (f : Reassembler → Reassembler) (h : ReceiveHandle) (st : Stack)
    → Renumbered st.head.issue (slot_at h.index st).state (f (slot_at h.index st)).state → Numbers st (handled f h st).stack
unfolding handled
handled_numbers f h st r =
    pick_cases (λ (o : handles.Handled). Numbers st o.stack) (λ _. stored st _ h.index (f (slot_at h.index st)) refl (le_refl st.head.issue) r)
    (λ _. unmoved st)

take_numbers : (i : ℕ) (st : Stack) → Numbers st (take_of i st).stack
unfolding take_of
take_numbers i st =
    pick_cases (λ (r : Lookup). Numbers st r.stack)
    (λ _. stored st _ i (with_state (HandleOut (next_issue st.head.issue)) (slot_at i st)) refl (next_grows st.head.issue) (fresh refl)) (λ _. unmoved st)

source_numbers : (source : Eid) (tag : Tag) (st : Stack) → Numbers st (by_source_of source tag st).stack
unfolding by_source_of
source_numbers source tag st =
    pick_cases (λ (r : Lookup). Numbers st r.stack) (λ _. unmoved st) (λ _. take_numbers (earliest (kept_under source (is_owner tag) (tag_of tag)) st.slots) st)

-- ---- by a check of time, by a cancel: each slot stays or is emptied

module _ (n : ℕ) where
  Each : List Reassembler → List Reassembler → Type 0
  Each l l' = (k : ℕ) → Renumbered n (get_or l k blank_slot).state (get_or l' k blank_slot).state

  on : (s s' : Reassembler) (l l' : List Reassembler) → Renumbered n s.state s'.state → Each l l' → Each (s ∷ l) (s' ∷ l')
  unfolding Each
  on s s' l l' r e zero = r
  on s s' l l' r e (suc k) = e k

  faded_each : (t : ℕ) (l : List Reassembler) → Each l (map (faded_slot t) l)
  unfolding Each faded_slot
  faded_each t [] = λ k. same refl
  faded_each t (s ∷ l) =
      on s (faded_slot t s) l (map (faded_slot t) l) (pick_cases (λ (x : Reassembler). Renumbered n s.state x.state) (λ _. idle refl) (λ _. same refl))
      (faded_each t l)

  swept_each : (peer : Eid) (tag : TagValue) (l : List Reassembler) → Each l (swept peer tag l)
  unfolding Each swept
  swept_each peer tag [] = λ k. same refl
  swept_each peer tag (s ∷ l) =
      let rest = swept_each peer tag l in
      pick_cases (Each (s ∷ l))
      (λ _. pick_cases (Each (s ∷ l)) (λ _ k. same refl) (λ _. on s blank_slot l (swept peer tag l) (idle refl) rest))
      (λ _. on s s l (swept peer tag l) (same refl) rest)

update_numbers : (t : ℕ) (st : Stack) → Numbers st (update_of t st).stack
unfolding update_of checked Each
update_numbers t st =
    pick_cases P (λ _. unmoved st)
    (λ _. pick_cases P (λ _. kept st (with_stamp (clocked t st.head.now) st) refl (le_refl st.head.issue))
    (λ _. record { each = faded_each st.head.issue t st.slots; count = le_refl st.head.issue }))
  where
    P : Update → Type 0
    P u = Numbers st u.stack

cancel_numbers : (peer : Eid) (tag : TagValue) (st : Stack) → Numbers st (cancel_of peer tag st).stack
unfolding cancel_of Each
cancel_numbers peer tag st =
    let walk = swept_each st.head.issue peer tag st.slots in
    pick_cases P (λ _. unmoved st)
    (λ _. pick_cases P (λ _. record { each = walk; count = le_refl st.head.issue }) (λ _. record { each = walk; count = le_refl st.head.issue }))
  where
    P : handles.Handled → Type 0
    P o = Numbers st o.stack

-- ---- by a send, by a new EID: the head alone

module _ (q : Send) where
  as_count : (c : Result Tag Error) (st : Stack) → (send_as q c st).stack.head.issue ≡ st.head.issue
  unfolding send_as
  as_count (Ok tag) st = refl
  as_count (Err err) st = refl

  tag_count : (tag : Option Tag) (st : Stack) → (tag_for q.dest tag q.expires q.cookie st).stack.head.issue ≡ st.head.issue
  unfolding tag_for owned_tag
  tag_count None st = refl
  tag_count (Some (Owned tag)) st = refl
  tag_count (Some (Unowned tag)) st = refl

  tagged_count : (st : Stack) → (send_tagged q (tag_for q.dest q.tag q.expires q.cookie st)).stack.head.issue ≡ st.head.issue
  tagged_count st =
      let t = tag_for q.dest q.tag q.expires q.cookie st in
      as_count t.said t.stack ∙ tag_count q.tag st

  send_count : (st : Stack) → (start_send_of q st).stack.head.issue ≡ st.head.issue
  unfolding start_send_of
  send_count st = pick_cases P (λ _. refl) (λ _. pick_cases P (λ _. refl) (λ _. tagged_count st))
    where
      P : Sent → Type 0
      P s = s.stack.head.issue ≡ st.head.issue

  send_numbers : (st : Stack) → Numbers st (start_send_of q st).stack
  send_numbers st = kept st (start_send_of q st).stack (send_same q st).slots (rw (send_count st) (le_refl st.head.issue))

eid_numbers : (r : Result Eid Error) (st : Stack) → Numbers st (eid_set r st).stack
eid_numbers (Ok own) st = kept st (eid_set (Ok own) st).stack refl (le_refl st.head.issue)
eid_numbers (Err err) st = unmoved st

-- ---- by a receive

-- the count n goes up or stays, and a handle that is told of has the next number, which is then the count
pub record Counted (n : ℕ) (r : Receipt) : Type 0 where
  pub count : n ≤ r.stack.head.issue
  pub next : (h : ReceiveHandle) → r.said ≡ Ok (Some h) → (h.issue ≡ next_issue n) × (r.stack.head.issue ≡ next_issue n)

after_grows : (whole : Bool) (n : ℕ) → n ≤ issue_after whole n
after_grows true n = next_grows n
after_grows false n = le_refl n

told-next : (whole : Bool) (i n : ℕ) (h : ReceiveHandle) → said_of whole i (next_issue n) ≡ Ok (Some h)
    → (h.issue ≡ next_issue n) × (issue_after whole n ≡ next_issue n)
told-next true i n h e = let z : record { index = i; issue = next_issue n } ≡ h = cc in (ap (λ (x : ReceiveHandle). x.issue) (sym z), refl)
told-next false i n h e = (cc, cc)

refused : (err : Error) (st : Stack) → Counted st.head.issue (refuse err st)
refused err st = record { count = le_refl st.head.issue; next = λ h e. (cc, cc) }

module _ (B : ℕ) (st : Stack) (p : List ℕ) where
  settled-counted : (i : ℕ) (st₁ : Stack) (k : Key) (e : Result Intake Error) → Counted st₁.head.issue (settled B i st₁ k p e)
  settled-counted i st₁ k (Err err) = refused err (with_slot i blank_slot st₁)
  settled-counted i st₁ k (Ok t) = record { count = after_grows t.whole st₁.head.issue; next = told-next t.whole i st₁.head.issue }

  land-counted : (i : ℕ) (st₁ : Stack) (h : Header) (g : Result Reassembler Error) → Counted st₁.head.issue (land B i st₁ h p g)
  unfolding land
  land-counted i st₁ h (Err err) = refused err st₁
  land-counted i st₁ h (Ok s) = settled-counted i (ticked st₁) h.key (enter B (next st₁.head.now) (next_issue st₁.head.issue) s h p)

  at_counted : (i : ℕ) (r : Option Header) → Counted st.head.issue (receive_at B i st p r)
  unfolding receive_at
  at_counted i None = pick_cases (λ (x : Stack). Counted st.head.issue (refuse InvalidInput x)) (λ _. refused InvalidInput (ticked st)) (λ _. refused InvalidInput st)
  at_counted i (Some h) =
      pick_cases (λ (x : Stack). Counted st.head.issue (land B i x h p (gate_of i st h))) (λ _. land-counted i (ticked st) h (gate_of i st h))
      (λ _. land-counted i st h (gate_of i st h))

  pub receive_counted : (room : ℕ) → Counted st.head.issue (receive_of B st room p)
  unfolding receive_of receive_by
  receive_counted room =
      pick_cases P (λ _. refused _ st) (λ _. pick_cases P (λ _. at_counted (slot_for (header_of p) st.slots) (header_of p)) (λ _. refused _ st))
    where
      P : Receipt → Type 0
      P = Counted st.head.issue

  -- the slot that takes a packet: still collecting, or with the told handle out
  taken_next : (r : Receipt) (i : ℕ) (h : Header) (t : Took B st p r i h) → Counted st.head.issue r
      → (eom : Bool) → r.said ≡ said_of eom i t.issue
      → Renumbered st.head.issue (slot_at i st).state (appended eom t.now t.issue (length (body_in p)) t.base).state
  unfolding pick
  taken_next r i h t c true e = fresh (ap HandleOut (c.next (record { index = i; issue = t.issue }) e).0)
  taken_next r i h t c false e = idle (ap out_state t.is_base.state)

  outcome_numbers : (r : Receipt) → Outcome B st p r → Counted st.head.issue r → Numbers st r.stack
  outcome_numbers r (quiet e b f) c = kept st r.stack e c.count
  outcome_numbers r (dropped i h read src e b f) c = stored st r.stack i blank_slot e c.count (idle refl)
  outcome_numbers r (took i h t) c =
      stored st r.stack i (appended h.eom t.now t.issue (length (body_in p)) t.base) t.slots c.count (taken_next r i h t c h.eom t.said)

  receive_numbers : (room : ℕ) → Numbers st (receive_of B st room p).stack
  receive_numbers room = outcome_numbers (receive_of B st room p) (receive_outcome B st p room) (receive_counted room)

-- ---- every call

pub numbers : (B : ℕ) (c : Call) (w : World) → Numbers w.stack (step B c w).stack
unfolding step
numbers B (receive p) w = receive_numbers B w.stack p (length w.pool)
numbers B (elsewhere n p) w = receive_numbers B w.stack p n
numbers B (update t) w = update_numbers t w.stack
numbers B (start_send q) w = send_numbers q w.stack
numbers B (cancel_flow peer tag) w = cancel_numbers peer tag w.stack
numbers B (get_deferred source tag) w = source_numbers source tag w.stack
numbers B (get_deferred_by_cookie cookies) w = take_numbers (earliest (λ s. listed cookies s.cookie) w.stack.slots) w.stack
numbers B (fetch_message h n) w = unmoved w.stack
numbers B (finished_receive h) w = handled_numbers (λ s. blank_slot) h w.stack (idle refl)
numbers B (return_handle h) w = handled_numbers (with_state Done) h w.stack (idle refl)
numbers B (set_cookie h cookie) w = handled_numbers (with_slot_cookie cookie) h w.stack (same refl)
numbers B (set_eid n) w = eid_numbers (normal_eid n) w.stack
numbers B eid w = unmoved w.stack
numbers B (is_local_dest p) w = unmoved w.stack
numbers B (free_tags peer) w = unmoved w.stack

-- the count never goes down
pub count_grows : (B : ℕ) (c : Call) (w : World) → w.stack.head.issue ≤ (step B c w).stack.head.issue
count_grows B c w = (numbers B c w).count

pub counts_grow : (B : ℕ) (calls : List Call) (w : World) → w.stack.head.issue ≤ (steps B calls w).stack.head.issue
unfolding steps
counts_grow B [] w = le_refl w.stack.head.issue
counts_grow B (c ∷ cs) w = omega (arith, count_grows B c w, counts_grow B cs (step B c w))

-- the number of a handle that goes out is the count after it: with a received message, and with a deferred one
pub told-counted : (B : ℕ) (p : List ℕ) (w : World) (h : ReceiveHandle) → (receipt B p w).said ≡ Ok (Some h) → h.issue ≡ (step B (receive p) w).stack.head.issue
unfolding step
told-counted B p w h e = let n = (receive_counted B w.stack p (length w.pool)).next h e in n.0 ∙ sym n.1

pub found_counted : (st : Stack) (i : ℕ) (h : ReceiveHandle) → (take_of i st).said ≡ Some h → h.issue ≡ (take_of i st).stack.head.issue
unfolding take_of
found_counted st i h =
    pick_cases (λ (r : Lookup). r.said ≡ Some h → h.issue ≡ r.stack.head.issue)
    (λ _ e. let z : record { index = i; issue = next_issue st.head.issue } ≡ h = cc in ap (λ (x : ReceiveHandle). x.issue) (sym z))
    (λ _ e. cc)

-- ---- a handle

out_in : (h : ReceiveHandle) (st : Stack) → handle_is h.issue (slot_at h.index st) ≡ true → h.index < length st.slots
out_in h st y = passes_in (handle_is h.issue) blank_slot refl st.slots h.index y

-- a handle is good exactly where it is out: past the slots no handle is out
pub good_is : (h : ReceiveHandle) (st : Stack) → is_good h st ≡ handle_is h.issue (slot_at h.index st)
unfolding is_good
good_is h st =
    pick_cases (λ (b : Bool). b ≡ handle_is h.issue (slot_at h.index st)) (λ _. refl)
    (λ e. sym (is_false (handle_is h.issue (slot_at h.index st))
    (λ y. omega (arith, ltb-false h.index (length st.slots) e, out_in h st y))))

pub idle_issue : (m : ℕ) (f : State) → out_state f ≡ false → issue_is m f ≡ false
idle_issue m Empty e = refl
idle_issue m Collecting e = refl
idle_issue m Done e = refl
idle_issue m (HandleOut n) e = absurd (no_true (sym e))

stale_state : (m n : ℕ) (f f' : State) → Renumbered n f f' → m < next_issue n → issue_is m f ≡ false → issue_is m f' ≡ false
stale_state m n f f' (same e) l x = ap (issue_is m) e ∙ x
stale_state m n f f' (idle e) l x = idle_issue m f' e
stale_state m n f f' (fresh e) l x = ap (issue_is m) e ∙ ne_eqb (next_issue n) m (λ q. omega arith)

stale_step : (B : ℕ) (h : ReceiveHandle) (c : Call) (w : World) → h.issue ≤ w.stack.head.issue → counting w.stack
    → is_good h w.stack ≡ false → is_good h (step B c w).stack ≡ false
stale_step B h c w l g e =
    good_is h (step B c w).stack
    ∙ stale_state h.issue w.stack.head.issue (slot_at h.index w.stack).state (slot_at h.index (step B c w).stack).state
    ((numbers B c w).each h.index) (next_above w.stack h.issue l g) (sym (good_is h w.stack) ∙ e)

-- a handle that is no good, and whose number has gone out, is never good again: whatever calls come, while the count of handles has not come to its end
pub stale_stays : (B : ℕ) (h : ReceiveHandle) (calls : List Call) (w : World)
    → h.issue ≤ w.stack.head.issue → is_good h w.stack ≡ false → counting (steps B calls w).stack
    → is_good h (steps B calls w).stack ≡ false
unfolding steps
stale_stays B h [] w l e g = e
stale_stays B h (c ∷ cs) w l e g =
    let up = count_grows B c w in
    stale_stays B h cs (step B c w) (omega (arith, up)) (stale_step B h c w l (omega (arith, up, counts_grow B cs (step B c w))) e) g

-- finish and return use a handle up
handled_stale : (f : Reassembler → Reassembler) (h : ReceiveHandle) (st : Stack) → out_state (f (slot_at h.index st)).state ≡ false
    → is_good h (handled f h st).stack ≡ false
unfolding handled
handled_stale f h st n =
    let s = f (slot_at h.index st) in
    pick_cases (λ (o : handles.Handled). is_good h o.stack ≡ false)
    (λ e. good_is h (with_slot h.index s st)
    ∙ ap (handle_is h.issue) (get_or-set_same st.slots h.index s blank_slot (out_in h st (sym (good_is h st) ∙ e))) ∙ idle_issue h.issue s.state n)
    (λ e. e)

pub finished_stale : (h : ReceiveHandle) (st : Stack) → is_good h (finish_of h st).stack ≡ false
finished_stale h st = handled_stale (λ s. blank_slot) h st refl

pub returned_stale : (h : ReceiveHandle) (st : Stack) → is_good h (return_of h st).stack ≡ false
returned_stale h st = handled_stale (with_state Done) h st refl
