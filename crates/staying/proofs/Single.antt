-- The flows of a stack: after any calls from a new one, each peer and tag has at most one place. So a flow that is removed is gone: after a cancel that
-- succeeds none stands for that peer and tag, and after a receive that hands out a reply none stands for its source and tag.
use Prim.Native.Nat.{ℕ, zero, suc, ◌≤◌}
use native.Mathlib.Omega.{arith}
use mathlib.Core.Path.{◌≡◌, refl, sym, ap, subst, ◌∙◌}
use mathlib.Core.Bool.{Bool, true, false}
use mathlib.Core.List.{List, [], ◌∷◌}
use lib.ListN.{length, get_or, replicate}
use Rattle.std.specs.Prelude.{Err, None, Ok, Option, Result, Some}
use Rattle.config.specs.Config.{flow_count}
use Rattle.octets.specs.Pick.{pick, pick_false, pick_cases}
use Rattle.octets.proofs.Bools.{no_both}
use Rattle.mctp.specs.declared.Eid.{Eid}
use Rattle.mctp.specs.declared.TagValue.{TagValue}
use Rattle.mctp.specs.declared.Tag.{Tag}
use Rattle.mctp.specs.declared.Header.{Header}
use Rattle.mctp.specs.Terms.{normal_eid, tag_of, is_owner}
use Rattle.mctp.specs.Header.{header_of}
use Rattle.mctp.specs.Answer.{gives, answer_no}
use Rattle.mctp.proofs.Answers.{error_some}
use Rattle.stamp.specs.Stamp.{next}
use Rattle.flows.specs.declared.Flow.{Flow}
use Rattle.flows.specs.Table.{no_flow, is_flow, standing, removed, Unique}
use Rattle.flows.proofs.TableLaws.{free_not, removed_unique, removed_gone, set_flow_unique, faded_unique}
use Rattle.slot.specs.declared.Reassembler.{Reassembler}
use Rattle.slot.specs.Slot.{blank_slot, is_empty, kept_under, listed, with_state, with_slot_cookie}
use Rattle.slot.specs.declared.State.TheVariants.{Done}
use Rattle.slot.specs.Search.{slot_for, earliest}
use Rattle.reassemble.specs.Enter.{enter}
use Rattle.state.specs.declared.Sizes.{Sizes}
use Rattle.state.specs.Stack.{Stack, slot_at, ticked}
use Rattle.flow_walks.specs.FlowWalks.{table_of}
use Rattle.slot.specs.declared.ReceiveHandle.{ReceiveHandle}
use Rattle.slot.specs.Handle.{next_issue, handle_words}
use Rattle.receiving.specs.Conclude.{said_of, flows_after}
use Rattle.receiving.specs.Receive.{Receipt, settled, land, counted_opening, gate_of, receive_at, receive_by, receive_of}
use Rattle.handles.specs.Handles as handles
use Rattle.handles.specs.Handles.{Lookup, done_as, handled, take_of, by_source_of}
use Rattle.sending.specs.declared.Send.{Send}
use Rattle.sending.specs.Sends.{Sent, owned_tag, tag_for, send_as, send_tagged, start_send_of}
use Rattle.updating.specs.Update.{Update, checked, update_of}
use Rattle.estack.specs.Basics.{fresh_stack, eid_set, cancel_of}
use Rattle.promises.specs.Calls.{Call, receive, elsewhere, update, start_send, cancel_flow, get_deferred, get_deferred_by_cookie, fetch_message, finished_receive, return_handle, set_cookie, set_eid, eid, is_local_dest, free_tags, World, step, steps, receipt, performed}
use Rattle.promises.proofs.Facts.{no_true, is_false}
use Rattle.promises.proofs.Fetch.{as_told}
use Rattle.staying.specs.Staying.{flows_of}
use Rattle.mctp.specs.declared.Error.{Error}
use Rattle.reassemble.specs.declared.Intake.{Intake}
use Rattle.mctp.specs.declared.Tag.TheVariants.{Owned}
use Rattle.mctp.specs.declared.Tag.TheVariants.{Unowned}

-- ---- a receive: the flows stay, or a message is handed out and its reply's flow goes

abbrev hands : Result (Option ReceiveHandle) Error → Bool
hands (Ok None) = false
hands (Ok (Some h)) = true
hands (Err err) = false

data Flowing (l : List Flow) (p : List ℕ) (r : Receipt) : Type 0 where
  stay : r.stack.flows ≡ l → hands r.said ≡ false → Flowing l p r
  close : (h : Header) → header_of p ≡ Some h → r.stack.flows ≡ pick h.key.owner l (removed h.key.source h.key.tag l) → Flowing l p r

module _ (B : ℕ) (p : List ℕ) where
  by_whole : (l : List Flow) (h : Header) → header_of p ≡ Some h → (whole : Bool) (i n : ℕ) (r : Receipt)
      → r.stack.flows ≡ flows_after whole h.key l → r.said ≡ said_of whole i n → Flowing l p r
  by_whole l h read true i n r e f = close h read e
  by_whole l h read false i n r e f = stay e (ap hands f)

  settled_flowing : (h : Header) → header_of p ≡ Some h → (i : ℕ) (st : Stack) (e : Result Intake Error) → Flowing st.flows p (settled B i st h.key p e)
  settled_flowing h read i st (Err err) = stay refl refl
  settled_flowing h read i st (Ok t) = by_whole st.flows h read t.whole i (next_issue st.head.issue) (settled B i st h.key p (Ok t)) refl refl

  land_flowing : (h : Header) → header_of p ≡ Some h → (i : ℕ) (st : Stack) (g : Result Reassembler Error) → Flowing st.flows p (land B i st h p g)
  unfolding land
  land_flowing h read i st (Err err) = stay refl refl
  land_flowing h read i st (Ok s) =
      settled_flowing h read i (ticked st) (enter B (next st.head.now) (next_issue st.head.issue) s h p)

  at_flowing : (i : ℕ) (st : Stack) (r : Option Header) → header_of p ≡ r → Flowing st.flows p (receive_at B i st p r)
  unfolding receive_at
  at_flowing i st None read = stay (pick_cases (λ (x : Stack). x.flows ≡ st.flows) (λ _. refl) (λ _. refl)) refl
  at_flowing i st (Some h) read =
      subst (λ (l : List Flow). Flowing l p (receive_at B i st p (Some h))) (pick_cases (λ (x : Stack). x.flows ≡ st.flows) (λ _. refl) (λ _. refl))
      (land_flowing h read i (counted_opening (is_empty (slot_at i st)) st) (gate_of i st h))

  receive_flowing : (st : Stack) (room : ℕ) → Flowing st.flows p (receive_of B st room p)
  unfolding receive_of receive_by
  receive_flowing st room =
      pick_cases P (λ _. stay refl refl) (λ _. pick_cases P (λ _. at_flowing (slot_for (header_of p) st.slots) st (header_of p) refl) (λ _. stay refl refl))
    where
      P : Receipt → Type 0
      P = Flowing st.flows p

  flowing_unique : (l : List Flow) (r : Receipt) → Unique l → Flowing l p r → Unique r.stack.flows
  flowing_unique l r u (stay e n) = subst Unique (sym e) u
  flowing_unique l r u (close h read e) =
      subst Unique (sym e) (pick_cases Unique (λ _. u) (λ _. removed_unique h.key.source h.key.tag l u))

  receive_unique : (st : Stack) (room : ℕ) → Unique st.flows → Unique (receive_of B st room p).stack.flows
  receive_unique st room u = flowing_unique st.flows (receive_of B st room p) u (receive_flowing st room)

-- ---- a send

module _ (q : Send) where
  as_flows : (c : Result Tag Error) (st : Stack) → (send_as q c st).stack.flows ≡ st.flows
  unfolding send_as
  as_flows (Ok tag) st = refl
  as_flows (Err err) st = refl

  owned_unique : (wish : Option TagValue) (st : Stack) → Unique st.flows → Unique (owned_tag q.dest wish q.expires q.cookie st).stack.flows
  unfolding owned_tag
  owned_unique wish st u = set_flow_unique q.dest q.expires q.cookie (table_of st) wish u

  tag_unique : (tag : Option Tag) (st : Stack) → Unique st.flows → Unique (tag_for q.dest tag q.expires q.cookie st).stack.flows
  unfolding tag_for
  tag_unique None st u = owned_unique None st u
  tag_unique (Some (Owned tag)) st u = owned_unique (Some tag) st u
  tag_unique (Some (Unowned tag)) st u = u

  tagged_unique : (st : Stack) → Unique st.flows → Unique (send_tagged q (tag_for q.dest q.tag q.expires q.cookie st)).stack.flows
  tagged_unique st u =
      let t = tag_for q.dest q.tag q.expires q.cookie st in
      subst Unique (sym (as_flows t.said t.stack)) (tag_unique q.tag st u)

  send_unique : (st : Stack) → Unique st.flows → Unique (start_send_of q st).stack.flows
  unfolding start_send_of
  send_unique st u = pick_cases P (λ _. u) (λ _. pick_cases P (λ _. u) (λ _. tagged_unique st u))
    where
      P : Sent → Type 0
      P s = Unique s.stack.flows

-- ---- every other call

update_unique : (t : ℕ) (st : Stack) → Unique st.flows → Unique (update_of t st).stack.flows
unfolding update_of checked
update_unique t st u = pick_cases P (λ _. u) (λ _. pick_cases P (λ _. u) (λ _. faded_unique t st.flows u))
  where
    P : Update → Type 0
    P x = Unique x.stack.flows

cancel_unique : (peer : Eid) (tag : TagValue) (st : Stack) → Unique st.flows → Unique (cancel_of peer tag st).stack.flows
unfolding cancel_of
cancel_unique peer tag st u = pick_cases P (λ _. u) (λ _. pick_cases P (λ _. u) (λ _. removed_unique peer tag st.flows u))
  where
    P : handles.Handled → Type 0
    P o = Unique o.stack.flows

handled_flows : (f : Reassembler → Reassembler) (h : ReceiveHandle) (st : Stack) → (handled f h st).stack.flows ≡ st.flows
unfolding handled
handled_flows f h st = pick_cases (λ (o : handles.Handled). o.stack.flows ≡ st.flows) (λ _. refl) (λ _. refl)

take_flows : (i : ℕ) (st : Stack) → (take_of i st).stack.flows ≡ st.flows
unfolding take_of
take_flows i st = pick_cases (λ (r : Lookup). r.stack.flows ≡ st.flows) (λ _. refl) (λ _. refl)

source_flows : (source : Eid) (tag : Tag) (st : Stack) → (by_source_of source tag st).stack.flows ≡ st.flows
unfolding by_source_of
source_flows source tag st =
    pick_cases (λ (r : Lookup). r.stack.flows ≡ st.flows) (λ _. refl) (λ _. take_flows (earliest (kept_under source (is_owner tag) (tag_of tag)) st.slots) st)

eid_flows : (r : Result Eid Error) (st : Stack) → (eid_set r st).stack.flows ≡ st.flows
eid_flows (Ok own) st = refl
eid_flows (Err err) st = refl

unique_step : (B : ℕ) (c : Call) (w : World) → Unique w.stack.flows → Unique (step B c w).stack.flows
unfolding step
unique_step B (receive p) w u = receive_unique B p w.stack (length w.pool) u
unique_step B (elsewhere n p) w u = receive_unique B p w.stack n u
unique_step B (update t) w u = update_unique t w.stack u
unique_step B (start_send q) w u = send_unique q w.stack u
unique_step B (cancel_flow peer tag) w u = cancel_unique peer tag w.stack u
unique_step B (get_deferred source tag) w u = subst Unique (sym (source_flows source tag w.stack)) u
unique_step B (get_deferred_by_cookie cookies) w u =
    subst Unique (sym (take_flows (earliest (λ (s : Reassembler). listed cookies s.cookie) w.stack.slots) w.stack)) u
unique_step B (fetch_message h n) w u = u
unique_step B (finished_receive h) w u = subst Unique (sym (handled_flows (λ s. blank_slot) h w.stack)) u
unique_step B (return_handle h) w u = subst Unique (sym (handled_flows (with_state Done) h w.stack)) u
unique_step B (set_cookie h cookie) w u = subst Unique (sym (handled_flows (with_slot_cookie cookie) h w.stack)) u
unique_step B (set_eid n) w u = subst Unique (sym (eid_flows (normal_eid n) w.stack)) u
unique_step B eid w u = u
unique_step B (is_local_dest p) w u = u
unique_step B (free_tags peer) w u = u

-- whatever calls come, each peer and tag has at most one flow if it had at most one before
pub unique_stays : (B : ℕ) (calls : List Call) (w : World) → Unique w.stack.flows → Unique (steps B calls w).stack.flows
unfolding steps
unique_stays B [] w u = u
unique_stays B (c ∷ cs) w u = unique_stays B cs (step B c w) (unique_step B c w u)

-- ---- from a new stack

none_unique : (n : ℕ) → Unique (replicate n no_flow)
unfolding Unique
none_unique n p u i j yi yj = absurd (no_both yi (ap (is_flow p u) (none n i) ∙ free_not p u no_flow refl))
  where
    none : (n i : ℕ) → get_or (replicate n no_flow) i no_flow ≡ no_flow
    none zero i = refl
    none (suc n) zero = refl
    none (suc n) (suc i) = none n i

fresh_unique : (B : ℕ) (z : Sizes) (own : Eid) (mtu clock : ℕ) (pool : List ℕ) (calls : List Call)
    → Unique (steps B calls (record { stack = fresh_stack z own mtu clock; pool = pool })).stack.flows
fresh_unique B z own mtu clock pool calls = unique_stays B calls (record { stack = fresh_stack z own mtu clock; pool = pool }) (none_unique flow_count)

-- ---- how many they are

module _ (peer : Eid) (tag : TagValue) where
  none_counted : (l : List Flow) → ((j : ℕ) → is_flow peer tag (get_or l j no_flow) ≡ false) → flows_of peer tag l ≡ 0
  unfolding flows_of
  none_counted [] n = refl
  none_counted (f ∷ l) n = pick_cases (λ (k : ℕ). k ≡ 0) (λ y. absurd (no_both y (n 0))) (λ _. none_counted l (λ j. n (suc j)))

  pub unique_counted : (l : List Flow) → Unique l → flows_of peer tag l ≤ 1
  unfolding flows_of Unique
  unique_counted [] u = omega arith
  unique_counted (f ∷ l) u =
      pick_cases (λ (n : ℕ). n ≤ 1)
      (λ y. omega (arith, none_counted l (λ j. is_false _ (λ z. let q = u peer tag 0 (suc j) y z in omega arith))))
      (λ _. unique_counted l (λ p t i j a b. let q = u p t (suc i) (suc j) a b in omega arith))

-- after any calls from a new stack each peer and tag has at most one flow
pub flows_single : (B : ℕ) (z : Sizes) (own : Eid) (mtu clock : ℕ) (pool : List ℕ) (calls : List Call) (peer : Eid) (tag : TagValue)
    → flows_of peer tag (steps B calls (record { stack = fresh_stack z own mtu clock; pool = pool })).stack.flows ≤ 1
flows_single B z own mtu clock pool calls peer tag =
    unique_counted peer tag (steps B calls (record { stack = fresh_stack z own mtu clock; pool = pool })).stack.flows (fresh_unique B z own mtu clock pool calls)

-- ---- a flow that was removed is gone

abbrev well : Result (Unit {0}) Error → Bool
well (Ok tt) = true
well (Err err) = false

-- after a cancel that succeeds no flow stands for that peer and tag
pub cancelled_gone : (peer : Eid) (tag : TagValue) (st : Stack) → Unique st.flows → (cancel_of peer tag st).said ≡ Ok tt
    → standing peer tag (cancel_of peer tag st).stack.flows ≡ false
unfolding cancel_of
cancelled_gone peer tag st u =
    pick_cases P (λ _ e. absurd (no_true (ap well e)))
    (λ _. pick_cases P (λ _ e. absurd (no_true (ap well e))) (λ _ e. removed_gone peer tag st.flows u))
  where
    P : handles.Handled → Type 0
    P o = o.said ≡ Ok tt → standing peer tag o.stack.flows ≡ false

flowing_gone : (l : List Flow) (p : List ℕ) (r : Receipt) → Unique l → (g : Header) → header_of p ≡ Some g → g.key.owner ≡ false → hands r.said ≡ true → Flowing l p r
    → standing g.key.source g.key.tag r.stack.flows ≡ false
flowing_gone l p r u g read o y (stay e n) = absurd (no_both y n)
flowing_gone l p r u g read o y (close h again e) =
    let same : Some g ≡ Some h = sym read ∙ again in
    let k : g ≡ h = cc in
    let e' : r.stack.flows ≡ pick g.key.owner l (removed g.key.source g.key.tag l) =
    e ∙ ap (λ (x : Header). pick x.key.owner l (removed x.key.source x.key.tag l)) (sym k) in
    ap (standing g.key.source g.key.tag) (e' ∙ pick_false g.key.owner _ _ o) ∙ removed_gone g.key.source g.key.tag l u

-- after a receive, lent whatever pool, that hands out a reply (TO = 0) no flow stands for its source and tag
pub reply_gone : (B : ℕ) (st : Stack) (room : ℕ) (p : List ℕ) (h : ReceiveHandle) (g : Header) → Unique st.flows → header_of p ≡ Some g → g.key.owner ≡ false
    → (receive_of B st room p).said ≡ Ok (Some h) → standing g.key.source g.key.tag (receive_of B st room p).stack.flows ≡ false
reply_gone B st room p h g u read o e = flowing_gone st.flows p (receive_of B st room p) u g read o (ap hands e) (receive_flowing B p st room)

-- both, after any calls from a new stack, by what is answered, with no further premise
module _ (B : ℕ) (z : Sizes) (own : Eid) (mtu clock : ℕ) (pool : List ℕ) (calls : List Call) where
  abbrev reached : World
  reached = steps B calls (record { stack = fresh_stack z own mtu clock; pool = pool })

  as_done : (d : Result (Unit {0}) Error) → done_as d ≡ gives [] → d ≡ Ok tt
  as_done (Ok tt) e = refl
  as_done (Err err) e = absurd (error_some err (ap answer_no e))

  pub cancel_clears : (peer : Eid) (tag : TagValue) → performed B (cancel_flow peer tag) reached ≡ gives []
      → standing peer tag (step B (cancel_flow peer tag) reached).stack.flows ≡ false
  unfolding step
  cancel_clears peer tag e =
      cancelled_gone peer tag reached.stack (fresh_unique B z own mtu clock pool calls) (as_done (cancel_of peer tag reached.stack).said e)

  pub reply_clears : (p : List ℕ) (h : ReceiveHandle) (g : Header) → header_of p ≡ Some g → g.key.owner ≡ false → performed B (receive p) reached ≡ gives (handle_words h)
      → standing g.key.source g.key.tag (step B (receive p) reached).stack.flows ≡ false
  unfolding step
  reply_clears p h g read o e =
      reply_gone B reached.stack (length reached.pool) p h g (fresh_unique B z own mtu clock pool calls) read o (as_told (receipt B p reached).said h e)
