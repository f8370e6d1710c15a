-- Demand 3, second half: what a closing packet hands out is exactly the bytes taken under its key, from the newest opening packet to that one.
-- The story of the slot says so, and every call keeps it.
use Prim.Native.Nat.{ℕ, ◌*◌, ◌≤◌}
use mathlib.Core.Path.{◌≡◌, refl, sym, ap, ◌∙◌, subst}
use mathlib.Core.Bool.{Bool, true, false}
use mathlib.Core.List.{List, [], ◌∷◌}
use lib.ListN.{length}
use Rattle.std.specs.Prelude.{None, Ok, Option, Result, Some}
use Rattle.octets.specs.Pick.{pick, pick_cases}
use Rattle.mctp.specs.declared.Key.{Key}
use Rattle.mctp.specs.declared.Header.{Header}
use Rattle.mctp.specs.Header.{header_of}
use Rattle.slot.specs.declared.Reassembler.{Reassembler}
use Rattle.slot.specs.Slot.{is_empty}
use Rattle.state.specs.Stack.{Stack}
use Rattle.mctp.specs.Answer.{gives}
use Rattle.slot.specs.declared.ReceiveHandle.{ReceiveHandle}
use Rattle.receiving.specs.Conclude.{said_of}
use Rattle.slot.specs.Handle.{handle_words}
use Rattle.receiving.specs.Receive.{Receipt, receive_of}
use Rattle.handles.specs.Handles.{message_in}
use Rattle.promises.specs.Calls.{Call, receive, World, step, steps, receipt, performed, has_key}
use Rattle.promises.specs.Delivery.{read_from, message_at, all_of}
use Rattle.promises.specs.History.{Taken, takes, note, noted, logged, history, lent_here, since, gathered, Exactly}
use Rattle.promises.proofs.Facts.{no_both, no_true, and_left, and_right, same_refl}
use Rattle.promises.proofs.Outcome.{Took, Outcome, quiet, dropped, took, receive_outcome}
use Rattle.promises.proofs.Quiet.{Kind, here, there, silent, kind}
use Rattle.promises.proofs.Fetch.{as_told}
use Rattle.promises.proofs.Since.{since_all}
use Rattle.promises.proofs.Story.{Story, Inv}
use Rattle.promises.proofs.Taking.{taken, pool_now, slot_now, own, here_slot, key_now}
use Rattle.promises.proofs.Runs.{after, log, took_log, took_pool, steps_inv, fresh_inv}
use Rattle.mctp.specs.declared.Error.{Error}

-- the handle belongs to the slot that took the packet
pub index_is : (b : Bool) (i n : ℕ) (h : ReceiveHandle) → said_of b i n ≡ Ok (Some h) → i ≡ h.index
index_is true i n h e = let z : record { index = i; issue = n } ≡ h = cc in ap (λ (x : ReceiveHandle). x.index) z
index_is false i n h e = let z : i ≡ h.index = cc in z

-- a slot's story tells of the message in it
story_exact : (B : ℕ) (pool p : List ℕ) (i : ℕ) (H : List Taken) (s : Reassembler) (h : Header) → header_of p ≡ Some h → s.key ≡ h.key
    → Story B pool i (since h.key H) s → Exactly (read_from pool (message_in B i s)) p H
story_exact B pool p i H s h read key o =
    let o' : Story B pool i (since s.key H) s = subst (λ (K : Key). Story B pool i (since K H) s) (sym key) o in
    record {
      closing = ap (has_key s.key) read ∙ rw key (same_refl h.key);
      body = o'.body;
      turn = o'.turn;
      opened = o'.opened;
    }

module _ (B : ℕ) (H : List Taken) (w : World) (v : Inv B H w) (p : List ℕ) (h : ReceiveHandle) where
  took_exact : (r : Receipt) (i : ℕ) (g : Header) (t : Took B w.stack p r i g)
      → Exactly (message_at B i (record { stack = r.stack; pool = pool_now B H w v p true r i g t })) p (taken B H w v p true r i g t ∷ H)
  took_exact r i g t =
      subst (λ (s : Reassembler). Exactly (read_from (pool_now B H w v p true r i g t) (message_in B i s)) p (taken B H w v p true r i g t ∷ H))
      (sym (here_slot B H w v p true r i g t))
      (story_exact B (pool_now B H w v p true r i g t) p i (taken B H w v p true r i g t ∷ H) (slot_now B H w v p true r i g t) g t.read
      (key_now B H w v p true r i g t) (own B H w v p true r i g t))

  outcome_exact : (r : Receipt) → Outcome B w.stack p r → r.said ≡ Ok (Some h)
      → Exactly (message_at B h.index (after B H w v p true r)) p (log B H w v p true r)
  outcome_exact r (quiet s b n) e = absurd (no_both (takes r.said) (rw e) n)
  outcome_exact r (dropped i g read src s b n) e = absurd (no_both (takes r.said) (rw e) n)
  outcome_exact r (took i g t) e =
      subst (λ (j : ℕ). Exactly (message_at B j (after B H w v p true r)) p (log B H w v p true r)) (index_is g.eom i t.issue h (sym t.said ∙ e))
      (subst (λ (x : List Taken). Exactly (message_at B i (after B H w v p true r)) p x) (sym (took_log B H w v p true r i g t))
      (subst (λ (d : List ℕ). Exactly (message_at B i (record { stack = r.stack; pool = d })) p (taken B H w v p true r i g t ∷ H))
      (sym (took_pool B H w v p true r i g t)) (took_exact r i g t)))

-- Demand 3, second half: from a stack with no slot taken and a pool that is long enough, after any calls at all, whenever a packet hands out a message, it is
-- exactly what was taken under its key since the newest opening packet: numbered in turn modulo four, of the opening packet's type, IC and cookie, and, if
-- all of it came with the pool that we watch, with those bytes for its body
pub told : (B : ℕ) (w₀ : World) → all_of is_empty w₀.stack.slots ≡ true → B * length w₀.stack.slots ≤ length w₀.pool
    → (cs : List Call) (p : List ℕ) (h : ReceiveHandle) → performed B (receive p) (steps B cs w₀) ≡ gives (handle_words h)
    → Exactly (message_at B h.index (step B (receive p) (steps B cs w₀))) p (logged B (receive p) (steps B cs w₀) (history B cs w₀ []))
unfolding step logged pick
told B w₀ e room cs p h said =
    let w = steps B cs w₀ in
    outcome_exact B (history B cs w₀ []) w (steps_inv B cs [] w₀ (fresh_inv B w₀ e room)) p h
    (receive_of B w.stack (length w.pool) p) (receive_outcome B w.stack p (length w.pool)) (as_told (receipt B p w).said h said)

-- ---- where every receive is lent that pool

abbrev lent : List Taken → Bool
lent H = all_of (λ t. t.here) H

noted_here : (said : Result (Option ReceiveHandle) Error) (st : Stack) (r : Option Header) (p : List ℕ) (H : List Taken) → lent H ≡ true → lent (pick (takes said) (note st true r p H) H) ≡ true
noted_here said st r p H a = pick_cases (λ (l : List Taken). lent l ≡ true) (λ _. one r) (λ _. a)
  where
    one : (r : Option Header) → lent (note st true r p H) ≡ true
    one (Some h) = a
    one None = a

logged_here : (B : ℕ) (c : Call) → lent_here c ≡ true → (w : World) (H : List Taken) → lent H ≡ true → lent (logged B c w H) ≡ true
unfolding logged noted
logged_here B c q w H a = go c (kind B w c) q
  where
    go : (c : Call) → Kind B w c → lent_here c ≡ true → lent (logged B c w H) ≡ true
    go c (here p) q = noted_here (receipt B p w).said w.stack (header_of p) p H a
    go c (there n p) q = absurd (no_true q)
    go c (silent s) q = rw (s.log H) a

history_here : (B : ℕ) (cs : List Call) → all_of lent_here cs ≡ true → (w : World) (H : List Taken) → lent H ≡ true → lent (history B cs w H) ≡ true
unfolding history
history_here B [] q w H a = a
history_here B (c ∷ cs) q w H a =
    history_here B cs (and_right (lent_here c) (all_of lent_here cs) q) (step B c w) (logged B c w H)
    (logged_here B c (and_left (lent_here c) (all_of lent_here cs) q) w H a)

-- the same, with that pool at every receive: the body is those bytes, and no condition is left
pub told_here : (B : ℕ) (w₀ : World) → all_of is_empty w₀.stack.slots ≡ true → B * length w₀.stack.slots ≤ length w₀.pool
    → (cs : List Call) → all_of lent_here cs ≡ true → (p : List ℕ) (h : ReceiveHandle) → performed B (receive p) (steps B cs w₀) ≡ gives (handle_words h)
    → (message_at B h.index (step B (receive p) (steps B cs w₀))).body
    ≡ gathered (since (message_at B h.index (step B (receive p) (steps B cs w₀))).key (logged B (receive p) (steps B cs w₀) (history B cs w₀ [])))
told_here B w₀ e room cs q p h said =
    (told B w₀ e room cs p h said).body
    (since_all (λ t. t.here) (message_at B h.index (step B (receive p) (steps B cs w₀))).key (logged B (receive p) (steps B cs w₀) (history B cs w₀ []))
    (logged_here B (receive p) refl (steps B cs w₀) (history B cs w₀ []) (history_here B cs q w₀ [] refl)))
