-- A call that is permitted between the fragments of a message leaves that message's slot and its part of the pool, and starts no other slot under its key:
-- a silent call takes no such slot, and a receive of another key lands elsewhere.
use Prim.Native.Nat.{ℕ, ◌*◌, ◌≤◌, ◌<◌}
use native.Mathlib.Decide.{ℕ_discrete, dec_lt}
use native.Mathlib.Omega.{arith}
use mathlib.Core.Path.{◌≡◌, refl, sym, ap, ◌∙◌}
use mathlib.Core.Logic.{◌≢◌}
use mathlib.Core.Bool.{true, false}
use mathlib.Core.List.{List}
use lib.ListN.{length, get_or, set, length-set}
use lib.Seq.{get_or-set_other, get_or-set_same, set_out}
use borrow.Author.Tests.{not-true}
use Rattle.std.specs.Prelude.{Some}
use Rattle.octets.specs.Bytes.{over}
use Rattle.octets.proofs.Part.{over-nil}
use Rattle.mctp.specs.declared.Key.{Key}
use Rattle.mctp.specs.declared.Header.{Header}
use Rattle.mctp.specs.Terms.{same_key}
use Rattle.mctp.specs.Header.{header_of}
use Rattle.slot.specs.declared.Reassembler.{Reassembler}
use Rattle.slot.specs.Slot.{blank_slot, is_empty, empty_state, collects}
use Rattle.reassemble.specs.Enter.{appended}
use Rattle.fragment.specs.Cutting.{body_in}
use Rattle.state.specs.Stack.{Stack, slot_at}
use Rattle.receiving.specs.Receive.{Receipt}
use Rattle.promises.specs.Calls.{World, Call, step, has_key, permitted}
use Rattle.promises.proofs.Facts.{no_both, same_refl}
use Rattle.promises.proofs.Slots.{collects_key, not_in, idle-collects, parts}
use Rattle.promises.proofs.Pool.{slot_le, body_at, pool_length, body_apart}
use Rattle.promises.proofs.Gate.{Source, collected, opens}
use Rattle.promises.proofs.Outcome.{Outcome, quiet, dropped, took, receive_outcome}
use Rattle.promises.proofs.Clock.{receive_clock}
use Rattle.promises.proofs.Walks.{Changed, stays, goes}
use Rattle.promises.proofs.Quiet.{Open, Spare, Silent, Kind, here, there, silent, kind}

-- ---- the slots

pub record SlotsKeep (K : Key) (j : ℕ) (l l' : List Reassembler) : Type 0 where
  pub same : get_or l' j blank_slot ≡ get_or l j blank_slot
  pub fewer : (k : ℕ) → collects K (get_or l' k blank_slot) ≡ true → collects K (get_or l k blank_slot) ≡ true
  pub count : length l' ≡ length l

unchanged : (K : Key) (j : ℕ) (l l' : List Reassembler) → l' ≡ l → SlotsKeep K j l l'
unchanged K j l l' e = rw e (record { same = refl; fewer = λ k c. c; count = refl })

module _ (K : Key) (j : ℕ) (l : List Reassembler) where
  -- another slot is stored, which does not collect under K
  set_keeps : (i : ℕ) (s : Reassembler) → j ≢ i → (collects K s ≡ true → ⊥) → SlotsKeep K j l (set l i s)
  set_keeps i s ne n = record { same = get_or-set_other l i j s blank_slot ne; fewer = λ k c. few k (ℕ_discrete k i) c; count = length-set l i s }
    where
      inn : (k : ℕ) → k ≡ i → Dec (i < length l) → collects K (get_or (set l i s) k blank_slot) ≡ true → collects K (get_or l k blank_slot) ≡ true
      inn k q (yes h) c = absurd (n (rw (q, get_or-set_same l i s blank_slot h) at c))
      inn k q (no h) c = rw (set_out l i s (omega arith)) at c

      few : (k : ℕ) → Dec (k ≡ i) → collects K (get_or (set l i s) k blank_slot) ≡ true → collects K (get_or l k blank_slot) ≡ true
      few k (no q) c = rw (get_or-set_other l i k s blank_slot q) at c
      few k (yes q) c = inn k q (dec_lt i (length l)) c

  -- a packet of another key lands elsewhere
  apart : collects K (get_or l j blank_slot) ≡ true → (i : ℕ) (h : Header) → same_key h.key K ≡ false → Source l i h → j ≢ i
  apart c i h n (collected d) e =
      let k : h.key ≡ K = sym (collects_key h.key (get_or l i blank_slot) d) ∙ collects_key K (get_or l i blank_slot) (rw e at c) in
      no_both (same_key h.key K) (rw k (same_refl K)) n
  apart c i h n (opens v y f) e = no_both (is_empty (get_or l i blank_slot)) v (not_in K (get_or l i blank_slot) (rw e at c) empty_state refl)

-- ---- a receive of another key

module _ (B : ℕ) (K : Key) (j : ℕ) (st : Stack) (c : collects K (slot_at j st) ≡ true) (p : List ℕ) (n : has_key K (header_of p) ≡ false) where
  other : (h : Header) → header_of p ≡ Some h → same_key h.key K ≡ false
  other h e = ap (has_key K) (sym e) ∙ n

  receive_slots : (r : Receipt) → Outcome B st p r → SlotsKeep K j st.slots r.stack.slots
  receive_slots r (quiet e b f) = unchanged K j st.slots r.stack.slots e
  receive_slots r (dropped i h read src e b f) =
      rw e (set_keeps K j st.slots i blank_slot (apart K j st.slots c i h (other h read) src) (idle-collects K blank_slot refl))
  receive_slots r (took i h t) =
      let s = appended h.eom t.now t.issue (length (body_in p)) t.base in
      let k : s.key ≡ h.key = (parts h.eom t.now t.issue (length (body_in p)) t.base).key ∙ t.is_base.key in
      rw t.slots (set_keeps K j st.slots i s (apart K j st.slots c i h (other h t.read) t.source)
      (λ x. no_both (same_key h.key K) (rw (sym k ∙ collects_key K s x) (same_refl K)) (other h t.read)))

  receive_body : (r : Receipt) → Outcome B st p r → (pool : List ℕ) → B * length st.slots ≤ length pool → (m : ℕ) → m ≤ B
      → body_at B j m (over r.at r.bytes pool) ≡ body_at B j m pool
  receive_body r (quiet e b f) pool room m h = rw (b, over-nil r.at pool)
  receive_body r (dropped i h read src e b f) pool room m q = rw (b, over-nil r.at pool)
  receive_body r (took i h t) pool room m q =
      rw (t.at, t.bytes) (body_apart B i t.base.len (body_in p) pool t.fits (omega (arith, slot_le B i (length st.slots) t.found)) j m q
      (apart K j st.slots c i h (other h t.read) t.source))

pub receive_room : (B : ℕ) (st : Stack) (p : List ℕ) (r : Receipt) → Outcome B st p r → (pool : List ℕ) → B * length st.slots ≤ length pool
    → length (over r.at r.bytes pool) ≡ length pool
receive_room B st p r (quiet e b f) pool room = rw (b, over-nil r.at pool)
receive_room B st p r (dropped i h read src e b f) pool room = rw (b, over-nil r.at pool)
receive_room B st p r (took i h t) pool room =
    rw (t.at, t.bytes) (pool_length B i t.base.len (body_in p) pool t.fits (omega (arith, slot_le B i (length st.slots) t.found)))

-- ---- the world

pub record Keeps (B : ℕ) (K : Key) (t₀ j : ℕ) (w w' : World) : Type 0 where
  pub slots : SlotsKeep K j w.stack.slots w'.stack.slots
  pub body : (n : ℕ) → n ≤ B → body_at B j n w'.pool ≡ body_at B j n w.pool
  pub room : length w'.pool ≡ length w.pool
  pub later : t₀ ≤ w'.stack.head.now.clock

module _ (B : ℕ) (K : Key) (t₀ j : ℕ) (w : World) (o : Open K t₀ w.stack (slot_at j w.stack)) (room : B * length w.stack.slots ≤ length w.pool) where
  silent_keeps : (c : Call) → permitted K t₀ c ≡ true → Silent B c w → Keeps B K t₀ j w (step B c w)
  silent_keeps c ok s = record {
    slots = record { same = stay (s.slots.each j); fewer = λ k x. few k (s.slots.each k) x; count = s.slots.count };
    body = λ n _. ap (body_at B j n) s.pool;
    room = ap length s.pool;
    later = omega (arith, o.later, s.slots.later);
  }
    where
      stay : Changed (Spare c w.stack (slot_at j w.stack)) (slot_at j w.stack) (slot_at j (step B c w).stack) → slot_at j (step B c w).stack ≡ slot_at j w.stack
      stay (stays e) = e
      stay (goes n x) = absurd (x.apart K t₀ ok o)

      few : (k : ℕ) → Changed (Spare c w.stack (slot_at k w.stack)) (slot_at k w.stack) (slot_at k (step B c w).stack)
          → collects K (slot_at k (step B c w).stack) ≡ true → collects K (slot_at k w.stack) ≡ true
      few k (stays e) x = rw e at x
      few k (goes n y) x = absurd (idle-collects K (slot_at k (step B c w).stack) n x)

  keeps_by : (c : Call) → Kind B w c → permitted K t₀ c ≡ true → Keeps B K t₀ j w (step B c w)
  unfolding step
  keeps_by c (here p) ok =
      let n = not-true (has_key K (header_of p)) ok in
      let u = receive_outcome B w.stack p (length w.pool) in
      record {
        slots = receive_slots B K j w.stack o.collects p n _ u;
        body = receive_body B K j w.stack o.collects p n _ u w.pool room;
        room = receive_room B w.stack p _ u w.pool room;
        later = rw (receive_clock B w.stack p (length w.pool)) o.later;
      }
  keeps_by c (there m p) ok = record {
    slots = receive_slots B K j w.stack o.collects p (not-true (has_key K (header_of p)) ok) _ (receive_outcome B w.stack p m);
    body = λ n _. refl;
    room = refl;
    later = rw (receive_clock B w.stack p m) o.later;
  }
  keeps_by c (silent s) ok = silent_keeps c ok s

  pub keeps : (c : Call) → permitted K t₀ c ≡ true → Keeps B K t₀ j w (step B c w)
  keeps c ok = keeps_by c (kind B w c) ok
