-- What a receive writes: nothing where it refuses, and otherwise only the packet's body, at the place in its slot's part of the pool where the slot's body
-- ended.
-- So what lies past the slots' parts stays, and so does the part of a slot that holds a whole message. A pool that is too short is never written.
use Prim.Native.Nat.{ℕ, ◌+◌, ◌*◌, ◌≤◌}
use native.Mathlib.Nat.{le_refl, add-zero}
use native.Mathlib.Decide.{ℕ_discrete}
use native.Mathlib.Omega.{arith}
use mathlib.Core.Path.{◌≡◌, refl, sym, ap, subst, ◌∙◌}
use mathlib.Core.Bool.{true, false}
use mathlib.Core.List.{List, [], ◌∷◌}
use lib.Dec.{ltb}
use lib.ListN.{length, get_or, drop}
use lib.Seq.{get_or-set_same}
use borrow.Author.Tests.{ltb-false}
use Rattle.octets.specs.Pick.{pick, pick_true, pick_false}
use Rattle.octets.specs.Bytes.{part, over}
use Rattle.octets.proofs.Bools.{bool_cases}
use Rattle.octets.proofs.Part.{over-nil, drop-over, part-part}
use Rattle.mctp.specs.declared.Header.{Header}
use Rattle.slot.specs.declared.Reassembler.{Reassembler}
use Rattle.slot.specs.Slot.{blank_slot, is_done, handle_taken}
use Rattle.reassemble.specs.Enter.{appended}
use Rattle.fragment.specs.Cutting.{body_in}
use Rattle.state.specs.Stack.{Stack, slot_at}
use Rattle.receiving.specs.Receive.{receive_of}
use Rattle.promises.specs.Calls.{Call, receive, World, step, steps, receipt}
use Rattle.promises.specs.History.{takes}
use Rattle.promises.proofs.Slots.{parts}
use Rattle.promises.proofs.Pool.{slot_le, body_at, pool_length, body_apart}
use Rattle.promises.proofs.Outcome.{Base, Took, Outcome, quiet, dropped, took, receive_outcome}
use Rattle.promises.proofs.Quiet.{Kind, here, there, silent, kind}
use Rattle.promises.proofs.Runs.{takes-said}
use Rattle.staying.specs.Staying.{tail_of, length_before, Appends, PartAfter, same, appends}
use Rattle.promises.proofs.Gate.{lands_open}
use Rattle.staying.proofs.Fates.{fates}

-- ---- one receive

-- a pool that is too short is not written
short_bytes : (B : ℕ) (st : Stack) (room : ℕ) (p : List ℕ) → ltb room (B * length st.slots) ≡ true → (receive_of B st room p).bytes ≡ []
unfolding receive_of pick
short_bytes B st room p e = rw e

-- what a call leaves of the pool
record Leaves (B : ℕ) (w : World) (c : Call) : Type 0 where
  pub long : length (step B c w).pool ≡ length w.pool
  pub tail : drop (B * length w.stack.slots) (step B c w).pool ≡ drop (B * length w.stack.slots) w.pool
  pub parts : (j : ℕ) → PartAfter B j w c

unwritten : (B : ℕ) (w : World) (c : Call) → (step B c w).pool ≡ w.pool → Leaves B w c
unwritten B w c e = record { long = ap length e; tail = ap (drop (B * length w.stack.slots)) e; parts = λ j. same (ap (part (B * j) B) e) }

-- the slot as a packet finds it has the body that stood there, or none with SOM
base_length : (st : Stack) (i : ℕ) (h : Header) (p : List ℕ) (s : Reassembler) → Base st i h p s → s.len ≡ length_before h (slot_at i st)
base_length st i h p s b =
    bool_cases h.som (λ y. b.afresh y ∙ sym (pick_true h.som 0 (slot_at i st).len y))
    (λ n. ap (λ (x : Reassembler). x.len) (b.goes_on n) ∙ sym (pick_false h.som 0 (slot_at i st).len n))

module _ (B : ℕ) (w : World) (p : List ℕ) where
  nothing : (receipt B p w).bytes ≡ [] → Leaves B w (receive p)
  unfolding step
  nothing e = unwritten B w (receive p) (rw (e, over-nil (receipt B p w).at w.pool))

  module _ (room : B * length w.stack.slots ≤ length w.pool) (i : ℕ) (h : Header) (t : Took B w.stack p (receipt B p w) i h) where
    holds : B * i + B ≤ length w.pool
    holds = omega (arith, slot_le B i (length w.stack.slots) t.found)

    written : (step B (receive p) w).pool ≡ over (B * i + t.base.len) (body_in p) w.pool
    unfolding step
    written = rw (t.at, t.bytes)

    took_appends : Appends B i p w
    unfolding step
    took_appends =
        let n = base_length w.stack i h p t.base t.is_base in
        let s = appended h.eom t.now t.issue (length (body_in p)) t.base in
        record {
          header = h;
          read = t.read;
          taken = ap takes t.said ∙ takes-said h.eom i t.issue;
          unclosed = lands_open w.stack.slots i h t.source;
          fits = subst (λ (m : ℕ). m + length (body_in p) ≤ B) n t.fits;
          inside = holds;
          pool = written ∙ ap (λ (m : ℕ). over (B * i + m) (body_in p) w.pool) n;
          grown =
              ap (λ (l : List Reassembler). (get_or l i blank_slot).len) t.slots
              ∙ ap (λ (x : Reassembler). x.len) (get_or-set_same w.stack.slots i s blank_slot t.found)
              ∙ (parts h.eom t.now t.issue (length (body_in p)) t.base).len ∙ ap (λ (m : ℕ). m + length (body_in p)) n;
        }

    took_leaves : Leaves B w (receive p)
    took_leaves =
        let le = slot_le B i (length w.stack.slots) t.found in
        let fits = t.fits in
        record {
          long = ap length written ∙ pool_length B i t.base.len (body_in p) w.pool fits holds;
          tail = ap (drop (B * length w.stack.slots)) written
              ∙ drop-over (B * length w.stack.slots) (B * i + t.base.len) (body_in p) w.pool (omega arith) (omega (arith, holds));
          parts = λ j. at j (ℕ_discrete j i);
        }
      where
        at : (j : ℕ) → Dec (j ≡ i) → PartAfter B j w (receive p)
        at j (yes q) = appends p refl (subst (λ (k : ℕ). Appends B k p w) (sym q) took_appends)
        at j (no q) = same (ap (part (B * j) B) written ∙ body_apart B i t.base.len (body_in p) w.pool t.fits holds j B (le_refl B) q)

  outcome_leaves : Outcome B w.stack p (receipt B p w) → B * length w.stack.slots ≤ length w.pool → Leaves B w (receive p)
  outcome_leaves (quiet e b f) room = nothing b
  outcome_leaves (dropped i h read src e b f) room = nothing b
  outcome_leaves (took i h t) room = took_leaves room i h t

  receive_leaves : Leaves B w (receive p)
  receive_leaves =
      bool_cases (ltb (length w.pool) (B * length w.stack.slots)) (λ e. nothing (short_bytes B w.stack (length w.pool) p e))
      (λ e. outcome_leaves (receive_outcome B w.stack p (length w.pool)) (ltb-false (length w.pool) (B * length w.stack.slots) e))

-- ---- every call

leaves_by : (B : ℕ) (w : World) (c : Call) → Kind B w c → Leaves B w c
unfolding step
leaves_by B w c (here p) = receive_leaves B w p
leaves_by B w c (there n p) = unwritten B w _ refl
leaves_by B w c (silent s) = unwritten B w c s.pool

leaves : (B : ℕ) (c : Call) (w : World) → Leaves B w c
leaves B c w = leaves_by B w c (kind B w c)

-- whatever the call: a slot's part of the pool is as it was, or the call is a receive that is lent the watched pool and whose packet is appended to that
-- slot. Then no message is done in it, the packet's body stands where the slot's body ended, and every other byte of the pool is as it was
pub part_stays : (B j : ℕ) (c : Call) (w : World) → PartAfter B j w c
part_stays B j c w = (leaves B c w).parts j

-- a slot holds a whole message
abbrev pub Whole : Reassembler → Type 0
Whole s = (is_done s ≡ false) → (handle_taken s ≡ false) → ⊥

-- the body of a whole message stays
pub whole_stays : (B j n : ℕ) (c : Call) (w : World) → Whole (slot_at j w.stack) → n ≤ B → body_at B j n (step B c w).pool ≡ body_at B j n w.pool
whole_stays B j n c w whole l = go (part_stays B j c w)
  where
    first : (b : List ℕ) → body_at B j n b ≡ part 0 n (part (B * j) B b)
    first b = sym (part-part (B * j) 0 n B b (omega arith) ∙ ap (λ (m : ℕ). part m n b) (add-zero (B * j)))

    go : PartAfter B j w c → body_at B j n (step B c w).pool ≡ body_at B j n w.pool
    go (same e) = first (step B c w).pool ∙ ap (part 0 n) e ∙ sym (first w.pool)
    go (appends p q a) = absurd (whole a.unclosed.0 a.unclosed.1)

-- ---- a run of calls

-- the number of slots stays, and so does the length of the pool
slots_count : (B : ℕ) (calls : List Call) (w : World) → length (steps B calls w).stack.slots ≡ length w.stack.slots
unfolding steps
slots_count B [] w = refl
slots_count B (c ∷ cs) w = slots_count B cs (step B c w) ∙ (fates B c w).count

pool_long : (B : ℕ) (calls : List Call) (w : World) → length (steps B calls w).pool ≡ length w.pool
unfolding steps
pool_long B [] w = refl
pool_long B (c ∷ cs) w = pool_long B cs (step B c w) ∙ (leaves B c w).long

-- so a pool that is long enough stays long enough
pub room_stays : (B : ℕ) (calls : List Call) (w : World) → B * length w.stack.slots ≤ length w.pool
    → B * length (steps B calls w).stack.slots ≤ length (steps B calls w).pool
room_stays B calls w room = rw (slots_count B calls w, pool_long B calls w) room

-- what lies past the slots' parts of the pool is never written: whatever calls come, and however long the pool is
pub pool_tail : (B : ℕ) (calls : List Call) (w : World) → tail_of B (steps B calls w) ≡ tail_of B w
unfolding steps
pool_tail B [] w = refl
pool_tail B (c ∷ cs) w = pool_tail B cs (step B c w) ∙ ap (λ (n : ℕ). drop (B * n) (step B c w).pool) (fates B c w).count ∙ (leaves B c w).tail
