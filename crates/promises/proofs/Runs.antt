-- Every call keeps the stories of the slots: a packet that is taken continues one, and any other call at most ends some.
use Prim.Native.Nat.{ℕ, zero, suc, ◌+◌, ◌*◌, ◌≤◌}
use mathlib.Core.Path.{◌≡◌, refl, sym, ap, ◌∙◌, subst}
use mathlib.Core.Bool.{Bool, true, false}
use mathlib.Core.List.{List, [], ◌∷◌}
use lib.ListN.{length, get_or}
use Rattle.octets.specs.Pick.{pick, pick_cases}
use Rattle.octets.specs.Bytes.{over}
use Rattle.octets.proofs.Part.{over-nil}
use Rattle.mctp.specs.declared.Key.{Key}
use Rattle.mctp.specs.declared.Header.{Header}
use Rattle.slot.specs.declared.Reassembler.{Reassembler}
use Rattle.slot.specs.Slot.{blank_slot, is_empty, empty_state, collects}
use Rattle.state.specs.Stack.{slot_at}
use Rattle.receiving.specs.Conclude.{said_of}
use Rattle.receiving.specs.Receive.{Receipt, receive_of}
use Rattle.promises.specs.Calls.{World, Call, step, steps}
use Rattle.promises.specs.Delivery.{all_of}
use Rattle.promises.specs.History.{Taken, takes, noted, logged, history}
use Rattle.promises.proofs.Facts.{no_both, is_false, and_left, and_right}
use Rattle.promises.proofs.Slots.{not_in}
use Rattle.promises.proofs.Outcome.{Took, Outcome, quiet, dropped, took, receive_outcome}
use Rattle.promises.proofs.Quiet.{Spare, Kind, here, there, silent, kind}
use Rattle.promises.proofs.Story.{Inv, shrunk, unshrunk, silent_shrinks, blank_shrinks}
use Rattle.promises.proofs.Taking.{taken, pool_now, took_inv}

-- ---- any receive, and any call

pub takes-said : (b : Bool) (i n : ℕ) → takes (said_of b i n) ≡ true
takes-said true i n = refl
takes-said false i n = refl

module _ (B : ℕ) (H : List Taken) (w : World) (v : Inv B H w) (p : List ℕ) (lent : Bool) where
  -- what a receive makes, whether the watched pool is lent or not
  abbrev pub after : Receipt → World
  after r = record { stack = r.stack; pool = pick lent (over r.at r.bytes w.pool) w.pool }

  abbrev pub log : Receipt → List Taken
  log r = noted r.said w.stack lent p H

  pub took_log : (r : Receipt) (i : ℕ) (h : Header) (t : Took B w.stack p r i h) → log r ≡ taken B H w v p lent r i h t ∷ H
  unfolding noted pick
  took_log r i h t = rw (t.said, takes-said h.eom i t.issue, t.read)

  pub took_pool : (r : Receipt) (i : ℕ) (h : Header) (t : Took B w.stack p r i h) → (after r).pool ≡ pool_now B H w v p lent r i h t
  took_pool r i h t =
      ap (λ (n : ℕ). pick lent (over n r.bytes w.pool) w.pool) t.at
      ∙ ap (λ (b : List ℕ). pick lent (over (B * i + t.base.len) b w.pool) w.pool) t.bytes

  pub quiet_log : (r : Receipt) → takes r.said ≡ false → log r ≡ H
  unfolding noted pick
  quiet_log r n = rw n

  quiet_pool : (r : Receipt) → r.bytes ≡ [] → (after r).pool ≡ w.pool
  quiet_pool r e = pick_cases (λ (d : List ℕ). d ≡ w.pool) (λ _. rw (e, over-nil r.at w.pool)) (λ _. refl)

  outcome_inv : (r : Receipt) → Outcome B w.stack p r → Inv B (log r) (after r)
  outcome_inv r (quiet s b n) =
      subst (λ (x : List Taken). Inv B x (after r)) (sym (quiet_log r n))
      (shrunk B H w (after r) v (unshrunk w.stack.slots r.stack.slots s) (quiet_pool r b))
  outcome_inv r (dropped i h read src e b n) =
      subst (λ (x : List Taken). Inv B x (after r)) (sym (quiet_log r n))
      (shrunk B H w (after r) v (rw e (blank_shrinks w.stack.slots i)) (quiet_pool r b))
  outcome_inv r (took i h t) =
      subst (λ (x : List Taken). Inv B x (after r)) (sym (took_log r i h t))
      (subst (λ (d : List ℕ). Inv B (taken B H w v p lent r i h t ∷ H) (record { stack = r.stack; pool = d })) (sym (took_pool r i h t))
      (took_inv B H w v p lent r i h t))

step_by : (B : ℕ) (H : List Taken) (w : World) → Inv B H w → (c : Call) → Kind B w c → Inv B (logged B c w H) (step B c w)
unfolding step logged pick
step_by B H w v c (here p) = outcome_inv B H w v p true (receive_of B w.stack (length w.pool) p) (receive_outcome B w.stack p (length w.pool))
step_by B H w v c (there n p) = outcome_inv B H w v p false (receive_of B w.stack n p) (receive_outcome B w.stack p n)
step_by B H w v c (silent s) =
    subst (λ (x : List Taken). Inv B x (step B c w)) (sym (s.log H))
    (shrunk B H w (step B c w) v (silent_shrinks (Spare c w.stack) w.stack (step B c w).stack s.slots) s.pool)

pub steps_inv : (B : ℕ) (cs : List Call) (H : List Taken) (w : World) → Inv B H w → Inv B (history B cs w H) (steps B cs w)
unfolding history steps
steps_inv B [] H w v = v
steps_inv B (c ∷ cs) H w v = steps_inv B cs (logged B c w H) (step B c w) (step_by B H w v c (kind B w c))

-- ---- a stack in which nothing collects

all_empty : (l : List Reassembler) → all_of is_empty l ≡ true → (i : ℕ) (K : Key) → collects K (get_or l i blank_slot) ≡ false
all_empty [] e i K = refl
all_empty (s ∷ l) e zero K = is_false (collects K s) (λ c. no_both (is_empty s) (and_left (is_empty s) (all_of is_empty l) e) (not_in K s c empty_state refl))
all_empty (s ∷ l) e (suc i) K = all_empty l (and_right (is_empty s) (all_of is_empty l) e) i K

pub fresh_inv : (B : ℕ) (w : World) → all_of is_empty w.stack.slots ≡ true → B * length w.stack.slots ≤ length w.pool → Inv B [] w
fresh_inv B w e room = record { room = room; story = λ i K c. absurd (none i K c); one = λ i j K c d. absurd (none i K c) }
  where
    none : (i : ℕ) (K : Key) → collects K (slot_at i w.stack) ≡ true → ⊥
    none i K c = no_both (collects K (slot_at i w.stack)) c (all_empty w.stack.slots e i K)
