-- A walk over the slots for the earliest one that passes a test (downward): what is known on the way, for any test.
use Prim.Native.Nat.{ℕ, zero, suc, ◌+◌, ◌-◌, ◌≤◌, ◌<◌}
use native.Mathlib.Nat.{zero-add}
use native.Mathlib.Omega.{arith}
use mathlib.Core.Path.{◌≡◌, sym, ap, ◌∙◌}
use mathlib.Core.Bool.{Bool, true, false}
use mathlib.Core.List.{List}
use lib.Dec.{ltb}
use lib.ListN.{length, drop, length-drop}
use borrow.Author.Tests.{lt-ltb, le-ltb}
use Rattle.octets.specs.Pick.{pick, pick_true, pick_false}
use Rattle.stamp.specs.Stamp.{earlier}
use Rattle.slot.specs.declared.Reassembler.{Reassembler}
use Rattle.slot.specs.Slot.{is_done}
use Rattle.slot.specs.Search.{earliest}
use Rattle.slot.proofs.Searches.{earliest_bound, earliest_end, earliest_down}
use Rattle.state.specs.declared.Sizes.{Sizes}
use Rattle.state.specs.Stack.{stack_of, slot_at}
use Rattle.state.proofs.StackLaws.{slots_length}
use Rattle.slot_walks.specs.SlotWalks.{better_of}

-- what `better` picks of slot i, which is read as t, and slot j, which is read as s
module _ (z : Sizes) (b : List ℕ) (i j : ℕ) where
  pub better_none : z.slots ≤ j → i ≡ better_of i j (stack_of z b).slots
  unfolding better_of
  better_none h = sym (pick_false (ltb j (length (stack_of z b).slots)) _ _ (le-ltb j (length (stack_of z b).slots) (rw (slots_length z b) h)))

  module _ (h : j < z.slots) (s t : Reassembler) (p : s ≡ slot_at j (stack_of z b)) (q : t ≡ slot_at i (stack_of z b)) where
    some : ltb j (length (stack_of z b).slots) ≡ true
    some = lt-ltb j (length (stack_of z b).slots) (rw (slots_length z b) h)

    order : earlier (slot_at j (stack_of z b)).stamp (slot_at i (stack_of z b)).stamp ≡ earlier s.stamp t.stamp
    order = rw (← p, ← q)

    pub better_keeps : earlier s.stamp t.stamp ≡ true → j ≡ better_of i j (stack_of z b).slots
    unfolding better_of
    better_keeps e = sym (pick_true _ _ _ some ∙ pick_true _ _ _ (order ∙ e))

    pub better_takes : earlier s.stamp t.stamp ≡ false → i ≡ better_of i j (stack_of z b).slots
    unfolding better_of
    better_takes e = sym (pick_true _ _ _ some ∙ pick_false _ _ _ (order ∙ e))

module _ (z : Sizes) (b : List ℕ) (f : Reassembler → Bool) where
  -- the walk has come down to slot i, and the best of the slots from i on is j
  pub record Seen (i j : ℕ) : Type 0 where
    pub within : i ≤ z.slots
    pub best : j ≡ i + earliest f (drop i (stack_of z b).slots)

  pub seen_bound : (i j : ℕ) → Seen i j → j ≤ z.slots
  seen_bound i j s =
      let l = drop i (stack_of z b).slots in
      let w = s.within in
      let e = s.best in
      let m = earliest_bound f l in
      let n : length l ≡ length (stack_of z b).slots - i = length-drop i (stack_of z b).slots in
      let k = slots_length z b in
      omega arith

  pub seen_start : Seen z.slots z.slots
  seen_start = record { within = omega arith; best = rw (slots_length z b) at (sym (earliest_end f (stack_of z b).slots)) }

  -- slot i is the next one down: the best is then the one that the definition picks
  seen_next : (i j k : ℕ) → i < z.slots → j ≡ suc i + earliest f (drop (suc i) (stack_of z b).slots)
      → k ≡ pick (is_done (slot_at i (stack_of z b))) (pick (f (slot_at i (stack_of z b))) (better_of i j (stack_of z b).slots) j) j
      → Seen i k
  unfolding better_of
  seen_next i j k h p e = record { within = omega arith; best = e ∙ sym (earliest_down f (stack_of z b).slots i j (rw (slots_length z b) h) p) }

  module _ (i j : ℕ) (v : Seen i j) (p : 0 < i) (s : Reassembler) (e : s ≡ slot_at (i - 1) (stack_of z b)) where
    down : (k : ℕ) → k ≡ pick (is_done s) (pick (f s) (better_of (i - 1) j (stack_of z b).slots) j) j → Seen (i - 1) k
    down k q =
        let w = v.within in
        let n : i ≡ suc (i - 1) = omega arith in
        seen_next (i - 1) j k (omega arith)
        (v.best ∙ ap (λ (m : ℕ). m + earliest f (drop m (stack_of z b).slots)) n)
        (q ∙ ap (λ (r : Reassembler). pick (is_done r) (pick (f r) (better_of (i - 1) j (stack_of z b).slots) j) j) e)

    -- it is done and passes
    pub seen_takes : (k : ℕ) → is_done s ≡ true → f s ≡ true → k ≡ better_of (i - 1) j (stack_of z b).slots → Seen (i - 1) k
    seen_takes k d t q = down k (q ∙ sym (pick_true (f s) _ _ t) ∙ sym (pick_true (is_done s) _ _ d))

    -- it is done and does not pass
    pub seen_fails : is_done s ≡ true → f s ≡ false → Seen (i - 1) j
    seen_fails d t = down j (sym (pick_false (f s) _ _ t) ∙ sym (pick_true (is_done s) _ _ d))

    -- it is not done
    pub seen_open : is_done s ≡ false → Seen (i - 1) j
    seen_open d = down j (sym (pick_false (is_done s) _ _ d))

  pub seen_done : (i j : ℕ) → Seen i j → i ≤ 0 → (j ≡ earliest f (stack_of z b).slots) × (j ≤ z.slots)
  seen_done zero j s h = (s.best ∙ zero-add (earliest f (stack_of z b).slots), seen_bound 0 j s)
  seen_done (suc i) j s h = absurd (omega arith)
