-- A cancel's walk over the slots: what it does at slot i, what is then left, and what is known on the way.
use Prim.Native.Nat.{ℕ, suc, ◌+◌, ◌≤◌, ◌<◌}
use mathlib.Core.Path.{◌≡◌, refl, sym, ap, ◌∙◌}
use mathlib.Core.Bool.{Bool, true, false}
use mathlib.Core.List.{List, [], ◌∷◌}
use lib.ListN.{get_or, drop}
use Rattle.octets.specs.Pick.{pick}
use Rattle.octets.proofs.Bools.{false_true, bool_cases}
use Rattle.mctp.specs.declared.Eid.{Eid}
use Rattle.mctp.specs.declared.TagValue.{TagValue}
use Rattle.slot.specs.declared.Reassembler.{Reassembler}
use Rattle.slot.specs.Slot.{blank_slot, is_reply, handle_taken}
use Rattle.state.specs.declared.Sizes.{Sizes}
use Rattle.state.specs.Stack.{Kept, Becomes, stack_of, slot_at, with_slot, with_slots}
use Rattle.slot_walks.specs.SlotWalks.{swept, blocked}
use Rattle.state.proofs.PartLoops.{slot_part, Walked, walk_start, walk_next, walk_done, walk_stop, drop_here, drop-next, drop_end}

-- the slot that a cancel's walk leaves
abbrev pub swept_slot : Eid → TagValue → Reassembler → Reassembler
swept_slot peer tag s = get_or (swept peer tag (s ∷ [])) 0 blank_slot

module _ (peer : Eid) (tag : TagValue) (s : Reassembler) where
  -- the three cases: a reply with a handle out, a reply without, and any other slot
  pub stops : is_reply peer tag s ≡ true → handle_taken s ≡ true → (true ≡ blocked peer tag (s ∷ [])) × (s ≡ swept_slot peer tag s)
  unfolding swept blocked pick
  stops r h = (rw (r, h), rw (r, h))

  pub frees : is_reply peer tag s ≡ true → handle_taken s ≡ false → (false ≡ blocked peer tag (s ∷ [])) × (blank_slot ≡ swept_slot peer tag s)
  unfolding swept blocked pick
  frees r h = (rw (r, h), rw (r, h))

  pub passes : is_reply peer tag s ≡ false → (false ≡ blocked peer tag (s ∷ [])) × (s ≡ swept_slot peer tag s)
  unfolding swept blocked pick
  passes r = (rw r, rw r)

-- the walk goes on, or stops
module _ (peer : Eid) (tag : TagValue) (s : Reassembler) (t : List Reassembler) where
  pub sweep_on : blocked peer tag (s ∷ []) ≡ false → (swept peer tag (s ∷ t) ≡ swept_slot peer tag s ∷ swept peer tag t) × (blocked peer tag (s ∷ t) ≡ blocked peer tag t)
  unfolding swept blocked pick
  sweep_on e =
      bool_cases (is_reply peer tag s)
      (λ r. bool_cases (handle_taken s) (λ h. false_true (sym ((stops peer tag s r h).0 ∙ e))) (λ h. (rw (r, h), rw (r, h))))
      (λ r. (rw r, rw r))

  pub sweep_off : blocked peer tag (s ∷ []) ≡ true → (swept peer tag (s ∷ t) ≡ s ∷ t) × ((blocked peer tag (s ∷ t) ≡ true) × (swept_slot peer tag s ≡ s))
  unfolding swept blocked pick
  sweep_off e =
      bool_cases (is_reply peer tag s)
      (λ r. bool_cases (handle_taken s) (λ h. (rw (r, h), (rw (r, h), rw (r, h)))) (λ h. false_true ((frees peer tag s r h).0 ∙ e)))
      (λ r. false_true ((passes peer tag s r).0 ∙ e))

module _ (z : Sizes) (peer : Eid) (tag : TagValue) where
  -- a cancel's walk that has come to slot i: a walk from here sweeps and stops where the walk from the start does
  pub record Swept (b₀ b : List ℕ) (i : ℕ) : Type 0 where
    pub walked : Walked slot_part z (swept peer tag) b₀ b i
    pub ahead : blocked peer tag (drop i (stack_of z b).slots) ≡ blocked peer tag (stack_of z b₀).slots

  pub sweep_start : (b : List ℕ) → Kept z b → Swept b b 0
  sweep_start b k = record { walked = walk_start slot_part z (swept peer tag) b k; ahead = refl }

  -- the step at slot i; r tells whether the walk stops there
  module _ (b₀ b x : List ℕ) (i : ℕ) (w : Swept b₀ b i) (h : i < z.slots) (r : Bool)
      (turn : (r ≡ blocked peer tag (slot_at i (stack_of z b) ∷ [])) × Becomes z b x (with_slot i (swept_slot peer tag (slot_at i (stack_of z b))) (stack_of z b))) where
    abbrev slot : Reassembler
    slot = slot_at i (stack_of z b)

    abbrev behind : List Reassembler
    behind = drop (suc i) (stack_of z b).slots

    from_here : drop i (stack_of z b).slots ≡ slot ∷ behind
    from_here = drop_here slot_part z b i h

    was_ahead : blocked peer tag (slot ∷ behind) ≡ blocked peer tag (stack_of z b₀).slots
    was_ahead = sym (ap (blocked peer tag) from_here) ∙ w.ahead

    pub sweep_stops : r ≡ true → (true ≡ blocked peer tag (stack_of z b₀).slots) × Becomes z b₀ x (with_slots (swept peer tag (stack_of z b₀).slots) (stack_of z b₀))
    sweep_stops e =
        let o = sweep_off peer tag slot behind (sym turn.0 ∙ e) in (
          sym o.1.0 ∙ was_ahead,
          walk_stop slot_part z (swept peer tag) b₀ b x i (swept_slot peer tag slot) w.walked o.1.1 turn.1 (ap (swept peer tag) from_here ∙ o.0 ∙ sym from_here),
        )

    pub sweep_goes_on : r ≡ false → Swept b₀ x (i + 1)
    sweep_goes_on e =
        let o = sweep_on peer tag slot behind (sym turn.0 ∙ e) in
        record {
          walked = walk_next slot_part z (swept peer tag) b₀ b x i (swept_slot peer tag slot) w.walked h turn.1 o.0;
          ahead = ap (blocked peer tag) (drop-next slot_part z b x i (swept_slot peer tag slot) turn.1) ∙ sym o.1 ∙ was_ahead;
        }

  pub sweep_ends : (b₀ b : List ℕ) (i : ℕ) → Swept b₀ b i → z.slots ≤ i
      → (false ≡ blocked peer tag (stack_of z b₀).slots) × Becomes z b₀ b (with_slots (swept peer tag (stack_of z b₀).slots) (stack_of z b₀))
  unfolding swept blocked
  sweep_ends b₀ b i w h =
      let g = drop_end slot_part z b i h in
      (sym (ap (blocked peer tag) g) ∙ w.ahead, walk_done slot_part z (swept peer tag) b₀ b i w.walked (ap (swept peer tag) g ∙ sym g))
