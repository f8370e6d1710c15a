-- What the calls under a handle store, and the slot that a search for the earliest finds.
use Prim.Native.Nat.{ℕ, ◌^◌, ◌<◌}
use mathlib.Core.Path.{◌≡◌, sym, ap, subst, ◌∙◌}
use mathlib.Core.Bool.{Bool}
use mathlib.Core.List.{List}
use lib.ListN.{length}
use Rattle.std.specs.Prelude.{Option, Result, IfSome, unwrap_or}
use Rattle.octets.proofs.Finds.{placed_below, placed_back}
use Rattle.mctp.specs.declared.AppCookie.{AppCookie}
use Rattle.mctp.specs.declared.Error.{Error}
use Rattle.mctp.specs.Terms.{cookie_value}
use Rattle.slot.specs.declared.ReceiveHandle.{ReceiveHandle}
use Rattle.slot.specs.declared.State.{State}
use Rattle.slot.specs.declared.Reassembler.{Reassembler}
use Rattle.slot.specs.Slot.{with_state, with_slot_cookie}
use Rattle.slot.specs.Search.{earliest, earliest_place}
use Rattle.slot.proofs.Searches.{earliest_bound}
use Rattle.state.specs.declared.Sizes.{Sizes}
use Rattle.state.specs.Slot.{SlotOk, issue_no}
use Rattle.state.specs.Stack.{Becomes, stack_of, slot_at}
use Rattle.state.proofs.StackLaws.{slots_length}
use Rattle.handles.specs.Handles.{handled}

-- the slot that is stored under a handle may be computed beforehand
module _ (z : Sizes) (f : Reassembler → Reassembler) (h : ReceiveHandle) (b : List ℕ) where
  -- what such a call says, and what it makes of the bytes
  abbrev pub Handled : Result (Unit {0}) Error → List ℕ → Type 0
  Handled r b' = (r ≡ (handled f h (stack_of z b)).said) × Becomes z b b' (handled f h (stack_of z b)).stack

  pub handled_at : {x : Reassembler} {r : Result (Unit {0}) Error} {b' : List ℕ} → x ≡ f (slot_at h.index (stack_of z b)) → (r ≡ (handled (λ _. x) h (stack_of z b)).said) × Becomes z b b' (handled (λ _. x) h (stack_of z b)).stack → Handled r b'
  unfolding handled
  handled_at e p = rw e at p

-- a slot that has another state or another cookie is Ok
pub with_state_ok : (B : ℕ) (s : Reassembler) → SlotOk B s → (state : State) → issue_no state < 2 ^ 64 → SlotOk B (with_state state s)
with_state_ok B s ok state n = record {
  dest = ok.dest;
  source = ok.source;
  tag = ok.tag;
  typ = ok.typ;
  seq = ok.seq;
  len = ok.len;
  wide = ok.wide;
  counter = ok.counter;
  clock = ok.clock;
  value = ok.value;
  issue = n;
}

pub with_cookie_ok : (B : ℕ) (s : Reassembler) → SlotOk B s → (cookie : Option AppCookie) → cookie_value cookie < 2 ^ 64 → SlotOk B (with_slot_cookie cookie s)
with_cookie_ok B s ok cookie v = record {
  dest = ok.dest;
  source = ok.source;
  tag = ok.tag;
  typ = ok.typ;
  seq = ok.seq;
  len = ok.len;
  wide = ok.wide;
  counter = ok.counter;
  clock = ok.clock;
  value = v;
  issue = ok.issue;
}

-- the slot that a search for the earliest finds is one of the stack, and the definition takes the same
module _ (z : Sizes) (b : List ℕ) (f : Reassembler → Bool) where
  pub earliest_slot : IfSome (earliest_place f (stack_of z b).slots) (λ i. i < z.slots)
  earliest_slot =
      subst (λ (n : ℕ). IfSome (earliest_place f (stack_of z b).slots) (λ i. i < n)) (slots_length z b)
      (placed_below (length (stack_of z b).slots) (earliest f (stack_of z b).slots))

  pub earliest_back : unwrap_or (earliest_place f (stack_of z b).slots) z.slots ≡ earliest f (stack_of z b).slots
  earliest_back =
      let e = placed_back (length (stack_of z b).slots) (earliest f (stack_of z b).slots) (earliest_bound f (stack_of z b).slots) in
      ap (λ (n : ℕ). unwrap_or (earliest_place f (stack_of z b).slots) n) (sym (slots_length z b)) ∙ e
