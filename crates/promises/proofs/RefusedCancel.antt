-- A refused cancel: its number, and what it leaves of the stack. What the walk makes of the slots is told slot by slot, by the first place at which it would stop.
use Prim.Native.Nat.{ℕ, zero, suc}
use native.Mathlib.Omega.{arith}
use mathlib.Core.Path.{◌≡◌, refl, sym, ap, ◌∙◌}
use mathlib.Core.Bool.{Bool, ◌&&◌}
use mathlib.Core.List.{List, [], ◌∷◌}
use lib.Dec.{ltb, leb-suc-suc}
use lib.ListN.{length, get_or}
use borrow.Author.Tests.{ltb-true, ltb-false, le-ltb, lt-ltb}
use Rattle.octets.specs.Pick.{pick, pick_true, pick_false, pick_cases}
use Rattle.octets.specs.Find.{find}
use Rattle.octets.proofs.Bools.{bool_cases}
use Rattle.octets.proofs.Finds.{some, some_found}
use Rattle.mctp.specs.declared.Eid.{Eid}
use Rattle.mctp.specs.declared.TagValue.{TagValue}
use Rattle.mctp.specs.Answer.{refuses}
use Rattle.slot.specs.declared.Reassembler.{Reassembler}
use Rattle.slot.specs.Slot.{blank_slot, is_reply, handle_taken}
use Rattle.state.specs.Stack.{Stack}
use Rattle.slot_walks.specs.SlotWalks.{swept, blocked}
use Rattle.handles.specs.Handles.{Handled, done_as}
use Rattle.estack.specs.Basics.{cancel_of}
use Rattle.promises.specs.Calls.{World, cancel_flow, step, performed}
use Rattle.promises.specs.Refusals.{Among, cancel_no, stops, swept_at, Uncancelled, bad_tag_lem, under_handle}
use Rattle.promises.proofs.Walks.{swept-count}
use Rattle.promises.proofs.Refused.{Says, refusal, sole}

-- a cancel that is refused, and what it leaves
pub record Uncancels (peer : Eid) (tag : TagValue) (st st' : Stack) (n : ℕ) (vs : List ℕ) : Type 0 where
  pub among : Among (1 ∷ 3 ∷ []) n vs
  pub left : Uncancelled peer tag st n st'

-- slot k of the rest, with one more slot before it that does not stop the walk
on : (k m : ℕ) (b : Bool) (s : Reassembler) → pick (ltb (suc k) (suc m) && b) blank_slot s ≡ pick (ltb k m && b) blank_slot s
on k m b s = ap (λ (x : Bool). pick (x && b) blank_slot s) (leb-suc-suc (suc k) m)

module _ (peer : Eid) (tag : TagValue) where
  -- what the walk makes of slot k
  swept_is : (l : List Reassembler) (k : ℕ) → get_or (swept peer tag l) k blank_slot ≡ swept_at peer tag l k
  unfolding swept find pick
  swept_is [] k = rw (le-ltb k 0 (omega arith))
  swept_is (s ∷ l) zero =
      let z = lt-ltb 0 (suc (find (stops peer tag) l)) (omega arith) in
      bool_cases (is_reply peer tag s) (λ r. bool_cases (handle_taken s) (λ t. rw (r, t)) (λ t. rw (r, t, z))) (λ r. rw (r, z))
  swept_is (s ∷ l) (suc k) =
      let e = swept_is l k ∙ sym (on k (find (stops peer tag) l) (is_reply peer tag (get_or l k blank_slot)) (get_or l k blank_slot)) in
      bool_cases (is_reply peer tag s) (λ r. bool_cases (handle_taken s) (λ t. rw (r, t, le-ltb (suc k) 0 (omega arith))) (λ t. rw (r, t) e)) (λ r. rw r e)

  -- the walk is blocked where there is a place to stop
  blocked_is : (l : List Reassembler) → blocked peer tag l ≡ some (stops peer tag) l
  unfolding blocked some pick
  blocked_is [] = refl
  blocked_is (s ∷ l) =
      bool_cases (is_reply peer tag s) (λ r. bool_cases (handle_taken s) (λ t. rw (r, t)) (λ t. rw (r, t) (blocked_is l))) (λ r. rw r (blocked_is l))

  pub cancelled_says : (st : Stack) → Says (cancel_no peer tag st) (Uncancels peer tag st (cancel_of peer tag st).stack) (done_as (cancel_of peer tag st).said)
  unfolding cancel_of
  cancelled_says st =
      let stop = some_found (stops peer tag) st.slots ∙ sym (blocked_is st.slots) in
      pick_cases P (λ y. (pick_true _ _ _ y, record { among = sole refl; left = bad_tag_lem (ltb-true 7 tag.0 y) refl refl }))
      (λ t. pick_cases P
      (λ b. (
        pick_false _ _ _ t ∙ pick_true _ _ _ (stop ∙ b),
        record {
          among = sole refl;
          left = under_handle (ltb-false 7 tag.0 t) (ltb-true (find (stops peer tag) st.slots) (length st.slots) (stop ∙ b))
              refl refl refl (swept-count peer tag st.slots) (λ k. swept_is st.slots k);
        },
      ))
      (λ b. pick_false _ _ _ t ∙ pick_false _ _ _ (stop ∙ b)))
    where
      P : Handled → Type 0
      P o = Says (cancel_no peer tag st) (Uncancels peer tag st o.stack) (done_as o.said)

  pub uncancelled : (st : Stack) (n : ℕ) (vs : List ℕ) → done_as (cancel_of peer tag st).said ≡ refuses n vs
      → Uncancels peer tag st (cancel_of peer tag st).stack n vs
  uncancelled st n vs e =
      refusal (cancel_no peer tag st) (Uncancels peer tag st (cancel_of peer tag st).stack) (done_as (cancel_of peer tag st).said) n vs (cancelled_says st) e

-- what a refused cancel leaves of the stack
pub refused_cancel : (B : ℕ) (peer : Eid) (tag : TagValue) (w : World) (n : ℕ) (vs : List ℕ) → performed B (cancel_flow peer tag) w ≡ refuses n vs
    → Uncancelled peer tag w.stack n (step B (cancel_flow peer tag) w).stack
unfolding step
refused_cancel B peer tag w n vs e = (uncancelled peer tag w.stack n vs e).left
