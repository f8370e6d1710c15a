-- Where a run starts: what `hyphaloom_new` makes, answered 0, is a fresh stack, which holds no message. So `performed-told` holds from there on.
use Prim.Native.Nat.{ℕ}
use mathlib.Core.Path.{◌≡◌, refl, sym, ap, subst, ◌∙◌}
use mathlib.Core.Bool.{true}
use mathlib.Core.List.{List}
use lib.Dec.{eqb}
use lib.ListN.{length}
use borrow.Author.Tests.{eqb-true, eqb-false}
use Rattle.std.specs.Prelude.{Err, Ok, Result}
use Rattle.octets.proofs.Bools.{bool_cases}
use Rattle.mctp.specs.declared.Eid.{Eid}
use Rattle.mctp.specs.Answer.{answer_no}
use Rattle.mctp.proofs.Answers.{error_some}
use Rattle.slot.specs.Slot.{is_empty}
use Rattle.state.specs.Stack.{Stack, stack_of, Kept, Becomes}
use Rattle.handles.specs.Handles.{done_as}
use Rattle.estack.specs.Basics.{fresh_stack, new_says, NewMakes}
use Rattle.promises.specs.Delivery.{all_of}
use Rattle.board.specs.Board.{board}
use Rattle.performing.specs.Perform.{Begins}
use Rattle.mctp.specs.declared.Error.{Error}

module _ (own mtu clock : ℕ) (b b' : List ℕ) where
  -- d is what `new` says
  made_fresh : (d : Result (Unit {0}) Error) → NewMakes d board (record { 0 = own }) mtu clock b b' → answer_no (done_as d) ≡ 0 → Becomes board b b' (fresh_stack board (record { 0 = own }) mtu clock)
  made_fresh (Ok tt) m e = m
  made_fresh (Err err) m e = absurd (error_some err e)

  left_same : (d : Result (Unit {0}) Error) → NewMakes d board (record { 0 = own }) mtu clock b b' → (answer_no (done_as d) ≡ 0 → ⊥) → b' ≡ b
  left_same (Ok tt) m n = absurd (n refl)
  left_same (Err err) m n = m

  -- what the contract of the exported `new` says
  pub begin_link : (r : ℕ) → r ≡ answer_no (done_as (new_says board (length b) mtu))
      → NewMakes (new_says board (length b) mtu) board (record { 0 = own }) mtu clock b b' → Begins own mtu clock b b' r
  begin_link r e m = record {
    said = e;
    made = λ z. made_fresh (new_says board (length b) mtu) m (sym e ∙ z);
    left = λ n. left_same (new_says board (length b) mtu) m (λ z. n (e ∙ z));
  }

  -- bytes that were kept are kept, whatever was answered
  pub begins_kept : (r : ℕ) → Begins own mtu clock b b' r → Kept board b → Kept board b'
  begins_kept r n k =
      bool_cases (eqb r 0) (λ t. (n.made (eqb-true r 0 t)).kept) (λ t. subst (Kept board) (sym (n.left (λ z. eqb-false r 0 t z))) k)

-- a fresh stack holds no message: the premise of `performed-told`
pub fresh_empty : (own : Eid) (mtu clock : ℕ) (b b' : List ℕ) → Becomes board b b' (fresh_stack board own mtu clock) → all_of is_empty (stack_of board b').slots ≡ true
fresh_empty own mtu clock b b' m = ap (λ (st : Stack). all_of is_empty st.slots) m.view
