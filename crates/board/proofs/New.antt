-- Where `new` answers 0, the bytes that it makes are a kept state.
use Prim.Native.Nat.{ℕ}
use mathlib.Core.Path.{◌≡◌}
use mathlib.Core.List.{List}
use lib.ListN.{length}
use Rattle.std.specs.Prelude.{Err, Ok, Result}
use Rattle.mctp.specs.declared.Eid.{Eid}
use Rattle.mctp.specs.Answer.{answer_no}
use Rattle.mctp.proofs.Answers.{error_some}
use Rattle.state.specs.Stack.{Kept}
use Rattle.handles.specs.Handles.{done_as}
use Rattle.estack.specs.Basics.{new_says, NewMakes}
use Rattle.board.specs.Board.{board}
use Rattle.mctp.specs.declared.Error.{Error}

module _ (own : Eid) (mtu clock : ℕ) (b b' : List ℕ) where
  made : (r : Result (Unit {0}) Error) → NewMakes r board own mtu clock b b' → answer_no (done_as r) ≡ 0 → Kept board b'
  made (Ok tt) m e = m.kept
  made (Err err) m e = absurd (error_some err e)

  pub made_kept : NewMakes (new_says board (length b) mtu) board own mtu clock b b' → answer_no (done_as (new_says board (length b) mtu)) ≡ 0 → Kept board b'
  made_kept = made (new_says board (length b) mtu)
