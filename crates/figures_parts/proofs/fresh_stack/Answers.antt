-- `fresh_stack`: with that room and that MTU, `new` refuses nothing, so what it makes is the fresh stack.
use Prim.Native.Nat.{ℕ, ◌≤◌}
use mathlib.Core.Path.{◌≡◌, ◌∙◌, subst}
use mathlib.Core.List.{List}
use lib.ListN.{length}
use borrow.Author.Tests.{le-ltb}
use Rattle.std.specs.Prelude.{Ok, Result}
use Rattle.octets.specs.Pick.{pick}
use Rattle.state.specs.Stack.{Becomes}
use Rattle.estack.specs.Basics.{new_says, NewMakes}
use Rattle.board.specs.Board.{board}
use Rattle.figures_parts.specs.Figure.{bay_stack}
use Rattle.figures_parts.proofs.fresh_stack.Goals as goal
use Rattle.mctp.specs.declared.Error.{Error}

well : (n mtu : ℕ) → 2248 ≤ n → 5 ≤ mtu → new_says board n mtu ≡ Ok tt
unfolding new_says pick
well n mtu room least = rw (le-ltb mtu 5 least, le-ltb n 2248 room)

fresh : (mtu : ℕ) (b b' : List ℕ) (r : Result (Unit {0}) Error) → r ≡ new_says board (length b) mtu → NewMakes r board (record { 0 = 8 }) mtu 0 b b' → 2248 ≤ length b → 5 ≤ mtu → Becomes board b b' (bay_stack mtu)
fresh mtu b b' r e m room least = subst (λ (d : Result (Unit {0}) Error). NewMakes d board (record { 0 = 8 }) mtu 0 b b') (e ∙ well (length b) mtu room least) m

pub returns : goal.returns
returns c =
    fresh c.args.mtu c.args.state.now c.new.new.state c.new.result c.new.ensures.said c.new.ensures.stack c.requires.0 c.requires.1
