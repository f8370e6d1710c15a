-- `replay`: the loop begins on a fresh stack, and every turn leaves a state that is kept.
use Rattle.state.specs.Stack.{Kept}
use Rattle.board.specs.Board.{board}
use Rattle.vectors.proofs.replay.Given as goal

abbrev pub invariant-loop-calls : goal.invariant-loop-calls
invariant-loop-calls l = Kept board l.state
