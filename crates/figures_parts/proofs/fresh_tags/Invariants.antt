-- `fresh_tags`: each turn leaves a kept state.
use Rattle.state.specs.Stack.{Kept}
use Rattle.board.specs.Board.{board}
use Rattle.figures_parts.proofs.fresh_tags.Given as goal

abbrev pub invariant-loop : goal.invariant-loop
invariant-loop l = Kept board l.state
