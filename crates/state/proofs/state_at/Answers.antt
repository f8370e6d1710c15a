-- A slot's state is the lowest byte of its word.
use native.Mathlib.Omega.{arith}
use Rattle.state.specs.Stack.{stack_of, slot_at}
use Rattle.state.proofs.SlotLaws.{state_small}
use Rattle.state.proofs.state_at.Goals as goal

pub returns : goal.returns
returns c =
    let x = slot_at c.args.i (stack_of c.args.sizes c.args.state.now) in
    let e = c.word_at.ensures in
    let h = state_small x.state in
    omega arith
