-- `state_from` tests the numbers in the order of `state_from`.
use Rattle.octets.proofs.Tests.{picks}
use Rattle.state.specs.Slot.{state_from}
use Rattle.state.proofs.state_from.Goals as goal

pub returns-then-n-eq1 : goal.returns-then-n-eq1
unfolding state_from
returns-then-n-eq1 c = search picks

pub returns-then-n-eq2 : goal.returns-then-n-eq2
unfolding state_from
returns-then-n-eq2 c = search picks

pub returns-then-n-eq3 : goal.returns-then-n-eq3
unfolding state_from
returns-then-n-eq3 c = search picks

pub returns : goal.returns
unfolding state_from
returns c = search picks
