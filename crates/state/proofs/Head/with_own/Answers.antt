-- Another own EID changes no planned check, so the planned one is still at most 100 ms away.
use Rattle.state.proofs.Head.with_own.Goals as goal

pub returns : goal.returns
returns c = (c.with.ensures.0, c.with.ensures.1 c.requires.soon)
