-- `read_head` reads each field where `head_of` says that it lies.
use Rattle.state.specs.Head.{head_of}
use Rattle.state.proofs.read_head.Goals as goal

pub returns : goal.returns
unfolding head_of
returns c = cc
