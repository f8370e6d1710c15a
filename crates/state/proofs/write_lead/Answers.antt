-- `write_lead` stores each field of its row in turn: that is what `puts` says.
use Rattle.octets.specs.Bytes.{puts}
use Rattle.state.proofs.write_lead.Goals as goal

pub returns : goal.returns
unfolding puts
returns c = cc
