-- The flow's block is lent, and read.
use mathlib.Core.Path.{ap, ◌∙◌}
use Rattle.octets.proofs.Part.{lent}
use Rattle.flows.specs.Codec.{flow_width, flow_of}
use Rattle.state.proofs.flow_in.Goals as goal

pub returns : goal.returns
returns c =
    c.read_flow.ensures ∙ ap flow_of (lent c.args.at flow_width c.args.b.now)
