-- Flow i is what its block says, or the blank one past the last; its fields have their ranges (`flow_read`, `flow_none`).
use native.Mathlib.Omega.{arith}
use mathlib.Core.Path.{sym, ap, ◌∙◌}
use Rattle.octets.proofs.Part.{lent}
use Rattle.flows.specs.Codec.{flow_of, flow_width}
use Rattle.state.proofs.StackLaws.{flow_read, flow_none}
use Rattle.state.proofs.flow_at.Goals as goal

pub returns-then-i-ge-FLOWS : goal.returns-then-i-ge-FLOWS
returns-then-i-ge-FLOWS c =
    flow_none _ _ c.requires c.args.i _ (omega arith) c.no_flow.ensures

pub returns : goal.returns
returns c =
    flow_read _ _ c.requires c.args.i _ (omega arith)
    (c.flow_in.ensures ∙ sym (ap flow_of (lent _ flow_width c.args.state.now)))
