-- A flow laid over its block is flow i of the stack (`flow_store`); past the last nothing is stored (`flow_stays`).
use native.Mathlib.Omega.{arith}
use Rattle.octets.specs.Bytes.{lay}
use Rattle.flows.specs.Codec.{flow_bytes}
use Rattle.state.proofs.StackLaws.{flow_store, flow_whole, flow_stays}
use Rattle.state.proofs.put_flow.Goals as goal

pub returns-then-i-ge-FLOWS : goal.returns-then-i-ge-FLOWS
returns-then-i-ge-FLOWS c =
    flow_stays _ _ c.requires.0 c.args.i c.args.f (omega arith)

pub returns : goal.returns
returns c =
    let x = c.args.f in
    flow_store _ _ c.requires.0 (lay 0 (flow_bytes x)) _ c.args.i x (omega arith) (flow_whole _ x) c.requires.1 c.write_flow.ensures
