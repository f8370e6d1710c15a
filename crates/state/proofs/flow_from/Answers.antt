-- `flow_from` reads the flow where its bytes lie in the buffer (`from_some`), and gives none where they do not (`from_none`).
use native.Mathlib.Omega.{arith}
use Rattle.octets.proofs.Froms.{from_none, from_some}
use Rattle.flows.specs.Table.{no_flow}
use Rattle.flows.specs.Codec.{flow_width, flow_of}
use Rattle.state.proofs.flow_from.Goals as goal

pub returns-then-saturating_sub-lt-FLOW_WIDTH : goal.returns-then-saturating_sub-lt-FLOW_WIDTH
returns-then-saturating_sub-lt-FLOW_WIDTH c =
    from_none flow_of no_flow c.args.at flow_width c.args.b.now c.saturating_sub.ensures c.if-saturating_sub-lt-FLOW_WIDTH.true c.no_flow.ensures

pub flow_in-requires : goal.flow_in-requires
flow_in-requires c = let e = c.saturating_sub.ensures in let l = c.if-saturating_sub-lt-FLOW_WIDTH.false in omega (arith, e, l)

pub returns : goal.returns
returns c =
    from_some flow_of no_flow c.args.at flow_width c.args.b.now c.saturating_sub.ensures c.if-saturating_sub-lt-FLOW_WIDTH.false c.flow_in.ensures
