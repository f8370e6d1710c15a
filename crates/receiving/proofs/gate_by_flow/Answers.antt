-- `gate_by_flow` passes a reply whose flow stands, with the flow's cookie, and shuts any other.
use Prim.Native.Nat.{ℕ, ◌<◌}
use native.Mathlib.Omega.{arith}
use mathlib.Core.Path.{sym, ap, ◌∙◌}
use Rattle.std.specs.Prelude.{Ok}
use Rattle.octets.proofs.Finds.{some_placed, none_placed}
use Rattle.slot.specs.declared.Reassembler.{Reassembler}
use lib.ListN.{length}
use Rattle.flows.specs.declared.Flow.{Flow}
use Rattle.flows.specs.Table.{flow_place}
use Rattle.state.specs.Stack.{stack_of, flow_at}
use Rattle.receiving.proofs.Receipts.{reply_stands, reply_lost}
use Rattle.receiving.proofs.gate_by_flow.Goals as goal

pub returns-in_default : goal.returns-in_default
returns-in_default c =
    let l = (stack_of c.args.sizes c.args.state.now).flows in
    c.gate_reply.ensures ∙ reply_lost c.args.h l (none_placed (length l) (flow_place c.args.h.key.source c.args.h.key.tag l) (sym c.find_flow.ensures ∙ c.in_default.is))

pub returns : goal.returns
returns c =
    let st = stack_of c.args.sizes c.args.state.now in
    let j = flow_place c.args.h.key.source c.args.h.key.tag st.flows in
    let g = some_placed (length st.flows) j c.in-Some.i (sym c.in-Some.ensures) in
    let l : j < length st.flows = omega (arith, g.0, g.1) in
    let f = ap (λ (x : Flow). x.cookie) (c.flow_at-f.ensures.0 ∙ ap (λ (i : ℕ). flow_at i st) g.0) in
    c.gate_reply-2.ensures ∙ reply_stands c.args.h st.flows _ l f
