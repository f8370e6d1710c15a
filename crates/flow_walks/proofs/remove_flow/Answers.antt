-- `remove_flow` meets its contract: the place found is cleared, and where none is found there is nothing to clear.
use Rattle.state.specs.Stack.{stack_of, with_flow, with_flows}
use Rattle.flows.specs.declared.Flow.{Flow}
use Rattle.flows.specs.Codec.{FlowOk}
use Rattle.flows.specs.Table.{no_flow, flow_place}
use Rattle.flows.proofs.TableLaws.{no_flow_ok}
use Rattle.state.proofs.StackLaws.{stays}
use Rattle.state.proofs.Steps.{becomes_as}
use Rattle.octets.proofs.Finds.{some_placed, none_placed}
use lib.ListN.{length}
use lib.Seq.{set_out}
use mathlib.Core.List.{List}
use mathlib.Core.Path.{sym, ap, subst, ◌∙◌}
use Prim.Native.Nat.{ℕ}
use Rattle.flow_walks.proofs.remove_flow.Goals as goal

pub put_flow-requires : goal.put_flow-requires
put_flow-requires c =
    (c.requires, subst (λ (f : Flow). FlowOk f) (sym c.no_flow.ensures) no_flow_ok)

pub returns-in-Some : goal.returns-in-Some
returns-in-Some c =
    let st = stack_of c.args.sizes c.args.state.now in
    let found = some_placed (length st.flows) (flow_place c.args.peer c.args.tag st.flows) c.in-Some.at (sym c.in-Some.ensures) in
    let at = ap (λ (j : ℕ). with_flow j c.no_flow.result st) found.0 in
    becomes_as c.args.sizes c.args.state.now c.put_flow.new.state (at ∙ ap (λ (x : Flow). with_flow (flow_place c.args.peer c.args.tag st.flows) x st) c.no_flow.ensures) c.put_flow.ensures

pub returns-in_default : goal.returns-in_default
returns-in_default c =
    let st = stack_of c.args.sizes c.args.state.now in
    let i = flow_place c.args.peer c.args.tag st.flows in
    let h = none_placed (length st.flows) i (sym c.find_flow.ensures ∙ c.in_default.is) in
    becomes_as c.args.sizes c.args.state.now c.args.state.now (ap (λ (l : List Flow). with_flows l st) (sym (set_out st.flows i no_flow h))) (stays c.args.sizes c.args.state.now c.requires)
