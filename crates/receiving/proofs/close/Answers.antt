-- `close` meets its contract: our own tag has no flow to end, and a reply's flow is removed.
use mathlib.Core.Path.{sym, ap}
use mathlib.Core.List.{List}
use Rattle.octets.specs.Pick.{pick_true, pick_false}
use Rattle.flows.specs.declared.Flow.{Flow}
use Rattle.state.specs.Stack.{stack_of, with_flows}
use Rattle.state.proofs.StackLaws.{stays}
use Rattle.state.proofs.Steps.{becomes_as}
use Rattle.receiving.proofs.close.Goals as goal

pub returns-then-key : goal.returns-then-key
returns-then-key c =
    let st = stack_of c.args.sizes c.args.state.now in
    becomes_as c.args.sizes c.args.state.now c.args.state.now (ap (λ (l : List Flow). with_flows l st) (sym (pick_true _ _ _ c.if-key.true))) (stays c.args.sizes c.args.state.now c.requires)

pub remove_flow-requires : goal.remove_flow-requires
remove_flow-requires c = c.requires

pub returns : goal.returns
returns c =
    let st = stack_of c.args.sizes c.args.state.now in
    becomes_as c.args.sizes c.args.state.now c.remove_flow.new.state (ap (λ (l : List Flow). with_flows l st) (sym (pick_false _ _ _ c.if-key.false))) c.remove_flow.ensures
