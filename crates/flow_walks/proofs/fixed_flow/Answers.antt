-- `fixed_flow` meets its contract: a flow that stands is used again or refused by its expiry, and one that is absent is inserted.
use Rattle.std.specs.Prelude.{Err, Ok}
use Rattle.state.specs.Stack.{stack_of}
use Rattle.mctp.specs.declared.Error.TheVariants.{BadArgument}
use Rattle.octets.specs.Pick.{pick_true, pick_false}
use Rattle.flows.specs.Table.{flow_place}
use Rattle.state.proofs.StackLaws.{flows_length}
use Rattle.flow_walks.specs.FlowWalks.{table_of}
use Rattle.flow_walks.proofs.FlowSends.{sent_as, fixed_found, fixed_new}
use Rattle.octets.proofs.Finds.{some_placed, none_placed}
use lib.ListN.{length}
use mathlib.Core.Path.{sym, ◌∙◌}
use native.Mathlib.Omega.{arith}
use Rattle.flow_walks.proofs.fixed_flow.Goals as goal

pub returns-in_default : goal.returns-in_default
returns-in_default c =
    let st = stack_of c.args.sizes c.args.state.now in
    let h = none_placed (length st.flows) (flow_place c.args.peer c.args.tag st.flows) (sym c.find_flow.ensures ∙ c.in_default.is) in
    sent_as c.args.sizes c.args.state.now c.insert_flow.new.state st c.insert_flow.result _ _ (sym (fixed_new c.args.peer c.args.tag c.args.expires c.args.cookie (table_of st) h)) c.insert_flow.ensures

pub returns-then-lasting : goal.returns-then-lasting
returns-then-lasting c =
    let l = (stack_of c.args.sizes c.args.state.now).flows in
    let found = some_placed (length l) (flow_place c.args.peer c.args.tag l) c.in-Some.i (sym c.in-Some.ensures) in
    fixed_found c.args.sizes c.args.state.now c.requires.0 c.args.peer c.args.tag c.args.expires c.args.cookie c.in-Some.i c.flow_at-f.result c.is_lasting-lasting.result _ found.0 (omega (arith, flows_length c.args.sizes c.args.state.now, found.1)) c.flow_at-f.ensures.0 c.is_lasting-lasting.ensures (sym (pick_true _ (Ok c.args.tag) (Err BadArgument) c.if-lasting.true))

pub returns : goal.returns
returns c =
    let l = (stack_of c.args.sizes c.args.state.now).flows in
    let found = some_placed (length l) (flow_place c.args.peer c.args.tag l) c.in-Some.i (sym c.in-Some.ensures) in
    fixed_found c.args.sizes c.args.state.now c.requires.0 c.args.peer c.args.tag c.args.expires c.args.cookie c.in-Some.i c.flow_at-f.result c.is_lasting-lasting.result _ found.0 (omega (arith, flows_length c.args.sizes c.args.state.now, found.1)) c.flow_at-f.ensures.0 c.is_lasting-lasting.ensures (sym (pick_false _ (Ok c.args.tag) (Err BadArgument) c.if-lasting.false))
