-- `set_flow` meets its contract: the wish says whether `fresh_flow` or `fixed_flow` is called; a tag above 7 is refused first.
use Rattle.std.specs.Prelude.{Err}
use Rattle.state.specs.Stack.{stack_of}
use Rattle.mctp.specs.declared.Error.TheVariants.{InvalidInput}
use Rattle.state.proofs.StackLaws.{stays}
use Rattle.flow_walks.specs.FlowWalks.{table_of}
use Rattle.flow_walks.proofs.FlowSends.{sent_as, set-fresh, set_fixed, set_high}
use mathlib.Core.Path.{refl, sym}
use native.Mathlib.Omega.{arith}
use Rattle.flow_walks.proofs.set_flow.Goals as goal

pub fixed_flow-requires : goal.fixed_flow-requires
fixed_flow-requires c = (c.requires, omega arith)

pub returns-then-tag-gt7 : goal.returns-then-tag-gt7
returns-then-tag-gt7 c =
    let st = stack_of c.args.sizes c.args.state.now in
    sent_as c.args.sizes c.args.state.now c.args.state.now st (Err InvalidInput) _ _ (sym (set_high c.args.peer c.in-Some.tag c.args.expires c.args.cookie (table_of st) c.args.wish c.in-Some.is (omega arith))) (refl, stays c.args.sizes c.args.state.now c.requires)

pub returns-in-None : goal.returns-in-None
returns-in-None c =
    let st = stack_of c.args.sizes c.args.state.now in
    sent_as c.args.sizes c.args.state.now c.fresh_flow.new.state st c.fresh_flow.result _ _ (sym (set-fresh c.args.peer c.args.expires c.args.cookie (table_of st) c.args.wish c.in-None.is)) c.fresh_flow.ensures

pub returns-else-tag-gt7 : goal.returns-else-tag-gt7
returns-else-tag-gt7 c =
    let st = stack_of c.args.sizes c.args.state.now in
    sent_as c.args.sizes c.args.state.now c.fixed_flow.new.state st c.fixed_flow.result _ _ (sym (set_fixed c.args.peer c.in-Some.tag c.args.expires c.args.cookie (table_of st) c.args.wish c.in-Some.is (omega arith))) c.fixed_flow.ensures
