use Rattle.flows.specs.declared.Flow.{Flow}
use Rattle.flows.specs.Tags.{marked}
use Rattle.flows.specs.Table.{used_tags}
use Rattle.flows.proofs.TagLaws.{used_next, used_none}
use Rattle.state.specs.Stack.{stack_of, flow_at}
use Rattle.state.proofs.StackLaws.{flows_length, flow_ok}
use lib.Seq.{take_all}
use mathlib.Core.List.{List}
use mathlib.Core.Path.{sym, ap, ◌∙◌}
use Prim.Native.Nat.{ℕ}
use native.Mathlib.Omega.{arith}
use borrow.Author.Rules.{rules}
use Rattle.flow_walks.proofs.used_tags.Goals as goal

pub loop-i-init : goal.loop-i-init
loop-i-init c = (search rules, sym (used_none c.args.peer))

pub flow_at-f-requires : goal.flow_at-f-requires
flow_at-f-requires c = c.requires

pub mark-used-requires : goal.mark-used-requires
mark-used-requires c = c.flow_at-f.ensures.1

pub loop-i-preserved : goal.loop-i-preserved
loop-i-preserved c =
    let st = stack_of c.args.sizes c.args.state.now in
    let l = flows_length c.args.sizes c.args.state.now in
    let k = (flow_ok c.args.sizes c.args.state.now c.requires c.loop-i.i).tag in
    let e = c.mark-used.ensures ∙ ap (λ (f : Flow). marked c.args.peer f c.loop-i.used) c.flow_at-f.ensures.0 in
    (search rules, e ∙ ap (λ (u : ℕ). marked c.args.peer (flow_at c.loop-i.i st) u) c.loop-i.invariant.1 ∙ sym (used_next c.args.peer st.flows c.loop-i.i (omega arith) k))

pub returns : goal.returns
returns c =
    let l = flows_length c.args.sizes c.args.state.now in
    c.loop-i.invariant.1 ∙ ap (λ (f : List Flow). used_tags c.args.peer f) (take_all c.loop-i.i (stack_of c.args.sizes c.args.state.now).flows (omega arith))
