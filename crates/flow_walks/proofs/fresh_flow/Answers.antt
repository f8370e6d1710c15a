-- `fresh_flow` meets its contract: the counter moves first, and the flow is inserted under the first free tag from there, if there is one.
use Rattle.std.specs.Prelude.{Err}
use Rattle.state.specs.Stack.{stack_of, Stack}
use Rattle.mctp.specs.declared.Error.TheVariants.{TagUnavailable}
use Rattle.flows.specs.Tags.{free_tag_of}
use Rattle.flows.specs.Table.{Table, Flowed, used_tags, turned, insert_flow}
use Rattle.flow_walks.specs.FlowWalks.{table_of, with_table}
use Rattle.flow_walks.proofs.FlowSends.{sent_as, sent_then, free_small, fresh_found, fresh_none}
use mathlib.Core.Path.{◌≡◌, refl, sym, ap, ◌∙◌}
use Prim.Native.Nat.{ℕ, ◌%◌}
use native.Mathlib.Omega.{arith}
use Rattle.flow_walks.proofs.fresh_flow.Goals as goal

pub insert_flow-requires : goal.insert_flow-requires
insert_flow-requires c =
    (c.next_tag-start.ensures.1.kept, free_small _ _ c.in-Some.tag (sym c.free_tag.ensures ∙ c.in-Some.is))

pub returns-in-Some : goal.returns-in-Some
returns-in-Some c =
    let st = stack_of c.args.sizes c.args.state.now in
    let used = c.used_tags-used.ensures ∙ ap (λ (x : Stack). used_tags c.args.peer x.flows) c.next_tag-start.ensures.1.view in
    let small : c.next_tag-start.result % 8 ≡ c.next_tag-start.result = omega (arith, c.next_tag-start.ensures.0) in
    let told = c.free_tag.ensures ∙ ap (λ (k : ℕ). free_tag_of c.used_tags-used.result k) small ∙ ap (λ (u : ℕ). free_tag_of u c.next_tag-start.result) used ∙ ap (λ (k : ℕ). free_tag_of (used_tags c.args.peer st.flows) k) c.next_tag-start.ensures.0 in
    let found = sym told ∙ c.in-Some.is in
    let f : Table → Flowed = insert_flow c.args.peer c.in-Some.tag c.args.expires c.args.cookie in
    let both = sent_then c.args.sizes c.args.state.now c.next_tag-start.new.state c.insert_flow.new.state (with_table (turned (table_of st)) st) c.insert_flow.result f c.next_tag-start.ensures.1 c.insert_flow.ensures in
    sent_as c.args.sizes c.args.state.now c.insert_flow.new.state st c.insert_flow.result _ _ (sym (fresh_found c.args.peer c.in-Some.tag c.args.expires c.args.cookie (table_of st) found)) both

pub returns-in-None : goal.returns-in-None
returns-in-None c =
    let st = stack_of c.args.sizes c.args.state.now in
    let used = c.used_tags-used.ensures ∙ ap (λ (x : Stack). used_tags c.args.peer x.flows) c.next_tag-start.ensures.1.view in
    let small : c.next_tag-start.result % 8 ≡ c.next_tag-start.result = omega (arith, c.next_tag-start.ensures.0) in
    let told = c.free_tag.ensures ∙ ap (λ (k : ℕ). free_tag_of c.used_tags-used.result k) small ∙ ap (λ (u : ℕ). free_tag_of u c.next_tag-start.result) used ∙ ap (λ (k : ℕ). free_tag_of (used_tags c.args.peer st.flows) k) c.next_tag-start.ensures.0 in
    let found = sym told ∙ c.in-None.is in
    sent_as c.args.sizes c.args.state.now c.next_tag-start.new.state st (Err TagUnavailable) _ _ (sym (fresh_none c.args.peer c.args.expires c.args.cookie (table_of st) found)) (refl, c.next_tag-start.ensures.1)
