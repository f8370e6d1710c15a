-- `insert_flow` meets its contract: the event is counted first, and a new flow goes to the first free place, if there is one.
use Rattle.std.specs.Prelude.{Err, Ok}
use Rattle.state.specs.Stack.{stack_of, Stack, with_flow, with_stamp}
use Rattle.octets.specs.Find.{find}
use Rattle.octets.proofs.Finds.{some_placed, none_placed}
use Rattle.stamp.specs.declared.EventStamp.{EventStamp}
use Rattle.mctp.specs.declared.Error.TheVariants.{TagUnavailable}
use Rattle.flows.specs.declared.Flow.{Flow}
use Rattle.flows.specs.Codec.{FlowOk}
use Rattle.flows.specs.Table.{is_free, new_flow, counted}
use Rattle.flows.proofs.TableLaws.{new_ok, counted_clock, counted_counter}
use Rattle.state.proofs.StackLaws.{flows_length, head_ok, and_then}
use Rattle.flow_walks.specs.FlowWalks.{table_of}
use Rattle.state.proofs.Steps.{becomes_as}
use Rattle.state.proofs.Cookies.{cookie_fits}
use Rattle.flow_walks.proofs.FlowSends.{sent_as, insert_room, insert_full}
use lib.ListN.{length}
use mathlib.Core.Path.{refl, sym, ap, subst, ◌∙◌}
use Prim.Native.Nat.{ℕ, ◌^◌, ◌≤◌, ◌<◌}
use native.Mathlib.Omega.{arith}
use Rattle.flow_walks.proofs.insert_flow.Goals as goal

pub put_flow-requires : goal.put_flow-requires
put_flow-requires c =
    let h = head_ok c.args.sizes c.args.state.now c.requires.0 in
    let clock : c.counted-stamp.result.clock < 2 ^ 64 = rw (c.counted-stamp.ensures.0, counted_clock) h.clock in
    let counter : c.counted-stamp.result.counter < 2 ^ 32 = rw c.counted-stamp.ensures.0 (counted_counter _ _ h.counter) in
    let ok = new_ok c.args.peer c.args.tag c.args.expires c.args.cookie c.counted-stamp.result (omega (arith, c.well_formed.1.1.0)) c.requires.1 (cookie_fits c.args.cookie c.well_formed.1.1.1.1.1.0) clock counter in
    (c.counted-stamp.ensures.1.kept, subst (λ (x : Flow). FlowOk x) (sym c.new_flow-f.ensures) ok)

pub returns-in_default : goal.returns-in_default
returns-in_default c =
    let st = stack_of c.args.sizes c.args.state.now in
    let i = find is_free st.flows in
    let l = (stack_of c.args.sizes c.counted-stamp.new.state).flows in
    let none = none_placed (length l) (find is_free l) (sym c.find_free.ensures ∙ c.in_default.is) in
    let e = ap (λ (x : Stack). find is_free x.flows) c.counted-stamp.ensures.1.view in
    let h : length st.flows ≤ i = omega (arith, flows_length c.args.sizes c.args.state.now, flows_length c.args.sizes c.counted-stamp.new.state, e, none) in
    sent_as c.args.sizes c.args.state.now c.counted-stamp.new.state st (Err TagUnavailable) _ _ (sym (insert_full c.args.peer c.args.tag c.args.expires c.args.cookie (table_of st) h)) (refl, c.counted-stamp.ensures.1)

pub returns : goal.returns
returns c =
    let st = stack_of c.args.sizes c.args.state.now in
    let s = counted c.args.expires st.head.now in
    let i = find is_free st.flows in
    let l = (stack_of c.args.sizes c.counted-stamp.new.state).flows in
    let found = some_placed (length l) (find is_free l) c.in-Some.i (sym c.in-Some.ensures) in
    let held = with_stamp s st in
    let e = found.0 ∙ ap (λ (x : Stack). find is_free x.flows) c.counted-stamp.ensures.1.view in
    let h : i < length st.flows = omega (arith, flows_length c.args.sizes c.args.state.now, flows_length c.args.sizes c.counted-stamp.new.state, e, found.1) in
    let made = c.new_flow-f.ensures ∙ ap (λ (x : EventStamp). new_flow c.args.peer c.args.tag c.args.expires c.args.cookie x) c.counted-stamp.ensures.0 in
    let stored = ap (λ (j : ℕ). with_flow j c.new_flow-f.result held) e ∙ ap (λ (x : Flow). with_flow i x held) made in
    let both = and_then c.args.sizes (with_flow c.in-Some.i c.new_flow-f.result) c.args.state.now c.counted-stamp.new.state c.put_flow.new.state held c.counted-stamp.ensures.1 c.put_flow.ensures in
    sent_as c.args.sizes c.args.state.now c.put_flow.new.state st (Ok c.args.tag) _ _ (sym (insert_room c.args.peer c.args.tag c.args.expires c.args.cookie (table_of st) h)) (refl, becomes_as c.args.sizes c.args.state.now c.put_flow.new.state stored both)
