-- `counted` meets its contract: it counts an event where the flow expires, and none otherwise.
use Rattle.octets.specs.Pick.{pick_true, pick_false}
use Rattle.stamp.specs.declared.EventStamp.{EventStamp}
use Rattle.stamp.specs.Stamp.{next}
use Rattle.flows.specs.Table.{counted}
use Rattle.state.specs.Stack.{stack_of, with_stamp}
use Rattle.state.proofs.StackLaws.{stays}
use Rattle.state.proofs.Steps.{becomes_as}
use mathlib.Core.Path.{◌≡◌, sym, ap, ◌∙◌}
use Rattle.flow_walks.proofs.counted.Goals as goal

pub returns-then-expires : goal.returns-then-expires
returns-then-expires c =
    let st = stack_of c.args.sizes c.args.state.now in
    let s = st.head.now in
    let e : next s ≡ counted c.args.expires s = sym (pick_true c.args.expires (next s) s c.if-expires.true) in
    (c.tick.ensures.0 ∙ e, becomes_as c.args.sizes c.args.state.now c.tick.new.state (ap (λ (n : EventStamp). with_stamp n st) e) c.tick.ensures.1)

pub returns : goal.returns
returns c =
    let st = stack_of c.args.sizes c.args.state.now in
    let s = st.head.now in
    let e : s ≡ counted c.args.expires s = sym (pick_false c.args.expires (next s) s c.if-expires.false) in
    (c.now_at.ensures ∙ e, becomes_as c.args.sizes c.args.state.now c.args.state.now (ap (λ (n : EventStamp). with_stamp n st) e) (stays c.args.sizes c.args.state.now c.requires))
