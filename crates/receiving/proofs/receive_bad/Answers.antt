-- `receive_bad` looks for an empty slot first: where there is one the header is refused, and where there is none it is NoSpace.
use Prim.Native.Nat.{◌<◌}
use native.Mathlib.Omega.{arith}
use mathlib.Core.Path.{sym, ap, ◌∙◌}
use lib.ListN.{length}
use Rattle.octets.specs.Find.{find}
use Rattle.octets.proofs.Finds.{some_placed, none_placed}
use Rattle.slot.specs.Slot.{is_empty}
use Rattle.state.specs.Stack.{stack_of}
use Rattle.state.proofs.StackLaws.{stays}
use Rattle.state.proofs.Steps.{becomes_as}
use Rattle.receiving.specs.Receive.{Receipt}
use Rattle.receiving.proofs.Receipts.{bad_in, bad_out}
use Rattle.receiving.proofs.receive_bad.Goals as goal

pub returns-in_default : goal.returns-in_default
returns-in_default c =
    let st = stack_of c.args.sizes c.args.state.now in
    let l = none_placed (length st.slots) (find is_empty st.slots) (sym c.find_empty.ensures ∙ c.in_default.is) in
    let q = sym (bad_out c.args.sizes.body st c.args.packet.now l) in
    (ap (λ (x : Receipt). x.said) q, becomes_as c.args.sizes c.args.state.now c.args.state.now (ap (λ (x : Receipt). x.stack) q) (stays c.args.sizes c.args.state.now c.requires))

pub returns : goal.returns
returns c =
    let st = stack_of c.args.sizes c.args.state.now in
    let e = some_placed (length st.slots) (find is_empty st.slots) _ (sym c.in-Some.ensures) in
    let l : find is_empty st.slots < length st.slots = omega (arith, e.0, e.1) in
    let q = sym (bad_in c.args.sizes.body st c.args.packet.now l) in
    (ap (λ (x : Receipt). x.said) q, becomes_as c.args.sizes c.args.state.now c.tick.new.state (ap (λ (x : Receipt). x.stack) q) c.tick.ensures.1)
