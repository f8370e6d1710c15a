-- `receive_good` takes the slot that collects the key, else the first empty one, as the definition does; the slot found is what it was found for.
use Prim.Native.Nat.{ℕ, ◌<◌}
use native.Mathlib.Omega.{arith}
use mathlib.Core.Path.{sym, ap, ◌∙◌}
use lib.ListN.{length}
use Rattle.std.specs.Prelude.{Ok, Some}
use Rattle.octets.specs.Find.{find}
use Rattle.octets.proofs.Finds.{find_hit, some_placed, none_placed}
use Rattle.mctp.specs.declared.Error.TheVariants.{NoSpace}
use Rattle.slot.specs.Slot.{blank_slot, is_empty, collects}
use Rattle.state.specs.Stack.{stack_of, slot_at}
use Rattle.state.proofs.StackLaws.{slots_length, stays}
use Rattle.receiving.specs.Receive.{land, receive_at}
use Rattle.receiving.proofs.Receipts.{makes_as, refusal, good_collecting, good_empty, good_none}
use Rattle.receiving.proofs.receive_good.Goals as goal

pub find_collecting-requires : goal.find_collecting-requires
find_collecting-requires c = c.requires.0

pub receive_collecting-requires : goal.receive_collecting-requires
receive_collecting-requires c =
    let st = stack_of c.args.sizes c.args.state.now in
    let f = some_placed (length st.slots) (find (collects c.args.h.key) st.slots) c.in-Some.i (sym c.in-Some.ensures) in
    (c.requires.0, c.requires.1, c.requires.2, c.requires.3, c.requires.4, omega (arith, slots_length c.args.sizes c.args.state.now, f.1))

pub returns-in-Some : goal.returns-in-Some
returns-in-Some c =
    let st = stack_of c.args.sizes c.args.state.now in
    let f = some_placed (length st.slots) (find (collects c.args.h.key) st.slots) c.in-Some.i (sym c.in-Some.ensures) in
    let l : find (collects c.args.h.key) st.slots < length st.slots = omega (arith, f.0, f.1) in
    makes_as c.args.sizes c.receive_collecting.result (ap (λ (j : ℕ). land c.args.sizes.body j st c.args.h c.args.packet.now (Ok (slot_at j st))) f.0 ∙ sym (good_collecting c.args.sizes.body st c.args.packet.now c.args.h l)) c.receive_collecting.ensures

pub receive_opening-requires : goal.receive_opening-requires
receive_opening-requires c =
    let st = stack_of c.args.sizes c.args.state.now in
    let f = some_placed (length st.slots) (find is_empty st.slots) c.in-Some-find_empty.j (sym c.in-Some-find_empty.ensures) in
    let l : find is_empty st.slots < length st.slots = omega (arith, f.0, f.1) in
    (c.requires.0, c.requires.1, c.requires.2, c.requires.3, c.requires.4, omega (arith, slots_length c.args.sizes c.args.state.now, f.1), ap (λ (j : ℕ). is_empty (slot_at j st)) f.0 ∙ find_hit is_empty st.slots blank_slot l)

pub returns : goal.returns
returns c =
    let st = stack_of c.args.sizes c.args.state.now in
    let f = some_placed (length st.slots) (find is_empty st.slots) c.in-Some-find_empty.j (sym c.in-Some-find_empty.ensures) in
    let k = none_placed (length st.slots) (find (collects c.args.h.key) st.slots) (sym c.find_collecting.ensures ∙ c.in_default.is) in
    let l : find is_empty st.slots < length st.slots = omega (arith, f.0, f.1) in
    makes_as c.args.sizes c.receive_opening.result (ap (λ (j : ℕ). receive_at c.args.sizes.body j st c.args.packet.now (Some c.args.h)) f.0 ∙ sym (good_empty c.args.sizes.body st c.args.packet.now c.args.h k l)) c.receive_opening.ensures

pub returns-in_default-find_empty : goal.returns-in_default-find_empty
returns-in_default-find_empty c =
    let st = stack_of c.args.sizes c.args.state.now in
    let k = none_placed (length st.slots) (find (collects c.args.h.key) st.slots) (sym c.find_collecting.ensures ∙ c.in_default.is) in
    let l = none_placed (length st.slots) (find is_empty st.slots) (sym c.find_empty.ensures ∙ c.in_default-find_empty.is) in
    makes_as c.args.sizes _ (sym (good_none c.args.sizes.body st c.args.packet.now c.args.h k l)) (refusal c.args.sizes NoSpace c.args.pool.now st (stays c.args.sizes c.args.state.now c.requires.0))
