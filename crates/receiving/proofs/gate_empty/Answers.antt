-- `gate_empty` asks in the definition's order: what an empty slot asks, then whose tag it is, then the flow.
use mathlib.Core.Path.{◌≡◌, sym, ap, ◌∙◌}
use Rattle.std.specs.Prelude.{Ok}
use Rattle.octets.specs.Pick.{pick_true, pick_false}
use mathlib.Core.Bool.{Bool}
use Rattle.mctp.specs.declared.Eid.{Eid}
use Rattle.mctp.specs.declared.Header.{Header}
use Rattle.slot.specs.declared.Reassembler.{Reassembler}
use Rattle.reassemble.specs.Enter.{opening, gate_empty}
use Rattle.state.specs.Stack.{stack_of}
use Rattle.receiving.proofs.gate_empty.Goals as goal

-- what was asked is what the definition asks
asked : (o own : Eid) (h : Header) {r : Bool} → r ≡ opening o h → o ≡ own → r ≡ opening own h
asked o own h e q = e ∙ ap (λ (x : Eid). opening x h) q

pub own_eid-own-requires : goal.own_eid-own-requires
own_eid-own-requires c = c.requires

pub returns-then-h : goal.returns-then-h
unfolding gate_empty
returns-then-h c =
    let e = sym (asked c.own_eid-own.result (stack_of c.args.sizes c.args.state.now).head.own_eid c.args.h c.opens.ensures c.own_eid-own.ensures) ∙ c.if-not-opens.false in
    ap (λ (x : Reassembler). Ok x) c.«open».ensures ∙ sym (pick_true _ _ _ e ∙ pick_true _ _ _ c.if-h.true)

pub gate_by_flow-requires : goal.gate_by_flow-requires
gate_by_flow-requires c = c.requires

pub returns : goal.returns
unfolding gate_empty
returns c =
    let e = sym (asked c.own_eid-own.result (stack_of c.args.sizes c.args.state.now).head.own_eid c.args.h c.opens.ensures c.own_eid-own.ensures) ∙ c.if-not-opens.false in
    c.gate_by_flow.ensures ∙ sym (pick_true _ _ _ e ∙ pick_false _ _ _ c.if-h.false)

pub returns-then-not-opens : goal.returns-then-not-opens
unfolding gate_empty
returns-then-not-opens c = sym (pick_false _ _ _ (sym (asked c.own_eid-own.result (stack_of c.args.sizes c.args.state.now).head.own_eid c.args.h c.opens.ensures c.own_eid-own.ensures) ∙ c.if-not-opens.true))
