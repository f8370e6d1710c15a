-- `receive_opening` counts the event whatever the gate says; the slot that passes has its ranges, and the packet enters it.
use native.Mathlib.Omega.{arith}
use Rattle.std.proofs.lemmas.Result.{err_from_is_err_and}
use mathlib.Core.Path.{sym, ◌∙◌}
use Rattle.std.specs.Prelude.{Ok}
use Rattle.mctp.specs.Header.{HeaderOk}
use Rattle.state.specs.Stack.{Stack, stack_of, ticked}
use Rattle.receiving.specs.Receive.{land}
use Rattle.receiving.proofs.Entered.{gate_ok}
use Rattle.receiving.proofs.Receipts.{makes_as, makes_then, refusal, at_empty, shut_at}
use Rattle.receiving.proofs.receive_opening.Goals as goal

pub gate_empty-gate-requires : goal.gate_empty-gate-requires
gate_empty-gate-requires c = c.requires.0

pub tick-requires : goal.tick-requires
tick-requires c = c.requires.0

pub feed-requires : goal.feed-requires
feed-requires c =
    let ok : HeaderOk c.args.h = record { dest = omega (arith, c.well_formed.1.1.1.1.0); source = omega (arith, c.well_formed.1.1.1.1.0); tag = c.requires.1; seq = c.requires.2 } in
    (c.tick.ensures.1.kept, c.requires.1, c.requires.2, c.requires.3, c.requires.4, c.requires.5, gate_ok c.args.sizes c.args.state.now _ c.args.h c.in_ok-s.s c.requires.0 ok (sym c.gate_empty-gate.ensures ∙ c.in_ok-s.was))

pub returns-in_err-s : goal.returns-in_err-s
returns-in_err-s c =
    let st = stack_of c.args.sizes c.args.state.now in
    let p = err_from_is_err_and c.from_residual.result c.from_residual.ensures.1 in
    rw (p.1, p.2)
    (makes_as c.args.sizes _ (sym (at_empty c.args.sizes.body st c.args.packet.now c.args.i c.args.h c.gate_empty-gate.result c.requires.6 c.gate_empty-gate.ensures ∙ shut_at c.args.sizes.body (ticked st) c.args.packet.now c.args.i c.args.h c.gate_empty-gate.result c.in_err-s.field-0.0 c.in_err-s.was))
    (refusal c.args.sizes c.in_err-s.field-0.0 c.args.pool.now (ticked st) c.tick.ensures.1))

pub returns : goal.returns
returns c =
    let st = stack_of c.args.sizes c.args.state.now in
    makes_as c.args.sizes c.feed.result (sym (at_empty c.args.sizes.body st c.args.packet.now c.args.i c.args.h (Ok c.in_ok-s.s) c.requires.6 (sym c.in_ok-s.was ∙ c.gate_empty-gate.ensures)))
    (makes_then c.args.sizes c.feed.result (λ (x : Stack). land c.args.sizes.body c.args.i x c.args.h c.args.packet.now (Ok c.in_ok-s.s)) (ticked st) c.tick.ensures.1 c.feed.ensures)
