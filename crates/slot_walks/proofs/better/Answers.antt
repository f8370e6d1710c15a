-- `better` picks as the definition does: slot reads give the two stamps.
use mathlib.Core.Path.{sym, ◌∙◌}
use native.Mathlib.Omega.{arith}
use Rattle.slot_walks.proofs.SlotSearch.{better_none, better_keeps, better_takes}
use Rattle.slot_walks.proofs.better.Goals as goal

pub returns-in_default-clause-better : goal.returns-in_default-clause-better
returns-in_default-clause-better c = rw c.in_default.is (better_none c.args.sizes c.args.state.now c.args.i c.args.sizes.slots (omega arith))

pub returns-then-before-clause-better : goal.returns-then-before-clause-better
returns-then-before-clause-better c =
    rw c.in-Some.is
    (better_keeps c.args.sizes c.args.state.now c.args.i c.in-Some.j (rw c.in-Some.is at c.requires.slots.1) _ _ c.slot_at.ensures.0 c.slot_at-2.ensures.0 (sym c.is_before-before.ensures ∙ c.if-before.true))

pub returns-clause-better : goal.returns-clause-better
returns-clause-better c =
    rw c.in-Some.is
    (better_takes c.args.sizes c.args.state.now c.args.i c.in-Some.j (rw c.in-Some.is at c.requires.slots.1) _ _ c.slot_at.ensures.0 c.slot_at-2.ensures.0 (sym c.is_before-before.ensures ∙ c.if-before.false))
