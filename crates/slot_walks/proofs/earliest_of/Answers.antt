-- `earliest_of` goes down from the last slot: what the test says of a slot is what p says.
use native.Mathlib.Omega.{arith}
use mathlib.Core.Path.{sym, ap, ◌∙◌}
use Prim.Native.Nat.{ℕ}
use Rattle.octets.specs.Find.{placed}
use Rattle.octets.proofs.Finds.{is_placed}
use Rattle.slot.specs.Search.{earliest}
use Rattle.state.specs.Stack.{stack_of}
use Rattle.state.proofs.StackLaws.{slots_length}
use Rattle.slot_walks.proofs.SlotSearch.{seen_start, seen_takes, seen_fails, seen_open, seen_done}
use Rattle.slot_walks.proofs.earliest_of.Goals as goal
use Rattle.slot_walks.proofs.earliest_of.Goals.{else-done-via-then-done+else-passes, else-done-via-else-done}

pub loop-i-init : goal.loop-i-init
loop-i-init g c = record { slot = tt; seen = λ p q. seen_start c.args.sizes c.args.state.now p }

pub better-requires-clause-slots : goal.better-requires-clause-slots
better-requires-clause-slots g c = (omega arith, c.loop-i.invariant.slot)

pub loop-i-preserved-then-passes : goal.loop-i-preserved-then-passes
loop-i-preserved-then-passes g c = record {
  slot = c.better.ensures.slot;
  seen = λ p q.
      seen_takes c.args.sizes c.args.state.now p c.loop-i.i _ (c.loop-i.invariant.seen p q) c.loop-i-test.true _ c.slot_at-s.ensures.0 _
      (sym c.is_done-done.ensures ∙ c.if-done.true) (sym (q _ _ c.passes.ensures) ∙ c.if-passes.true) c.better.ensures.better;
}

pub loop-i-preserved : goal.loop-i-preserved
loop-i-preserved g c = record {
  slot = c.loop-i.invariant.slot;
  seen = λ p q.
      elim c.else-done.branch [
        | else-done-via-then-done+else-passes w ↦
            seen_fails c.args.sizes c.args.state.now p c.loop-i.i _ (c.loop-i.invariant.seen p q) c.loop-i-test.true _ c.slot_at-s.ensures.0
            (sym c.is_done-done.ensures ∙ w.if-done.true) (sym (q _ _ w.passes.ensures) ∙ w.if-passes.false)
        | else-done-via-else-done w ↦
            seen_open c.args.sizes c.args.state.now p c.loop-i.i _ (c.loop-i.invariant.seen p q) c.loop-i-test.true _ c.slot_at-s.ensures.0
            (sym c.is_done-done.ensures ∙ w.if-done.false)
      ];
}

pub returns : goal.returns
returns g c =
    λ p q.
    let z = c.args.sizes in
    let l = (stack_of z c.args.state.now).slots in
    let s = seen_done z c.args.state.now p c.loop-i.i _ (c.loop-i.invariant.seen p q) c.loop-i-test.false in
    is_placed z.slots (earliest p l) c.loop-i.best c.loop-i.invariant.slot s.0
    ∙ ap (λ (n : ℕ). placed n (earliest p l)) (sym (slots_length z c.args.state.now))
