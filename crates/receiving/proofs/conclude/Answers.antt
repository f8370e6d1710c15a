-- `conclude` says "more" of a packet that is not the last; a whole message takes the next number first, then its flow ends.
use Prim.Native.Nat.{ℕ}
use mathlib.Core.Path.{refl, ap, ◌∙◌}
use mathlib.Core.Bool.{true, false}
use Rattle.std.specs.Prelude.{None, Ok, Some}
use Rattle.state.proofs.StackLaws.{stays}
use Rattle.slot.specs.Handle.{next_issue}
use Rattle.receiving.proofs.Ends.{ended, concludes_as}
use Rattle.receiving.proofs.conclude.Goals as goal

pub issue_at-requires : goal.issue_at-requires
issue_at-requires c = c.requires

pub put_issue-requires : goal.put_issue-requires
put_issue-requires c = c.requires

pub close-requires : goal.close-requires
close-requires c = c.put_issue.ensures.kept

pub returns-then-whole : goal.returns-then-whole
returns-then-whole c =
    let e = c.next_issue-issue.ensures ∙ ap next_issue c.issue_at.ensures in
    let said = Ok (Some (record { index = c.args.i; issue = c.next_issue-issue.result })) in
    concludes_as c.args.sizes c.args.state.now c.close.new.state c.args.key c.args.i said c.args.whole true c.if-whole.true
    (ap (λ (m : ℕ). Ok (Some (record { index = c.args.i; issue = m }))) e, ended c.args.sizes c.args.state.now c.put_issue.new.state c.close.new.state c.args.key c.next_issue-issue.result e c.put_issue.ensures c.close.ensures)

pub returns : goal.returns
returns c =
    concludes_as c.args.sizes c.args.state.now c.args.state.now c.args.key c.args.i (Ok None) c.args.whole false c.if-whole.false (refl, stays c.args.sizes c.args.state.now c.requires)
