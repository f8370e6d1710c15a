-- Where a test fails, something that `Kept` asks does not hold; past the last test all of it holds.
use native.Mathlib.Omega.{arith}
use Rattle.kept.proofs.TellLaws.{says_no_lem, refuted, shown, tells_as, halves}
use borrow.Author.Rules.{rules}
use Rattle.std.proofs.lemmas.Bool.{not_from_true, not_from_false}
use Rattle.kept.proofs.is_kept.Goals as goal

pub returns-then-sizes-gt255 : goal.returns-then-sizes-gt255
returns-then-sizes-gt255 c = let all = halves (says_no_lem (λ k. let z = k.sizes.slots in omega arith)) in
    record { sound = all.0; complete = all.1 }

pub returns-then-sizes-gt65535 : goal.returns-then-sizes-gt65535
returns-then-sizes-gt65535 c = let all = halves (says_no_lem (λ k. let z = k.sizes.body in omega arith)) in
    record { sound = all.0; complete = all.1 }

pub returns-then-state-sizes : goal.returns-then-state-sizes
returns-then-state-sizes c = let all = halves (says_no_lem (λ k. let l = k.long in search rules)) in
    record { sound = all.0; complete = all.1 }

pub returns-then-not-head_holds : goal.returns-then-not-head_holds
returns-then-not-head_holds c = let all = halves (says_no_lem (λ k. refuted c.head_holds.ensures (not_from_false _ c.if-not-head_holds.true) k.head)) in
    record { sound = all.0; complete = all.1 }

pub returns-then-not-flows_hold : goal.returns-then-not-flows_hold
returns-then-not-flows_hold c = let all = halves (says_no_lem (λ k. refuted c.flows_hold.ensures (not_from_false _ c.if-not-flows_hold.true) k.flows)) in
    record { sound = all.0; complete = all.1 }

pub returns : goal.returns
returns c =
    let all = halves
    (tells_as c.slots_hold.ensures
    (λ s. record {
      sizes = record { slots = search rules; body = search rules };
      long = search rules;
      head = shown c.head_holds.ensures (not_from_true _ c.if-not-head_holds.false);
      flows = shown c.flows_hold.ensures (not_from_true _ c.if-not-flows_hold.false);
      slots = s;
    })
    (λ k. k.slots)) in
    record { sound = all.0; complete = all.1 }
