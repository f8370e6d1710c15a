-- Each test refuses a slot that is out of its range.
use native.Mathlib.Omega.{arith}
use Rattle.kept.proofs.TellLaws.{says_no_lem}
use borrow.Author.Tests.{leb-true, le-leb}
use Rattle.kept.proofs.slot_ranges.Goals as goal

pub returns-then-s-gt3 : goal.returns-then-s-gt3
returns-then-s-gt3 c = says_no_lem (λ r. omega (arith, r.seq))

pub returns : goal.returns
returns c = record { sound = λ e. record { seq = omega arith; len = leb-true _ _ e }; complete = λ r. le-leb _ _ r.len }
