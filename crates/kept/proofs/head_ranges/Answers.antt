-- Each test refuses a head that is out of its range; past the last test all ranges hold. The code subtracts to see how far ahead the planned check is, since a sum could wrap.
use native.Mathlib.Omega.{arith}
use Rattle.kept.proofs.TellLaws.{says_no_lem, says_yes}
use borrow.Author.Rules.{rules}
use Rattle.kept.proofs.head_ranges.Goals as goal

pub returns-then-h-gt7 : goal.returns-then-h-gt7
returns-then-h-gt7 c = says_no_lem (λ r. let l = r.tag in omega arith)

pub returns-then-h-gt3 : goal.returns-then-h-gt3
returns-then-h-gt3 c = says_no_lem (λ r. let l = r.seq in omega arith)

pub returns-then-h : goal.returns-then-h
returns-then-h c = says_yes (search rules)

pub returns-then-h-2 : goal.returns-then-h-2
returns-then-h-2 c = says_no_lem (λ r. let l = r.soon in omega arith)

pub returns : goal.returns
returns c = says_yes (search rules)
