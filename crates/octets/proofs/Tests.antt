-- The lists that close a `return` of branchy code against a definition of `cond`s (`tests`) or of `pick`s (`picks`).
use borrow.Author.Rules.{rules}
use borrow.Author.Tests.{le-ltb, lt-ltb, le-leb, lt-leb, eq-eqb, ne_eqb, not-true, not-false}
use Rattle.octets.specs.Pick.{pick_true, pick_false}

pub ruleset tests = (rules, le-ltb, lt-ltb, le-leb, lt-leb, eq-eqb, ne_eqb, not-true, not-false)

-- for a definition of `pick`s: no branch needs to be listed
pub ruleset picks = (pick_true, pick_false, le-ltb, lt-ltb, le-leb, lt-leb, eq-eqb, ne_eqb)
