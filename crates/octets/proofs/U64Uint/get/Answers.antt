-- The `get` of u64 joins its two halves: two fields side by side are one (`get_pair`); past the end there is nothing to read.
use mathlib.Core.Path.{refl}
use borrow.Author.Rules.{rules}
use Rattle.octets.proofs.Number.{get_pair, get_past, top}
use Rattle.octets.proofs.U64Uint.get.Goals as goal

pub returns-then-b-at : goal.returns-then-b-at
returns-then-b-at c = search (rules, get_past)

pub returns : goal.returns
unfolding top
returns c = get_pair _ 4 8 _ c.get-lo.ensures c.get-hi.ensures refl refl
