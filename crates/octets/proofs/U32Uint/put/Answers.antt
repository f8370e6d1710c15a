-- The `put` of u32 stores the low half and right after it the high half: two stores side by side are one (`put_pair`); past the end nothing is stored.
use mathlib.Core.Path.{refl}
use borrow.Author.Rules.{rules}
use Rattle.octets.proofs.Part.{lay_past}
use Rattle.octets.proofs.Number.{put_pair, top}
use Rattle.octets.proofs.U32Uint.put.Goals as goal

pub returns-then-b-at : goal.returns-then-b-at
returns-then-b-at c = search (rules, lay_past)

pub returns : goal.returns
unfolding top
returns c = put_pair _ 2 4 _ _ c.put.ensures c.put-2.ensures refl (search rules)
