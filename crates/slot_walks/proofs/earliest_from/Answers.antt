-- `earliest_from` is `earliest_of` with a test of sender and tag.
use Rattle.slot.specs.Slot.{kept_under}
use borrow.Author.Rules.{rules}
use Rattle.slot_walks.proofs.earliest_from.Goals as goal

pub returns : goal.returns
returns c = c.earliest_of.ensures (kept_under c.args.peer c.args.owner c.args.tag) (λ s b h. search rules)
