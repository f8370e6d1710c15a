-- `earliest_listed` is `earliest_of` with a test of the cookie.
use Rattle.slot.specs.declared.Reassembler.{Reassembler}
use Rattle.slot.specs.Slot.{listed}
use borrow.Author.Rules.{rules}
use Rattle.slot_walks.proofs.earliest_listed.Goals as goal

pub returns : goal.returns
returns c = c.earliest_of.ensures (λ (s : Reassembler). listed c.args.cookies.now s.cookie) (λ s b h. search rules)
