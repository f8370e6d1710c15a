-- `find_word` asks each slot in turn for its number.
use mathlib.Core.Path.{◌≡◌}
use mathlib.Core.Bool.{true, false}
use lib.ListN.{get_or}
use borrow.Author.Tests.{tests}
use borrow.Author.Rules.{rules}
use Rattle.std.proofs.lemmas.Iterator.{first_from_Range}
use Rattle.octets.proofs.Finds.{searched_first}
use Rattle.slot.specs.Slot.{blank_slot}
use Rattle.state.specs.Stack.{stack_of}
use Rattle.state.proofs.StackLaws.{slots_length}
use Rattle.slot_walks.specs.SlotWalks.{has_word}
use Rattle.slot_walks.proofs.find_word.Goals as goal

pub returns : goal.returns
returns c =
    let l = (stack_of c.args.sizes c.args.state.now).slots in
    let p = has_word c.args.w in
    searched_first p l blank_slot c.args.sizes.slots c.find.result (slots_length c.args.sizes c.args.state.now)
    (first_from_Range _ _ _ c.find.result (λ i. p (get_or l i blank_slot) ≡ true) (λ i. p (get_or l i blank_slot) ≡ false) c.find.ensures.ran
    (λ x q k. search (rules, tests)) (λ x q k. search (rules, tests)))
