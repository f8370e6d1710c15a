-- `find_empty` asks each slot in turn for its state.
use mathlib.Core.Path.{◌≡◌, sym}
use mathlib.Core.Bool.{true, false}
use borrow.Author.Rules.{rules}
use borrow.Author.Tests.{tests}
use Rattle.std.proofs.lemmas.Iterator.{first_from_Range}
use Rattle.octets.proofs.Finds.{searched_first}
use Rattle.slot.specs.Slot.{blank_slot, is_empty}
use Rattle.state.specs.Stack.{stack_of, slot_at}
use Rattle.state.proofs.StackLaws.{slots_length}
use Rattle.state.proofs.Words.{state_empty}
use Rattle.slot_walks.proofs.find_empty.Goals as goal

pub returns : goal.returns
returns c =
    let st = stack_of c.args.sizes c.args.state.now in
    searched_first is_empty st.slots blank_slot c.args.sizes.slots c.find.result (slots_length c.args.sizes c.args.state.now)
    (first_from_Range _ _ _ c.find.result (λ i. is_empty (slot_at i st) ≡ true) (λ i. is_empty (slot_at i st) ≡ false) c.find.ensures.ran
    (λ x q k. rw (sym (state_empty (slot_at x st))) (search (rules, tests))) (λ x q k. let e = state_empty (slot_at x st) in search (rules, tests)))
