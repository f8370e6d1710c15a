-- `find_free` asks each place in turn whether it holds a flow.
use mathlib.Core.Path.{◌≡◌}
use mathlib.Core.Bool.{true, false}
use lib.ListN.{get_or}
use borrow.Author.Rules.{rules}
use borrow.Author.Tests.{tests}
use Rattle.config.specs.Config.{flow_count}
use Rattle.std.proofs.lemmas.Iterator.{first_from_Range}
use Rattle.octets.proofs.Finds.{searched_first}
use Rattle.flows.specs.Table.{no_flow, is_free}
use Rattle.state.specs.Stack.{stack_of}
use Rattle.state.proofs.StackLaws.{flows_length}
use Rattle.flow_walks.proofs.find_free.Goals as goal

pub returns : goal.returns
returns c =
    let l = (stack_of c.args.sizes c.args.state.now).flows in
    searched_first is_free l no_flow flow_count c.find.result (flows_length c.args.sizes c.args.state.now)
    (first_from_Range _ _ _ c.find.result (λ i. is_free (get_or l i no_flow) ≡ true) (λ i. is_free (get_or l i no_flow) ≡ false) c.find.ensures.ran
    (λ x q k. search (rules, tests)) (λ x q k. search (rules, tests)))
