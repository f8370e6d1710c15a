use Rattle.config.specs.Config.{flow_count}
use Rattle.flows.specs.Codec.{flow_codec}
use Rattle.state.specs.Layout.{flows_at}
use Rattle.kept.proofs.TellLaws.{says_no_lem, says_yes, refuted, shown}
use Rattle.kept.proofs.BlockLaws.{blocks_none, blocks_more, blocks_not, blocks_all}
use borrow.Author.Rules.{rules}
use Rattle.std.proofs.lemmas.Bool.{not_from_true, not_from_false}
use Rattle.kept.proofs.flows_hold.Goals as goal

pub loop-i-init : goal.loop-i-init
loop-i-init c = (search rules, blocks_none _ _ _)

pub returns-then-not-flow_holds : goal.returns-then-not-flow_holds
returns-then-not-flow_holds c =
    says_no_lem (blocks_not flow_codec c.args.state.now flow_count flows_at c.loop-i.i (search rules) (refuted c.flow_holds.ensures (not_from_false _ c.if-not-flow_holds.true)))

pub loop-i-preserved : goal.loop-i-preserved
loop-i-preserved c =
    (search rules, blocks_more flow_codec c.args.state.now flows_at c.loop-i.i c.loop-i.invariant.1 (shown c.flow_holds.ensures (not_from_true _ c.if-not-flow_holds.false)))

pub returns : goal.returns
returns c =
    says_yes (blocks_all flow_codec c.args.state.now flow_count flows_at c.loop-i.i (search rules) (search rules) c.loop-i.invariant.1)
