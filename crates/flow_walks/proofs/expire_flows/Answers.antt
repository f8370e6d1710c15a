use Rattle.state.proofs.PartLoops.{timed_flows, check_start, check_next, check_done}
use borrow.Author.Rules.{rules}
use native.Mathlib.Omega.{arith}
use Rattle.flow_walks.proofs.expire_flows.Goals as goal

pub loop-i-init : goal.loop-i-init
loop-i-init c = check_start timed_flows _ _ _ _ c.requires

pub expire_flow-found-requires : goal.expire_flow-found-requires
expire_flow-found-requires c = (c.loop-i.invariant.walked.made.kept, search rules)

pub loop-i-preserved : goal.loop-i-preserved
loop-i-preserved c =
    check_next timed_flows _ _ _ _ _ _ _ c.loop-i.invariant c.expire_flow-found.new.state _ (omega arith) c.expire_flow-found.ensures

pub returns : goal.returns
returns c = check_done timed_flows _ _ _ _ _ _ _ c.loop-i.invariant (omega arith)
