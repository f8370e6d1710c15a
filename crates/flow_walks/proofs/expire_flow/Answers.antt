-- `expire_flow` asks for the flow's time once: an expired flow goes, any other stays as it was.
use mathlib.Core.Path.{sym, subst}
use Rattle.flows.specs.declared.Flow.{Flow}
use Rattle.flows.specs.Codec.{FlowOk}
use Rattle.flows.proofs.TableLaws.{no_flow_ok}
use Rattle.state.proofs.PartLoops.{timed_flows, expire_gone, expire_stays}
use borrow.Author.Rules.{rules}
use Rattle.flow_walks.proofs.expire_flow.Goals as goal

pub put_flow-requires : goal.put_flow-requires
put_flow-requires c = (search rules, subst (λ (f : Flow). FlowOk f) (sym c.no_flow.ensures) no_flow_ok)

pub returns-then-is_expired : goal.returns-then-is_expired
returns-then-is_expired c =
    expire_gone timed_flows _ _ _ _ _ c.flow_at.ensures.0 c.check_expired-t.ensures c.noted-found.ensures c.is_expired.ensures
    c.if-is_expired.true c.no_flow.ensures c.put_flow.ensures

pub returns-else-is_expired : goal.returns-else-is_expired
returns-else-is_expired c =
    expire_stays timed_flows _ _ _ _ _ c.flow_at.ensures.0 c.check_expired-t.ensures c.noted-found.ensures c.is_expired.ensures
    c.if-is_expired.false c.requires.0
