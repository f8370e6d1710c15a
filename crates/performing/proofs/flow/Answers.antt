use mathlib.Core.Path.{refl}
use borrow.Author.Tests.{eq-eqb, ne_eqb}
use Rattle.octets.specs.Pick.{pick}
use Rattle.performing.specs.Perform.{flow_calls}
use Rattle.performing.proofs.Links.{cancel_link, free_tags_link, nothing_link}
use Rattle.performing.proofs.flow.Goals as goal

pub returns-then-op-eq16 : goal.returns-then-op-eq16
unfolding flow_calls pick
returns-then-op-eq16 c =
    rw (eq-eqb _ _ c.if-op-eq16.true) (cancel_link _ _ _ _ _ (rw (c.narrow-peer.ensures, c.narrow.ensures) at c.hyphaloom_cancel_flow.ensures.said, rw (c.narrow-peer.ensures, c.narrow.ensures) at c.hyphaloom_cancel_flow.ensures.stack))

pub returns-then-op-eq17 : goal.returns-then-op-eq17
unfolding flow_calls pick
returns-then-op-eq17 c =
    rw (ne_eqb _ _ c.if-op-eq16.false, eq-eqb _ _ c.if-op-eq17.true) (λ l. free_tags_link _ c.requires _ l _ (rw c.narrow-peer.ensures at c.hyphaloom_free_tags.ensures))

pub returns : goal.returns
unfolding flow_calls pick
returns c = rw (ne_eqb _ _ c.if-op-eq16.false, ne_eqb _ _ c.if-op-eq17.false) (λ l. nothing_link _ c.requires _ l refl)
