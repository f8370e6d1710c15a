use borrow.Author.Tests.{eq-eqb, ne_eqb}
use Rattle.octets.specs.Pick.{pick}
use Rattle.performing.specs.Perform.{calls_of}
use Rattle.performing.proofs.Links.{receive_link, elsewhere_link, fetch_link, send_link}
use Rattle.performing.proofs.perform.Goals as goal

pub returns-then-op-eq9 : goal.returns-then-op-eq9
unfolding calls_of pick
returns-then-op-eq9 c =
    rw (eq-eqb _ _ c.if-op-eq9.true) (receive_link _ _ _ _ _ _ _ _ _ _ _ (c.hyphaloom_receive.ensures.said, (c.hyphaloom_receive.ensures.stack, (c.hyphaloom_receive.ensures.pool, c.hyphaloom_receive.ensures.handle))))

pub returns-then-op-eq19 : goal.returns-then-op-eq19
unfolding calls_of pick
returns-then-op-eq19 c =
    rw (ne_eqb _ _ c.if-op-eq9.false, eq-eqb _ _ c.if-op-eq19.true) (elsewhere_link _ _ _ _ _ _ _ _ _ _ _ (c.hyphaloom_receive-then-op-eq19.ensures.said, (c.hyphaloom_receive-then-op-eq19.ensures.stack, (c.hyphaloom_receive-then-op-eq19.ensures.pool, c.hyphaloom_receive-then-op-eq19.ensures.handle))))

pub returns-then-op-eq12 : goal.returns-then-op-eq12
unfolding calls_of pick
returns-then-op-eq12 c =
    rw (ne_eqb _ _ c.if-op-eq9.false, ne_eqb _ _ c.if-op-eq19.false, eq-eqb _ _ c.if-op-eq12.true) (fetch_link _ c.requires _ _ _ _ _ _ _ _ _ (c.hyphaloom_fetch_message.ensures.said, c.hyphaloom_fetch_message.ensures.message))

pub returns-then-op-eq20 : goal.returns-then-op-eq20
unfolding calls_of pick
returns-then-op-eq20 c =
    rw (ne_eqb _ _ c.if-op-eq9.false, ne_eqb _ _ c.if-op-eq19.false, ne_eqb _ _ c.if-op-eq12.false, eq-eqb _ _ c.if-op-eq20.true) (fetch_link _ c.requires _ _ _ _ _ _ _ _ _ (c.hyphaloom_fetch_message-then-op-eq20.ensures.said, c.hyphaloom_fetch_message-then-op-eq20.ensures.message))

pub returns-then-op-eq5 : goal.returns-then-op-eq5
unfolding calls_of pick
returns-then-op-eq5 c =
    rw (ne_eqb _ _ c.if-op-eq9.false, ne_eqb _ _ c.if-op-eq19.false, ne_eqb _ _ c.if-op-eq12.false, ne_eqb _ _ c.if-op-eq20.false, eq-eqb _ _ c.if-op-eq5.true) (send_link _ _ _ _ _ _ _ _ _ _ (c.hyphaloom_start_send.ensures.said, (c.hyphaloom_start_send.ensures.stack, c.hyphaloom_start_send.ensures.fragmenter)))

pub returns : goal.returns
unfolding calls_of pick
returns c =
    rw (ne_eqb _ _ c.if-op-eq9.false, ne_eqb _ _ c.if-op-eq19.false, ne_eqb _ _ c.if-op-eq12.false, ne_eqb _ _ c.if-op-eq20.false, ne_eqb _ _ c.if-op-eq5.false) (c.small.ensures _ _ _ _)
