use borrow.Author.Tests.{lt-ltb, le-ltb}
use Rattle.octets.specs.Pick.{pick}
use Rattle.performing.specs.Perform.{lent, small_calls}
use Rattle.performing.proofs.small.Goals as goal

pub returns-then-op-lt5 : goal.returns-then-op-lt5
unfolding small_calls pick
returns-then-op-lt5 c =
    rw (lt-ltb _ _ c.if-op-lt5.true) (λ p o m f. c.own.ensures (lent p o _ m f))

pub returns-then-op-lt12 : goal.returns-then-op-lt12
unfolding small_calls pick
returns-then-op-lt12 c =
    rw (le-ltb _ _ c.if-op-lt5.false, lt-ltb _ _ c.if-op-lt12.true) (c.look.ensures)

pub returns-then-op-lt16 : goal.returns-then-op-lt16
unfolding small_calls pick
returns-then-op-lt16 c =
    rw (le-ltb _ _ c.if-op-lt5.false, le-ltb _ _ c.if-op-lt12.false, lt-ltb _ _ c.if-op-lt16.true) (λ p o m f. c.held.ensures (lent p o _ m f))

pub returns : goal.returns
unfolding small_calls pick
returns c =
    rw (le-ltb _ _ c.if-op-lt5.false, le-ltb _ _ c.if-op-lt12.false, le-ltb _ _ c.if-op-lt16.false) (λ p o m f. c.flow.ensures (lent p o _ m f))
