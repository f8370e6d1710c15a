use mathlib.Core.Path.{refl}
use borrow.Author.Tests.{eq-eqb, ne_eqb}
use Rattle.octets.specs.Pick.{pick}
use Rattle.performing.specs.Perform.{lent, look_calls}
use Rattle.performing.proofs.Links.{update_link, source_link, by_cookie_link, nothing_link}
use Rattle.performing.proofs.look.Goals as goal

pub returns-then-op-eq8 : goal.returns-then-op-eq8
unfolding look_calls pick
returns-then-op-eq8 c =
    rw (eq-eqb _ _ c.if-op-eq8.true) (λ p o m f. update_link _ _ _ _ p o m f _ _ (c.hyphaloom_update.ensures.said, (c.hyphaloom_update.ensures.stack, c.hyphaloom_update.ensures.next)))

pub returns-then-op-eq10 : goal.returns-then-op-eq10
unfolding look_calls pick
returns-then-op-eq10 c =
    let s = rw (c.narrow-source.ensures, c.narrow-owner.ensures, c.narrow-tag.ensures) at c.hyphaloom_get_deferred.ensures.stack in
    let h = rw (c.narrow-source.ensures, c.narrow-owner.ensures, c.narrow-tag.ensures) at c.hyphaloom_get_deferred.ensures.handle in
    rw (ne_eqb _ _ c.if-op-eq8.false, eq-eqb _ _ c.if-op-eq10.true) (λ p o m f. source_link _ _ _ _ p o m f _ _ (s, h))

pub returns-then-op-eq11 : goal.returns-then-op-eq11
unfolding look_calls pick
returns-then-op-eq11 c =
    rw (ne_eqb _ _ c.if-op-eq8.false, ne_eqb _ _ c.if-op-eq10.false, eq-eqb _ _ c.if-op-eq11.true) (λ p o m f. by_cookie_link _ _ _ _ p o m f _ (c.hyphaloom_get_deferred_bycookie.ensures.stack, c.hyphaloom_get_deferred_bycookie.ensures.handle))

pub returns : goal.returns
unfolding look_calls pick
returns c =
    rw (ne_eqb _ _ c.if-op-eq8.false, ne_eqb _ _ c.if-op-eq10.false, ne_eqb _ _ c.if-op-eq11.false) (λ p o m f. nothing_link _ c.requires _ (lent p o c.args.handle.now m f) refl)
