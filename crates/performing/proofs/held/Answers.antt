use native.Mathlib.Omega.{arith}
use mathlib.Core.Path.{◌≡◌, refl}
use borrow.Author.Tests.{eq-eqb, ne_eqb}
use Rattle.octets.specs.Pick.{pick}
use Rattle.performing.specs.Perform.{handle_calls}
use Rattle.performing.proofs.Links.{finish_link, return_link, cookie_link, nothing_link}
use Rattle.performing.proofs.held.Goals as goal

pub returns-then-op-eq13 : goal.returns-then-op-eq13
unfolding handle_calls pick
returns-then-op-eq13 c =
    let is : c.args.op ≡ 13 = omega arith in
    rw (eq-eqb _ _ is) (finish_link _ _ _ _ (c.hyphaloom_finished_receive.ensures.said, c.hyphaloom_finished_receive.ensures.stack))

pub returns-then-op-eq14 : goal.returns-then-op-eq14
unfolding handle_calls pick
returns-then-op-eq14 c =
    let not13 : c.args.op ≡ 13 → ⊥ = λ h. omega arith in
    rw (ne_eqb _ _ not13, eq-eqb _ _ c.if-op-eq14.true) (return_link _ _ _ _ (c.hyphaloom_return_handle.ensures.said, c.hyphaloom_return_handle.ensures.stack))

pub returns-then-op-eq15 : goal.returns-then-op-eq15
unfolding handle_calls pick
returns-then-op-eq15 c =
    let not13 : c.args.op ≡ 13 → ⊥ = λ h. omega arith in
    rw (ne_eqb _ _ not13, ne_eqb _ _ c.if-op-eq14.false, eq-eqb _ _ c.if-op-eq15.true) (cookie_link _ _ _ _ _ (rw c.narrow.ensures at c.hyphaloom_set_cookie.ensures.said, rw c.narrow.ensures at c.hyphaloom_set_cookie.ensures.stack))

pub returns : goal.returns
unfolding handle_calls pick
returns c =
    let not13 : c.args.op ≡ 13 → ⊥ = λ h. omega arith in
    rw (ne_eqb _ _ not13, ne_eqb _ _ c.if-op-eq14.false, ne_eqb _ _ c.if-op-eq15.false) (λ l. nothing_link _ c.requires _ l refl)
