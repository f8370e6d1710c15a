-- `own`: the own EID is set or told, or a packet's destination is looked at; a yes or no is told as 1 or 0.
use mathlib.Core.Path.{◌≡◌, refl, ap, ◌∙◌}
use mathlib.Core.Bool.{Bool, true, false}
use borrow.Author.Tests.{eq-eqb, ne_eqb}
use Rattle.octets.specs.Pick.{pick}
use Rattle.mctp.specs.Answer.{flag_word}
use Rattle.mctp.specs.Header.{bit}
use Rattle.performing.specs.Perform.{own_calls}
use Rattle.performing.proofs.Links.{set_eid_link, eid_link, local_link, nothing_link}
use Rattle.performing.proofs.own.Goals as goal

bit-flag : (b : Bool) → bit b 1 ≡ flag_word b
bit-flag true = refl
bit-flag false = refl

pub returns-then-op-eq2 : goal.returns-then-op-eq2
unfolding own_calls pick
returns-then-op-eq2 c =
    rw (eq-eqb _ _ c.if-op-eq2.true) (set_eid_link _ _ _ _ (rw c.narrow.ensures at c.hyphaloom_set_eid.ensures.said, rw c.narrow.ensures at c.hyphaloom_set_eid.ensures.stack))

pub returns-then-op-eq3 : goal.returns-then-op-eq3
unfolding own_calls pick
returns-then-op-eq3 c =
    rw (ne_eqb _ _ c.if-op-eq2.false, eq-eqb _ _ c.if-op-eq3.true) (λ l. eid_link _ c.requires _ l c.hyphaloom_eid.ensures)

pub returns-then-op-eq4 : goal.returns-then-op-eq4
unfolding own_calls pick
returns-then-op-eq4 c =
    rw (ne_eqb _ _ c.if-op-eq2.false, ne_eqb _ _ c.if-op-eq3.false, eq-eqb _ _ c.if-op-eq4.true) (λ l. local_link _ c.requires _ l _ (c.bit_of.ensures.0 ∙ bit-flag c.hyphaloom_is_local_dest.result ∙ ap flag_word c.hyphaloom_is_local_dest.ensures))

pub returns : goal.returns
unfolding own_calls pick
returns c = rw (ne_eqb _ _ c.if-op-eq2.false, ne_eqb _ _ c.if-op-eq3.false, ne_eqb _ _ c.if-op-eq4.false) (λ l. nothing_link _ c.requires _ l refl)
