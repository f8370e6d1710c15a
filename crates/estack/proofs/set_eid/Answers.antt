-- `set_eid` stores a normal EID, and refuses any other.
use mathlib.Core.Path.{refl, sym, ◌∙◌}
use Rattle.std.proofs.lemmas.Result.{err_from_is_err_and}
use Rattle.state.proofs.StackLaws.{stays}
use Rattle.estack.proofs.set_eid.Goals as goal

pub returns-in_err-new_normal : goal.returns-in_err-new_normal
returns-in_err-new_normal c =
    let p = err_from_is_err_and c.from_residual.result c.from_residual.ensures.1 in
    rw (p.1, p.2, sym c.new_normal.ensures ∙ c.in_err-new_normal.was) (refl, stays c.args.sizes c.args.state.now c.requires)

pub returns : goal.returns
returns c = rw (sym c.new_normal.ensures ∙ c.in_ok-new_normal.was) (refl, c.put_own.ensures)
