-- `get_deferred_bycookie` takes the earliest slot whose cookie is listed.
use Prim.Native.Nat.{ℕ}
use mathlib.Core.Path.{ap, ◌∙◌, sym, subst}
use Rattle.std.specs.Prelude.{◌<◌, Option, IfSome, unwrap_or}
use Rattle.slot.specs.declared.Reassembler.{Reassembler}
use Rattle.slot.specs.Slot.{listed}
use Rattle.handles.proofs.HandleLaws.{earliest_slot, earliest_back}
use Rattle.handles.proofs.get_deferred_bycookie.Goals as goal

pub take-requires : goal.take-requires
take-requires c =
    record { kept = c.requires; slot = subst (λ (o : Option ℕ). IfSome o (λ i. i < c.args.sizes.slots)) (sym c.earliest_listed-found.ensures) (earliest_slot c.args.sizes c.args.state.now (λ (s : Reassembler). listed c.args.cookies.now s.cookie)) }

pub returns : goal.returns
returns c =
    let e =
    ap (λ (o : Option ℕ). unwrap_or o c.args.sizes.slots) c.earliest_listed-found.ensures
    ∙ earliest_back c.args.sizes c.args.state.now (λ (s : Reassembler). listed c.args.cookies.now s.cookie) in
    rw e at c.take.ensures
