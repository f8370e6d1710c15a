-- `get_deferred` takes the earliest slot that the definition names.
use Prim.Native.Nat.{ℕ, ◌<◌, ◌≤◌}
use Rattle.std.specs.Prelude.{Option, IfSome, unwrap_or}
use mathlib.Core.Bool.{Bool}
use mathlib.Core.Path.{refl, ap, ◌∙◌, sym, subst}
use borrow.Author.Tests.{lt-ltb, le-ltb}
use Rattle.octets.specs.Pick.{pick}
use Rattle.mctp.specs.Terms.{tag_of, is_owner}
use Rattle.mctp.specs.declared.TagValue.{TagValue}
use Rattle.slot.specs.Search.{earliest}
use Rattle.slot.specs.Slot.{kept_under}
use Rattle.state.specs.Stack.{stack_of}
use Rattle.state.proofs.StackLaws.{stays}
use Rattle.handles.specs.Handles.{by_source_of}
use Rattle.handles.proofs.HandleLaws.{earliest_slot, earliest_back}
use Rattle.handles.proofs.get_deferred.Goals as goal

pub returns-then-t-gt7 : goal.returns-then-t-gt7
unfolding by_source_of pick
returns-then-t-gt7 c =
    let l : 7 < (tag_of c.args.tag).0 = rw c.tag-t.ensures at c.if-t-gt7.true in
    rw (lt-ltb 7 (tag_of c.args.tag).0 l) (refl, stays c.args.sizes c.args.state.now c.requires)

pub take-requires : goal.take-requires
take-requires c =
    record { kept = c.requires; slot = subst (λ (o : Option ℕ). IfSome o (λ i. i < c.args.sizes.slots)) (sym c.earliest_from-found.ensures) (earliest_slot c.args.sizes c.args.state.now (kept_under c.args.source c.is_owner.result c.tag-t.result)) }

pub returns : goal.returns
unfolding by_source_of pick
returns c =
    let l : (tag_of c.args.tag).0 ≤ 7 = rw c.tag-t.ensures at c.if-t-gt7.false in
    let slots = (stack_of c.args.sizes c.args.state.now).slots in
    let f = kept_under c.args.source c.is_owner.result c.tag-t.result in
    let e =
    ap (λ (o : Option ℕ). unwrap_or o c.args.sizes.slots) c.earliest_from-found.ensures ∙ earliest_back c.args.sizes c.args.state.now f
    ∙ ap (λ (o : Bool). earliest (kept_under c.args.source o c.tag-t.result) slots) c.is_owner.ensures ∙ ap (λ (u : TagValue). earliest (kept_under c.args.source (is_owner c.args.tag) u) slots) c.tag-t.ensures in
    rw (le-ltb 7 (tag_of c.args.tag).0 l) (rw e at c.take.ensures)
