-- Every answer is pinned down: two outcomes that meet a call's contract are equal, to the byte. For a call that answers and stores, `pinned` of
-- crates/state/proofs/Steps.antt shows it. Here it is shown for `new`, which asks nothing of the bytes that it finds; `receiving` shows it for receive, with
-- its pool. The contract of a call that only reads is an equation.
use Prim.Native.Nat.{ℕ}
use mathlib.Core.Path.{◌≡◌, sym, ◌∙◌}
use mathlib.Core.List.{List}
use Rattle.std.specs.Prelude.{Err, Ok, Result}
use Rattle.mctp.specs.declared.Eid.{Eid}
use Rattle.state.specs.declared.Sizes.{Sizes}
use Rattle.state.proofs.StackLaws.{determined}
use Rattle.estack.specs.Basics.{fresh_stack, NewMakes}
use Rattle.mctp.specs.declared.Error.{Error}

pub new_pinned : (z : Sizes) (own : Eid) (mtu clock : ℕ) (r : Result (Unit {0}) Error) (b x y : List ℕ) → NewMakes r z own mtu clock b x → NewMakes r z own mtu clock b y → x ≡ y
new_pinned z own mtu clock (Ok tt) b x y m n = determined z b x y (fresh_stack z own mtu clock) m n
new_pinned z own mtu clock (Err err) b x y m n = m ∙ sym n
