-- Receive is pinned down: two outcomes that meet its contract are equal, in the answer, the state's bytes and the pool's.
use Prim.Native.Nat.{ℕ}
use mathlib.Core.Path.{◌≡◌, sym, ◌∙◌}
use mathlib.Core.List.{List}
use Rattle.std.specs.Prelude.{Option, Result}
use Rattle.state.specs.declared.Sizes.{Sizes}
use Rattle.state.proofs.StackLaws.{determined}
use Rattle.receiving.specs.Receive.{Receipt, Makes}
use Rattle.mctp.specs.declared.Error.{Error}
use Rattle.slot.specs.declared.ReceiveHandle.{ReceiveHandle}

-- what is said, the state's bytes and the pool's
pub receive_pinned : (z : Sizes) (rc : Receipt) (r s : Result (Option ReceiveHandle) Error) (b x y pool p q : List ℕ) → Makes z rc r b x pool p → Makes z rc s b y pool q
    → (r ≡ s) × (x ≡ y) × (p ≡ q)
receive_pinned z rc r s b x y pool p q m n =
    (m.said ∙ sym n.said, determined z b x y rc.stack m.stack n.stack, m.bytes ∙ sym n.bytes)
