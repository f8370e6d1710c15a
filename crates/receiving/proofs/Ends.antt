-- What a packet that its slot takes makes of the stack beside the slot.
use Prim.Native.Nat.{ℕ}
use mathlib.Core.Path.{◌≡◌, sym, ap, subst}
use mathlib.Core.Bool.{Bool, true}
use mathlib.Core.List.{List}
use Rattle.std.specs.Prelude.{Option, Result}
use Rattle.mctp.specs.declared.Key.{Key}
use Rattle.state.specs.declared.Sizes.{Sizes}
use Rattle.state.specs.Head.{with_issue}
use Rattle.state.specs.Stack.{Stack, Becomes, stack_of, with_head, with_flows}
use Rattle.state.proofs.StackLaws.{and_then}
use Rattle.state.proofs.Steps.{becomes_as}
use Rattle.slot.specs.Handle.{next_issue}
use Rattle.receiving.specs.Conclude.{said_of, flows_after, concluded}
use Rattle.mctp.specs.declared.Error.{Error}
use Rattle.slot.specs.declared.ReceiveHandle.{ReceiveHandle}

-- for a whole message its handle takes its number, and then its flow ends
pub ended : (z : Sizes) (b x y : List ℕ) (k : Key) (issue : ℕ) → issue ≡ next_issue (stack_of z b).head.issue
    → Becomes z b x (with_head (with_issue issue (stack_of z b).head) (stack_of z b))
    → Becomes z x y (with_flows (flows_after true k (stack_of z x).flows) (stack_of z x))
    → Becomes z b y (concluded true k (stack_of z b))
ended z b x y k issue e p q =
    let st = stack_of z b in
    becomes_as z b y (ap (λ (n : ℕ). record { head = with_issue n st.head; flows = flows_after true k st.flows; slots = st.slots }) e)
    (and_then z (λ (s : Stack). with_flows (flows_after true k s.flows) s) b x y (with_head (with_issue issue st.head) st) p q)

-- what is said of the packet, and what it makes of the stack beside its slot
abbrev pub Concludes : Sizes → List ℕ → List ℕ → Key → ℕ → Result (Option ReceiveHandle) Error → Bool → Type 0
Concludes z b b' k i r o = (r ≡ said_of o i (next_issue (stack_of z b).head.issue)) × Becomes z b b' (concluded o k (stack_of z b))

pub concludes_as : (z : Sizes) (b b' : List ℕ) (k : Key) (i : ℕ) (r : Result (Option ReceiveHandle) Error) (o q : Bool) → o ≡ q → Concludes z b b' k i r q
    → Concludes z b b' k i r o
concludes_as z b b' k i r o q e m = subst (Concludes z b b' k i r) (sym e) m
