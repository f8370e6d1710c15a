-- docs/RULES.md 38 to 51, receive: PoolShort first; then the slot, NoSpace before any look at the header; then rules 40 to 51. B is the most that a
-- body holds; slot i keeps its body from byte B i of the pool. The answer holds the stack after the call, what is said, and the one write to the pool.
-- Leans on `reassemble` for one slot's part, on `flows` for the reply's flow, on `state` for the stack.
use Rattle.std.specs.Prelude.{ℕ, ◌+◌, ◌-◌, ◌*◌, ◌≡◌, Bool, false, List, [], ltb, leb, eqb, length, drop, Err, None, Ok, Option, Result, Some}
use Rattle.octets.specs.Pick.{pick}
use Rattle.octets.specs.Bytes.{over}
use Rattle.mctp.specs.declared.Key.{Key}
use Rattle.mctp.specs.declared.Header.{Header}
use Rattle.mctp.specs.declared.Error.{Error}
use Rattle.mctp.specs.declared.Error.TheVariants.{InvalidInput, NoSpace, PoolShort}
use Rattle.mctp.specs.Header.{header_of}
use Rattle.flows.specs.Table.{standing, flow_cookie}
use Rattle.slot.specs.Slot.{blank_slot, is_empty}
use Rattle.slot.specs.Search.{slot_for}
use Rattle.reassemble.specs.Enter.{gate, enter}
use Rattle.state.specs.declared.Progress.{Progress}
use Rattle.state.specs.declared.Sizes.{Sizes}
use Rattle.state.specs.Stack.{Stack, Becomes, slot_at, with_slot, ticked}
use Rattle.slot.specs.Handle.{next_issue}
use Rattle.receiving.specs.Conclude.{said_of, concluded}
use Rattle.reassemble.specs.declared.Intake.{Intake}
use Rattle.slot.specs.declared.Reassembler.{Reassembler}
use Rattle.slot.specs.declared.ReceiveHandle.{ReceiveHandle}

pub record Receipt : Type 0 where
  pub stack : Stack
  pub said : Result (Option ReceiveHandle) Error
  pub at : ℕ
  pub bytes : List ℕ

-- a refusal writes nothing
abbrev pub refuse : Error → Stack → Receipt
refuse err st = record { stack = st; said = Err err; at = 0; bytes = [] }

-- one store of one slot; where it takes the packet, one write to the pool, then the flow
abbrev pub settled : ℕ → ℕ → Stack → Key → List ℕ → Result Intake Error → Receipt
settled B i st k p (Err err) = refuse err (with_slot i blank_slot st)
settled B i st k p (Ok t) = record {
  stack = concluded t.whole k (with_slot i t.slot st);
  said = said_of t.whole i (next_issue st.head.issue);
  at = B * i + t.at;
  bytes = drop t.from p;
}

-- rule 44: one event is counted, and the packet enters the slot
unfoldable pub land : ℕ → ℕ → Stack → Header → List ℕ → Result Reassembler Error → Receipt
land B i st h p (Err err) = refuse err st
land B i st h p (Ok s) =
    settled B i (ticked st) h.key p (enter B (ticked st).head.now (next_issue st.head.issue) s h p)

-- whether a packet with n bytes of body is a middle one: it is neither first nor last, comes in turn, and has room
unfoldable pub is_middle : Header → Progress → ℕ → ℕ → Bool
is_middle h p n B = pick h.som false (pick h.eom false (pick (eqb h.seq p.seq) (leb n (B - p.len)) false))

-- rule 40: for an empty slot one event is counted
abbrev pub counted_opening : Bool → Stack → Stack
counted_opening empty st = pick empty (ticked st) st

abbrev pub gate_of : ℕ → Stack → Header → Result Reassembler Error
gate_of i st h =
    gate st.head.own_eid (slot_at i st) h (standing h.key.source h.key.tag st.flows) (flow_cookie h.key.source h.key.tag st.flows)

-- a packet with a bad header comes to no slot but an empty one
unfoldable pub receive_at : ℕ → ℕ → Stack → List ℕ → Option Header → Receipt
receive_at B i st p None = refuse InvalidInput (counted_opening (is_empty (slot_at i st)) st)
receive_at B i st p (Some h) = land B i (counted_opening (is_empty (slot_at i st)) st) h p (gate_of i st h)

-- rule 39: without a slot it is NoSpace
unfoldable pub receive_by : ℕ → Stack → List ℕ → Option Header → Receipt
receive_by B st p r =
    pick (ltb (slot_for r st.slots) (length st.slots)) (receive_at B (slot_for r st.slots) st p r) (refuse NoSpace st)

-- rule 38: a pool that is too short is PoolShort; `room` is the length of the pool that is lent
unfoldable pub receive_of : ℕ → Stack → ℕ → List ℕ → Receipt
receive_of B st room p = pick (ltb room (B * length st.slots)) (refuse PoolShort st) (receive_by B st p (header_of p))

-- what a receive makes of the bytes of state and pool: what is said, the stack that the state then holds, and the one write to the pool
pub record Makes (z : Sizes) (rc : Receipt) (r : Result (Option ReceiveHandle) Error) (b b' pool pool' : List ℕ) : Type 0 where
  pub said : r ≡ rc.said
  pub stack : Becomes z b b' rc.stack
  pub bytes : pool' ≡ over rc.at rc.bytes pool
