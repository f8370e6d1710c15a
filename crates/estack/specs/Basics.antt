-- docs/RULES.md 59 to 62, 74 and 75: `new`, `set_eid`, `eid`, `is_local_dest`, `cancel_flow`, `free_tags`.
-- Each definition gives the answer and the next stack for every input; `NewMakes` gives the bytes of a new stack.
-- Leans on `mctp` for EIDs, on `state` for the stack, on `slot_walks` for a cancel's walk.
use Rattle.std.specs.Prelude.{ℕ, ◌≡◌, Bool, List, ltb, replicate, Err, Ok, Result}
use Rattle.config.specs.Config.{flow_count, min_mtu}
use Rattle.octets.specs.Pick.{pick}
use Rattle.mctp.specs.declared.Eid.{Eid}
use Rattle.mctp.specs.declared.TagValue.{TagValue}
use Rattle.mctp.specs.declared.Error.TheVariants.{InvalidInput, NoSpace, BadArgument}
use Rattle.mctp.specs.Terms.{normal_eid}
use Rattle.flows.specs.Table.{no_flow, removed, used_tags}
use Rattle.flows.specs.Tags.{free_count}
use Rattle.slot.specs.Slot.{blank_slot}
use Rattle.reassemble.specs.Enter.{local_packet}
use Rattle.state.specs.declared.Sizes.{Sizes}
use Rattle.state.specs.declared.Head.{Head}
use Rattle.state.specs.Layout.{size}
use Rattle.state.specs.Head.{with_own}
use Rattle.state.specs.Stack.{Stack, Becomes, with_head, with_slots, with_flows}
use Rattle.slot_walks.specs.SlotWalks.{swept, blocked}
use Rattle.handles.specs.Handles.{Handled}
use Rattle.mctp.specs.declared.Error.{Error}

-- a stack that has done nothing: no slot taken, no flow, tag and sequence counters 0, the planned check at 0, no handle out yet
abbrev pub fresh_head : Eid → ℕ → ℕ → Head
fresh_head own mtu clock = record {
  own_eid = own;
  mtu = mtu;
  now = record { clock = clock; counter = 0 };
  next_timeout = 0;
  next_tag = 0;
  next_seq = 0;
  issue = 0;
}

abbrev pub fresh_stack : Sizes → Eid → ℕ → ℕ → Stack
fresh_stack z own mtu clock = record {
  head = fresh_head own mtu clock;
  flows = replicate flow_count no_flow;
  slots = replicate z.slots blank_slot;
}

-- what `new` says: an MTU under 5 is BadArgument, and so are sizes that no state has; a state buffer that is too short is NoSpace
unfoldable pub new_says : Sizes → ℕ → ℕ → Result (Unit {0}) Error
new_says z room mtu =
    pick (ltb mtu min_mtu) (Err BadArgument)
    (pick (ltb 255 z.slots) (Err BadArgument)
    (pick (ltb 65535 z.body) (Err BadArgument) (pick (ltb room (size z)) (Err NoSpace) (Ok tt))))

-- what `new` makes of a buffer: a fresh stack at its front and the rest as it was, or nothing where it refuses
abbrev pub NewMakes : Result (Unit {0}) Error → Sizes → Eid → ℕ → ℕ → List ℕ → List ℕ → Type 0
NewMakes (Ok tt) z own mtu clock b b' = Becomes z b b' (fresh_stack z own mtu clock)
NewMakes (Err err) z own mtu clock b b' = b' ≡ b

-- 8 to 254 becomes the own EID; any other is InvalidInput
abbrev pub eid_set : Result Eid Error → Stack → Handled
eid_set (Ok own) st = record { stack = with_head (with_own own st.head) st; said = Ok tt }
eid_set (Err err) st = record { stack = st; said = Err err }

abbrev pub set_eid_of : ℕ → Stack → Handled
set_eid_of eid st = eid_set (normal_eid eid) st

-- whether a packet has a good header and goes to the own EID or 0
abbrev pub local_of : List ℕ → Stack → Bool
local_of p st = local_packet st.head.own_eid p

-- a cancel walks the slots upward and frees the replies of that peer and tag. At one with a handle out it stops with BadArgument: those before it stay freed,
-- and the flow stays. Otherwise the flow goes; it is no error where there is none. A tag above 7 is InvalidInput
unfoldable pub cancel_of : Eid → TagValue → Stack → Handled
cancel_of peer tag st =
    pick (ltb 7 tag.0) (record { stack = st; said = Err InvalidInput })
    (pick (blocked peer tag st.slots) (record { stack = with_slots (swept peer tag st.slots) st; said = Err BadArgument })
    (record { stack = with_flows (removed peer tag st.flows) (with_slots (swept peer tag st.slots) st); said = Ok tt }))

-- how many tags are free for a peer: the zeros among its eight used-tag bits
abbrev pub free_tags_of : Eid → Stack → ℕ
free_tags_of peer st = free_count (used_tags peer st.flows)
