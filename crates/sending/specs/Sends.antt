-- docs/RULES.md 65 to 68, `start_send`. A type above 127 or a tag above 7 is InvalidInput, and nothing changes. Then an owned tag gets its flow, and the
-- sequence goes up modulo 4. Then the smaller MTU is looked at: outside 5 to 255 it is BadArgument, with flow and sequence as they now are.
-- Leans on `flows` for the table's part, on `fragment` for the fragmenter that comes out.
use Rattle.std.specs.Prelude.{ℕ, min, Bool, false, ltb, Err, None, Ok, Option, Result, Some}
use Rattle.octets.specs.Pick.{pick}
use Rattle.mctp.specs.declared.Eid.{Eid}
use Rattle.mctp.specs.declared.Tag.{Tag}
use Rattle.mctp.specs.declared.Tag.TheVariants.{Owned, Unowned}
use Rattle.mctp.specs.declared.Error.TheVariants.{InvalidInput}
use Rattle.mctp.specs.Terms.{tag_of}
use Rattle.flows.specs.Table.{set_flow}
use Rattle.fragment.specs.Step.{new_of}
use Rattle.state.specs.Head.{with_next_seq}
use Rattle.state.specs.Stack.{Stack, with_head}
use Rattle.flow_walks.specs.FlowWalks.{table_of, with_table}
use Rattle.sending.specs.declared.Send.{Send}
use Rattle.mctp.specs.declared.AppCookie.{AppCookie}
use Rattle.mctp.specs.declared.Error.{Error}
use Rattle.fragment.specs.declared.Fragmenter.{Fragmenter}
use Rattle.mctp.specs.declared.TagValue.{TagValue}

pub record Sent : Type 0 where
  pub stack : Stack
  pub said : Result Fragmenter Error

abbrev pub unsent : Stack → Result Fragmenter Error → Sent
unsent st said = record { stack = st; said = said }

-- whether a given tag is above 7
abbrev pub bad_tag : Option Tag → Bool
bad_tag None = false
bad_tag (Some tag) = ltb 7 (tag_of tag).0

-- the smaller of the stack's MTU and the given one, or the stack's own where none is given
abbrev pub mtu_of : Option ℕ → ℕ → ℕ
mtu_of None mtu = mtu
mtu_of (Some n) mtu = min mtu n

-- a fragmenter under that tag, or BadArgument for the MTU; the sequence has gone up either way
abbrev pub send_under : Send → Tag → Stack → Sent
send_under q tag st = record {
  stack = with_head (with_next_seq st.head) st;
  said = new_of q.typ st.head.own_eid q.dest tag (mtu_of q.mtu st.head.mtu) q.cookie q.ic (with_next_seq st.head).next_seq;
}

-- the tag that a message goes out under, or why there is none, and the stack then
pub record Tagged : Type 0 where
  pub stack : Stack
  pub said : Result Tag Error

abbrev pub under_granted : Result TagValue Error → Result Tag Error
under_granted (Ok tag) = Ok (Owned tag)
under_granted (Err err) = Err err

-- an owned tag gets its flow
unfoldable pub owned_tag : Eid → Option TagValue → Bool → Option AppCookie → Stack → Tagged
owned_tag dest wish expires cookie st = record {
  stack = with_table (set_flow dest wish expires cookie (table_of st)).table st;
  said = under_granted (set_flow dest wish expires cookie (table_of st)).granted;
}

-- the tag that a send asks for; the other side's tag needs no flow
unfoldable pub tag_for : Eid → Option Tag → Bool → Option AppCookie → Stack → Tagged
tag_for dest None expires cookie st = owned_tag dest None expires cookie st
tag_for dest (Some (Owned tag)) expires cookie st = owned_tag dest (Some tag) expires cookie st
tag_for dest (Some (Unowned tag)) expires cookie st = record { stack = st; said = Ok (Unowned tag) }

-- the send under the tag that it got; where it got none, the refusal of the flow ends it
unfoldable pub send_as : Send → Result Tag Error → Stack → Sent
send_as q (Ok tag) st = send_under q tag st
send_as q (Err err) st = unsent st (Err err)

abbrev pub send_tagged : Send → Tagged → Sent
send_tagged q t = send_as q t.said t.stack

unfoldable pub start_send_of : Send → Stack → Sent
start_send_of q st =
    pick (ltb 127 q.typ.0) (unsent st (Err InvalidInput))
    (pick (bad_tag q.tag) (unsent st (Err InvalidInput)) (send_tagged q (tag_for q.dest q.tag q.expires q.cookie st)))
