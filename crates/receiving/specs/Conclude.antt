-- docs/RULES.md 49, 50 and 78: what is said of a packet that its slot takes, and with a whole message the number of the handle that goes out and the
-- end of a reply's flow.
-- Leans on `flows` for the flow's removal, on `state` for the stack.
use Rattle.std.specs.Prelude.{ℕ, Bool, true, false, List, None, Ok, Option, Result, Some}
use Rattle.octets.specs.Pick.{pick}
use Rattle.mctp.specs.declared.Key.{Key}
use Rattle.mctp.specs.Answer.{Answer, answer_as, found_words}
use Rattle.flows.specs.declared.Flow.{Flow}
use Rattle.flows.specs.Table.{removed}
use Rattle.slot.specs.Handle.{next_issue, handle_words}
use Rattle.state.specs.Head.{with_issue}
use Rattle.state.specs.Stack.{Stack}
use Rattle.mctp.specs.declared.Error.{Error}
use Rattle.slot.specs.declared.ReceiveHandle.{ReceiveHandle}

-- `whole`: the message ends with this packet
abbrev pub said_of : Bool → ℕ → ℕ → Result (Option ReceiveHandle) Error
said_of true i issue = Ok (Some (record { index = i; issue = issue }))
said_of false i issue = Ok None

-- 0 while more is to come, 0 and a handle with a message, or the refusal's number
abbrev pub received_as : Result (Option ReceiveHandle) Error → Answer
received_as = answer_as (found_words handle_words)

-- rule 50: with EOM and TO=0 the flow is removed; where it has gone already nothing happens
abbrev pub flows_after : Bool → Key → List Flow → List Flow
flows_after true k flows = pick k.owner flows (removed k.source k.tag flows)
flows_after false k flows = flows

-- a handle that goes out takes the next number
abbrev pub issue_after : Bool → ℕ → ℕ
issue_after true n = next_issue n
issue_after false n = n

-- what the packet makes of the stack beside its slot
abbrev pub concluded : Bool → Key → Stack → Stack
concluded whole k st = record {
  head = with_issue (issue_after whole st.head.issue) st.head;
  flows = flows_after whole k st.flows;
  slots = st.slots;
}
