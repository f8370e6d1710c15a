-- The part of a stack that a send looks at, and the stack with it changed.
-- What a walk over the flows looks for is defined in `flows`.
-- Leans on `flows` for the table, on `state` for the stack.
use Rattle.std.specs.Prelude.{ℕ, Bool, eqb}
use Rattle.flows.specs.declared.Flow.{Flow}
use Rattle.flows.specs.Table.{Table}
use Rattle.flows.specs.Codec.{flow_word}
use Rattle.state.specs.Stack.{Stack}

-- what a send looks at, and the stack with it changed
abbrev pub table_of : Stack → Table
table_of st = record { flows = st.flows; now = st.head.now; counter = st.head.next_tag }

abbrev pub with_table : Table → Stack → Stack
with_table t st = record {
  head = record {
    own_eid = st.head.own_eid;
    mtu = st.head.mtu;
    now = t.now;
    next_timeout = st.head.next_timeout;
    next_tag = t.counter;
    next_seq = st.head.next_seq;
    issue = st.head.issue;
  };
  flows = t.flows;
  slots = st.slots;
}

-- whether a flow's first four bytes are that number
abbrev pub has_flow_word : ℕ → Flow → Bool
has_flow_word w f = eqb (flow_word f) w
