-- A message that is handed out: which fields it takes from the facts that fetch gives, and which bytes of the pool are its body.
-- Where a body would reach past the end of the pool, it is as much of it as the pool holds.
-- Leans on `octets` for parts of a buffer, on `mctp` for tags and on `handles` for the facts.
use Rattle.std.specs.Prelude.{ℕ, List, take}
use Rattle.std.specs.Borrow.{Bor}
use Rattle.octets.specs.Bytes.{part}
use Rattle.mctp.specs.Terms.{tag_under}
use Rattle.handles.specs.declared.Message.{Message}
use Rattle.messages.specs.declared.MctpMessage.{MctpMessage}

-- the message's bytes in the pool
abbrev pub body_of : Message → List ℕ → List ℕ
body_of facts pool = part facts.at facts.len pool

-- the message over a borrowed body
abbrev pub message_of : Message → Bor (List ℕ) → MctpMessage
message_of facts body = record {
  source = facts.key.source;
  dest = facts.key.dest;
  tag = tag_under facts.key.owner facts.key.tag;
  typ = facts.typ;
  ic = facts.ic;
  cookie = facts.cookie;
  payload = body;
}

-- as much of the body as n bytes hold
abbrev pub front_of : Message → List ℕ → ℕ → List ℕ
front_of facts pool n = take n (body_of facts pool)
