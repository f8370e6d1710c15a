-- Each refusal of `refusals_of` is met: a table of calls and worlds, a row for each kind of call, and what each is answered.
-- The stacks are a board's, of 4 slots of 1,032 bytes with own EID 8. Leans on `Refusals` and `Figures`.
use Rattle.std.specs.Prelude.{ℕ, ◌≡◌, true, false, replicate, None, Some}
use mathlib.Core.List.{List, [], ◌∷◌, map, flatten}
use Rattle.mctp.specs.Answer.{Answer, refuses}
use Rattle.slot.specs.declared.ReceiveHandle.{ReceiveHandle}
use Rattle.sending.specs.declared.Send.{Send}
use Rattle.promises.specs.Calls.{Call, receive, elsewhere, update, start_send, cancel_flow, fetch_message, finished_receive, return_handle, set_cookie, set_eid, World, step, performed}
use Rattle.promises.specs.Figures.{bay, question, whole}
use Rattle.promises.specs.Refusals.{refusals_of}
use Rattle.mctp.specs.declared.Tag.TheVariants.{Owned}

-- a call in a world
pub record Tried : Type 0 where
  pub call : Call
  pub world : World

-- one kind of call: a world for each number, and the numbers
pub record Row : Type 0 where
  pub tried : List Tried
  pub numbers : List ℕ

abbrev pub try : Call → World → Tried
try c w = record { call = c; world = w }

abbrev pub answered : Tried → Answer
answered t = performed 1032 t.call t.world

abbrev pub said : ℕ → Answer
said n = refuses n []

-- a board's stack whose pool is one byte short
abbrev pub short_bay : World
short_bay = record { stack = (bay 255).stack; pool = replicate 4127 0 }

-- a handle that never went out
abbrev pub no_handle : ReceiveHandle
no_handle = record { index = 0; issue = 1 }

-- a reply from 9 under tag 1, of one packet
abbrev pub reply : List ℕ
reply = 0x01 ∷ 0x08 ∷ 0x09 ∷ 0xC1 ∷ 0x01 ∷ 0x2A ∷ []

-- a question of a type above 127
abbrev pub bad_question : Send
bad_question = record { dest = record { 0 = 9 }; typ = record { 0 = 128 }; tag = None; expires = true; ic = record { 0 = false }; mtu = None; cookie = None }

-- after a question to each of these peers
unfoldable pub asks : List ℕ → World → World
asks [] w = w
asks (peer ∷ l) w = asks l (step 1032 (start_send (question peer None)) w)

-- after packets that open messages, each with its byte of flags
unfoldable pub opens : List ℕ → World → World
opens [] w = w
opens (flags ∷ l) w = opens l (step 1032 (receive (0x01 ∷ 0x08 ∷ 0x09 ∷ flags ∷ 0x01 ∷ [])) w)

-- a stack in which one slot collects, and one in which all four do
abbrev pub begun_bay : World
begun_bay = opens (0x89 ∷ []) (bay 255)

abbrev pub full_bay : World
full_bay = opens (0x88 ∷ 0x89 ∷ 0x8A ∷ 0x8B ∷ []) (bay 255)

-- a later packet with that byte of flags and a body of n bytes
abbrev pub later : ℕ → ℕ → List ℕ
later flags n = 0x01 ∷ 0x08 ∷ 0x09 ∷ flags ∷ replicate n 7

-- a question under a tag that the caller names
abbrev pub fixed_question : ℕ → ℕ → Send
fixed_question peer tag = record {
  dest = record { 0 = peer };
  typ = record { 0 = 1 };
  tag = Some (Owned (record { 0 = tag }));
  expires = true;
  ic = record { 0 = false };
  mtu = None;
  cookie = None;
}

-- after eight questions to each of eight peers: every place of the table is taken
abbrev pub crowded_bay : World
crowded_bay = asks (flatten (map (replicate 8) (9 ∷ 10 ∷ 11 ∷ 12 ∷ 13 ∷ 14 ∷ 15 ∷ 16 ∷ []))) (bay 255)

-- an empty packet; a body of 1,033; a reply without a flow; a pool one byte short
abbrev pub receive_row : Row
receive_row = record {
  tried = try (receive []) (bay 255) ∷ try (receive (whole 1033)) (bay 255) ∷ try (receive reply) (bay 255) ∷ try (receive reply) short_bay ∷ [];
  numbers = refusals_of (receive []);
}

abbrev pub elsewhere_row : Row
elsewhere_row = record {
  tried =
      try (elsewhere 4128 []) (bay 255)
      ∷ try (elsewhere 4128 (whole 1033)) (bay 255)
      ∷ try (elsewhere 4128 reply) (bay 255)
      ∷ try (elsewhere 4127 reply) (bay 255)
      ∷ [];
  numbers = refusals_of (elsewhere 0 []);
}

-- a clock below the last
abbrev pub update_row : Row
update_row = record { tried = try (update 999) (step 1032 (update 1000) (bay 255)) ∷ []; numbers = refusals_of (update 0) }

-- a type above 127; an MTU of 4; a ninth tag
abbrev pub send_row : Row
send_row = record {
  tried =
      try (start_send bad_question) (bay 255)
      ∷ try (start_send (question 9 (Some 4))) (bay 255)
      ∷ try (start_send (question 9 None)) (asks (replicate 8 9) (bay 255))
      ∷ [];
  numbers = refusals_of (start_send bad_question);
}

-- a tag above 7; the reply's handle is out
abbrev pub cancel_row : Row
cancel_row = record {
  tried =
      try (cancel_flow (record { 0 = 9 }) (record { 0 = 8 })) (bay 255)
      ∷ try (cancel_flow (record { 0 = 9 }) (record { 0 = 1 })) (step 1032 (receive reply) (asks (9 ∷ []) (bay 255)))
      ∷ [];
  numbers = refusals_of (cancel_flow (record { 0 = 9 }) (record { 0 = 0 }));
}

-- a handle that is not out; a pool one byte short
abbrev pub fetch_row : Row
fetch_row = record { tried = try (fetch_message no_handle 4128) (bay 255) ∷ try (fetch_message no_handle 4127) (bay 255) ∷ []; numbers = refusals_of (fetch_message no_handle 0) }

abbrev pub finish_row : Row
finish_row = record { tried = try (finished_receive no_handle) (bay 255) ∷ []; numbers = refusals_of (finished_receive no_handle) }

abbrev pub return_row : Row
return_row = record { tried = try (return_handle no_handle) (bay 255) ∷ []; numbers = refusals_of (return_handle no_handle) }

abbrev pub cookie_row : Row
cookie_row = record { tried = try (set_cookie no_handle None) (bay 255) ∷ []; numbers = refusals_of (set_cookie no_handle None) }

-- an EID below 8
abbrev pub eid_row : Row
eid_row = record { tried = try (set_eid 7) (bay 255) ∷ []; numbers = refusals_of (set_eid 0) }

-- a row for each kind of call that refuses anything, with every number that it gives
abbrev pub table : List Row
table = receive_row ∷ elsewhere_row ∷ update_row ∷ send_row ∷ cancel_row ∷ fetch_row ∷ finish_row ∷ return_row ∷ cookie_row ∷ eid_row ∷ []

-- other ways to the same numbers: every slot collects; SOM with 4 bytes only; in a slot that collects a wrong sequence, and a body too long
abbrev pub receive_ways : Row
receive_ways = record {
  tried =
      try (receive []) full_bay
      ∷ try (receive (0x01 ∷ 0x08 ∷ 0x09 ∷ 0x89 ∷ [])) (bay 255)
      ∷ try (receive (later 0x29 0)) begun_bay
      ∷ try (receive (later 0x19 1033)) begun_bay
      ∷ [];
  numbers = 2 ∷ 1 ∷ 1 ∷ 2 ∷ [];
}

-- a tag above 7; a tag that stands with an expiry; a full table, for a fresh tag and for a fixed one
abbrev pub send_ways : Row
send_ways = record {
  tried =
      try (start_send (fixed_question 9 8)) (bay 255)
      ∷ try (start_send (fixed_question 9 1)) (asks (9 ∷ []) (bay 255))
      ∷ try (start_send (question 17 None)) crowded_bay
      ∷ try (start_send (fixed_question 17 1)) crowded_bay
      ∷ [];
  numbers = 1 ∷ 3 ∷ 4 ∷ 4 ∷ [];
}

abbrev pub ways : List Row
ways = receive_ways ∷ send_ways ∷ []

-- in every row each number is given in its world
abbrev pub Met : List Row → Type 0
Met [] = Unit
Met (r ∷ l) = (map answered r.tried ≡ map said r.numbers) × Met l
