-- The figures of docs/RULES.md, section 11, as one table: what the definitions give for each, and what that section says.
-- Each starts on a fresh stack of 4 slots of 1,032 bytes, own EID 8, clock 0; the pool is 4,128 zero bytes.
-- Leans on `Calls` and the definitions of `estack` and `fragment`.
use Rattle.std.specs.Prelude.{ℕ, ◌≡◌, Bool, true, false, List, [], ◌∷◌, ◌++◌, map, replicate, Err, None, Ok, Option, Result, Some}
use Rattle.mctp.specs.Terms.{error_no, tag_of}
use Rattle.slot.specs.Slot.{is_empty}
use Rattle.fragment.specs.declared.Fragmenter.{Fragmenter}
use Rattle.fragment.specs.declared.SendOutput.{SendOutput}
use Rattle.fragment.specs.declared.SendOutput.TheVariants.{Packet, Complete, Error as Failed}
use Rattle.fragment.specs.Step.{step_of}
use Rattle.fragment.specs.Run.{written}
use Rattle.state.specs.Stack.{Stack, slot_at}
use Rattle.sending.specs.declared.Send.{Send}
use Rattle.sending.specs.Sends.{start_send_of}
use Rattle.updating.specs.Update.{update_of}
use Rattle.estack.specs.Basics.{fresh_stack}
use Rattle.promises.specs.Calls.{World, receive, update, step, receipt}
use Rattle.promises.specs.Delivery.{Message, message_at}
use Rattle.mctp.specs.declared.Error.{Error}
use Rattle.updating.specs.declared.Next.{Next}
use Rattle.slot.specs.declared.ReceiveHandle.{ReceiveHandle}

-- what a figure shows
pub data Shown : Type 0 where
  packet : List ℕ → Shown
  taken : Shown
  refused : ℕ → Shown
  tag : ℕ → Shown
  more : Shown
  message : ℕ → ℕ → List ℕ → Shown  -- source, type, body
  empty : Bool → Shown  -- whether slot 0 is empty
  checked : ℕ → Bool → Shown

-- a fresh stack with that MTU
abbrev pub bay : ℕ → World
bay mtu = record { stack = fresh_stack (record { slots = 4; body = 1032 }) (record { 0 = 8 }) mtu 0; pool = replicate 4128 0 }

-- a message of type 1 to a peer, under a fresh tag, with an expiry
abbrev pub question : ℕ → Option ℕ → Send
question peer mtu = record {
  dest = record { 0 = peer };
  typ = record { 0 = 1 };
  tag = None;
  expires = true;
  ic = record { 0 = false };
  mtu = mtu;
  cookie = None;
}

abbrev pub started : (Fragmenter → List Shown) → Result Fragmenter Error → List Shown
started f (Ok g) = f g
started f (Err err) = refused (error_no err) ∷ []

-- the packets that a send writes, with buffers of these sizes
abbrev pub sent : ℕ → Option ℕ → List ℕ → List ℕ → List Shown
sent mtu most payload buffers = started (λ f. map packet (written f payload buffers)) (start_send_of (question 9 most) (bay mtu).stack).said

-- whether a send with that MTU is taken
abbrev pub tried : ℕ → ℕ → List Shown
tried mtu most = started (λ f. taken ∷ []) (start_send_of (question 9 (Some most)) (bay mtu).stack).said

abbrev pub stepped : SendOutput → Shown
stepped (Packet n) = taken
stepped (Complete t c) = more
stepped (Failed err c) = refused (error_no err)

-- the first step of a send, with a buffer of that size
abbrev pub first_step : ℕ → List Shown
first_step n = started (λ f. stepped (step_of f (0xAA ∷ 0xBB ∷ 0xCC ∷ []) n).result.output ∷ []) (start_send_of (question 9 None) (bay 255).stack).said

-- the tags of sends to these peers, one after the other
unfoldable pub tags : List ℕ → Stack → List Shown
tags [] st = []
tags (peer ∷ l) st =
    let r = start_send_of (question peer None) st in
    started (λ f. tag (tag_of f.tag).0 ∷ []) r.said ++ tags l r.stack

abbrev pub shown : Message → Shown
shown m = message m.key.source.0 m.typ.0 m.body

-- what a packet is answered, with the message under its handle
abbrev pub told : Result (Option ReceiveHandle) Error → World → Shown
told (Ok None) w = more
told (Ok (Some h)) w = shown (message_at 1032 h.index w)
told (Err err) w = refused (error_no err)

-- what a packet is answered, and whether slot 0 is then empty
abbrev pub got : List ℕ → World → List Shown
got p w = told (receipt 1032 p w).said (step 1032 (receive p) w) ∷ empty (is_empty (slot_at 0 (step 1032 (receive p) w).stack)) ∷ []

abbrev pub moved : Result Next Error → Shown
moved (Ok next) = checked next.millis next.expired
moved (Err err) = refused (error_no err)

-- what updates are answered, one after the other
abbrev pub updates : List ℕ → World → List Shown
updates [] w = []
updates (t ∷ l) w = moved (update_of t w.stack).said ∷ updates l (step 1032 (update t) w)

-- one packet that holds a body of n bytes
abbrev pub whole : ℕ → List ℕ
whole n = 0x01 ∷ 0x08 ∷ 0x09 ∷ 0xC9 ∷ 0x01 ∷ replicate n 7

-- a packet that opens a message
abbrev pub opener : List ℕ
opener = 0x01 ∷ 0x08 ∷ 0x09 ∷ 0x89 ∷ 0x01 ∷ 0x2A ∷ []

-- the table: what the definitions give, and what the rules say
pub record Row : Type 0 where
  pub given : List Shown
  pub said : List Shown

-- send to 9, type 1, fresh tag, AA BB CC
abbrev pub cut_once : Row
cut_once = record { given = sent 255 None (0xAA ∷ 0xBB ∷ 0xCC ∷ []) (255 ∷ 255 ∷ []); said = packet (0x01 ∷ 0x09 ∷ 0x08 ∷ 0xD9 ∷ 0x01 ∷ 0xAA ∷ 0xBB ∷ 0xCC ∷ []) ∷ [] }

-- the same with MTU 6
abbrev pub cut_twice : Row
cut_twice = record { given = sent 255 (Some 6) (0xAA ∷ 0xBB ∷ 0xCC ∷ []) (255 ∷ 255 ∷ 255 ∷ []); said = packet (0x01 ∷ 0x09 ∷ 0x08 ∷ 0x99 ∷ 0x01 ∷ 0xAA ∷ []) ∷ packet (0x01 ∷ 0x09 ∷ 0x08 ∷ 0x69 ∷ 0xBB ∷ 0xCC ∷ []) ∷ [] }

-- send nothing
abbrev pub cut_nothing : Row
cut_nothing = record { given = sent 255 None [] (255 ∷ 255 ∷ []); said = packet (0x01 ∷ 0x09 ∷ 0x08 ∷ 0xD9 ∷ 0x01 ∷ []) ∷ [] }

-- with a stack MTU of 300, sends with MTU 4 and 256 are refused, and those with 5 and 255 are taken
abbrev pub mtus : Row
mtus = record { given = tried 300 4 ++ (tried 300 5 ++ (tried 300 255 ++ tried 300 256)); said = refused 3 ∷ taken ∷ taken ∷ refused 3 ∷ [] }

-- a buffer of 4 bytes on the first step is NoSpace, one of 5 is taken
abbrev pub buffers : Row
buffers = record { given = first_step 4 ++ first_step 5; said = refused 2 ∷ taken ∷ [] }

-- eight fresh tags to peer 9, the ninth is TagUnavailable; then one to peer 10
abbrev pub fresh_tags : Row
fresh_tags = record { given = tags (9 ∷ 9 ∷ 9 ∷ 9 ∷ 9 ∷ 9 ∷ 9 ∷ 9 ∷ 9 ∷ 10 ∷ []) (bay 255).stack; said = tag 1 ∷ tag 2 ∷ tag 3 ∷ tag 4 ∷ tag 5 ∷ tag 6 ∷ tag 7 ∷ tag 0 ∷ refused 4 ∷ tag 2 ∷ [] }

-- a body of 1,032 bytes is handed out
abbrev pub longest : Row
longest = record { given = got (whole 1032) (bay 255); said = message 9 1 (replicate 1032 7) ∷ empty false ∷ [] }

-- one of 1,033 is NoSpace, and the slot is empty
abbrev pub too_long : Row
too_long = record { given = got (whole 1033) (bay 255); said = refused 2 ∷ empty true ∷ [] }

-- SOM at clock 0, then update 6,000 and update 6,001
abbrev pub expiry : Row
expiry = record { given = updates (6000 ∷ 6001 ∷ []) (step 1032 (receive opener) (bay 255)); said = checked 0 false ∷ checked 100 true ∷ [] }

-- update 1,000 on an idle stack, then update 1,040
abbrev pub idle : Row
idle = record { given = updates (1000 ∷ 1040 ∷ []) (bay 255); said = checked 100 false ∷ checked 60 false ∷ [] }

-- packet 01 08 09 C9 01 2A
abbrev pub join_one : Row
join_one = record { given = got (0x01 ∷ 0x08 ∷ 0x09 ∷ 0xC9 ∷ 0x01 ∷ 0x2A ∷ []) (bay 255); said = message 9 1 (0x2A ∷ []) ∷ empty false ∷ [] }

abbrev pub table : List Row
table = cut_once ∷ cut_twice ∷ cut_nothing ∷ mtus ∷ buffers ∷ fresh_tags ∷ longest ∷ too_long ∷ expiry ∷ idle ∷ join_one ∷ []

-- docs/RULES.md 47: four packets lost in a row in mid-message are not noticed. Of a message in six packets the first comes and then the sixth, which has the
-- number that the second had: it is taken, and what came is handed out
abbrev pub four_lost : Row
four_lost = record { given = got (0x01 ∷ 0x08 ∷ 0x09 ∷ 0x59 ∷ 0xFF ∷ []) (step 1032 (receive opener) (bay 255)); said = message 9 1 (0x2A ∷ 0xFF ∷ []) ∷ empty false ∷ [] }

-- every row gives what is said
abbrev pub Given : List Row → Type 0
Given [] = Unit
Given (r ∷ l) = (r.given ≡ r.said) × Given l
