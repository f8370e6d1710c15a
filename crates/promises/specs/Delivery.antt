-- What it means that a message is delivered: its packets come in order, with calls between, none before the last hands anything out, and the last hands out
-- exactly that message. And what demand 3 asks of the state at the first fragment.
-- Leans on `Calls`, and on `fragment` for what DSP0236 calls a message in packets.
use Rattle.std.specs.Prelude.{ℕ, ◌*◌, ◌≤◌, ◌≡◌, Bool, true, false, ◌&&◌, ◌||◌, List, [], ◌∷◌, ltb, length, None, Ok, Option}
use Rattle.octets.specs.Pick.{pick}
use Rattle.octets.specs.Find.{find}
use Rattle.octets.specs.Bytes.{part}
use Rattle.mctp.specs.declared.Key.{Key}
use Rattle.mctp.specs.declared.MsgType.{MsgType}
use Rattle.mctp.specs.declared.MsgIC.{MsgIC}
use Rattle.mctp.specs.Terms.{same_eid, any_eid}
use Rattle.mctp.specs.Answer.{gives}
use Rattle.flows.specs.Table.{standing, flow_cookie}
use Rattle.slot.specs.Slot.{is_empty, collects}
use Rattle.reassemble.specs.Enter.{is_local}
use Rattle.state.specs.Stack.{Stack, slot_at}
use Rattle.fragment.specs.Cutting.{Carries}
use Rattle.slot.specs.declared.ReceiveHandle.{ReceiveHandle}
use Rattle.slot.specs.Handle.{handle_words}
use Rattle.handles.specs.declared.Message.{Message as Facts}
use Rattle.handles.specs.Handles.{message_in, fetch_of}
use Rattle.promises.specs.Calls.{World, Call, receive, step, steps, performed, permitted}
use Rattle.mctp.specs.declared.AppCookie.{AppCookie}

-- what is handed out: key, type, IC, body and cookie
pub record Message : Type 0 where
  pub key : Key
  pub typ : MsgType
  pub ic : MsgIC
  pub body : List ℕ
  pub cookie : Option AppCookie

-- a fetched message with its body read from the pool
abbrev pub read_from : List ℕ → Facts → Message
read_from pool m = record { key = m.key; typ = m.typ; ic = m.ic; body = part m.at m.len pool; cookie = m.cookie }

-- the message in slot i, as fetch gives it
abbrev pub message_at : ℕ → ℕ → World → Message
message_at B i w = read_from w.pool (message_in B i (slot_at i w.stack))

-- the packet p hands out m: the answer is 0 with a handle's index and number, and a fetch under that handle, lent the same pool, gives m
pub record Hands (B : ℕ) (m : Message) (p : List ℕ) (w : World) : Type 0 where
  pub handle : ReceiveHandle
  pub told : performed B (receive p) w ≡ gives (handle_words handle)
  pub facts : Facts
  pub fetched : fetch_of B handle (step B (receive p) w).stack (length (step B (receive p) w).pool) ≡ Ok facts
  pub message : read_from (step B (receive p) w).pool facts ≡ m

-- the calls before the next packet, and those after it
abbrev pub next_gap : List (List Call) → List Call
next_gap [] = []
next_gap (g ∷ gs) = g

abbrev pub later_gaps : List (List Call) → List (List Call)
later_gaps [] = []
later_gaps (g ∷ gs) = gs

-- the packets come in order, lent the watched pool, with calls after each: every packet before the last is answered 0 and no handle, and the last hands out m
unfoldable pub Delivers : ℕ → Message → List (List ℕ) → List (List Call) → World → Type 0
Delivers B m [] gaps w = ⊥
Delivers B m (p ∷ []) gaps w = Hands B m p w
Delivers B m (p ∷ q ∷ ps) gaps w =
    (performed B (receive p) w ≡ gives []) × Delivers B m (q ∷ ps) (later_gaps gaps) (steps B (next_gap gaps) (step B (receive p) w))

abbrev pub all_of : {A : Type 0} → (A → Bool) → List A → Bool
all_of f [] = true
all_of f (x ∷ l) = f x && all_of f l

-- whether a slot collects that key
abbrev pub collecting : Key → Stack → Bool
collecting K st = ltb (find (collects K) st.slots) (length st.slots)

-- whether a slot is free
abbrev pub vacancy : Stack → Bool
vacancy st = ltb (find is_empty st.slots) (length st.slots)

-- whether the first fragment finds a slot: one still collects that key, or one is free, and for a reply its flow stands
abbrev pub ready : Key → Stack → Bool
ready K st = collecting K st || (vacancy st && (K.owner || standing K.source K.tag st.flows))

-- the cookie of rules 42 and 46: a collecting slot keeps its own; else a reply has its flow's, and any other message none
abbrev pub cookie_for : Key → Stack → Option AppCookie
cookie_for K st =
    pick (collecting K st) (slot_at (find (collects K) st.slots) st).cookie
    (pick K.owner None (flow_cookie K.source K.tag st.flows))

-- demand 3's premises at the first fragment, in the world w: these packets carry the body as one message; the body has at most B bytes; the source is not 255;
-- the destination is 0 or the own EID; there is a slot for it; the pool is long enough; and only permitted calls come between the fragments
pub record Lawful (B : ℕ) (K : Key) (typ : MsgType) (ic : MsgIC) (mtu : ℕ) (body : List ℕ) (ps : List (List ℕ)) (gaps : List (List Call)) (w : World) : Type 0 where
  pub carries : Carries K typ ic mtu body ps
  pub fits : length body ≤ B
  pub source : same_eid K.source any_eid ≡ false
  pub dest : is_local w.stack.head.own_eid K.dest ≡ true
  pub begins : ready K w.stack ≡ true
  pub pool : B * length w.stack.slots ≤ length w.pool
  pub between : all_of (all_of (permitted K w.stack.head.now.clock)) gaps ≡ true
