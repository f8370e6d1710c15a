-- What was taken: the packets that a stack answered with "more" or a message, newest first.
-- And which of them belong to a key since its newest opening packet.
-- Leans on `Calls`, and on `mctp` for headers and keys.
use Rattle.std.specs.Prelude.{ℕ, ◌+◌, ◌%◌, ◌≡◌, Bool, true, false, not, ◌&&◌, List, [], ◌∷◌, ◌++◌, eqb, get_or, Err, None, Ok, Option, Result, Some}
use Rattle.octets.specs.Pick.{pick}
use Rattle.mctp.specs.declared.Key.{Key}
use Rattle.mctp.specs.declared.Header.{Header}
use Rattle.mctp.specs.Terms.{same_key}
use Rattle.mctp.specs.Header.{header_of, type_of}
use Rattle.fragment.specs.Cutting.{body_in}
use Rattle.receiving.specs.Receive.{receive_of}
use Rattle.state.specs.Stack.{Stack}
use Rattle.promises.specs.Calls.{World, Call, receive, elsewhere, update, start_send, cancel_flow, get_deferred, get_deferred_by_cookie, fetch_message, finished_receive, return_handle, set_cookie, set_eid, eid, is_local_dest, free_tags, step, receipt, has_key}
use Rattle.promises.specs.Delivery.{Message, all_of, cookie_for}
use Rattle.mctp.specs.declared.AppCookie.{AppCookie}
use Rattle.mctp.specs.declared.Error.{Error}
use Rattle.slot.specs.declared.ReceiveHandle.{ReceiveHandle}

-- a packet that was taken: its header, its bytes, whether the pool that we watch was lent, and the cookie that its key had
pub record Taken : Type 0 where
  pub header : Header
  pub packet : List ℕ
  pub here : Bool
  pub cookie : Option AppCookie

abbrev pub takes : Result (Option ReceiveHandle) Error → Bool
takes (Ok None) = true
takes (Ok (Some h)) = true
takes (Err err) = false

abbrev pub note : Stack → Bool → Option Header → List ℕ → List Taken → List Taken
note st here None p H = H
note st here (Some h) p H = record { header = h; packet = p; here = here; cookie = cookie_for h.key st } ∷ H

-- the history after one more packet that was answered so
unfoldable pub noted : Result (Option ReceiveHandle) Error → Stack → Bool → List ℕ → List Taken → List Taken
noted said st here p H = pick (takes said) (note st here (header_of p) p H) H

unfoldable pub logged : ℕ → Call → World → List Taken → List Taken
logged B (receive p) w H = noted (receipt B p w).said w.stack true p H
logged B (elsewhere n p) w H = noted (receive_of B w.stack n p).said w.stack false p H
logged B (update t) w H = H
logged B (start_send q) w H = H
logged B (cancel_flow peer tag) w H = H
logged B (get_deferred source tag) w H = H
logged B (get_deferred_by_cookie cookies) w H = H
logged B (fetch_message h n) w H = H
logged B (finished_receive h) w H = H
logged B (return_handle h) w H = H
logged B (set_cookie h cookie) w H = H
logged B (set_eid n) w H = H
logged B eid w H = H
logged B (is_local_dest p) w H = H
logged B (free_tags peer) w H = H

-- what was taken in a run of calls from w
unfoldable pub history : ℕ → List Call → World → List Taken → List Taken
history B [] w H = H
history B (c ∷ cs) w H = history B cs (step B c w) (logged B c w H)

-- whether a call, if it is a receive, is lent the pool that we watch
abbrev pub lent_here : Call → Bool
lent_here (receive p) = true
lent_here (elsewhere n p) = false
lent_here (update t) = true
lent_here (start_send q) = true
lent_here (cancel_flow peer tag) = true
lent_here (get_deferred source tag) = true
lent_here (get_deferred_by_cookie cookies) = true
lent_here (fetch_message h n) = true
lent_here (finished_receive h) = true
lent_here (return_handle h) = true
lent_here (set_cookie h cookie) = true
lent_here (set_eid n) = true
lent_here eid = true
lent_here (is_local_dest p) = true
lent_here (free_tags peer) = true

-- the packets taken under K, from the newest opening one on, oldest first
unfoldable pub since : Key → List Taken → List Taken
since K [] = []
since K (t ∷ H) = pick (same_key t.header.key K) (pick t.header.som (t ∷ []) (since K H ++ (t ∷ []))) (since K H)

-- their bodies, in order
unfoldable pub gathered : List Taken → List ℕ
gathered [] = []
gathered (t ∷ l) = body_in t.packet ++ gathered l

-- whether these may follow a packet numbered n: none opens a message, and each is numbered one more modulo 4 than the one before
unfoldable pub follows : ℕ → List Taken → Bool
follows n [] = true
follows n (t ∷ l) = not t.header.som && (eqb t.header.seq ((n + 1) % 4) && follows t.header.seq l)

-- whether they are an opening packet and then those that follow it, numbered in turn
unfoldable pub numbered : List Taken → Bool
numbered [] = false
numbered (t ∷ l) = t.header.som && follows t.header.seq l

-- the first opened a message of that type and IC, for that cookie
abbrev pub Opens : Message → List Taken → Type 0
Opens m [] = ⊥
Opens m (t ∷ l) = (type_of (get_or t.packet 4 0) ≡ record { typ = m.typ; ic = m.ic }) × (m.cookie ≡ t.cookie)

-- m is exactly what H holds under its key, the closing packet p being the newest of them
pub record Exactly (m : Message) (p : List ℕ) (H : List Taken) : Type 0 where
  pub closing : has_key m.key (header_of p) ≡ true
  pub body : all_of (λ t. t.here) (since m.key H) ≡ true → m.body ≡ gathered (since m.key H)
  pub turn : numbered (since m.key H) ≡ true
  pub opened : Opens m (since m.key H)
