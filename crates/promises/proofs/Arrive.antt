-- A fragment that comes to its slot: where every test passes, a receive is one step of the collecting, answered "more" or with the message.
use Prim.Native.Nat.{ℕ, ◌+◌, ◌-◌, ◌*◌, ◌%◌, ◌≤◌, ◌<◌}
use native.Mathlib.Omega.{arith}
use mathlib.Core.Path.{◌≡◌, refl, sym, ap, ◌∙◌}
use mathlib.Core.Bool.{Bool, true, false}
use mathlib.Core.List.{List, ◌++◌}
use lib.ListN.{length, get_or, set, drop, length-set, length-append, length-drop}
use lib.Seq.{get_or-set_other, get_or-set_same}
use borrow.Author.Tests.{le-ltb, lt-ltb}
use Rattle.std.specs.Prelude.{None, Ok, Option, Result, Some}
use Rattle.octets.specs.Pick.{pick}
use Rattle.octets.specs.Bytes.{over}
use Rattle.mctp.specs.declared.Key.{Key}
use Rattle.mctp.specs.declared.MsgType.{MsgType}
use Rattle.mctp.specs.declared.MsgIC.{MsgIC}
use Rattle.mctp.specs.declared.Header.{Header}
use Rattle.mctp.specs.Header.{header_of, lead}
use Rattle.stamp.specs.declared.EventStamp.{EventStamp}
use Rattle.stamp.specs.Stamp.{next}
use Rattle.slot.specs.declared.State.TheVariants.{Collecting}
use Rattle.slot.specs.declared.Reassembler.{Reassembler}
use Rattle.slot.specs.Slot.{blank_slot, is_empty, collects}
use Rattle.slot.specs.Search.{slot_for}
use Rattle.reassemble.specs.Enter.{enter, append, appended}
use Rattle.reassemble.proofs.Entries.{append_is}
use Rattle.fragment.specs.Cutting.{body_in, says_som}
use Rattle.state.specs.Stack.{Stack, slot_at, ticked}
use Rattle.slot.specs.declared.ReceiveHandle.{ReceiveHandle}
use Rattle.slot.specs.Handle.{next_issue}
use Rattle.receiving.specs.Conclude.{said_of, received_as}
use Rattle.receiving.specs.Receive.{Receipt, settled, land, counted_opening, gate_of, receive_at, receive_by, receive_of}
use Rattle.promises.specs.Calls.{World, receive, step, receipt}
use Rattle.handles.specs.Handles.{message_in}
use Rattle.promises.specs.Delivery.{Hands}
use Rattle.promises.proofs.Pool.{slot_le, body_at, pool_length, body_append}
use Rattle.promises.proofs.Clock.{next_clock, opening_clock}
use Rattle.promises.proofs.Outcome.{opening_slots}
use Rattle.promises.proofs.Fetch.{fetch_is}
use Rattle.mctp.specs.declared.AppCookie.{AppCookie}
use Rattle.mctp.specs.declared.Error.{Error}
use Rattle.reassemble.specs.declared.Intake.{Intake}

-- a slot that has collected n bytes under K
abbrev pub gathering : Key → MsgType → MsgIC → ℕ → ℕ → EventStamp → Option AppCookie → Reassembler
gathering K typ ic number n stamp cookie = record { state = Collecting; key = K; typ = typ; ic = ic; next_seq = number; len = n; cookie = cookie; stamp = stamp }

-- where all the tests pass, a receive is the entry into the slot
receive_is : (B : ℕ) (st : Stack) (room : ℕ) (p : List ℕ) (h : Header) (j : ℕ) (s : Reassembler)
    → header_of p ≡ Some h → B * length st.slots ≤ room → slot_for (Some h) st.slots ≡ j → j < length st.slots → gate_of j st h ≡ Ok s
    → receive_of B st room p ≡ land B j (counted_opening (is_empty (slot_at j st)) st) h p (Ok s)
unfolding receive_of receive_by receive_at pick
receive_is B st room p h j s d r q i g = rw (d, q, le-ltb room (B * length st.slots) r, lt-ltb j (length st.slots) i, g)

module _ (B : ℕ) (K : Key) (typ : MsgType) (ic : MsgIC) (cookie : Option AppCookie) (t₀ j : ℕ) where
  -- what holds before a packet of K is taken, with `bytes` collected already
  pub record Poised (bytes : List ℕ) (h : Header) (p : List ℕ) (w : World) : Type 0 where
    pub read : header_of p ≡ Some h
    pub found : slot_for (Some h) w.stack.slots ≡ j
    pub inside : j < length w.stack.slots
    pub room : B * length w.stack.slots ≤ length w.pool
    pub slot : Reassembler
    pub gate : gate_of j w.stack h ≡ Ok slot
    pub stamp : EventStamp → EventStamp
    pub since : (now : EventStamp) → now.clock ≡ w.stack.head.now.clock → (stamp now).clock ≡ t₀
    pub enters : (now : EventStamp) (issue : ℕ)
        → enter B now issue slot h p ≡ append B now issue (gathering K typ ic h.seq (length bytes) (stamp now) cookie) h p (lead h.som)
    pub fits : length bytes + length (body_in p) ≤ B
    pub first : (k : ℕ) → k < j → collects K (slot_at k w.stack) ≡ false
    pub body : body_at B j (length bytes) w.pool ≡ bytes
    pub later : t₀ ≤ w.stack.head.now.clock

  -- what holds between two fragments
  pub record Waiting (number : ℕ) (bytes : List ℕ) (w : World) : Type 0 where
    pub stamp : EventStamp
    pub slot : slot_at j w.stack ≡ gathering K typ ic number (length bytes) stamp cookie
    pub since : stamp.clock ≡ t₀
    pub later : t₀ ≤ w.stack.head.now.clock
    pub room : B * length w.stack.slots ≤ length w.pool
    pub first : (k : ℕ) → k < j → collects K (slot_at k w.stack) ≡ false
    pub body : body_at B j (length bytes) w.pool ≡ bytes

  module _ (bytes : List ℕ) (h : Header) (p : List ℕ) (w : World) (o : Poised bytes h p w) where
    st₁ : Stack
    st₁ = counted_opening (is_empty (slot_at j w.stack)) w.stack

    now₁ : EventStamp
    now₁ = next st₁.head.now

    issue₁ : ℕ
    issue₁ = next_issue st₁.head.issue

    base : Reassembler
    base = gathering K typ ic h.seq (length bytes) (o.stamp now₁) cookie

    stored : Reassembler
    stored = appended h.eom now₁ issue₁ (length (body_in p)) base

    entry : ℕ → Result Intake Error
    entry n = Ok (record { slot = appended h.eom now₁ issue₁ n base; at = length bytes; from = lead h.som; whole = h.eom })

    chunk : drop (lead h.som) p ≡ body_in p
    chunk = ap (λ (r : Option Header). drop (lead (says_som r)) p) (sym o.read)

    size : length p - lead h.som ≡ length (body_in p)
    size = sym (length-drop (lead h.som) p) ∙ ap length chunk

    arrives : receipt B p w ≡ settled B j (ticked st₁) h.key p (entry (length (body_in p)))
    unfolding st₁ now₁ issue₁ base entry land
    arrives =
        receive_is B w.stack (length w.pool) p h j o.slot o.read o.room o.found o.inside o.gate
        ∙ ap (settled B j (ticked st₁) h.key p) (o.enters now₁ issue₁ ∙ append_is B now₁ issue₁ base h p (lead h.som) refl (le-ltb B (length bytes + (length p - lead h.som)) (rw size o.fits)) ∙ ap entry size)

    w₁ : World
    w₁ = step B (receive p) w

    slots_after : w₁.stack.slots ≡ set w.stack.slots j stored
    unfolding w₁ step entry stored st₁
    slots_after = rw (arrives, opening_slots (is_empty (slot_at j w.stack)) w.stack)

    pool_after : w₁.pool ≡ over (B * j + length bytes) (body_in p) w.pool
    unfolding w₁ step entry
    pool_after = rw arrives (ap (λ (b : List ℕ). over (B * j + length bytes) b w.pool) chunk)

    clock_now : now₁.clock ≡ w.stack.head.now.clock
    unfolding now₁ st₁
    clock_now = next_clock st₁.head.now ∙ opening_clock (is_empty (slot_at j w.stack)) w.stack

    clock_after : w₁.stack.head.now.clock ≡ w.stack.head.now.clock
    unfolding w₁ step entry now₁
    clock_after = rw arrives clock_now

    holds : B * j + B ≤ length w.pool
    holds = omega (arith, slot_le B j (length w.stack.slots) o.inside, o.room)

    slot_after : slot_at j w₁.stack ≡ stored
    slot_after = ap (λ (l : List Reassembler). get_or l j blank_slot) slots_after ∙ get_or-set_same w.stack.slots j stored blank_slot o.inside

    body_after : body_at B j (length bytes + length (body_in p)) w₁.pool ≡ bytes ++ body_in p
    body_after = rw pool_after (body_append B j (length bytes) (body_in p) w.pool o.fits holds ∙ ap (λ (r : List ℕ). r ++ body_in p) o.body)

    said-after : (receipt B p w).said ≡ said_of h.eom j issue₁
    unfolding entry st₁ issue₁
    said-after = ap (λ (r : Receipt). r.said) arrives

    room_after : B * length w₁.stack.slots ≤ length w₁.pool
    room_after = rw (slots_after, pool_after, length-set w.stack.slots j stored, pool_length B j (length bytes) (body_in p) w.pool o.fits holds) o.room

    inside_after : j < length w₁.stack.slots
    inside_after = rw (slots_after, length-set w.stack.slots j stored) o.inside

    -- the last hands the message out
    pub hands : h.eom ≡ true → Hands B (record { key = K; typ = typ; ic = ic; body = bytes ++ body_in p; cookie = cookie }) p w
    unfolding w₁ stored base pick
    hands e = record {
      handle = handle;
      told = ap received_as (said-after ∙ ap (λ (b : Bool). said_of b j issue₁) e);
      facts = message_in B j (slot_at j w₁.stack);
      fetched = fetch_is B handle w₁.stack (length w₁.pool) room_after inside_after (ap (λ (s : Reassembler). s.state) made);
      message = rw made (ap (λ (b : List ℕ). record { key = K; typ = typ; ic = ic; body = b; cookie = cookie }) body_after);
    }
      where
        handle : ReceiveHandle
        handle = record { index = j; issue = issue₁ }

        made : slot_at j w₁.stack ≡ appended true now₁ issue₁ (length (body_in p)) base
        made = slot_after ∙ ap (λ (b : Bool). appended b now₁ issue₁ (length (body_in p)) base) e

    -- one before the last is answered "more"
    pub collects_more : h.eom ≡ false → ((receipt B p w).said ≡ Ok None) × Waiting ((h.seq + 1) % 4) (bytes ++ body_in p) (step B (receive p) w)
    unfolding w₁ stored base pick
    collects_more e = (
      said-after ∙ ap (λ (b : Bool). said_of b j issue₁) e,
      record {
        stamp = o.stamp now₁;
        slot = made;
        since = o.since now₁ clock_now;
        later = rw clock_after o.later;
        room = room_after;
        first = λ k q. rw (slots_after, get_or-set_other w.stack.slots j k stored blank_slot (omega arith)) (o.first k q);
        body = rw length-append body_after;
      },
    )
      where
        due : (h.seq % 4 + 1) % 4 ≡ (h.seq + 1) % 4
        due = omega arith

        made : slot_at j w₁.stack ≡ gathering K typ ic ((h.seq + 1) % 4) (length (bytes ++ body_in p)) (o.stamp now₁) cookie
        made =
            slot_after ∙ ap (λ (b : Bool). appended b now₁ issue₁ (length (body_in p)) base) e
            ∙ ap (λ (n : ℕ). gathering K typ ic n (length bytes + length (body_in p)) (o.stamp now₁) cookie) due
            ∙ ap (λ (n : ℕ). gathering K typ ic ((h.seq + 1) % 4) n (o.stamp now₁) cookie) (sym (length-append bytes (body_in p)))
