-- What a receive makes, step by step: one store after another, refusals, and which case of the definition a search or a test picks.
use Prim.Native.Nat.{ℕ, ◌*◌, ◌≤◌, ◌<◌}
use mathlib.Core.Path.{◌≡◌, refl, sym, ap, subst, ◌∙◌}
use mathlib.Core.Bool.{Bool, true, false}
use mathlib.Core.List.{List}
use lib.ListN.{length}
use borrow.Author.Tests.{lt-ltb, le-ltb}
use Rattle.std.specs.Prelude.{Err, None, Ok, Option, Result, Some}
use Rattle.octets.specs.Pick.{pick, pick_true, pick_false, pick_cases}
use Rattle.octets.specs.Bytes.{over}
use Rattle.octets.specs.Find.{find}
use Rattle.octets.proofs.Part.{over-nil}
use Rattle.octets.proofs.Finds.{find_hit}
use Rattle.octets.proofs.Bools.{no_both}
use Rattle.mctp.specs.declared.Header.{Header}
use Rattle.mctp.specs.declared.Error.{Error}
use Rattle.mctp.specs.declared.Error.TheVariants.{Unreachable, InvalidInput, NoSpace, PoolShort}
use Rattle.mctp.specs.Terms.{same_key}
use Rattle.mctp.specs.Header.{header_of}
use Rattle.stamp.specs.declared.EventStamp.{EventStamp}
use Rattle.stamp.specs.Stamp.{next}
use Rattle.flows.specs.declared.Flow.{Flow}
use Rattle.flows.specs.Table.{standing, flow_cookie, flow_place}
use Rattle.slot.specs.declared.State.{State}
use Rattle.slot.specs.declared.State.TheVariants.{Empty, Collecting, Done, HandleOut}
use Rattle.slot.specs.declared.Reassembler.{Reassembler}
use Rattle.slot.specs.Slot.{blank_slot, is_empty, empty_state, collects, collects_in}
use Rattle.slot.specs.Search.{slot_for}
use Rattle.reassemble.specs.Enter.{opened, gate, gate_empty, gate_reply, enter}
use Rattle.state.specs.declared.Sizes.{Sizes}
use Rattle.state.specs.Stack.{Stack, Becomes, stack_of, slot_at, ticked}
use Rattle.state.proofs.StackLaws.{and_then}
use Rattle.slot.specs.Handle.{next_issue}
use Rattle.receiving.specs.Receive.{Receipt, Makes, refuse, settled, land, receive_at, receive_by, receive_of}
use Rattle.mctp.specs.declared.AppCookie.{AppCookie}
use Rattle.reassemble.specs.declared.Intake.{Intake}
use Rattle.slot.specs.declared.ReceiveHandle.{ReceiveHandle}

-- rule 44: the slot that the packet enters, the event's stamp and the number are the definition's
pub lands : (B i : ℕ) (st : Stack) (h : Header) (p : List ℕ) (s : Reassembler) (e : Result Intake Error) (t : EventStamp) (n : ℕ)
    → e ≡ enter B t n s h p → t ≡ next st.head.now → n ≡ next_issue st.head.issue
    → settled B i (ticked st) h.key p e ≡ land B i st h p (Ok s)
unfolding land
lands B i st h p s e t n u v w =
    ap (settled B i (ticked st) h.key p)
    (u ∙ ap (λ (x : EventStamp). enter B x n s h p) v ∙ ap (λ (m : ℕ). enter B (next st.head.now) m s h p) w)

module _ (z : Sizes) (r : Result (Option ReceiveHandle) Error) where
  -- the same receipt, written in another way
  pub makes_as : {b b' pool pool' : List ℕ} {s t : Receipt} → s ≡ t → Makes z s r b b' pool pool' → Makes z t r b b' pool pool'
  makes_as {b} {b'} {pool} {pool'} e m = subst (λ (x : Receipt). Makes z x r b b' pool pool') e m

  -- after another store
  pub makes_then : (f : Stack → Receipt) {b x y pool pool' : List ℕ} (st : Stack) → Becomes z b x st → Makes z (f (stack_of z x)) r x y pool pool'
      → Makes z (f st) r b y pool pool'
  makes_then f {b} {x} {y} {pool} {pool'} st p m = record {
    said = m.said ∙ ap (λ (s : Stack). (f s).said) p.view;
    stack = and_then z (λ (s : Stack). (f s).stack) b x y st p m.stack;
    bytes = m.bytes ∙ ap (λ (s : Stack). over (f s).at (f s).bytes pool) p.view;
  }

-- a reply whose flow stands passes with the flow's cookie
module _ (h : Header) (flows : List Flow) where
  pub reply_stands : (cookie : Option AppCookie) → flow_place h.key.source h.key.tag flows < length flows → cookie ≡ flow_cookie h.key.source h.key.tag flows
      → gate_reply h true cookie ≡ gate_reply h (standing h.key.source h.key.tag flows) (flow_cookie h.key.source h.key.tag flows)
  unfolding gate_reply pick
  reply_stands cookie l e = rw (lt-ltb (flow_place h.key.source h.key.tag flows) (length flows) l, e)

  pub reply_lost : length flows ≤ flow_place h.key.source h.key.tag flows
      → gate_reply h false None ≡ gate_reply h (standing h.key.source h.key.tag flows) (flow_cookie h.key.source h.key.tag flows)
  unfolding gate_reply pick
  reply_lost l = rw (le-ltb (flow_place h.key.source h.key.tag flows) (length flows) l)

-- a refusal writes nothing
pub refusal : (z : Sizes) (err : Error) {b b' : List ℕ} (pool : List ℕ) (st : Stack) → Becomes z b b' st → Makes z (refuse err st) (Err err) b b' pool pool
refusal z err pool st p = record { said = refl; stack = p; bytes = sym (over-nil 0 pool) }

-- a slot that collects is not empty
not_empty : (s : State) (same : Bool) → collects_in s same ≡ true → empty_state s ≡ false
not_empty Empty same e = absurd (no_both e refl)
not_empty Collecting same e = refl
not_empty Done same e = refl
not_empty (HandleOut n) same e = refl

module _ (B : ℕ) (st : Stack) (p : List ℕ) where
  -- rules 40 to 42, at an empty slot: the event counts whatever the gate says
  pub at_empty : (i : ℕ) (h : Header) (g : Result Reassembler Error) → is_empty (slot_at i st) ≡ true
      → g ≡ gate_empty st.head.own_eid h (standing h.key.source h.key.tag st.flows) (flow_cookie h.key.source h.key.tag st.flows)
      → receive_at B i st p (Some h) ≡ land B i (ticked st) h p g
  unfolding receive_at gate pick
  at_empty i h g e q = rw (e, q)

  pub shut_at : (i : ℕ) (h : Header) (g : Result Reassembler Error) (err : Error) → g ≡ Err err → land B i st h p g ≡ refuse err st
  unfolding land
  shut_at i h g err e = rw e

  bad_at : (i : ℕ) → is_empty (slot_at i st) ≡ true → receive_at B i st p None ≡ refuse InvalidInput (ticked st)
  unfolding receive_at pick
  bad_at i e = rw e

  -- rule 39, a bad header
  pub bad_in : find is_empty st.slots < length st.slots → receive_by B st p None ≡ refuse InvalidInput (ticked st)
  unfolding receive_by slot_for
  bad_in h =
      pick_true _ _ _ (lt-ltb (find is_empty st.slots) (length st.slots) h) ∙ bad_at (find is_empty st.slots) (find_hit is_empty st.slots blank_slot h)

  pub bad_out : length st.slots ≤ find is_empty st.slots → receive_by B st p None ≡ refuse NoSpace st
  unfolding receive_by slot_for
  bad_out h = pick_false _ _ _ (le-ltb (find is_empty st.slots) (length st.slots) h)

  -- a packet with a bad header writes nothing
  pub bad_writes : (pool : List ℕ) → over (receive_by B st p None).at (receive_by B st p None).bytes pool ≡ pool
  unfolding receive_by receive_at
  bad_writes pool =
      pick_cases (λ (c : Receipt). over c.at c.bytes pool ≡ pool) (λ _. over-nil 0 pool) (λ _. over-nil 0 pool)

  -- rule 39, a good header
  module _ (h : Header) where
    collecting_at : (i : ℕ) → collects h.key (slot_at i st) ≡ true → receive_at B i st p (Some h) ≡ land B i st h p (Ok (slot_at i st))
    unfolding receive_at gate pick
    collecting_at i e = rw (not_empty (slot_at i st).state (same_key (slot_at i st).key h.key) e)

    pub good_collecting : find (collects h.key) st.slots < length st.slots
        → receive_by B st p (Some h) ≡ land B (find (collects h.key) st.slots) st h p (Ok (slot_at (find (collects h.key) st.slots) st))
    unfolding receive_by slot_for
    good_collecting l =
        let i = find (collects h.key) st.slots in
        let t = lt-ltb i (length st.slots) l in
        rw (pick_true _ i (find is_empty st.slots) t, pick_true _ (receive_at B i st p (Some h)) (refuse NoSpace st) t)
        (collecting_at i (find_hit (collects h.key) st.slots blank_slot l))

    pub good_empty : length st.slots ≤ find (collects h.key) st.slots → find is_empty st.slots < length st.slots
        → receive_by B st p (Some h) ≡ receive_at B (find is_empty st.slots) st p (Some h)
    unfolding receive_by slot_for pick
    good_empty l k = rw (le-ltb (find (collects h.key) st.slots) (length st.slots) l, lt-ltb (find is_empty st.slots) (length st.slots) k)

    pub good_none : length st.slots ≤ find (collects h.key) st.slots → length st.slots ≤ find is_empty st.slots
        → receive_by B st p (Some h) ≡ refuse NoSpace st
    unfolding receive_by slot_for pick
    good_none l k = rw (le-ltb (find (collects h.key) st.slots) (length st.slots) l, le-ltb (find is_empty st.slots) (length st.slots) k)

  -- the pool is looked at first
  pub short_pool : (room : ℕ) → room < B * length st.slots → receive_of B st room p ≡ refuse PoolShort st
  unfolding receive_of
  short_pool room h = pick_true _ _ _ (lt-ltb room (B * length st.slots) h)

  pub long_pool : (room : ℕ) (r : Option Header) → B * length st.slots ≤ room → header_of p ≡ r → receive_of B st room p ≡ receive_by B st p r
  unfolding receive_of
  long_pool room r h e = pick_false _ _ _ (le-ltb room (B * length st.slots) h) ∙ ap (receive_by B st p) e
