-- The slot that a packet makes has its ranges, and so has the slot that a gate passes and the tag and sequence of a good header. And the bytes that a plan
-- moves lie within the pool.
use Prim.Native.Nat.{ℕ, ◌+◌, ◌-◌, ◌*◌, ◌%◌, ◌^◌, ◌≤◌, ◌<◌}
use native.Mathlib.Omega.{arith}
use mathlib.Core.Path.{◌≡◌, sym, ap, subst, ◌∙◌}
use mathlib.Core.Bool.{Bool, true}
use mathlib.Core.List.{List, ◌++◌}
use lib.ListN.{length, get_or, take, drop, length-drop}
use lib.Seq.{take_all}
use borrow.Author.Tests.{ltb-false}
use Rattle.std.specs.Prelude.{Err, None, Ok, Option, Result, Some}
use Rattle.octets.specs.Pick.{pick_cases}
use Rattle.octets.specs.Bytes.{over, lay}
use Rattle.octets.proofs.Part.{lent_front, lay_front}
use Rattle.octets.proofs.Region.{place_is, place_in}
use Rattle.mctp.specs.declared.Eid.{Eid}
use Rattle.mctp.specs.declared.Header.{Header}
use Rattle.mctp.specs.Terms.{cookie_value}
use Rattle.mctp.specs.Header.{header_of, HeaderOk}
use Rattle.stamp.specs.declared.EventStamp.{EventStamp}
use Rattle.stamp.specs.Stamp.{next}
use Rattle.flows.specs.Table.{standing, flow_cookie, flow_place}
use Rattle.slot.specs.declared.State.{State}
use Rattle.slot.specs.declared.State.TheVariants.{HandleOut}
use Rattle.slot.specs.declared.Reassembler.{Reassembler}
use Rattle.reassemble.specs.declared.Intake.{Intake}
use Rattle.reassemble.specs.Enter.{enter, append, appended, begun, opened, gate_empty, gate_reply}
use Rattle.reassemble.proofs.Entries.{OfTaken}
use Rattle.state.specs.declared.Sizes.{Sizes}
use Rattle.state.specs.Slot.{SlotOk, issue_no}
use Rattle.state.specs.Stack.{Stack, Kept, Becomes, stack_of, ticked}
use Rattle.state.proofs.StackLaws.{flow_ok, head_ok}
use Rattle.mctp.specs.declared.AppCookie.{AppCookie}
use Rattle.mctp.specs.declared.Error.{Error}

-- bytes that fit slot i's body lie within the pool
pub in_pool : (B i n at len : ℕ) → i < n → at + len ≤ B → B * i + at + len ≤ B * n
in_pool B i n at len h f =
    let p = place_is B 0 i in
    let q = place_is B 0 n in
    let u = place_in B 0 i n h in
    omega arith

-- and the pool itself, which is at least that long
pub in_lent_pool : (B i n at len pool : ℕ) → B * n ≤ pool → i < n → at + len ≤ B → B * i + at + len ≤ pool
in_lent_pool B i n at len pool long h f = let r = in_pool B i n at len h f in omega arith

module _ (at from : ℕ) (packet pool : List ℕ) (fits : at + (length packet - from) ≤ length pool) where
  abbrev lent : List ℕ
  lent = take (length packet - from) (drop from packet)

  rest : lent ≡ drop from packet
  rest = take_all (length packet - from) (drop from packet) (rw length-drop (omega arith))

  -- `&packet[from..]` is no longer than `&mut pool[at..]`
  lent_fits : length lent ≤ length (take (length pool - at) (drop at pool))
  lent_fits = rw (rest, take_all (length pool - at) (drop at pool) (rw length-drop (omega arith)), length-drop, length-drop) (omega arith)

  -- and what the pool holds once it is copied and comes back as e
  pub copied : (e : List ℕ) → e ≡ lay 0 lent (take (length pool - at) (drop at pool))
      → take at pool ++ (e ++ drop (length pool - at) (drop at pool)) ≡ over at (drop from packet) pool
  copied e h = let l = length-drop from packet in lent_front at (drop from packet) pool (omega arith) (rw rest at (h ∙ lay_front lent (take (length pool - at) (drop at pool)) lent_fits))

-- the ranges of a stamp
pub record StampOk (t : EventStamp) : Type 0 where
  pub counter : t.counter < 2 ^ 32
  pub clock : t.clock < 2 ^ 64

-- the stamp of an event that was counted
pub ticked_ok : (z : Sizes) (b x : List ℕ) (t : EventStamp) → t ≡ next (stack_of z b).head.now → Becomes z b x (ticked (stack_of z b)) → StampOk t
ticked_ok z b x t e m =
    let h = head_ok z x m.kept in
    subst StampOk (ap (λ (s : Stack). s.head.now) m.view ∙ sym e) (record { counter = h.counter; clock = h.clock })

module _ (B : ℕ) (now : EventStamp) (issue : ℕ) (h : Header) (p : List ℕ) (small : B ≤ 65535) (stamp : StampOk now) (fits : issue < 2 ^ 64) where
  -- a slot with n more bytes, in another state and with another stamp
  grown_ok : (n : ℕ) (t : Reassembler) (state : State) (at : EventStamp) → SlotOk B t → t.len + n ≤ B → issue_no state < 2 ^ 64 → StampOk at
      → SlotOk B (record { state = state; key = t.key; typ = t.typ; ic = t.ic; next_seq = (t.next_seq % 4 + 1) % 4; len = t.len + n; cookie = t.cookie; stamp = at })
  grown_ok n t state at ok l issued stamped = record {
    dest = ok.dest;
    source = ok.source;
    tag = ok.tag;
    typ = ok.typ;
    seq = omega arith;
    len = l;
    wide = omega arith;
    counter = stamped.counter;
    clock = stamped.clock;
    value = ok.value;
    issue = issued;
  }

  appended_ok : (eom : Bool) (n : ℕ) (t : Reassembler) → SlotOk B t → t.len + n ≤ B → SlotOk B (appended eom now issue n t)
  appended_ok eom n t ok l =
      pick_cases (SlotOk B)
      (λ _. grown_ok n t (HandleOut issue) now ok l fits stamp)
      (λ _. grown_ok n t t.state t.stamp ok l ok.issue (record { counter = ok.counter; clock = ok.clock }))

  -- what is taken has the ranges of a slot
  EntryOk : Result Intake Error → Type 0
  EntryOk = OfTaken (λ (t : Intake). SlotOk B t.slot)

  append_ok : (t : Reassembler) (start : ℕ) → SlotOk B t → EntryOk (append B now issue t h p start)
  unfolding append EntryOk
  append_ok t start ok =
      pick_cases EntryOk
      (λ _. pick_cases EntryOk (λ _. tt) (λ e. appended_ok h.eom (length p - start) t ok (ltb-false B (t.len + (length p - start)) e)))
      (λ _. tt)

  begun_ok : (kind : ℕ) (s : Reassembler) → h.seq < 4 → SlotOk B s → SlotOk B (begun now h kind s)
  begun_ok kind s q ok = record {
    dest = ok.dest;
    source = ok.source;
    tag = ok.tag;
    typ = omega arith;
    seq = q;
    len = omega arith;
    wide = omega arith;
    counter = stamp.counter;
    clock = stamp.clock;
    value = ok.value;
    issue = ok.issue;
  }

  -- the next slot has the ranges of a slot
  pub entered_ok : (s : Reassembler) → h.seq < 4 → SlotOk B s → (t : Intake) → enter B now issue s h p ≡ Ok t → SlotOk B t.slot
  unfolding enter EntryOk
  entered_ok s q ok t e =
      subst EntryOk e
      (pick_cases EntryOk
      (λ _. pick_cases EntryOk (λ _. tt) (λ _. append_ok (begun now h (get_or p 4 0) s) 5 (begun_ok (get_or p 4 0) s q ok)))
      (λ _. append_ok s 4 ok))

-- a slot that passes has its ranges
abbrev GateOk : ℕ → Result Reassembler Error → Type 0
GateOk B (Err err) = Unit
GateOk B (Ok s) = SlotOk B s

opened_ok : (B : ℕ) (h : Header) (cookie : Option AppCookie) → HeaderOk h → cookie_value cookie < 2 ^ 64 → SlotOk B (opened h cookie)
opened_ok B h cookie ok v = record {
  dest = ok.dest;
  source = ok.source;
  tag = ok.tag;
  typ = omega arith;
  seq = omega arith;
  len = omega arith;
  wide = omega arith;
  counter = omega arith;
  clock = omega arith;
  value = v;
  issue = omega arith;
}

gate_fits : (B : ℕ) (own : Eid) (h : Header) (stands : Bool) (cookie : Option AppCookie) → HeaderOk h → (stands ≡ true → cookie_value cookie < 2 ^ 64)
    → GateOk B (gate_empty own h stands cookie)
unfolding gate_empty gate_reply
gate_fits B own h stands cookie ok v =
    pick_cases (GateOk B)
    (λ _. pick_cases (GateOk B)
    (λ _. opened_ok B h None ok (omega arith))
    (λ _. pick_cases (GateOk B) (λ e. opened_ok B h cookie ok (v e)) (λ _. tt)))
    (λ _. tt)

-- the slot that an empty slot's gate passes, with the cookie of a flow that stands
pub gate_ok : (z : Sizes) (b : List ℕ) (own : Eid) (h : Header) (s : Reassembler) → Kept z b → HeaderOk h
    → gate_empty own h (standing h.key.source h.key.tag (stack_of z b).flows) (flow_cookie h.key.source h.key.tag (stack_of z b).flows) ≡ Ok s
    → SlotOk z.body s
gate_ok z b own h s k ok e =
    let fs = (stack_of z b).flows in
    let i = flow_place h.key.source h.key.tag fs in
    subst (GateOk z.body) e
    (gate_fits z.body own h (standing h.key.source h.key.tag fs) (flow_cookie h.key.source h.key.tag fs) ok
    (λ t. (flow_ok z b k i).value))

-- the ranges of a good header, and its packet's length
pub record Low (p : List ℕ) (h : Header) : Type 0 where
  pub tag : h.key.tag.0 < 8
  pub seq : h.seq < 4
  pub long : 4 ≤ length p

abbrev LowIn : List ℕ → Option Header → Type 0
LowIn p (Some h) = Low p h
LowIn p None = Unit

low_in : (p : List ℕ) → LowIn p (header_of p)
unfolding header_of
low_in p =
    pick_cases (LowIn p) (λ _. tt)
    (λ e. let l = ltb-false (length p) 4 e in pick_cases (LowIn p) (λ _. record { tag = omega arith; seq = omega arith; long = l }) (λ _. tt))

pub good_low : (p : List ℕ) (h : Header) → header_of p ≡ Some h → Low p h
good_low p h e = subst (LowIn p) e (low_in p)
