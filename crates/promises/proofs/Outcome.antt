-- The three outcomes of a receive: nothing is done, a slot is emptied, or a packet is taken. They are found by going through the definition, test by test.
use Prim.Native.Nat.{ℕ, ◌+◌, ◌-◌, ◌*◌, ◌≤◌, ◌<◌}
use mathlib.Core.Path.{◌≡◌, refl, sym, ap, ◌∙◌}
use mathlib.Core.Bool.{Bool, true, false}
use mathlib.Core.List.{List, []}
use lib.ListN.{length, get_or, set, drop, length-drop}
use borrow.Author.Tests.{ltb-true, ltb-false, eqb-true}
use Rattle.std.specs.Prelude.{Err, None, Ok, Option, Result, Some}
use Rattle.octets.specs.Pick.{pick_cases}
use Rattle.mctp.specs.declared.Header.{Header}
use Rattle.mctp.specs.declared.Error.{Error}
use Rattle.mctp.specs.Header.{header_of, lead, type_of}
use Rattle.stamp.specs.declared.EventStamp.{EventStamp}
use Rattle.stamp.specs.Stamp.{next}
use Rattle.slot.specs.declared.State.TheVariants.{Collecting}
use Rattle.slot.specs.declared.Reassembler.{Reassembler}
use Rattle.slot.specs.Slot.{blank_slot, is_empty}
use Rattle.slot.specs.Search.{slot_for}
use Rattle.reassemble.specs.Enter.{enter, append, appended, begun}
use Rattle.fragment.specs.Cutting.{body_in, says_som}
use Rattle.state.specs.Stack.{Stack, slot_at, ticked}
use Rattle.slot.specs.Handle.{next_issue}
use Rattle.receiving.specs.Conclude.{said_of}
use Rattle.receiving.specs.Receive.{Receipt, settled, land, counted_opening, gate_of, receive_at, receive_by, receive_of}
use Rattle.promises.specs.Delivery.{cookie_for}
use Rattle.promises.specs.History.{takes}
use Rattle.promises.proofs.Facts.{no_both}
use Rattle.promises.proofs.Clock.{next_clock, opening_clock}
use Rattle.promises.proofs.Gate.{Source, Found, search_finds, Enters, Right, gate_right}
use Rattle.reassemble.specs.declared.Intake.{Intake}

-- the slot before the packet's body is appended, after SOM has been applied
pub record Base (st : Stack) (i : ℕ) (h : Header) (p : List ℕ) (s : Reassembler) : Type 0 where
  pub state : s.state ≡ Collecting
  pub key : s.key ≡ h.key
  pub afresh : h.som ≡ true → s.len ≡ 0
  pub goes_on : h.som ≡ false → s ≡ slot_at i st
  pub kind : h.som ≡ true → type_of (get_or p 4 0) ≡ record { typ = s.typ; ic = s.ic }
  pub cookie : s.cookie ≡ cookie_for h.key st
  pub stamp : h.som ≡ true → s.stamp.clock ≡ st.head.now.clock

-- the packet p was taken into slot i
pub record Took (B : ℕ) (st : Stack) (p : List ℕ) (r : Receipt) (i : ℕ) (h : Header) : Type 0 where
  pub read : header_of p ≡ Some h
  pub found : i < length st.slots
  pub source : Source st.slots i h
  pub base : Reassembler
  pub is_base : Base st i h p base
  pub number : h.seq ≡ base.next_seq
  pub fits : base.len + length (body_in p) ≤ B
  pub now : EventStamp
  pub clock : now.clock ≡ st.head.now.clock
  pub issue : ℕ
  pub slots : r.stack.slots ≡ set st.slots i (appended h.eom now issue (length (body_in p)) base)
  pub at : r.at ≡ B * i + base.len
  pub bytes : r.bytes ≡ body_in p
  pub said : r.said ≡ said_of h.eom i issue

pub data Outcome (B : ℕ) (st : Stack) (p : List ℕ) (r : Receipt) : Type 0 where
  quiet : r.stack.slots ≡ st.slots → r.bytes ≡ [] → takes r.said ≡ false → Outcome B st p r
  dropped : (i : ℕ) (h : Header) → header_of p ≡ Some h → Source st.slots i h
      → r.stack.slots ≡ set st.slots i blank_slot → r.bytes ≡ [] → takes r.said ≡ false → Outcome B st p r
  took : (i : ℕ) (h : Header) → Took B st p r i h → Outcome B st p r

-- ---- the whole

pub opening_slots : (b : Bool) (st : Stack) → (counted_opening b st).slots ≡ st.slots
opening_slots b st = pick_cases (λ (r : Stack). r.slots ≡ st.slots) (λ _. refl) (λ _. refl)

module _ (B : ℕ) (st : Stack) (p : List ℕ) (h : Header) (read : header_of p ≡ Some h) (i : ℕ) (q : i < length st.slots)
    (st₁ : Stack) (same : st₁.slots ≡ st.slots) (still : st₁.head.now.clock ≡ st.head.now.clock) (s : Reassembler) (r : Enters st i h s) where
  now₁ : EventStamp
  now₁ = next st₁.head.now

  now_clock : now₁.clock ≡ st.head.now.clock
  unfolding now₁
  now_clock = next_clock st₁.head.now ∙ still

  Whole : Result Intake Error → Type 0
  Whole e = Outcome B st p (settled B i (ticked st₁) h.key p e)

  drops : (err : Error) → Whole (Err err)
  unfolding Whole
  drops err = dropped i h read r.source (ap (λ (l : List Reassembler). set l i blank_slot) same) refl refl

  body_is : drop (lead h.som) p ≡ body_in p
  body_is = ap (λ (x : Option Header). drop (lead (says_som x)) p) (sym read)

  size_is : length p - lead h.som ≡ length (body_in p)
  size_is = sym (length-drop (lead h.som) p) ∙ ap length body_is

  issue₁ : ℕ
  issue₁ = next_issue st₁.head.issue

  -- a packet that has the number that is due, and that fits
  fills : (x : Reassembler) → Base st i h p x → h.seq ≡ x.next_seq → x.len + (length p - lead h.som) ≤ B
      → Whole (Ok (record { slot = appended h.eom now₁ issue₁ (length p - lead h.som) x; at = x.len; from = lead h.som; whole = h.eom }))
  unfolding Whole issue₁
  fills x isb n f = took i h (record {
    read = read;
    found = q;
    source = r.source;
    base = x;
    is_base = isb;
    number = n;
    fits = rw size_is at f;
    now = now₁;
    clock = now_clock;
    issue = issue₁;
    slots =
        ap (λ (l : List Reassembler). set l i (appended h.eom now₁ issue₁ (length p - lead h.som) x)) same
        ∙ ap (λ (k : ℕ). set st.slots i (appended h.eom now₁ issue₁ k x)) size_is;
    at = refl;
    bytes = body_is;
    said = refl;
  })

  joins : (x : Reassembler) → Base st i h p x → (start : ℕ) → start ≡ lead h.som → Whole (append B now₁ issue₁ x h p start)
  unfolding append
  joins x isb start e =
      rw e (pick_cases Whole
      (λ n. pick_cases Whole (λ _. drops _)
      (λ f. fills x isb (eqb-true h.seq x.next_seq n) (ltb-false B (x.len + (length p - lead h.som)) f)))
      (λ _. drops _))

  begun_base : h.som ≡ true → Base st i h p (begun now₁ h (get_or p 4 0) s)
  begun_base y = record {
    state = r.state;
    key = r.key;
    afresh = λ _. refl;
    goes_on = λ n. absurd (no_both h.som y n);
    kind = λ _. refl;
    cookie = r.cookie;
    stamp = λ _. now_clock;
  }

  going_base : h.som ≡ false → Base st i h p s
  going_base n = record {
    state = r.state;
    key = r.key;
    afresh = λ y. absurd (no_both h.som y n);
    goes_on = r.same;
    kind = λ y. absurd (no_both h.som y n);
    cookie = r.cookie;
    stamp = λ y. absurd (no_both h.som y n);
  }

  enter_outcome : Whole (enter B now₁ issue₁ s h p)
  unfolding enter
  enter_outcome =
      pick_cases Whole (λ y. pick_cases Whole (λ _. drops _) (λ _. joins (begun now₁ h (get_or p 4 0) s) (begun_base y) 5 (sym (ap lead y))))
      (λ n. joins s (going_base n) 4 (sym (ap lead n)))

module _ (B : ℕ) (st : Stack) (p : List ℕ) where
  land_outcome : (h : Header) → header_of p ≡ Some h → (i : ℕ) → i < length st.slots → (st₁ : Stack) → st₁.slots ≡ st.slots
      → st₁.head.now.clock ≡ st.head.now.clock → (g : Result Reassembler Error) → Right st i h g → Outcome B st p (land B i st₁ h p g)
  unfolding land Right Whole now₁ issue₁
  land_outcome h read i q st₁ same still (Err err) r = quiet same refl refl
  land_outcome h read i q st₁ same still (Ok s) r = enter_outcome B st p h read i q st₁ same still s r

  lands : (r : Option Header) → header_of p ≡ r → (i : ℕ) → i < length st.slots → Found r st i → Outcome B st p (receive_at B i st p r)
  unfolding receive_at
  lands None read i q f = quiet (opening_slots (is_empty (slot_at i st)) st) refl refl
  lands (Some h) read i q f =
      land_outcome h read i q (counted_opening (is_empty (slot_at i st)) st) (opening_slots (is_empty (slot_at i st)) st)
      (opening_clock (is_empty (slot_at i st)) st) (gate_of i st h) (gate_right st i h f)

  pub receive_outcome : (room : ℕ) → Outcome B st p (receive_of B st room p)
  unfolding receive_of receive_by
  receive_outcome room =
      pick_cases (Outcome B st p) (λ _. quiet refl refl refl)
      (λ _. pick_cases (Outcome B st p) (λ e. inside (ltb-true (slot_for (header_of p) st.slots) (length st.slots) e)) (λ _. quiet refl refl refl))
    where
      inside : slot_for (header_of p) st.slots < length st.slots → Outcome B st p (receive_at B (slot_for (header_of p) st.slots) st p (header_of p))
      inside q = lands (header_of p) refl (slot_for (header_of p) st.slots) q (search_finds (header_of p) st q)
