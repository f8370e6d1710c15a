-- A refused receive: its number, what it leaves of the stack, and that it writes nothing. All this is found by going through the definition, test by test.
use Prim.Native.Nat.{ℕ, ◌*◌, ◌≤◌, ◌<◌, ◌-◌}
use mathlib.Core.Path.{◌≡◌, refl, sym, ap, ◌∙◌}
use mathlib.Core.Bool.{Bool, true, false}
use mathlib.Core.List.{List, [], ◌∷◌}
use lib.Dec.{eqb}
use lib.ListN.{length, get_or, set}
use lib.Seq.{get_or-set_other}
use borrow.Author.Tests.{ltb-true, ltb-false, eq-eqb}
use Rattle.std.specs.Prelude.{Err, None, Ok, Option, Result, Some}
use Rattle.octets.specs.Pick.{pick, pick_true, pick_false, pick_cases}
use Rattle.octets.proofs.Finds.{find_hit}
use Rattle.mctp.specs.declared.Header.{Header}
use Rattle.mctp.specs.declared.Error.{Error}
use Rattle.mctp.specs.declared.Error.TheVariants.{InvalidInput, NoSpace, Unreachable}
use Rattle.mctp.specs.Terms.{error_no}
use Rattle.mctp.specs.Header.{header_of}
use Rattle.mctp.specs.Answer.{refuses}
use Rattle.stamp.specs.Stamp.{next}
use Rattle.flows.specs.Table.{standing, flow_cookie}
use Rattle.slot.specs.declared.Reassembler.{Reassembler}
use Rattle.slot.specs.Slot.{blank_slot, is_empty}
use Rattle.slot.specs.Search.{slot_for}
use Rattle.reassemble.specs.Enter.{opened, gate, gate_empty, gate_reply, enter, append, appended, begun}
use Rattle.state.specs.Stack.{Stack, slot_at, with_slot, ticked}
use Rattle.slot.specs.Handle.{next_issue}
use Rattle.receiving.specs.Conclude.{received_as}
use Rattle.receiving.specs.Receive.{Receipt, settled, land, receive_at, receive_by, receive_of}
use Rattle.promises.specs.Refusals.{is_one, Among, asked, overlong, dropped, place_of, first_nonzero, slot_no, receive_no, Left, pool_short, no_slot, shut_out, not-begun, broken_off, Spared}
use Rattle.promises.proofs.Facts.{no_both}
use Rattle.promises.proofs.Gate.{admits_som}
use Rattle.promises.proofs.Refused.{Says, refusal, sole, first_none, first_some}
use Rattle.mctp.specs.declared.AppCookie.{AppCookie}
use Rattle.reassemble.specs.declared.Intake.{Intake}

-- what there is to say of a receipt that refuses
pub record Unreceived (B : ℕ) (st : Stack) (room : ℕ) (p : List ℕ) (h : Option Header) (i : ℕ) (r : Receipt) (n : ℕ) (vs : List ℕ) : Type 0 where
  pub among : Among (1 ∷ 2 ∷ 5 ∷ 6 ∷ []) n vs
  pub left : Left B st room p h i n r.stack
  pub bytes : r.bytes ≡ []

-- the same of a receipt whose number is k
module _ (B : ℕ) (st : Stack) (room : ℕ) (p : List ℕ) (read : Option Header) (i k : ℕ) where
  Fate : Receipt → Type 0
  Fate r = Says k (Unreceived B st room p read i r) (received_as r.said)

-- ---- a packet that has a slot

module _ (B : ℕ) (st : Stack) (room : ℕ) (p : List ℕ) (h : Header) (i k : ℕ) (st₁ : Stack) (is : k ≡ dropped B (Some h) p (slot_at i st))
    (drops : (n : ℕ) → dropped B (Some h) p (slot_at i st) ≡ n → is_one n (1 ∷ 2 ∷ []) ≡ true → Left B st room p (Some h) i n (with_slot i blank_slot (ticked st₁))) where
  Ends : Result Intake Error → Type 0
  Ends e = Fate B st room p (Some h) i k (settled B i (ticked st₁) h.key p e)

  taken : (eom : Bool) (s : Reassembler) (at from : ℕ) → dropped B (Some h) p (slot_at i st) ≡ 0
      → Ends (Ok (record { slot = s; at = at; from = from; whole = eom }))
  unfolding Ends Fate
  taken true s at from d = is ∙ d
  taken false s at from d = is ∙ d

  frees : (err : Error) → dropped B (Some h) p (slot_at i st) ≡ error_no err → is_one (error_no err) (1 ∷ 2 ∷ []) ≡ true
      → is_one (error_no err) (1 ∷ 2 ∷ 5 ∷ 6 ∷ []) ≡ true → Ends (Err err)
  unfolding Ends Fate
  frees err d o m = (is ∙ d, record { among = sole m; left = drops (error_no err) d o; bytes = refl })

  joins : (s : Reassembler) (start : ℕ)
      → dropped B (Some h) p (slot_at i st) ≡ pick (eqb h.seq s.next_seq) (overlong B s.len (length p - start)) 1
      → Ends (append B (next st₁.head.now) (next_issue st₁.head.issue) s h p start)
  unfolding append
  joins s start d =
      pick_cases Ends
      (λ q. pick_cases Ends (λ f. frees NoSpace (d ∙ pick_true _ _ _ q ∙ pick_true _ _ _ f) refl refl)
      (λ f. taken h.eom (appended h.eom (next st₁.head.now) (next_issue st₁.head.issue) (length p - start) s) s.len start
      (d ∙ pick_true _ _ _ q ∙ pick_false _ _ _ f)))
      (λ q. frees InvalidInput (d ∙ pick_false _ _ _ q) refl refl)

  enters : (s : Reassembler) → (h.som ≡ false → s ≡ slot_at i st) → Ends (enter B (next st₁.head.now) (next_issue st₁.head.issue) s h p)
  unfolding enter
  enters s same =
      pick_cases Ends
      (λ y. pick_cases Ends (λ q. frees InvalidInput (pick_true _ _ _ y ∙ pick_true _ _ _ q) refl refl)
      (λ q. joins (begun (next st₁.head.now) h (get_or p 4 0) s) 5
      (pick_true _ _ _ y ∙ pick_false _ _ _ q ∙ sym (pick_true _ _ _ (eq-eqb h.seq h.seq refl)))))
      (λ n. joins s 4
      (pick_false _ _ _ n
      ∙ ap (λ (x : Reassembler). pick (eqb h.seq x.next_seq) (overlong B x.len (length p - 4)) 1) (sym (same n))))

-- ---- a slot is there

abbrev stands : Header → Stack → Bool
stands h st = standing h.key.source h.key.tag st.flows

abbrev flow_of : Header → Stack → Option AppCookie
flow_of h st = flow_cookie h.key.source h.key.tag st.flows

module _ (B : ℕ) (st : Stack) (room : ℕ) (p : List ℕ) (i : ℕ) (fits : B * length st.slots ≤ room) (found : i < length st.slots) where
  -- an empty slot, and what its gate says
  module _ (h : Header) (k : ℕ) (e : is_empty (slot_at i st) ≡ true) (is : k ≡ first_nonzero (asked (Some h) st) (dropped B (Some h) p (slot_at i st))) where
    Gated : Result Reassembler Error → Type 0
    Gated g = Fate B st room p (Some h) i k (land B i (ticked st) h p g)

    passes : (s : Reassembler) → h.som ≡ true → asked (Some h) st ≡ 0 → Gated (Ok s)
    unfolding Gated land Ends
    passes s y a =
        enters B st room p h i k (ticked st) (is ∙ first_none (asked (Some h) st) (dropped B (Some h) p (slot_at i st)) a)
        (λ n d o. not-begun fits found e a d o refl) s (λ n. absurd (no_both h.som y n))

    shuts : (err : Error) → asked (Some h) st ≡ error_no err → eqb (error_no err) 0 ≡ false → is_one (error_no err) (1 ∷ 5 ∷ []) ≡ true
        → is_one (error_no err) (1 ∷ 2 ∷ 5 ∷ 6 ∷ []) ≡ true → Gated (Err err)
    unfolding Gated land Fate
    shuts err a z o m = (
      is ∙ first_some (asked (Some h) st) (dropped B (Some h) p (slot_at i st)) (error_no err) a z,
      record { among = sole m; left = shut_out fits found e a o refl; bytes = refl },
    )

    empty : Gated (gate_empty st.head.own_eid h (stands h st) (flow_of h st))
    unfolding gate_empty gate_reply
    empty =
        pick_cases Gated
        (λ a. let y = admits_som st.head.own_eid h a in
        pick_cases Gated (λ o. passes (opened h None) y (pick_true _ _ _ a ∙ pick_true _ _ _ o))
        (λ o. pick_cases Gated (λ s. passes (opened h (flow_of h st)) y (pick_true _ _ _ a ∙ pick_false _ _ _ o ∙ pick_true _ _ _ s))
        (λ s. shuts Unreachable (pick_true _ _ _ a ∙ pick_false _ _ _ o ∙ pick_false _ _ _ s) refl refl refl)))
        (λ a. shuts InvalidInput (pick_false _ _ _ a) refl refl refl)

  at_good : (h : Header) (k : ℕ) (b : Bool) → is_empty (slot_at i st) ≡ b
      → k ≡ pick b (first_nonzero (asked (Some h) st) (dropped B (Some h) p (slot_at i st))) (dropped B (Some h) p (slot_at i st))
      → Fate B st room p (Some h) i k (land B i (pick b (ticked st) st) h p (pick b (gate_empty st.head.own_eid h (stands h st) (flow_of h st)) (Ok (slot_at i st))))
  unfolding pick Gated land Ends
  at_good h k true e is = empty h k e is
  at_good h k false e is = enters B st room p h i k st is (λ n d o. broken_off fits found e d o refl) (slot_at i st) (λ _. refl)

  at_slot : (k : ℕ) (r : Option Header) → (r ≡ None → is_empty (slot_at i st) ≡ true) → k ≡ slot_no B st p r i → Fate B st room p r i k (receive_at B i st p r)
  unfolding receive_at gate Fate
  at_slot k None e is = (
    is ∙ pick_true _ _ _ (e refl) ∙ pick_false _ _ _ refl,
    record { among = sole refl; left = shut_out fits found (e refl) refl refl (pick_true _ _ _ (e refl)); bytes = refl },
  )
  at_slot k (Some h) e is = at_good h k (is_empty (slot_at i st)) refl is

-- ---- the whole

-- a bad header finds an empty slot
bad_empty : (r : Option Header) (st : Stack) → slot_for r st.slots < length st.slots → r ≡ None → is_empty (slot_at (slot_for r st.slots) st) ≡ true
unfolding slot_for
bad_empty None st q e = find_hit is_empty st.slots blank_slot q
bad_empty (Some h) st q e = cc

module _ (B : ℕ) (st : Stack) (room : ℕ) (p : List ℕ) where
  pub received_says : Says (receive_no B st room p) (Unreceived B st room p (header_of p) (place_of p st) (receive_of B st room p)) (received_as (receive_of B st room p).said)
  unfolding receive_of receive_by Fate
  received_says =
      let i = place_of p st in
      let P = Fate B st room p (header_of p) i (receive_no B st room p) in
      pick_cases P
      (λ s. (pick_true _ _ _ s, record { among = sole refl; left = pool_short (ltb-true room (B * length st.slots) s) refl refl; bytes = refl }))
      (λ f. let fits = ltb-false room (B * length st.slots) f in
      pick_cases P
      (λ q. let found = ltb-true i (length st.slots) q in
      at_slot B st room p i fits found (receive_no B st room p) (header_of p) (bad_empty (header_of p) st found) (pick_false _ _ _ f ∙ pick_true _ _ _ q))
      (λ q. (
        pick_false _ _ _ f ∙ pick_false _ _ _ q,
        record { among = sole refl; left = no_slot fits (ltb-false i (length st.slots) q) refl refl; bytes = refl },
      )))

  pub unreceived : (n : ℕ) (vs : List ℕ) → received_as (receive_of B st room p).said ≡ refuses n vs
      → Unreceived B st room p (header_of p) (place_of p st) (receive_of B st room p) n vs
  unreceived n vs e =
      refusal (receive_no B st room p) (Unreceived B st room p (header_of p) (place_of p st) (receive_of B st room p))
      (received_as (receive_of B st room p).said) n vs received_says e

-- what a refused receive leaves of the stack, whatever pool is lent
pub refused_receive : (B : ℕ) (st : Stack) (room : ℕ) (p : List ℕ) (n : ℕ) (vs : List ℕ) → received_as (receive_of B st room p).said ≡ refuses n vs
    → Left B st room p (header_of p) (place_of p st) n (receive_of B st room p).stack
refused_receive B st room p n vs e = (unreceived B st room p n vs e).left

-- ---- what every refusal of a receive spares

module _ (st : Stack) (i : ℕ) (st' : Stack) where
  -- the slots stay, or slot i alone is stored
  all_spared : st'.flows ≡ st.flows → st'.slots ≡ st.slots → Spared st i st'
  all_spared f s = record { flows = f; slots = λ k d. ap (λ (l : List Reassembler). get_or l k blank_slot) s }

  one_stored : st'.flows ≡ st.flows → st'.slots ≡ set st.slots i blank_slot → Spared st i st'
  one_stored f s = record {
    flows = f;
    slots = λ k d. ap (λ (l : List Reassembler). get_or l k blank_slot) s ∙ get_or-set_other st.slots i k blank_slot blank_slot d;
  }

  spares : (B room : ℕ) (p : List ℕ) (r : Option Header) (n : ℕ) → Left B st room p r i n st' → Spared st i st'
  spares B room p r n (pool_short _ _ e) = all_spared (ap (λ (x : Stack). x.flows) e) (ap (λ (x : Stack). x.slots) e)
  spares B room p r n (no_slot _ _ _ e) = all_spared (ap (λ (x : Stack). x.flows) e) (ap (λ (x : Stack). x.slots) e)
  spares B room p r n (shut_out _ _ _ _ _ e) = all_spared (ap (λ (x : Stack). x.flows) e) (ap (λ (x : Stack). x.slots) e)
  spares B room p r n (not-begun _ _ _ _ _ _ e) = one_stored (ap (λ (x : Stack). x.flows) e) (ap (λ (x : Stack). x.slots) e)
  spares B room p r n (broken_off _ _ _ _ _ e) = one_stored (ap (λ (x : Stack). x.flows) e) (ap (λ (x : Stack). x.slots) e)

-- the flows stay, and so does every slot but the one that the packet had
pub refused_same : (B : ℕ) (st : Stack) (room : ℕ) (p : List ℕ) (n : ℕ) (vs : List ℕ) → received_as (receive_of B st room p).said ≡ refuses n vs
    → Spared st (place_of p st) (receive_of B st room p).stack
refused_same B st room p n vs e = spares st (place_of p st) (receive_of B st room p).stack B room p (header_of p) n (refused_receive B st room p n vs e)
