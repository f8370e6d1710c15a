-- The slot that the search finds, and what passes its gate: a slot that collects the key of the packet, under the cookie of rules 42 and 46.
use Prim.Native.Nat.{ℕ, ◌<◌}
use mathlib.Core.Path.{◌≡◌, refl, sym, ap, ◌∙◌}
use mathlib.Core.Logic.{◌⊎◌, inl, inr}
use mathlib.Core.Bool.{Bool, true, false}
use mathlib.Core.List.{List}
use lib.ListN.{length, get_or}
use borrow.Author.Tests.{ltb-false}
use Rattle.std.specs.Prelude.{Err, None, Ok, Option, Result, Some}
use Rattle.octets.specs.Pick.{pick, pick_true, pick_false, pick_cases}
use Rattle.octets.specs.Find.{find}
use Rattle.octets.proofs.Finds.{find_hit}
use Rattle.mctp.specs.declared.Eid.{Eid}
use Rattle.mctp.specs.declared.Header.{Header}
use Rattle.flows.specs.Table.{standing, flow_cookie}
use Rattle.slot.specs.declared.State.TheVariants.{Collecting}
use Rattle.slot.specs.declared.Reassembler.{Reassembler}
use Rattle.slot.specs.Slot.{blank_slot, is_empty, is_done, handle_taken, empty_state, collects}
use Rattle.slot.specs.Search.{slot_for}
use Rattle.slot.proofs.Searches.{found_open}
use Rattle.reassemble.specs.Enter.{opening as admits, opened, gate, gate_empty, gate_reply}
use Rattle.state.specs.Stack.{Stack, slot_at}
use Rattle.receiving.specs.Receive.{gate_of}
use Rattle.promises.specs.Delivery.{collecting, cookie_for}
use Rattle.promises.proofs.Facts.{no_both, no_true}
use Rattle.promises.proofs.Slots.{collects_state, collects_key, not_in, find_none}
use Rattle.mctp.specs.declared.AppCookie.{AppCookie}
use Rattle.mctp.specs.declared.Error.{Error}

-- where a packet of header h lands: in the slot that collects its key, or in an empty one where none does and the packet has SOM
pub data Source (l : List Reassembler) (i : ℕ) (h : Header) : Type 0 where
  collected : collects h.key (get_or l i blank_slot) ≡ true → Source l i h
  opens : is_empty (get_or l i blank_slot) ≡ true → h.som ≡ true → ((k : ℕ) → collects h.key (get_or l k blank_slot) ≡ false) → Source l i h

-- there no handle is out and nothing is done
pub lands_open : (l : List Reassembler) (i : ℕ) (h : Header) → Source l i h → (is_done (get_or l i blank_slot) ≡ false) × (handle_taken (get_or l i blank_slot) ≡ false)
lands_open l i h (collected c) = found_open (Some h) (get_or l i blank_slot) (inl c)
lands_open l i h (opens e y n) = found_open (Some h) (get_or l i blank_slot) (inr e)

-- ---- the slot that is found

-- what the search tells of the place i
unfoldable pub Found : Option Header → Stack → ℕ → Type 0
Found None st i = Unit {0}
Found (Some h) st i =
    ((collects h.key (slot_at i st) ≡ true) × (collecting h.key st ≡ true) × (i ≡ find (collects h.key) st.slots))
    ⊎ ((is_empty (slot_at i st) ≡ true) × (collecting h.key st ≡ false) × ((k : ℕ) → collects h.key (slot_at k st) ≡ false))

pub search_finds : (r : Option Header) (st : Stack) → slot_for r st.slots < length st.slots → Found r st (slot_for r st.slots)
unfolding slot_for Found
search_finds None st = λ q. tt
search_finds (Some h) st =
    pick_cases (λ (n : ℕ). n < length st.slots → Found (Some h) st n)
    (λ (e : collecting h.key st ≡ true) q. inl (find_hit (collects h.key) st.slots blank_slot q, e, refl))
    (λ (e : collecting h.key st ≡ false) q. inr (
      find_hit is_empty st.slots blank_slot q,
      e,
      find_none (collects h.key) blank_slot refl st.slots (ltb-false (find (collects h.key) st.slots) (length st.slots) e),
    ))

-- ---- the gate

-- what has passed the gate
pub record Enters (st : Stack) (i : ℕ) (h : Header) (s : Reassembler) : Type 0 where
  pub source : Source st.slots i h
  pub state : s.state ≡ Collecting
  pub key : s.key ≡ h.key
  pub same : h.som ≡ false → s ≡ slot_at i st
  pub cookie : s.cookie ≡ cookie_for h.key st

unfoldable pub Right : Stack → ℕ → Header → Result Reassembler Error → Type 0
Right st i h (Err err) = Unit {0}
Right st i h (Ok s) = Enters st i h s

-- an empty slot takes no packet without SOM
pub admits_som : (own : Eid) (h : Header) → admits own h ≡ true → h.som ≡ true
unfolding admits
admits_som own h = pick_cases P (λ _. pick_cases P (λ _ e. absurd (no_true e)) (λ _ e. e)) (λ _ e. absurd (no_true e))
  where
    P : Bool → Type 0
    P b = b ≡ true → h.som ≡ true

pub gate_right : (st : Stack) (i : ℕ) (h : Header) → Found (Some h) st i → Right st i h (gate_of i st h)
unfolding gate gate_empty gate_reply Right Found
gate_right st i h (inl c) =
    pick_cases (Right st i h) (λ v. absurd (no_both (is_empty s) v (not_in h.key s c.0 empty_state refl)))
    (λ _. record {
      source = collected c.0;
      state = collects_state h.key s c.0;
      key = collects_key h.key s c.0;
      same = λ _. refl;
      cookie = ap (λ (k : ℕ). (slot_at k st).cookie) c.2 ∙ sym (pick_true (collecting h.key st) _ _ c.1);
    })
  where
    s : Reassembler
    s = slot_at i st
gate_right st i h (inr c) = pick_cases (Right st i h) (λ _. empty) (λ n. absurd (no_both (is_empty (slot_at i st)) c.0 n))
  where
    flow : Option AppCookie
    flow = flow_cookie h.key.source h.key.tag st.flows

    for : (x : Option AppCookie) → pick h.key.owner None flow ≡ x → x ≡ cookie_for h.key st
    for x e = sym (pick_false (collecting h.key st) _ _ c.1 ∙ e)

    fresh : (x : Option AppCookie) → h.som ≡ true → x ≡ cookie_for h.key st → Enters st i h (opened h x)
    fresh x y k = record { source = opens c.0 y c.2; state = refl; key = refl; same = λ n. absurd (no_both h.som y n); cookie = k }

    empty : Right st i h (gate_empty st.head.own_eid h (standing h.key.source h.key.tag st.flows) flow)
    empty =
        pick_cases (Right st i h)
        (λ y. pick_cases (Right st i h) (λ o. fresh None (admits_som st.head.own_eid h y) (for None (pick_true h.key.owner None flow o)))
        (λ o. pick_cases (Right st i h) (λ _. fresh flow (admits_som st.head.own_eid h y) (for flow (pick_false h.key.owner None flow o))) (λ _. tt)))
        (λ _. tt)
