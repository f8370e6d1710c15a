-- What the searches over slots find: laws for callers, which open no definition.
-- Leans on `octets` for the first place, on `stamp` for the order of stamps.
use Prim.Native.Nat.{ℕ, zero, suc, ◌+◌, ◌-◌, ◌≤◌, ◌<◌, suc-le-suc}
use native.Mathlib.Nat.{not-suc-le-zero, le_of_suc-le-suc, zero-lt-suc}
use native.Mathlib.Omega.{arith}
use mathlib.Core.Path.{◌≡◌, refl, sym, ap, ◌∙◌}
use mathlib.Core.Logic.{◌⊎◌, inl, inr}
use mathlib.Core.Bool.{Bool, true, false}
use mathlib.Core.List.{List, [], ◌∷◌}
use lib.Dec.{ltb}
use lib.ListN.{length, get_or, drop, length-drop}
use lib.Seq.{drop-cons, get_or-drop, drop-length}
use borrow.Author.Tests.{ltb-true, ltb-false, lt-ltb}
use Rattle.std.specs.Prelude.{None, Option, Some}
use Rattle.octets.specs.Pick.{pick, pick_cases}
use Rattle.octets.proofs.Finds.{find_hit}
use Rattle.mctp.specs.Terms.{same_key}
use Rattle.stamp.specs.declared.EventStamp.{EventStamp}
use Rattle.stamp.specs.Stamp.{earlier}
use Rattle.slot.specs.declared.State.{State}
use Rattle.slot.specs.declared.State.TheVariants.{Empty, Collecting, Done, HandleOut}
use Rattle.slot.specs.declared.Reassembler.{Reassembler}
use Rattle.slot.specs.Slot.{blank_slot, is_empty, is_done, handle_taken, collects, collects_in, empty_state, done_state, out_state}
use Rattle.slot.specs.Search.{slot_for, earliest}
use Rattle.octets.proofs.Bools.{no_both}
use Rattle.stamp.proofs.Order.{earlier_irreflexive, earlier_asymmetric, not-earlier_trans}
use Rattle.mctp.specs.declared.Header.{Header}

-- why a slot is found: it collects under the header's key or is empty; for a bad header it is empty
abbrev pub FoundFor : Option Header → Reassembler → Type 0
FoundFor (Some h) s = (collects h.key s ≡ true) ⊎ (is_empty s ≡ true)
FoundFor None s = is_empty s ≡ true

-- below the number of slots, the slot there collects the header's key or is empty
pub slot_for_hit : (r : Option Header) (slots : List Reassembler) → slot_for r slots < length slots → FoundFor r (get_or slots (slot_for r slots) blank_slot)
unfolding slot_for
slot_for_hit None slots = find_hit is_empty slots blank_slot
slot_for_hit (Some h) slots =
    pick_cases (λ (n : ℕ). n < length slots → FoundFor (Some h) (get_or slots n blank_slot))
    (λ _ k. inl (find_hit (collects h.key) slots blank_slot k))
    (λ _ k. inr (find_hit is_empty slots blank_slot k))

-- a test that fails for the states of a done slot passes for none of them
open_state : (test : State → Bool) → test Done ≡ false → ((n : ℕ) → test (HandleOut n) ≡ false) → (st : State) → test st ≡ true
    → (done_state st ≡ false) × (out_state st ≡ false)
open_state test d o Empty e = (refl, refl)
open_state test d o Collecting e = (refl, refl)
open_state test d o Done e = absurd (no_both e d)
open_state test d o (HandleOut n) e = absurd (no_both e (o n))

-- such a slot is not done, and has no handle out
pub found_open : (r : Option Header) (s : Reassembler) → FoundFor r s → (is_done s ≡ false) × (handle_taken s ≡ false)
found_open None s e = open_state empty_state refl (λ _. refl) s.state e
found_open (Some h) s (inl e) = open_state (λ st. collects_in st (same_key s.key h.key)) refl (λ _. refl) s.state e
found_open (Some h) s (inr e) = open_state empty_state refl (λ _. refl) s.state e

-- a slot that is done or has its handle out is never found
pub slot_for_open : (r : Option Header) (slots : List Reassembler) → slot_for r slots < length slots
    → (is_done (get_or slots (slot_for r slots) blank_slot) ≡ false) × (handle_taken (get_or slots (slot_for r slots) blank_slot) ≡ false)
slot_for_open r slots h = found_open r (get_or slots (slot_for r slots) blank_slot) (slot_for_hit r slots h)

same_test : (x y : Bool) → (x ≡ true → y ≡ true) → (y ≡ true → x ≡ true) → x ≡ y
same_test true y f g = sym (f refl)
same_test false true f g = g refl
same_test false false f g = refl

pub same_ltb : (a b c d : ℕ) → (a < b → c < d) → (c < d → a < b) → ltb a b ≡ ltb c d
same_ltb a b c d f g =
    same_test (ltb a b) (ltb c d) (λ e. lt-ltb c d (f (ltb-true a b e))) (λ e. lt-ltb a b (g (ltb-true c d e)))

-- a choice among the places of a tail is one among places of the list
shifted : (i e j : ℕ) → j ≡ suc i + e → (a b c d : Bool)
    → i + pick a (pick b (pick c (pick d (suc e) 0) 0) (suc e)) (suc e) ≡ pick a (pick b (pick c (pick d j i) i) j) j
unfolding pick
shifted i e j q false b c d = omega arith
shifted i e j q true false c d = omega arith
shifted i e j q true true false d = omega arith
shifted i e j q true true true false = omega arith
shifted i e j q true true true true = omega arith

-- the stamp of the slot at n
abbrev pub stamp_at : List Reassembler → ℕ → EventStamp
stamp_at l n = (get_or l n blank_slot).stamp

module _ (f : Reassembler → Bool) where
  -- the slot is done with no handle out, and passes the test
  abbrev pub Passes : Reassembler → Type 0
  Passes s = (is_done s ≡ true) × (f s ≡ true)

  no_blank : Passes blank_slot → ⊥
  no_blank q = no_both q.0 refl

  -- the first slot is taken where it passes and none behind it is earlier; otherwise what was found behind it stays
  earliest_cases : (P : ℕ → Type 0) (s : Reassembler) (l : List Reassembler)
      → (Passes s → (earliest f l < length l → earlier (stamp_at l (earliest f l)) s.stamp ≡ false) → P 0)
      → ((Passes s → (earliest f l < length l) × (earlier (stamp_at l (earliest f l)) s.stamp ≡ true)) → P (suc (earliest f l)))
      → P (earliest f (s ∷ l))
  unfolding earliest
  earliest_cases P s l takes stays =
      pick_cases P
      (λ d. pick_cases P
      (λ t. pick_cases P
      (λ m. pick_cases P (λ e. stays (λ _. (ltb-true (earliest f l) (length l) m, e))) (λ e. takes (d, t) (λ _. e)))
      (λ m. takes (d, t) (λ h. let k = ltb-false (earliest f l) (length l) m in absurd (omega arith))))
      (λ t. stays (λ q. absurd (no_both q.1 t))))
      (λ d. stays (λ q. absurd (no_both q.0 d)))

  -- a slot's index, or the number of slots
  pub earliest_bound : (l : List Reassembler) → earliest f l ≤ length l
  unfolding earliest
  earliest_bound [] = omega arith
  earliest_bound (s ∷ l) =
      let h = earliest_bound l in
      earliest_cases (λ (n : ℕ). n ≤ suc (length l)) s l (λ _ _. omega arith) (λ _. suc-le-suc h)

  -- below the number of slots, the slot there is done and passes
  pub earliest_hit : (l : List Reassembler) → earliest f l < length l → Passes (get_or l (earliest f l) blank_slot)
  earliest_hit [] = λ h. absurd (not-suc-le-zero h)
  earliest_hit (s ∷ l) =
      earliest_cases (λ (n : ℕ). n < suc (length l) → Passes (get_or (s ∷ l) n blank_slot)) s l (λ q _ _. q) (λ _ h. earliest_hit l (le_of_suc-le-suc h))

  -- where a slot is done and passes, one is found
  pub earliest_some : (l : List Reassembler) (k : ℕ) → Passes (get_or l k blank_slot) → earliest f l < length l
  earliest_some [] k q = absurd (no_blank q)
  earliest_some (s ∷ l) zero q = earliest_cases (λ (n : ℕ). n < suc (length l)) s l (λ _ _. zero-lt-suc (length l)) (λ g. suc-le-suc (g q).0)
  earliest_some (s ∷ l) (suc k) q =
      earliest_cases (λ (n : ℕ). n < suc (length l)) s l (λ _ _. zero-lt-suc (length l)) (λ _. suc-le-suc (earliest_some l k q))

  -- no slot that is done and passes has an earlier stamp
  pub earliest_least : (l : List Reassembler) (k : ℕ) → Passes (get_or l k blank_slot) → earlier (stamp_at l k) (stamp_at l (earliest f l)) ≡ false
  earliest_least [] k q = absurd (no_blank q)
  earliest_least (s ∷ l) zero q =
      earliest_cases (λ (n : ℕ). earlier s.stamp (stamp_at (s ∷ l) n) ≡ false) s l
      (λ _ _. earlier_irreflexive s.stamp)
      (λ g. earlier_asymmetric (stamp_at l (earliest f l)) s.stamp (g q).1)
  earliest_least (s ∷ l) (suc k) q =
      let m = earliest_least l k q in
      earliest_cases (λ (n : ℕ). earlier (stamp_at l k) (stamp_at (s ∷ l) n) ≡ false) s l
      (λ _ g. not-earlier_trans (stamp_at l k) (stamp_at l (earliest f l)) s.stamp m (g (earliest_some l k q)))
      (λ _. m)

  -- a slot at a lower index that is done and passes has a later stamp, so of equal stamps the lowest index is found
  pub earliest_first : (l : List Reassembler) (k : ℕ) → Passes (get_or l k blank_slot) → k < earliest f l → earlier (stamp_at l (earliest f l)) (stamp_at l k) ≡ true
  earliest_first [] k q = λ _. absurd (no_blank q)
  earliest_first (s ∷ l) zero q =
      earliest_cases (λ (n : ℕ). 0 < n → earlier (stamp_at (s ∷ l) n) s.stamp ≡ true) s l (λ _ _ h. absurd (not-suc-le-zero h)) (λ g _. (g q).1)
  earliest_first (s ∷ l) (suc k) q =
      earliest_cases (λ (n : ℕ). suc k < n → earlier (stamp_at (s ∷ l) n) (stamp_at l k) ≡ true) s l
      (λ _ _ h. absurd (not-suc-le-zero h))
      (λ _ h. earliest_first l k q (le_of_suc-le-suc h))

  -- a walk from the last slot to the first starts at the number of slots
  pub earliest_end : (slots : List Reassembler) → length slots + earliest f (drop (length slots) slots) ≡ length slots
  unfolding earliest
  earliest_end slots = rw (drop-length slots) (omega arith)

  -- and at slot i it has i + earliest f (drop i slots), which it gets from j, the same for the slots behind i
  pub earliest_down : (slots : List Reassembler) (i j : ℕ) → i < length slots → j ≡ suc i + earliest f (drop (suc i) slots)
      → i + earliest f (drop i slots)
      ≡ pick (is_done (get_or slots i blank_slot))
      (pick (f (get_or slots i blank_slot)) (pick (ltb j (length slots)) (pick (earlier (stamp_at slots j) (stamp_at slots i)) j i) i) j)
      j
  unfolding earliest
  earliest_down slots i j h q =
      let l = drop (suc i) slots in
      let e = earliest f l in
      let s = get_or slots i blank_slot in
      let n : length l ≡ length slots - suc i = length-drop (suc i) slots in
      let c : ltb e (length l) ≡ ltb j (length slots) = same_ltb e (length l) j (length slots) (λ k. omega arith) (λ k. omega arith) in
      let g : get_or l e blank_slot ≡ get_or slots j blank_slot = get_or-drop (suc i) slots e blank_slot ∙ ap (λ (m : ℕ). get_or slots m blank_slot) (sym q) in
      let d : earlier (stamp_at l e) s.stamp ≡ earlier (stamp_at slots j) s.stamp = ap (λ (r : Reassembler). earlier r.stamp s.stamp) g in
      rw (drop-cons slots i blank_slot h, ← c, ← d) (shifted i e j q (is_done s) (f s) (ltb e (length l)) (earlier (stamp_at l e) s.stamp))
