-- A block is lent, read as a record and written out again: that tells whether it holds a record. A region is regular where each of its blocks holds one.
use Prim.Native.Nat.{ℕ, zero, suc, ◌+◌, ◌*◌, ◌<◌, ◌≤◌}
use native.Mathlib.Nat.{le_antisymm}
use native.Mathlib.Numerals.{add-one}
use native.Mathlib.Omega.{arith}
use mathlib.Core.Path.{◌≡◌, sym, ap, subst, ◌∙◌}
use mathlib.Core.Bool.{Bool}
use mathlib.Core.List.{List}
use lib.ListN.{length}
use Rattle.octets.specs.Bytes.{part, lay}
use Rattle.octets.specs.Region.{Codec, place, Holds, Regular}
use Rattle.octets.proofs.Part.{lent, lay_fits, over-whole}
use Rattle.octets.proofs.Region.{Lawful, place_is, regular_get}
use Rattle.state.proofs.StackLaws.{lent_as}
use Rattle.kept.specs.Tells.{Tells}
use Rattle.kept.proofs.TellLaws.{tells_as}

module _ {A : Type 0} (C : Codec A) where
  module _ (at : ℕ) (b : List ℕ) {x : A} (read : x ≡ C.dec (lent_as at C.width b)) where
    read_part : x ≡ C.dec (part at C.width b)
    read_part = read ∙ ap C.dec (lent at C.width b)

    -- a record that is out of range is not held
    pub unheld : (C.Ok x → ⊥) → Holds C at b → ⊥
    unheld n h = n (rw read_part h.ok)

    -- a record in range is written over z, and comparing that with the block tells whether the block holds it
    pub reheld : Lawful C → C.Ok x → (s z : List ℕ) {r : Bool} → length z ≡ C.width → s ≡ lay 0 (C.enc x) z → Tells (s ≡ lent_as at C.width b) r → Tells (Holds C at b) r
    reheld L ok s z n e t =
        let w = L.long x in
        let q : s ≡ C.enc x = e ∙ lay_fits 0 (C.enc x) z (omega arith) ∙ over-whole C.width (C.enc x) z w n in
        let p = lent at C.width b in
        tells_as t
        (λ y. record { same = sym (sym q ∙ y ∙ p) ∙ ap C.enc read_part; ok = rw (← read_part) ok })
        (λ h. q ∙ ap C.enc read_part ∙ sym h.same ∙ sym p)

  module _ (b : List ℕ) where
    regular_more : (n at : ℕ) → Regular C n at b → Holds C (place C.width at n) b → Regular C (suc n) at b
    unfolding Regular place
    regular_more zero at r h = (h, tt)
    regular_more (suc n) at r h = (r.0, regular_more n (at + C.width) r.1 h)

    pub blocks_none : (at : ℕ) → Regular C 0 at b
    unfolding Regular
    blocks_none at = tt

    -- one more block
    pub blocks_more : (at i : ℕ) → Regular C i at b → Holds C (at + C.width * i) b → Regular C (i + 1) at b
    blocks_more at i r h = rw add-one (regular_more i at r (rw (place_is C.width at i) h))

    -- one block that holds none
    pub blocks_not : (n at i : ℕ) → i < n → (Holds C (at + C.width * i) b → ⊥) → Regular C n at b → ⊥
    blocks_not n at i l f r = f (rw (← place_is C.width at i) (regular_get C n at i b l r))

    pub blocks_all : (n at i : ℕ) → i ≤ n → n ≤ i → Regular C i at b → Regular C n at b
    blocks_all n at i h l r = subst (λ (m : ℕ). Regular C m at b) (le_antisymm h l) r
