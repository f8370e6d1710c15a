-- The number that a slot's state and key make tells what the slot collects, since each part has its own digits.
use Prim.Native.Nat.{ℕ, ◌+◌, ◌*◌, ◌/◌, ◌%◌, ◌<◌}
use native.Mathlib.Omega.{arith}
use mathlib.Core.Path.{◌≡◌, refl, sym, ap, ◌∙◌}
use mathlib.Core.Bool.{Bool, true, false}
use lib.Dec.{eqb}
use borrow.Author.Tests.{eq-eqb, ne_eqb}
use Rattle.octets.proofs.Bools.{false_true}
use Rattle.mctp.specs.declared.Key.{Key}
use Rattle.mctp.specs.Terms.{same_key}
use Rattle.mctp.proofs.Keys.{same_key_is, same_key_refl}
use Rattle.slot.specs.declared.State.{State}
use Rattle.slot.specs.declared.State.TheVariants.{Empty, Collecting, Done, HandleOut}
use Rattle.slot.specs.declared.Reassembler.{Reassembler}
use Rattle.slot.specs.Slot.{state_no, is_empty, collects_in, collects}
use Rattle.slot.proofs.States.{empty_zero}
use Rattle.state.specs.Slot.{word_of, key_word, owner_tag, SlotOk}
use Rattle.state.proofs.SlotLaws.{owner_back, tag_back}

-- the ranges of a key on the wire
pub record KeyOk (k : Key) : Type 0 where
  pub dest : k.dest.0 < 256
  pub source : k.source.0 < 256
  pub tag : k.tag.0 < 8

-- the lowest digit of base 256, and the others
digits : (d e x y : ℕ) → d < 256 → e < 256 → d + 256 * x ≡ e + 256 * y → (d ≡ e) × (x ≡ y)
digits d e x y h l q =
    let m : (d + 256 * x) % 256 ≡ d = omega arith in
    let n : (e + 256 * y) % 256 ≡ e = omega arith in
    let s : d ≡ e = sym m ∙ ap (λ (w : ℕ). w % 256) q ∙ n in
    (s, omega arith)

module _ (a k : Key) (x : KeyOk a) (y : KeyOk k) where
  word_is : word_of 1 a ≡ word_of 1 k → a ≡ k
  word_is e =
      let v : a.dest.0 + 256 * (a.source.0 + 256 * owner_tag a) ≡ k.dest.0 + 256 * (k.source.0 + 256 * owner_tag k) = omega arith in
      let p = digits a.dest.0 k.dest.0 (a.source.0 + 256 * owner_tag a) (k.source.0 + 256 * owner_tag k) x.dest y.dest v in
      let q = digits a.source.0 k.source.0 (owner_tag a) (owner_tag k) x.source y.source p.1 in
      let d = p.0 in
      let s = q.0 in
      let w = q.1 in
      let o = sym (owner_back a.owner a.tag.0 x.tag) ∙ ap (λ (n : ℕ). eqb (n / 8) 1) w ∙ owner_back k.owner k.tag.0 y.tag in
      let t = sym (tag_back a.owner a.tag.0 x.tag) ∙ ap (λ (n : ℕ). n % 8) w ∙ tag_back k.owner k.tag.0 y.tag in
      λ i. record { source = record { 0 = s i }; dest = record { 0 = d i }; owner = o i; tag = record { 0 = t i } }

  same_word : (r : Bool) → same_key a k ≡ r → eqb (word_of 1 a) (word_of 1 k) ≡ r
  same_word true e = eq-eqb (word_of 1 a) (word_of 1 k) (ap (λ (q : Key). word_of 1 q) (same_key_is a k e))
  same_word false e = ne_eqb (word_of 1 a) (word_of 1 k) (λ w. false_true (sym e ∙ ap (λ (q : Key). same_key a q) (sym (word_is w)) ∙ same_key_refl a))

  word_in : (s : State) → eqb (word_of (state_no s) a) (word_of 1 k) ≡ collects_in s (same_key a k)
  word_in Empty = ne_eqb (word_of 0 a) (word_of 1 k) (λ e. omega arith)
  word_in Collecting = same_word (same_key a k) refl
  word_in Done = ne_eqb (word_of 2 a) (word_of 1 k) (λ e. omega arith)
  word_in (HandleOut n) = ne_eqb (word_of 3 a) (word_of 1 k) (λ e. omega arith)

pub word-collects : (B : ℕ) (s : Reassembler) (k : Key) → SlotOk B s → KeyOk k → eqb (key_word s) (word_of 1 k) ≡ collects k s
word-collects B s k ok y = word_in s.key k (record { dest = ok.dest; source = ok.source; tag = ok.tag }) y s.state

pub state_empty : (s : Reassembler) → eqb (state_no s.state) 0 ≡ is_empty s
state_empty s = empty_zero s.state
