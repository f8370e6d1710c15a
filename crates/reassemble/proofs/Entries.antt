-- What a packet makes of a slot: laws for callers, which open no definition.
-- Each goes through the ways in which a packet's entry can end.
use Prim.Native.Nat.{ℕ, ◌+◌, ◌-◌, ◌≤◌, ◌<◌}
use native.Mathlib.Omega.{arith}
use mathlib.Core.Path.{◌≡◌, refl, sym, subst, ◌∙◌}
use mathlib.Core.Bool.{Bool, true, false}
use mathlib.Core.List.{List}
use lib.Dec.{ltb}
use lib.ListN.{length}
use borrow.Author.Tests.{ltb-false, eq-eqb, ne_eqb}
use Rattle.std.specs.Prelude.{Err, Ok, Result}
use Rattle.octets.specs.Pick.{pick, pick_true, pick_false, pick_cases}
use Rattle.octets.proofs.Bools.{no_both}
use Rattle.mctp.specs.declared.Header.{Header}
use Rattle.mctp.specs.declared.Error.{Error}
use Rattle.mctp.specs.declared.Error.TheVariants.{InvalidInput, NoSpace}
use Rattle.stamp.specs.declared.EventStamp.{EventStamp}
use Rattle.slot.specs.declared.Reassembler.{Reassembler}
use Rattle.reassemble.specs.declared.Intake.{Intake}
use Rattle.reassemble.specs.Enter.{enter, append, appended, Planned}

-- what is known of a slot that takes a packet: its body fits, its next sequence is one, and it has the key that it had
pub record Entered (B : ℕ) (s t : Reassembler) : Type 0 where
  pub len : t.len ≤ B
  pub seq : t.next_seq < 4
  pub key : t.key ≡ s.key

-- P of what is taken, and nothing of a packet that frees the slot
abbrev pub OfTaken : (Intake → Type 0) → Result Intake Error → Type 0
OfTaken P (Err err) = Unit
OfTaken P (Ok t) = P t

-- what holds of what is taken at each end of a packet's way: with SOM and more than 4 bytes, and without it, in turn and with room
by_steps : (P : Intake → Type 0) (e : Result Intake Error) {som short seq full seq' full' : Bool} {begins goes_on : Intake} (brief wrong over : Error)
    → e ≡ pick som (pick short (Err brief) (pick seq (pick full (Err over) (Ok begins)) (Err wrong))) (pick seq' (pick full' (Err over) (Ok goes_on)) (Err wrong))
    → (som ≡ true → short ≡ false → seq ≡ true → full ≡ false → P begins)
    → (som ≡ false → seq' ≡ true → full' ≡ false → P goes_on)
    → (t : Intake) → e ≡ Ok t → P t
by_steps P e brief wrong over q begins goes_on t u =
    subst (OfTaken P) (sym q ∙ u)
    (pick_cases (OfTaken P)
    (λ m. pick_cases (OfTaken P) (λ _. tt) (λ f. pick_cases (OfTaken P) (λ n. pick_cases (OfTaken P) (λ _. tt) (begins m f n)) (λ _. tt)))
    (λ m. pick_cases (OfTaken P) (λ n. pick_cases (OfTaken P) (λ _. tt) (goes_on m n)) (λ _. tt)))

module _ (B : ℕ) (now : EventStamp) (issue : ℕ) (s : Reassembler) (h : Header) (p : List ℕ) where
  -- rules 47, 48 and 49, each by its test
  module _ (start : ℕ) where
    pub append_astray : (h.seq ≡ s.next_seq → ⊥) → append B now issue s h p start ≡ Err InvalidInput
    unfolding append
    append_astray n = pick_false _ _ _ (ne_eqb h.seq s.next_seq n)

    pub append_full : h.seq ≡ s.next_seq → ltb B (s.len + (length p - start)) ≡ true → append B now issue s h p start ≡ Err NoSpace
    unfolding append
    append_full q f = pick_true _ _ _ (eq-eqb h.seq s.next_seq q) ∙ pick_true _ _ _ f

    pub append_is : h.seq ≡ s.next_seq → ltb B (s.len + (length p - start)) ≡ false
        → append B now issue s h p start ≡ Ok (record { slot = appended h.eom now issue (length p - start) s; at = s.len; from = start; whole = h.eom })
    unfolding append
    append_is q f = pick_true _ _ _ (eq-eqb h.seq s.next_seq q) ∙ pick_false _ _ _ f

  -- the plan's bytes lie in the packet, and fit the body
  pub enter_plan : 4 ≤ length p → (t : Intake) → enter B now issue s h p ≡ Ok t → Planned t (length p) B
  unfolding enter append
  enter_plan k =
      by_steps (λ (t : Intake). Planned t (length p) B) (enter B now issue s h p) _ _ _ refl
      (λ _ f _ g. record { within = ltb-false _ _ f; fits = ltb-false _ _ g })
      (λ _ _ g. record { within = k; fits = ltb-false _ _ g })

  -- the same for an entry that `enter` gives
  pub told_plan : (e : Result Intake Error) → e ≡ enter B now issue s h p
      → (e ≡ enter B now issue s h p) × (4 ≤ length p → s.len ≤ B → (t : Intake) → e ≡ Ok t → Planned t (length p) B)
  told_plan e q = (q, λ k _ t u. enter_plan k t (sym q ∙ u))

  grown : (n : ℕ) (t : Reassembler) → t.key ≡ s.key → t.len + n ≤ B → Entered B s (appended h.eom now issue n t)
  grown n t k fits =
      pick_cases (Entered B s) (λ _. record { len = fits; seq = omega arith; key = k }) (λ _. record { len = fits; seq = omega arith; key = k })

  -- the next slot's body fits, its next sequence is one, and it has the slot's key
  pub enter_ok : (t : Intake) → enter B now issue s h p ≡ Ok t → Entered B s t.slot
  unfolding enter append
  enter_ok =
      by_steps (λ (t : Intake). Entered B s t.slot) (enter B now issue s h p) _ _ _ refl
      (λ _ _ _ g. grown _ _ refl (ltb-false _ _ g))
      (λ _ _ g. grown _ _ refl (ltb-false _ _ g))

  -- with SOM the packet's bytes go to the body's start, whatever the slot's length was
  pub enter_start : h.som ≡ true → (t : Intake) → enter B now issue s h p ≡ Ok t → t.at ≡ 0
  unfolding enter append
  enter_start e = by_steps (λ (t : Intake). t.at ≡ 0) (enter B now issue s h p) _ _ _ refl (λ _ _ _ _. refl) (λ f _ _. absurd (no_both e f))
