-- A middle packet: one event is counted, only the sequence and the length of its slot change, and its bytes go where the body ends.
use Prim.Native.Nat.{ℕ, ◌+◌, ◌-◌, ◌%◌, ◌≤◌}
use native.Mathlib.Omega.{arith}
use mathlib.Core.Path.{◌≡◌, sym, ap, subst, ◌∙◌}
use mathlib.Core.Bool.{Bool, true, false}
use mathlib.Core.List.{List}
use lib.ListN.{length}
use borrow.Author.Tests.{eqb-true, leb-true, le-ltb}
use Rattle.std.specs.Prelude.{Ok, Result}
use Rattle.octets.specs.Pick.{pick, pick_false, pick_cases}
use Rattle.octets.proofs.Bools.{false_true}
use Rattle.mctp.specs.declared.Header.{Header}
use Rattle.stamp.specs.declared.EventStamp.{EventStamp}
use Rattle.slot.specs.declared.Reassembler.{Reassembler}
use Rattle.reassemble.specs.Enter.{enter, appended}
use Rattle.reassemble.proofs.Entries.{append_is}
use Rattle.state.specs.declared.Progress.{Progress}
use Rattle.state.specs.Slot.{progress, progress_of}
use Rattle.state.specs.Stack.{Stack, ticked}
use Rattle.receiving.specs.Receive.{is_middle, settled, land}
use Rattle.mctp.specs.declared.Error.{Error}
use Rattle.reassemble.specs.declared.Intake.{Intake}

record Goes (h : Header) (g : Progress) (n B : ℕ) : Type 0 where
  pub som : h.som ≡ false
  pub eom : h.eom ≡ false
  pub seq : h.seq ≡ g.seq
  pub room : n ≤ B - g.len

goes : (h : Header) (g : Progress) (n B : ℕ) → is_middle h g n B ≡ true → Goes h g n B
unfolding is_middle
goes h g n B =
    pick_cases (λ (b : Bool). b ≡ true → Goes h g n B) (λ _ e. false_true e)
    (λ som. pick_cases (λ (b : Bool). b ≡ true → Goes h g n B) (λ _ e. false_true e)
    (λ eom. pick_cases (λ (b : Bool). b ≡ true → Goes h g n B)
    (λ same e. record { som = som; eom = eom; seq = eqb-true h.seq g.seq same; room = leb-true n (B - g.len) e })
    (λ _ e. false_true e)))

-- such a packet fits the body
pub goes_room : (h : Header) (g : Progress) (n B : ℕ) → g.len ≤ B → is_middle h g n B ≡ true → g.len + n ≤ B
goes_room h g n B l e = let r = (goes h g n B e).room in omega arith

-- what such a packet makes of a slot that held len bytes
abbrev pub grown : List ℕ → Reassembler → ℕ → ℕ → Result Intake Error
grown p s seq len = Ok (record { slot = progress ((seq % 4 + 1) % 4) (len + (length p - 4)) s; at = len; from = 4; whole = false })

module _ (B : ℕ) (h : Header) (p : List ℕ) (s : Reassembler) where
  abbrev taken : EventStamp → ℕ → Bool → Result Intake Error
  taken now issue eom = Ok (record { slot = appended eom now issue (length p - 4) s; at = s.len; from = 4; whole = eom })

  entry : (now : EventStamp) (issue : ℕ) → s.len ≤ B → is_middle h (progress_of s) (length p - 4) B ≡ true → enter B now issue s h p ≡ grown p s h.seq s.len
  unfolding enter pick
  entry now issue l e =
      let g = goes h (progress_of s) (length p - 4) B e in
      let r = goes_room h (progress_of s) (length p - 4) B l e in
      pick_false h.som _ _ g.som ∙ append_is B now issue s h p 4 g.seq (le-ltb B (s.len + (length p - 4)) r)
      ∙ ap (taken now issue) g.eom
      ∙ ap (λ (q : ℕ). grown p s q s.len) (sym g.seq)

  module _ (i : ℕ) (st : Stack) where
    landed : s.len ≤ B → is_middle h (progress_of s) (length p - 4) B ≡ true → land B i st h p (Ok s) ≡ settled B i (ticked st) h.key p (grown p s h.seq s.len)
    unfolding land
    landed l e = ap (settled B i (ticked st) h.key p) (entry _ _ l e)

    -- the event is counted, then the slot gets that sequence and length, and the packet's bytes go behind the body
    pub middle : (g : Progress) → g ≡ progress_of s → g.len ≤ B → is_middle h g (length p - 4) B ≡ true
        → land B i st h p (Ok s) ≡ settled B i (ticked st) h.key p (grown p s h.seq g.len)
    middle g q =
        subst
        (λ (x : Progress). x.len ≤ B → is_middle h x (length p - 4) B ≡ true → land B i st h p (Ok s) ≡ settled B i (ticked st) h.key p (grown p s h.seq x.len))
        (sym q) landed
