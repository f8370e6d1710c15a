-- A slot that collects under a key is in the collecting state and has that key. And where a test on slots passes in a list of them.
use Prim.Native.Nat.{ℕ, zero, suc, ◌+◌, ◌%◌, ◌≤◌, ◌<◌}
use native.Mathlib.Omega.{arith}
use native.Mathlib.Decide.{dec_lt}
use mathlib.Core.Path.{◌≡◌, refl, ap, ◌∙◌}
use mathlib.Core.Bool.{Bool, true, false}
use mathlib.Core.List.{List, [], ◌∷◌}
use lib.ListN.{length, get_or, set}
use Rattle.octets.specs.Pick.{pick_cases}
use Rattle.octets.specs.Find.{find}
use Rattle.octets.proofs.Finds as finds
use Rattle.octets.proofs.Finds.{find_first, find_at}
pub use Rattle.octets.proofs.Each.{get_d_mapped}
use Rattle.mctp.specs.declared.Key.{Key}
use Rattle.mctp.specs.Terms.{same_key}
use Rattle.stamp.specs.declared.EventStamp.{EventStamp}
use Rattle.slot.specs.declared.State.{State}
use Rattle.slot.specs.declared.State.TheVariants.{Empty, Collecting, Done, HandleOut}
use Rattle.slot.specs.declared.Reassembler.{Reassembler}
use Rattle.slot.specs.Slot.{collects_in, collects, collecting_state}
use Rattle.reassemble.specs.Enter.{appended}
pub use Rattle.slot.proofs.States.{collects_key}
use Rattle.promises.proofs.Facts.{no_both, no_true}

-- ---- one slot

state_of : (f : State) (b : Bool) → collects_in f b ≡ true → f ≡ Collecting
state_of Empty b e = absurd (no_true e)
state_of Collecting b e = refl
state_of Done b e = absurd (no_true e)
state_of (HandleOut n) b e = absurd (no_true e)

module _ (K : Key) (s : Reassembler) (c : collects K s ≡ true) where
  pub collects_state : s.state ≡ Collecting
  collects_state = state_of s.state (same_key s.key K) c

  -- and it is in no other state
  pub not_in : (f : State → Bool) → f Collecting ≡ false → f s.state ≡ false
  not_in f n = ap f collects_state ∙ n

-- a slot in another state collects nothing
pub idle-collects : (K : Key) (s : Reassembler) → collecting_state s.state ≡ false → collects K s ≡ true → ⊥
idle-collects K s n c = no_both (collecting_state s.state) (ap collecting_state (collects_state K s c)) n

-- what a packet's bytes make of a slot, whether they close it or not
pub record Parts (s s' : Reassembler) (n : ℕ) : Type 0 where
  pub key : s'.key ≡ s.key
  pub typ : s'.typ ≡ s.typ
  pub ic : s'.ic ≡ s.ic
  pub next : s'.next_seq ≡ (s.next_seq % 4 + 1) % 4
  pub len : s'.len ≡ s.len + n
  pub cookie : s'.cookie ≡ s.cookie

pub parts : (eom : Bool) (now : EventStamp) (issue n : ℕ) (s : Reassembler) → Parts s (appended eom now issue n s) n
parts eom now issue n s =
    pick_cases (λ (r : Reassembler). Parts s r n) (λ _. record { key = refl; typ = refl; ic = refl; next = refl; len = refl; cookie = refl })
    (λ _. record { key = refl; typ = refl; ic = refl; next = refl; len = refl; cookie = refl })

-- ---- a list: `d` stands past its end, and does not pass

module _ {A : Type 0} (f : A → Bool) (d : A) (n : f d ≡ false) where
  past : (l : List A) (k : ℕ) → length l ≤ k → get_or l k d ≡ d
  past [] k h = refl
  past (x ∷ l) zero h = absurd (omega arith)
  past (x ∷ l) (suc k) h = past l k (omega arith)

  -- a place that passes is in the list
  pub passes_in : (l : List A) (k : ℕ) → f (get_or l k d) ≡ true → k < length l
  passes_in l k y = finds.passes_in f l k d n y

  -- the first place that passes is found
  pub find_is : (l : List A) (k : ℕ) → f (get_or l k d) ≡ true → ((i : ℕ) → i < k → f (get_or l i d) ≡ false) → find f l ≡ k
  find_is l k y first = find_at f l k d (passes_in l k y) y first

  -- where nothing is found, none passes
  pub find_none : (l : List A) → length l ≤ find f l → (k : ℕ) → f (get_or l k d) ≡ false
  find_none l h k = go (dec_lt k (length l))
    where
      go : Dec (k < length l) → f (get_or l k d) ≡ false
      go (yes q) = find_first f l k d (omega arith)
      go (no q) = rw (past l k (omega arith)) n

pub get_d_set_default : {A : Type 0} (l : List A) (i : ℕ) (d : A) → get_or (set l i d) i d ≡ d
get_d_set_default [] i d = refl
get_d_set_default (x ∷ l) zero d = refl
get_d_set_default (x ∷ l) (suc i) d = get_d_set_default l i d
