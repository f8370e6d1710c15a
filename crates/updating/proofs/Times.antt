-- The first number of an update that is not refused is the gap to the planned check, or the least of 100 and every remaining time; either way it is at most 100.
use Prim.Native.Nat.{ℕ, ◌-◌, ◌≤◌, ◌<◌}
use native.Mathlib.Omega.{arith}
use mathlib.Core.Path.{◌≡◌, refl, sym, ap, ◌∙◌}
use mathlib.Core.Logic.{◌⊎◌, inl, inr}
use mathlib.Core.Bool.{Bool, false}
use lib.Dec.{ltb}
use borrow.Author.Tests.{ltb-true, ltb-false}
use Rattle.std.specs.Prelude.{Err, Ok, Result}
use Rattle.config.specs.Config.{interval}
use Rattle.octets.specs.Pick.{pick_cases}
use Rattle.stamp.specs.declared.EventStamp.{EventStamp}
use Rattle.stamp.specs.Stamp.{clocked}
use Rattle.stamp.specs.declared.Timeout.TheVariants.{Left}
use Rattle.stamp.specs.Checks.{least_left}
use Rattle.stamp.proofs.Least.{LeastOf, least_left_lem}
use Rattle.flows.specs.Table.{no_flow, flow_timeout}
use Rattle.slot.specs.Slot.{blank_slot, slot_timeout}
use Rattle.state.specs.Head.{HeadOk}
use Rattle.state.specs.Stack.{Stack, slot_at, flow_at}
use Rattle.state.specs.Times.{slot_times}
use Rattle.updating.specs.Update.{Update, least_of, checked, update_of}
use Rattle.mctp.specs.declared.Error.{Error}
use Rattle.updating.specs.declared.Next.{Next}

-- a clock that is not earlier is taken
pub clock_taken : (t : ℕ) (s : EventStamp) → s.clock ≤ t → (clocked t s).clock ≡ t
unfolding clocked
clock_taken t s h =
    pick_cases (λ (u : EventStamp). u.clock ≡ t) (λ _. refl) (λ e. let l = ltb-false s.clock t e in omega arith)

-- n is the least of 100 and every remaining time at that clock: at most each of them, and one of them
pub record Remaining (n now : ℕ) (st : Stack) : Type 0 where
  pub most : n ≤ 100
  pub slots : (k m : ℕ) → slot_timeout now (slot_at k st) ≡ Left m → n ≤ m
  pub flows : (k m : ℕ) → flow_timeout now (flow_at k st) ≡ Left m → n ≤ m
  pub met : (n ≡ 100) ⊎ (((k : ℕ) × (slot_timeout now (slot_at k st) ≡ Left n)) ⊎ ((k : ℕ) × (flow_timeout now (flow_at k st) ≡ Left n)))

module _ (now : ℕ) (st : Stack) where
  least_slot : LeastOf (least_left (slot_times now st) interval) interval (slot_timeout now) blank_slot st.slots
  least_slot = least_left_lem (slot_timeout now) blank_slot refl st.slots interval

  least_flow : LeastOf (least_of now st) (least_left (slot_times now st) interval) (flow_timeout now) no_flow st.flows
  least_flow = least_left_lem (flow_timeout now) no_flow refl st.flows (least_left (slot_times now st) interval)

  pub remaining : Remaining (least_of now st) now st
  remaining = record {
    most = omega (arith, least_slot.bound, least_flow.bound);
    slots = λ k m e. omega (arith, least_slot.below k m e, least_flow.bound);
    flows = least_flow.below;
    met = go (least_of now st) (least_left (slot_times now st) interval) least_flow.met least_slot.met;
  }
    where
      go : (n r : ℕ) → (n ≡ r) ⊎ ((k : ℕ) × (flow_timeout now (flow_at k st) ≡ Left n)) → (r ≡ 100) ⊎ ((k : ℕ) × (slot_timeout now (slot_at k st) ≡ Left r))
          → (n ≡ 100) ⊎ (((k : ℕ) × (slot_timeout now (slot_at k st) ≡ Left n)) ⊎ ((k : ℕ) × (flow_timeout now (flow_at k st) ≡ Left n)))
      go n r (inr q) s = inr (inr q)
      go n r (inl e) (inl q) = inl (e ∙ q)
      go n r (inl e) (inr q) = inr (inl (q.0, q.1 ∙ ap Left (sym e)))

-- the check that is planned is at most 100 ms away
pub least_soon : (now : ℕ) (st : Stack) → least_of now st ≤ 100
least_soon now st = (remaining now st).most

-- what the first number of an update is: the gap to the planned check, or the least of 100 and every remaining time
abbrev pub ToldTime : ℕ → Stack → ℕ → Type 0
ToldTime now st n = ((now < st.head.next_timeout) × (n ≡ st.head.next_timeout - now)) ⊎ Remaining n now st

-- of what an update says, if it does not refuse
abbrev ToldBy : ℕ → Stack → Result Next Error → Type 0
ToldBy now st (Ok next) = ToldTime now st next.millis × (HeadOk st.head → next.millis ≤ interval)
ToldBy now st (Err err) = Unit

told_of : (now : ℕ) (st : Stack) → ToldBy now st (update_of now st).said
unfolding update_of checked
told_of now st =
    pick_cases (λ (u : Update). ToldBy now st u.said) (λ _. tt)
    (λ (e : ltb now st.head.now.clock ≡ false).
    pick_cases (λ (u : Update). ToldBy now st u.said)
    (λ y. (inl (ltb-true now st.head.next_timeout y, refl), λ ok. let l = ltb-false now st.head.now.clock e in omega (arith, ok.soon)))
    (λ _. (inr (remaining now st), λ _. (remaining now st).most)))

-- the same, and that it is at most 100
pub record Number (now : ℕ) (st : Stack) (n : ℕ) : Type 0 where
  pub soon : n ≤ interval
  pub is : ToldTime now st n

module _ (now : ℕ) (st : Stack) (n : ℕ) (any : Bool) where
  told : (update_of now st).said ≡ Ok (record { millis = n; expired = any }) → ToldBy now st (Ok (record { millis = n; expired = any }))
  told e = rw e at (told_of now st)

  pub told_time : (update_of now st).said ≡ Ok (record { millis = n; expired = any }) → ToldTime now st n
  told_time e = (told e).0

  pub updates_number : HeadOk st.head → (update_of now st).said ≡ Ok (record { millis = n; expired = any }) → Number now st n
  updates_number ok e = record { soon = (told e).1 ok; is = told_time e }
