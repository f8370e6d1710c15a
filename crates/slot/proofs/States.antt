-- A slot's state by its number, and the key of a slot that collects. Each law goes through the four states.
use mathlib.Core.Path.{◌≡◌, refl}
use mathlib.Core.Bool.{Bool, true}
use lib.Dec.{eqb}
use Rattle.octets.proofs.Bools.{false_true}
use Rattle.mctp.specs.declared.Key.{Key}
use Rattle.mctp.specs.Terms.{same_key}
use Rattle.mctp.proofs.Keys.{same_key_is}
use Rattle.slot.specs.declared.Reassembler.{Reassembler}
use Rattle.slot.specs.declared.State.{State}
use Rattle.slot.specs.declared.State.TheVariants.{Empty, Collecting, Done, HandleOut}
use Rattle.slot.specs.Slot.{state_no, empty_state, done_state, out_state, collects_in, collects}

pub empty_zero : (s : State) → eqb (state_no s) 0 ≡ empty_state s
empty_zero Empty = refl
empty_zero Collecting = refl
empty_zero Done = refl
empty_zero (HandleOut n) = refl

pub done_two : (s : State) → eqb (state_no s) 2 ≡ done_state s
done_two Empty = refl
done_two Collecting = refl
done_two Done = refl
done_two (HandleOut n) = refl

pub out_three : (s : State) → eqb (state_no s) 3 ≡ out_state s
out_three Empty = refl
out_three Collecting = refl
out_three Done = refl
out_three (HandleOut n) = refl

same_in : (s : State) (same : Bool) → collects_in s same ≡ true → same ≡ true
same_in Empty same e = false_true e
same_in Collecting same e = e
same_in Done same e = false_true e
same_in (HandleOut n) same e = false_true e

-- a slot that collects under a key has it
pub collects_key : (k : Key) (s : Reassembler) → collects k s ≡ true → s.key ≡ k
collects_key k s e = same_key_is s.key k (same_in s.state (same_key s.key k) e)
