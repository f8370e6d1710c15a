-- docs/RULES.md 69 to 71, `update`. A clock below the last is InvalidInput; otherwise the clock is taken. Below the planned check the answer is the gap to it
-- and no. Otherwise slots and flows expire, and the next check is planned after the least of 100 and every remaining time. The planned check stops at 2^64 - 1.
-- Leans on `state` for the remaining times, on `stamp` for what a check finds, on `flows` and `slot` for what expires.
use Rattle.std.specs.Prelude.{ℕ, ◌+◌, ◌-◌, min, Bool, false, List, [], ◌∷◌, map, ltb, Err, Ok, Result}
use Rattle.config.specs.Config.{interval}
use Rattle.octets.specs.Pick.{pick}
use Rattle.mctp.specs.declared.Error.TheVariants.{InvalidInput}
use Rattle.mctp.specs.Answer.{Answer, answer_as, flag_word}
use Rattle.stamp.specs.Stamp.{clocked}
use Rattle.flows.specs.Table.{faded_flow}
use Rattle.slot.specs.Slot.{faded_slot}
use Rattle.state.specs.Head.{with_planned}
use Rattle.state.specs.Stack.{Stack, with_stamp}
use Rattle.stamp.specs.Checks.{least_left, any_expired}
use Rattle.state.specs.Times.{slot_times, flow_times}
use Rattle.mctp.specs.declared.Error.{Error}
use Rattle.updating.specs.declared.Next.{Next}

pub record Update : Type 0 where
  pub stack : Stack
  pub said : Result Next Error

-- what an update tells, in numbers: the milliseconds until the next check, and whether something expired
abbrev pub next_words : Next → List ℕ
next_words next = next.millis ∷ flag_word next.expired ∷ []

abbrev pub updated_as : Result Next Error → Answer
updated_as = answer_as next_words

-- the least of the interval and every remaining time; what has expired has none, and neither has what no time runs for, such as a slot whose handle is out
abbrev pub least_of : ℕ → Stack → ℕ
least_of now st = least_left (flow_times now st) (least_left (slot_times now st) interval)

-- whether a slot or a flow expires
abbrev pub expires : ℕ → Stack → Bool
expires now st = any_expired (flow_times now st) (any_expired (slot_times now st) false)

-- when the next check is planned: it stops at 2^64 - 1
abbrev pub planned_at : ℕ → ℕ → ℕ
planned_at now least = min (now + least) 18446744073709551615

-- the check itself, at the clock that was taken
unfoldable pub checked : ℕ → Stack → Update
checked now st = record {
  stack = record {
    head = with_planned (planned_at now (least_of now st)) st.head;
    flows = map (faded_flow now) st.flows;
    slots = map (faded_slot now) st.slots;
  };
  said = Ok (record { millis = least_of now st; expired = expires now st });
}

unfoldable pub update_of : ℕ → Stack → Update
update_of now st =
    pick (ltb now st.head.now.clock) (record { stack = st; said = Err InvalidInput })
    (pick (ltb now st.head.next_timeout)
    (record { stack = with_stamp (clocked now st.head.now) st; said = Ok (record { millis = st.head.next_timeout - now; expired = false }) })
    (checked now (with_stamp (clocked now st.head.now) st)))
