-- Worked figures for one slot: what the definitions give for packets that are whole, too long and too short, and for a slot's time.
-- Each holds by computation.
use Prim.Native.Nat.{ℕ}
use mathlib.Core.Path.{◌≡◌, refl}
use mathlib.Core.Bool.{Bool, true, false}
use mathlib.Core.List.{List, [], ◌∷◌}
use lib.ListN.{replicate}
use Rattle.std.specs.Prelude.{Err, None, Ok, Option, Result, Some}
use Rattle.octets.specs.Pick.{pick}
use Rattle.mctp.specs.declared.Error.TheVariants.{InvalidInput, NoSpace}
use Rattle.mctp.specs.Header.{header_of}
use Rattle.stamp.specs.declared.EventStamp.{EventStamp}
use Rattle.stamp.specs.declared.Timeout.TheVariants.{Untimed, Expired, Left}
use Rattle.stamp.specs.Stamp.{timeout_of, expired}
use Rattle.slot.specs.declared.State.{State}
use Rattle.slot.specs.declared.State.TheVariants.{Collecting, Done, HandleOut}
use Rattle.slot.specs.declared.Reassembler.{Reassembler}
use Rattle.reassemble.specs.declared.Intake.{Intake}
use Rattle.slot.specs.Slot.{with_state, slot_timeout}
use Rattle.reassemble.specs.Enter.{enter, append, opened}
use Rattle.mctp.specs.declared.Error.{Error}
use Rattle.mctp.specs.declared.Header.{Header}

-- the event's stamp
abbrev at100 : EventStamp
at100 = record { clock = 100; counter = 1 }

-- a packet comes to the slot that its header opens; a handle that goes out has number 7
abbrev entered_by : Option Header → List ℕ → Result Intake Error
entered_by (Some h) p = enter 1032 at100 7 (opened h None) h p
entered_by None p = Err InvalidInput

abbrev entered : List ℕ → Result Intake Error
entered p = entered_by (header_of p) p

abbrev one : List ℕ
one = 0x01 ∷ 0x08 ∷ 0x09 ∷ 0xC9 ∷ 0x01 ∷ 0x2A ∷ []

-- from 9 to 8 under tag 1, type 1, no IC: one byte, the packet's last, goes to the body's start
abbrev one_whole : Intake
one_whole = record {
  slot = record {
    state = HandleOut 7;
    key = record { source = record { 0 = 9 }; dest = record { 0 = 8 }; owner = true; tag = record { 0 = 1 } };
    typ = record { 0 = 1 };
    ic = record { 0 = false };
    next_seq = 1;
    len = 1;
    cookie = None;
    stamp = at100;
  };
  at = 0;
  from = 5;
  whole = true;
}

one_whole_lem : entered one ≡ Ok one_whole
unfolding pick header_of enter append
one_whole_lem = refl

-- SOM and EOM, with a body of n bytes
abbrev body : ℕ → List ℕ
body n = 0x01 ∷ 0x08 ∷ 0x09 ∷ 0xC8 ∷ 0x01 ∷ replicate n 7

-- whether the message ends with it, and the length that it then has
abbrev ended : Result Intake Error → Bool × ℕ
ended (Err err) = (false, 0)
ended (Ok t) = (t.whole, t.slot.len)

body_1032 : ended (entered (body 1032)) ≡ (true, 1032)
unfolding pick header_of enter append
body_1032 = refl

body_1033 : entered (body 1033) ≡ Err NoSpace
unfolding pick header_of enter append
body_1033 = refl

-- SOM with 4 bytes only
short_som : entered (0x01 ∷ 0x08 ∷ 0x09 ∷ 0xC8 ∷ []) ≡ Err InvalidInput
unfolding pick header_of enter append
short_som = refl

-- that slot, stamped at 100
abbrev stamped : State → Reassembler
stamped state = with_state state one_whole.slot

last_moment : slot_timeout 6100 (stamped Collecting) ≡ Left 0
unfolding pick timeout_of expired
last_moment = refl

too_late : slot_timeout 6101 (stamped Collecting) ≡ Expired
unfolding pick timeout_of expired
too_late = refl

done_too_late : slot_timeout 6101 (stamped Done) ≡ Expired
unfolding pick timeout_of expired
done_too_late = refl

handle_out : slot_timeout 6101 (stamped (HandleOut 7)) ≡ Untimed
handle_out = refl
