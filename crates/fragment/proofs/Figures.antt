-- The figures of cutting (docs/RULES.md, section 11), computed from the definitions: from EID 8 to 9, type 1, owned tag 1, sequence 1.
use Prim.Native.Nat.{ℕ}
use mathlib.Core.Path.{◌≡◌, refl}
use mathlib.Core.Bool.{false}
use mathlib.Core.List.{List, [], ◌∷◌}
use Rattle.std.specs.Prelude.{None, Ok}
use Rattle.octets.specs.Pick.{pick}
use Rattle.octets.specs.Bytes.{part}
use Rattle.mctp.specs.declared.Error.TheVariants.{NoSpace}
use Rattle.mctp.specs.declared.Tag.TheVariants.{Owned}
use Rattle.fragment.specs.declared.Fragmenter.{Fragmenter}
use Rattle.fragment.specs.declared.SendOutput.TheVariants.{Packet, Complete, Error as Failed}
use Rattle.fragment.specs.Step.{new_of, fresh, step_of}
use Rattle.fragment.specs.Run.{written, after}

-- the fragmenter of these figures, with that MTU
abbrev pub from : ℕ → Fragmenter
from mtu = fresh (record { 0 = 1 }) (record { 0 = 8 }) (record { 0 = 9 }) (Owned (record { 0 = 1 })) mtu None (record { 0 = false }) 1

abbrev pub body : List ℕ
body = 0xAA ∷ 0xBB ∷ 0xCC ∷ []

started : new_of (record { 0 = 1 }) (record { 0 = 8 }) (record { 0 = 9 }) (Owned (record { 0 = 1 })) 255 None (record { 0 = false }) 1 ≡ Ok (from 255)
unfolding new_of pick
started = refl

one_packet : written (from 255) body (255 ∷ []) ≡ (0x01 ∷ 0x09 ∷ 0x08 ∷ 0xD9 ∷ 0x01 ∷ 0xAA ∷ 0xBB ∷ 0xCC ∷ []) ∷ []
unfolding written step_of pick part
one_packet = refl

two_packets : written (from 6) body (255 ∷ 255 ∷ []) ≡ (0x01 ∷ 0x09 ∷ 0x08 ∷ 0x99 ∷ 0x01 ∷ 0xAA ∷ []) ∷ (0x01 ∷ 0x09 ∷ 0x08 ∷ 0x69 ∷ 0xBB ∷ 0xCC ∷ []) ∷ []
unfolding written step_of pick part
two_packets = refl

then_complete : (step_of (after (from 6) body (255 ∷ 255 ∷ [])) body 255).result.output ≡ Complete (Owned (record { 0 = 1 })) None
unfolding after step_of pick
then_complete = refl

empty : written (from 255) [] (255 ∷ []) ≡ (0x01 ∷ 0x09 ∷ 0x08 ∷ 0xD9 ∷ 0x01 ∷ []) ∷ []
unfolding written step_of pick part
empty = refl

buffer_four : step_of (from 255) body 4 ≡ record { result = record { next = from 255; output = Failed NoSpace None }; bytes = [] }
unfolding step_of pick
buffer_four = refl

buffer_five : ((step_of (from 255) body 5).result.output ≡ Packet 5) × ((step_of (from 255) body 5).bytes ≡ 0x01 ∷ 0x09 ∷ 0x08 ∷ 0x99 ∷ 0x01 ∷ [])
unfolding step_of pick part
buffer_five = (refl, refl)
