-- The four answers of a step, each under its tests.
use Prim.Native.Nat.{ℕ, ◌≤◌, ◌<◌}
use mathlib.Core.Path.{◌≡◌, ap}
use mathlib.Core.Bool.{Bool, true, false}
use mathlib.Core.List.{List, [], ◌++◌}
use lib.ListN.{length}
use Rattle.octets.specs.Bytes.{part}
use Rattle.octets.proofs.Tests.{picks}
use Rattle.mctp.specs.declared.Error.TheVariants.{NoSpace}
use Rattle.mctp.specs.Header.{header_bytes, lead, intro, type_byte}
use Rattle.fragment.specs.declared.Fragmenter.{Fragmenter}
use Rattle.fragment.specs.declared.SendOutput.TheVariants.{Complete}
use Rattle.fragment.specs.Step.{Step, step_of, refused, emitted, header_for, ends, fitting, packet_for}

abbrev pub finished : Fragmenter → Step
finished f = record { result = record { next = f; output = Complete f.tag f.cookie }; bytes = [] }

module _ (f : Fragmenter) (payload : List ℕ) (n : ℕ) where
  pub step_done : f.done ≡ true → step_of f payload n ≡ finished f
  unfolding step_of
  step_done d = search picks

  pub step_small : f.done ≡ false → n < lead f.first → step_of f payload n ≡ refused f NoSpace
  unfolding step_of
  step_small d s = search picks

  pub step_emits : f.done ≡ false → lead f.first ≤ n → f.payload_used ≤ length payload → step_of f payload n ≡ emitted f payload n
  unfolding step_of
  step_emits d s u = search picks

  -- the packet's bytes, where it is known whether it is the first
  pub packet_with : (b : Bool) → f.first ≡ b
      → packet_for f payload n
      ≡ header_bytes (header_for f (ends f (length payload) n)) ++ intro b (type_byte f.typ f.ic) (part f.payload_used (fitting f (length payload) n) payload)
  packet_with b e =
      ap
      (λ (c : Bool).
      header_bytes (header_for f (ends f (length payload) n)) ++ intro c (type_byte f.typ f.ic) (part f.payload_used (fitting f (length payload) n) payload))
      e
