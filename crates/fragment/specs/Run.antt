-- A run of steps: the payload is lent at every step, and the packet buffers may have any sizes.
-- What it writes, the fragmenter after it, and DSP0236's rule for a sender, that every packet but the last is of full size.
-- Leans on specs/Step.antt.
use Rattle.std.specs.Prelude.{ℕ, ◌+◌, ◌-◌, ◌/◌, ◌≤◌, ◌≡◌, List, [], ◌∷◌, ◌++◌, leb, length}
use Rattle.octets.specs.Pick.{pick}
use Rattle.fragment.specs.declared.Fragmenter.{Fragmenter}
use Rattle.fragment.specs.declared.SendOutput.{SendOutput}
use Rattle.fragment.specs.declared.SendOutput.TheVariants.{Packet, Complete, Error as Failed}
use Rattle.fragment.specs.Step.{step_of}

-- a step that answers with a packet wrote its bytes; any other wrote none
abbrev pub wrote : SendOutput → List ℕ → List (List ℕ)
wrote (Packet n) bytes = bytes ∷ []
wrote (Complete tag cookie) bytes = []
wrote (Failed err cookie) bytes = []

unfoldable pub written : Fragmenter → List ℕ → List ℕ → List (List ℕ)
written f payload [] = []
written f payload (n ∷ ns) =
    wrote (step_of f payload n).result.output (step_of f payload n).bytes ++ written (step_of f payload n).result.next payload ns

unfoldable pub after : Fragmenter → List ℕ → List ℕ → Fragmenter
after f payload [] = f
after f payload (n ∷ ns) = after (step_of f payload n).result.next payload ns

-- how many packets a payload of that size takes with buffers of at least the MTU: one, and one more for each mtu - 4 bytes past mtu - 5
unfoldable pub packet_count : ℕ → ℕ → ℕ
packet_count mtu size = pick (leb size (mtu - 5)) 1 (1 + (size - (mtu - 5) + (mtu - 5)) / (mtu - 4))

-- every packet but the last is exactly that long, and the last no longer
unfoldable pub Full : ℕ → List (List ℕ) → Type 0
Full mtu [] = Unit
Full mtu (p ∷ []) = length p ≤ mtu
Full mtu (p ∷ q ∷ ps) = (length p ≡ mtu) × Full mtu (q ∷ ps)
