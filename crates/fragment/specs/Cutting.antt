-- What DSP0236 calls a message in packets: one terminus (key); SOM on the first packet alone, EOM on the last alone; numbers in turn modulo 4
-- from any start; the type byte once, after the first header; the bodies joined are the payload. Written from the standard, apart from the step.
-- Leans on `mctp` for what a header's bytes say. Cuts may fall anywhere, and a packet's reserved bits are ignored.
use Rattle.std.specs.Prelude.{ℕ, ◌+◌, ◌%◌, ◌≤◌, ◌≡◌, Bool, true, false, List, [], ◌∷◌, ◌++◌, length, get_or, drop, None, Option, Some}
use Rattle.mctp.specs.declared.Key.{Key}
use Rattle.mctp.specs.declared.MsgType.{MsgType}
use Rattle.mctp.specs.declared.MsgIC.{MsgIC}
use Rattle.mctp.specs.Header.{header_of, lead, type_of}
use Rattle.mctp.specs.declared.Header.{Header}

-- p is a packet of the message: it says this key, SOM, EOM and number, and is no longer than the MTU
pub record PacketIs (key : Key) (mtu : ℕ) (som eom : Bool) (number : ℕ) (p : List ℕ) : Type 0 where
  pub header : header_of p ≡ Some (record { key = key; som = som; eom = eom; seq = number })
  pub whole : lead som ≤ length p
  pub within : length p ≤ mtu

-- packets numbered in turn, the first with this number: SOM is as told on the first and on no other, EOM is as told on the last and on no other
unfoldable pub InTurn : Key → ℕ → Bool → Bool → ℕ → List (List ℕ) → Type 0
InTurn key mtu som true number [] = ⊥
InTurn key mtu som false number [] = Unit
InTurn key mtu som eom number (p ∷ []) = PacketIs key mtu som eom number p
InTurn key mtu som eom number (p ∷ q ∷ ps) = PacketIs key mtu som false number p × InTurn key mtu false eom ((number + 1) % 4) (q ∷ ps)

abbrev pub says_som : Option Header → Bool
says_som (Some h) = h.som
says_som None = false

-- a packet's body: what stands past its header and, with SOM, its type byte
abbrev pub body_in : List ℕ → List ℕ
body_in p = drop (lead (says_som (header_of p))) p

-- what joining gives: the bodies in order
unfoldable pub joined : List (List ℕ) → List ℕ
joined [] = []
joined (p ∷ ps) = body_in p ++ joined ps

-- what joining gives: the type byte of the first packet
unfoldable pub kind_in : List (List ℕ) → ℕ
kind_in [] = 0
kind_in (p ∷ ps) = get_or p 4 0

-- these packets carry that payload as one message of that key, type and IC
pub record Carries (key : Key) (typ : MsgType) (ic : MsgIC) (mtu : ℕ) (payload : List ℕ) (packets : List (List ℕ)) : Type 0 where
  pub start : ℕ
  pub turn : InTurn key mtu true true start packets
  pub kind : type_of (kind_in packets) ≡ record { typ = typ; ic = ic }
  pub body : joined packets ≡ payload
