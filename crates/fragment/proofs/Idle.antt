-- What is written where the buffers never suffice: nothing into buffers under the least size, and headers alone into later buffers of 4 bytes.
-- The first holds because a refusal changes nothing; the second because a header leaves no room there, and the step does not ask for any.
use Prim.Native.Nat.{ℕ, zero, suc, ◌+◌, ◌%◌, ◌≤◌, ◌<◌}
use native.Mathlib.Omega.{arith}
use mathlib.Core.Path.{◌≡◌, refl, sym, ap, ◌∙◌}
use mathlib.Core.Bool.{Bool, false}
use mathlib.Core.List.{List, [], ◌∷◌, ◌++◌}
use lib.ListN.{length}
use borrow.Author.Tests.{ne_eqb}
use Rattle.octets.specs.Bytes.{part}
use Rattle.mctp.specs.Header.{header_bytes, lead}
use Rattle.fragment.specs.declared.Fragmenter.{Fragmenter}
use Rattle.fragment.specs.declared.SendOutput.TheVariants.{Packet}
use Rattle.fragment.specs.Step.{Step, step_of, fitting, ends, header_for, packet_for}
use Rattle.fragment.specs.Run.{written, after}
use Rattle.fragment.proofs.Steps.{step_small, step_emits, packet_with}
use Rattle.octets.proofs.Bools.{bool_cases}
use Rattle.fragment.proofs.Cuts.{written-nil, after-nil, written_on, after_on, written_done, after_done}

-- the claim holds for each size of the list
unfoldable pub Every : (ℕ → Type 0) → List ℕ → Type 0
Every P [] = Unit
Every P (n ∷ ns) = P n × Every P ns

module _ (P : ℕ → Type 0) (n : ℕ) (ns : List ℕ) where
  pub every_first : Every P (n ∷ ns) → P n
  unfolding Every
  every_first e = e.0

  pub every_rest : Every P (n ∷ ns) → Every P ns
  unfolding Every
  every_rest e = e.1

-- buffers under the least size: nothing is written, and the fragmenter stays as it was
pub refused-steps : (f : Fragmenter) (payload ns : List ℕ) → Every (λ n. n < lead f.first) ns → (written f payload ns ≡ []) × (after f payload ns ≡ f)
refused-steps f payload [] u = (written-nil f payload, after-nil f payload)
refused-steps f payload (n ∷ ns) u =
    bool_cases f.done (λ d. (written_done f payload (n ∷ ns) d, after_done f payload (n ∷ ns) d))
    (λ d.
    let e = step_small f payload n d (every_first (λ m. m < lead f.first) n ns u) in
    let r = refused-steps f payload ns (every_rest (λ m. m < lead f.first) n ns u) in
    (written_on f payload n ns e ∙ r.0, after_on f payload n ns e ∙ r.1))

-- the fragmenter with the next sequence number, and nothing else changed
abbrev pub numbered : Fragmenter → Fragmenter
numbered f = record {
  src = f.src;
  dest = f.dest;
  typ = f.typ;
  tag = f.tag;
  ic = f.ic;
  seq = (f.seq + 1) % 4;
  mtu = f.mtu;
  first = f.first;
  done = f.done;
  cookie = f.cookie;
  payload_used = f.payload_used;
}

-- a step that writes a header alone
abbrev pub bare_step : Fragmenter → Step
bare_step f = record { result = record { next = numbered f; output = Packet 4 }; bytes = header_bytes (header_for f false) }

-- f is past its first packet and has body left to send
pub record Later (f : Fragmenter) (payload : List ℕ) : Type 0 where
  pub mtu : 5 ≤ f.mtu
  pub later : f.first ≡ false
  pub going : f.done ≡ false
  pub left : f.payload_used < length payload

pub bare : (f : Fragmenter) (payload : List ℕ) → Later f payload → step_of f payload 4 ≡ bare_step f
unfolding part
bare f payload l =
    let four : lead f.first ≡ 4 = ap lead l.later in
    let left = l.left in
    let mtu = l.mtu in
    let k : fitting f (length payload) 4 ≡ 0 = omega arith in
    let e : ends f (length payload) 4 ≡ false = ne_eqb (f.payload_used + fitting f (length payload) 4) (length payload) (omega arith) in
    let q : (f.seq % 4 + 1) % 4 ≡ (f.seq + 1) % 4 = omega arith in
    let u : f.payload_used + fitting f (length payload) 4 ≡ f.payload_used = omega arith in
    let z : lead f.first + fitting f (length payload) 4 ≡ 4 = omega arith in
    let b : packet_for f payload 4 ≡ header_bytes (header_for f false) =
    packet_with f payload 4 false l.later
    ∙ ap (λ (c : Bool). header_bytes (header_for f c) ++ part f.payload_used (fitting f (length payload) 4) payload) e
    ∙ ap (λ (m : ℕ). header_bytes (header_for f false) ++ part f.payload_used m payload) k in
    step_emits f payload 4 l.going (omega arith) (omega arith)
    ∙ (λ i. record {
      result = record {
        next = record {
          src = f.src;
          dest = f.dest;
          typ = f.typ;
          tag = f.tag;
          ic = f.ic;
          seq = q i;
          mtu = f.mtu;
          first = sym l.later i;
          done = (e ∙ sym l.going) i;
          cookie = f.cookie;
          payload_used = u i;
        };
        output = Packet (z i);
      };
      bytes = b i;
    })

-- the bare headers of so many steps
unfoldable pub bares : ℕ → Fragmenter → List (List ℕ)
bares zero f = []
bares (suc k) f = header_bytes (header_for f false) ∷ bares k (numbered f)

-- with buffers of 4 bytes each step writes a header alone: no byte of the payload goes out, and the run does not end
pub bare_run : (ns : List ℕ) (f : Fragmenter) (payload : List ℕ) → Later f payload → Every (λ n. n ≡ 4) ns
    → (written f payload ns ≡ bares (length ns) f) × ((after f payload ns).payload_used ≡ f.payload_used) × ((after f payload ns).done ≡ false)
unfolding bares
bare_run [] f payload l u = rw (written-nil f payload, after-nil f payload) (refl, refl, l.going)
bare_run (n ∷ ns) f payload l u =
    let four = every_first (λ m. m ≡ 4) n ns u in
    let e : step_of f payload n ≡ bare_step f = ap (step_of f payload) four ∙ bare f payload l in
    let r = bare_run ns (numbered f) payload (record { mtu = l.mtu; later = l.later; going = l.going; left = l.left }) (every_rest (λ m. m ≡ 4) n ns u) in
    rw (written_on f payload n ns e, after_on f payload n ns e) (ap (λ (ps : List (List ℕ)). header_bytes (header_for f false) ∷ ps) r.0, r.1, r.2)
