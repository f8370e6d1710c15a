-- With buffers of at least the MTU every packet but the last is exactly the MTU long. With a smaller buffer it need not be: `not_full`.
-- It holds because a step that leaves some of the payload has taken all that the MTU has room for.
use Prim.Native.Nat.{ℕ, ◌+◌, ◌≤◌}
use native.Mathlib.Omega.{arith}
use mathlib.Core.Path.{◌≡◌, refl, subst}
use mathlib.Core.Bool.{false}
use mathlib.Core.List.{List, [], ◌∷◌}
use lib.ListN.{length}
use borrow.Author.Tests.{eqb-false}
use Rattle.std.specs.Prelude.{Ok, Option}
use Rattle.octets.specs.Pick.{pick}
use Rattle.octets.specs.Bytes.{part}
use Rattle.octets.proofs.Bools.{bool_cases}
use Rattle.mctp.specs.declared.Eid.{Eid}
use Rattle.mctp.specs.declared.MsgIC.{MsgIC}
use Rattle.mctp.specs.declared.MsgType.{MsgType}
use Rattle.mctp.specs.declared.Tag.{Tag}
use Rattle.mctp.specs.Header.{lead}
use Rattle.fragment.specs.declared.Fragmenter.{Fragmenter}
use Rattle.fragment.specs.Step.{step_of, new_of, fresh, fitting, ends, packet_for, next_of}
use Rattle.fragment.specs.Run.{written, Full}
use Rattle.fragment.proofs.Steps.{step_emits}
use Rattle.fragment.proofs.Idle.{Every, every_first, every_rest}
use Rattle.fragment.proofs.Cuts.{Sending, lead_most, packet_size, next_sending, new_is, written-nil, written_on, written_done}
use Rattle.fragment.proofs.Figures.{from, body}
use Rattle.mctp.specs.declared.AppCookie.{AppCookie}

full_none : (mtu : ℕ) → Full mtu []
unfolding Full
full_none mtu = tt

module _ (mtu : ℕ) (p : List ℕ) where
  full_one : length p ≤ mtu → Full mtu (p ∷ [])
  unfolding Full
  full_one h = h

  full_cons : (ps : List (List ℕ)) → length p ≡ mtu → Full mtu ps → Full mtu (p ∷ ps)
  unfolding Full
  full_cons [] e t = omega arith
  full_cons (q ∷ ps) e t = (e, t)

module _ (f : Fragmenter) (payload : List ℕ) (n : ℕ) (sending : Sending f payload) (roomy : f.mtu ≤ n) where
  room : lead f.first ≤ n
  room =
      let m = lead_most f.first in
      let least = sending.sound.least in
      omega arith

  -- no packet is longer than the MTU
  within : length (packet_for f payload n) ≤ f.mtu
  within =
      let m = lead_most f.first in
      let least = sending.sound.least in
      let l = packet_size f payload n sending room in
      omega arith

  -- a packet with more to come fills it
  filled : ends f (length payload) n ≡ false → length (packet_for f payload n) ≡ f.mtu
  filled e =
      let m = lead_most f.first in
      let least = sending.sound.least in
      let used = sending.used in
      let l = packet_size f payload n sending room in
      let more = eqb-false (f.payload_used + fitting f (length payload) n) (length payload) e in
      omega arith

-- the step lemma, for any fragmenter in the middle of a message
full_on : (ns : List ℕ) (f : Fragmenter) (payload : List ℕ) → Sending f payload → Every (λ n. f.mtu ≤ n) ns → Full f.mtu (written f payload ns)
full_on [] f payload s r = rw (written-nil f payload) (full_none f.mtu)
full_on (n ∷ ns) f payload s r =
    let b = every_first (λ (m : ℕ). f.mtu ≤ m) n ns r in
    let p = packet_for f payload n in
    let g = next_of f (length payload) n in
    let l = room f payload n s b in
    rw (written_on f payload n ns (step_emits f payload n s.going l s.used))
    (bool_cases (ends f (length payload) n)
    (λ d. rw (written_done g payload ns d) (full_one f.mtu p (within f payload n s b)))
    (λ d.
    full_cons f.mtu p (written g payload ns) (filled f payload n s b d)
    (full_on ns g payload (next_sending f payload n s l d) (every_rest (λ (m : ℕ). f.mtu ≤ m) n ns r))))

module _ (typ : MsgType) (src dest : Eid) (tag : Tag) (mtu : ℕ) (cookie : Option AppCookie) (ic : MsgIC) (seq : ℕ) where
  -- what f writes, to the end or not, if it comes from `new` and the payload is lent at every step, with buffers of at least the MTU
  pub full_packets : {f : Fragmenter} (payload ns : List ℕ) → new_of typ src dest tag mtu cookie ic seq ≡ Ok f → Every (λ n. mtu ≤ n) ns → Full mtu (written f payload ns)
  full_packets payload ns e r =
      let n = new_is typ src dest tag mtu cookie ic seq e in
      subst (λ (f : Fragmenter). Full mtu (written f payload ns)) n.same
      (full_on ns (fresh typ src dest tag mtu cookie ic seq) payload (record { sound = n.sound; going = refl; used = omega arith }) r)

-- with a buffer of 5 bytes the packet in the middle is a byte short of the MTU
pub not_full : Full 6 (written (from 6) body (6 ∷ 5 ∷ 6 ∷ [])) → ⊥
unfolding Full written step_of pick part
not_full h =
    let z : ◌≡◌ {A = ℕ} 5 6 = h.1.0 in
    omega arith
