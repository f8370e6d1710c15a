-- With buffers of at least the MTU the number of packets is the one that the sizes give, and the run ends with the last of them.
-- It holds because each step but the last takes all that the MTU leaves; the type byte counts as one byte of the first packet.
use Prim.Native.Nat.{ℕ, zero, suc, ◌+◌, ◌-◌, ◌*◌, ◌/◌, ◌%◌, ◌≤◌, ◌<◌, min}
use native.Mathlib.Nat.{div-add-mod', mod-lt, div-eq_of_lt}
use native.Mathlib.Omega.{arith}
use mathlib.Core.Path.{◌≡◌, refl, sym, ap, subst, ◌∙◌}
use mathlib.Core.Bool.{true, false}
use mathlib.Core.List.{List, [], ◌∷◌}
use lib.ListN.{length}
use lib.Dec.{leb, leb-suc-zero, leb-suc-suc}
use borrow.Author.Tests.{eq-eqb, ne_eqb, le-leb, lt-leb, leb-true, leb-false}
use Rattle.std.specs.Prelude.{Ok, Option}
use Rattle.octets.specs.Pick.{pick_cases}
use Rattle.mctp.specs.declared.Eid.{Eid}
use Rattle.mctp.specs.declared.MsgIC.{MsgIC}
use Rattle.mctp.specs.declared.MsgType.{MsgType}
use Rattle.mctp.specs.declared.Tag.{Tag}
use Rattle.mctp.specs.Header.{lead}
use Rattle.fragment.specs.declared.Fragmenter.{Fragmenter}
use Rattle.fragment.specs.Step.{Sound, new_of, fresh, fitting, ends, next_of}
use Rattle.fragment.specs.Run.{written, after, packet_count}
use Rattle.fragment.proofs.Steps.{step_emits}
use Rattle.fragment.proofs.Idle.{Every, every_first, every_rest}
use Rattle.fragment.proofs.Cuts.{Sending, lead_most, next_sending, new_is, written-nil, after-nil, written_on, after_on, written_done, after_done}
use Rattle.mctp.specs.declared.AppCookie.{AppCookie}

-- what a packet takes: all that is left where that fits under the MTU, else all that the MTU has room for
all_fits : (u size n mtu l s : ℕ) → l ≤ 5 → mtu ≤ n → s + 5 ≤ mtu → u + s + 5 ≡ size + l → u ≤ size → u + min (size - u) (min n mtu - l) ≡ size
all_fits u size n mtu l s a b c d e = omega arith

part_fits : (u size n mtu l s : ℕ) → l ≤ 5 → 5 ≤ mtu → mtu ≤ n → mtu ≤ s + 4 → u + s + 5 ≡ size + l → u ≤ size → (u + min (size - u) (min n mtu - l)) + l ≡ u + mtu
part_fits u size n mtu l s a b c d e g = omega arith

-- in these steps f has written as many packets as there are buffers, but at most k, and it is done exactly with the k-th
pub record Counted (f : Fragmenter) (payload ns : List ℕ) (k : ℕ) : Type 0 where
  pub done : (after f payload ns).done ≡ leb k (length ns)
  pub packets : length (written f payload ns) ≡ min (length ns) k

-- where a packet takes r bytes, the type byte of a first packet among them: q packets that are full, and one more
counts : (ns : List ℕ) (q s r : ℕ) (f : Fragmenter) (payload : List ℕ) → Sending f payload → r + 4 ≡ f.mtu → s < r
    → f.payload_used + (q * r + s) + 5 ≡ length payload + lead f.first → Every (λ n. f.mtu ≤ n) ns → Counted f payload ns (suc q)
counts [] q s r f payload w e l t u = record {
  done = ap (λ (g : Fragmenter). g.done) (after-nil f payload) ∙ w.going ∙ sym (leb-suc-zero q);
  packets = rw (written-nil f payload) (omega arith);
}
counts (n ∷ ns) zero s r f payload w e l t u =
    let m = lead_most f.first in
    let b : f.mtu ≤ n = every_first (λ m. f.mtu ≤ m) n ns u in
    let g = next_of f (length payload) n in
    let step = step_emits f payload n w.going (omega arith) w.used in
    let took = all_fits f.payload_used (length payload) n f.mtu (lead f.first) s m.1 b (omega arith) (omega arith) w.used in
    let d : ends f (length payload) n ≡ true = eq-eqb (f.payload_used + fitting f (length payload) n) (length payload) took in
    record {
      done = ap (λ (h : Fragmenter). h.done) (after_on f payload n ns step ∙ after_done g payload ns d) ∙ d ∙ sym (le-leb 1 (length (n ∷ ns)) (omega arith));
      packets = rw (written_on f payload n ns step, written_done g payload ns d) (omega arith);
    }
counts (n ∷ ns) (suc q) s r f payload w e l t u =
    let m = lead_most f.first in
    let b : f.mtu ≤ n = every_first (λ m. f.mtu ≤ m) n ns u in
    let g = next_of f (length payload) n in
    let room : lead f.first ≤ n = omega arith in
    let step = step_emits f payload n w.going room w.used in
    let took = part_fits f.payload_used (length payload) n f.mtu (lead f.first) (suc q * r + s) m.1 w.sound.least b (omega arith) t w.used in
    let d : ends f (length payload) n ≡ false = ne_eqb (f.payload_used + fitting f (length payload) n) (length payload) (omega arith) in
    let c = counts ns q s r g payload (next_sending f payload n w room d) e l (omega arith) (every_rest (λ m. f.mtu ≤ m) n ns u) in
    let p = c.packets in
    record {
      done = ap (λ (h : Fragmenter). h.done) (after_on f payload n ns step) ∙ c.done ∙ sym (leb-suc-suc (suc q) (length ns));
      packets = rw (written_on f payload n ns step) (omega arith);
    }

count_is : (mtu size : ℕ) → 5 ≤ mtu → packet_count mtu size ≡ suc (size / (mtu - 4))
unfolding packet_count
count_is mtu size h =
    pick_cases (λ (k : ℕ). k ≡ suc (size / (mtu - 4)))
    (λ t.
    let l = leb-true size (mtu - 5) t in
    let z : size / (mtu - 4) ≡ 0 = div-eq_of_lt {n = size} {m = mtu - 4} (omega arith) in
    rw z)
    (λ t.
    let l = leb-false size (mtu - 5) t in
    let z : size - (mtu - 5) + (mtu - 5) ≡ size = omega arith in
    rw z (omega arith))

module _ (typ : MsgType) (src dest : Eid) (tag : Tag) (mtu : ℕ) (cookie : Option AppCookie) (ic : MsgIC) (seq : ℕ) where
  counts_fresh : Sound (fresh typ src dest tag mtu cookie ic seq) → (payload ns : List ℕ) → Every (λ n. mtu ≤ n) ns
      → Counted (fresh typ src dest tag mtu cookie ic seq) payload ns (packet_count mtu (length payload))
  counts_fresh s payload ns u =
      let f = fresh typ src dest tag mtu cookie ic seq in
      let size = length payload in
      let r = mtu - 4 in
      let least = s.least in
      let whole = div-add-mod' size r in
      let part : size % r < r = mod-lt size (omega arith) in
      rw (count_is mtu size least)
      (counts ns (size / r) (size % r) r f payload (record { sound = s; going = refl; used = omega arith }) (omega arith) part (omega arith) u)

  module _ {f : Fragmenter} (is : new_of typ src dest tag mtu cookie ic seq ≡ Ok f) (payload ns : List ℕ) (u : Every (λ n. mtu ≤ n) ns) where
    -- for any number of buffers
    pub counted : Counted f payload ns (packet_count mtu (length payload))
    counted =
        let n = new_is typ src dest tag mtu cookie ic seq is in
        subst (λ (g : Fragmenter). Counted g payload ns (packet_count mtu (length payload))) n.same (counts_fresh n.sound payload ns u)

    -- with as many buffers as it takes, it is done, and has written as many packets
    pub count : length ns ≡ packet_count mtu (length payload)
        → ((after f payload ns).done ≡ true) × (length (written f payload ns) ≡ packet_count mtu (length payload))
    count e =
        let c = counted in
        let p = c.packets in
        (c.done ∙ le-leb (packet_count mtu (length payload)) (length ns) (omega arith), omega arith)

    -- with fewer buffers it is not done
    pub count_fewer : length ns < packet_count mtu (length payload) → (after f payload ns).done ≡ false
    count_fewer l = counted.done ∙ lt-leb (packet_count mtu (length payload)) (length ns) l
