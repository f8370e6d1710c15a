-- What a run of steps writes is the message in packets that DSP0236 asks for, as far as the run has come; a run that ends has written the whole.
-- It holds because each step writes one packet of what is left, and hands on the next number and place.
use Prim.Native.Nat.{ℕ, ◌+◌, ◌-◌, ◌%◌, ◌≤◌}
use native.Mathlib.Omega.{arith}
use mathlib.Core.Path.{◌≡◌, refl, sym, ap, subst, ◌∙◌}
use mathlib.Core.Bool.{Bool, true, false}
use mathlib.Core.List.{List, [], ◌∷◌, ◌++◌, append-nil}
use lib.ListN.{length, take, drop, get_or}
use lib.Seq.{take-length}
use lib.Dec.{ltb}
use borrow.Author.Tests.{ltb-true, ltb-false, eqb-true}
use Rattle.std.specs.Prelude.{Err, Ok, Option, Result, Some}
use Rattle.octets.specs.Pick.{pick_cases}
use Rattle.octets.specs.Bytes.{part}
use Rattle.octets.proofs.Part.{length_part, part-add}
use Rattle.mctp.specs.declared.Eid.{Eid}
use Rattle.mctp.specs.declared.Header.{Header}
use Rattle.mctp.specs.declared.Key.{Key}
use Rattle.mctp.specs.declared.MsgIC.{MsgIC}
use Rattle.mctp.specs.declared.MsgType.{MsgType}
use Rattle.mctp.specs.declared.Tag.{Tag}
use Rattle.mctp.specs.declared.Error.{Error}
use Rattle.mctp.specs.Terms.{tag_of, key_under}
use Rattle.mctp.specs.Header.{header_bytes, header_of, lead, type_byte, type_of, intro}
use Rattle.fragment.specs.declared.Fragmenter.{Fragmenter}
use Rattle.fragment.specs.Step.{Step, Sound, step_of, new_of, fresh, fitting, ends, header_for, packet_for, advanced_by, next_of}
use Rattle.fragment.specs.Cutting.{PacketIs, InTurn, says_som, body_in, joined, kind_in, Carries}
use Rattle.fragment.specs.Run.{wrote, written, after}
use Rattle.octets.proofs.Bools.{no_both, bool_cases}
use Rattle.mctp.proofs.RoundTrip.{read_back, type_back}
use Rattle.fragment.proofs.Steps.{step_done, step_small, step_emits}
use Rattle.mctp.specs.declared.AppCookie.{AppCookie}

-- packets in turn, from the first on
module _ {key : Key} {mtu number : ℕ} {som : Bool} {p : List ℕ} where
  turn_one : (eom : Bool) → PacketIs key mtu som eom number p → InTurn key mtu som eom number (p ∷ [])
  unfolding InTurn
  turn_one true i = i
  turn_one false i = i

  turn-cons : (eom : Bool) (ps : List (List ℕ)) → PacketIs key mtu som false number p → InTurn key mtu false eom ((number + 1) % 4) ps → InTurn key mtu som eom number (p ∷ ps)
  unfolding InTurn
  turn-cons true [] i t = absurd t
  turn-cons false [] i t = i
  turn-cons true (q ∷ ps) i t = (i, t)
  turn-cons false (q ∷ ps) i t = (i, t)

-- the shape of a packet
pub length_packet : (b : Bool) (h : Header) (kind : ℕ) (body : List ℕ) → length (header_bytes h ++ intro b kind body) ≡ lead b + length body
length_packet true h kind body = omega arith
length_packet false h kind body = omega arith

drop-lead : (b : Bool) (h : Header) (kind : ℕ) (body : List ℕ) → drop (lead b) (header_bytes h ++ intro b kind body) ≡ body
drop-lead true h kind body = refl
drop-lead false h kind body = refl

pub lead_most : (b : Bool) → (4 ≤ lead b) × (lead b ≤ 5)
lead_most true = omega arith
lead_most false = omega arith

-- `new` gives a sound fragmenter that has sent nothing
pub record IsNew (typ : MsgType) (src dest : Eid) (tag : Tag) (mtu : ℕ) (cookie : Option AppCookie) (ic : MsgIC) (seq : ℕ) (f : Fragmenter) : Type 0 where
  pub same : fresh typ src dest tag mtu cookie ic seq ≡ f
  pub sound : Sound (fresh typ src dest tag mtu cookie ic seq)

module _ (typ : MsgType) (src dest : Eid) (tag : Tag) (mtu : ℕ) (cookie : Option AppCookie) (ic : MsgIC) (seq : ℕ) {f : Fragmenter} where
  pub new_is : new_of typ src dest tag mtu cookie ic seq ≡ Ok f → IsNew typ src dest tag mtu cookie ic seq f
  unfolding new_of
  new_is =
      pick_cases P (λ _. never) (λ a. pick_cases P (λ _. never) (λ b. pick_cases P (λ _. never) (λ c. pick_cases P (λ _. never) (λ d. λ (e : Ok (fresh typ src dest tag mtu cookie ic seq) ≡ Ok f).
      record {
        same = cc;
        sound = record {
          seq = omega arith;
          tag = omega (arith, ltb-false 7 (tag_of tag).0 a);
          typ = omega (arith, ltb-false 127 typ.0 b);
          least = ltb-false mtu 5 c;
          most = ltb-false _ mtu d;
        };
      }))))
    where
      P : Result Fragmenter Error → Type 0
      P r = r ≡ Ok f → IsNew typ src dest tag mtu cookie ic seq f

      never : {x : Error} → Err x ≡ Ok f → IsNew typ src dest tag mtu cookie ic seq f
      never e = let z : ◌≡◌ {A = ℕ} 0 1 = cc in absurd (omega arith)

pub next_sound : (f : Fragmenter) (k : ℕ) (eom : Bool) → Sound f → Sound (advanced_by f k eom)
next_sound f k eom s = record { seq = omega arith; tag = s.tag; typ = s.typ; least = s.least; most = s.most }

pub step_sound : (f : Fragmenter) (payload : List ℕ) (n : ℕ) → Sound f → Sound (step_of f payload n).result.next
unfolding step_of
step_sound f payload n s = pick_cases P (λ _. s) (λ _. pick_cases P (λ _. s) (λ _. pick_cases P (λ _. s) (λ _. next_sound f (fitting f (length payload) n) (ends f (length payload) n) s)))
  where
    P : Step → Type 0
    P t = Sound t.result.next

-- a run, one step at a time
module _ (f : Fragmenter) (payload : List ℕ) where
  pub written-nil : written f payload [] ≡ []
  unfolding written
  written-nil = refl

  pub after-nil : after f payload [] ≡ f
  unfolding after
  after-nil = refl

  module _ (n : ℕ) (ns : List ℕ) {s : Step} (e : step_of f payload n ≡ s) where
    pub written_on : written f payload (n ∷ ns) ≡ wrote s.result.output s.bytes ++ written s.result.next payload ns
    unfolding written
    written_on = ap (λ (t : Step). wrote t.result.output t.bytes ++ written t.result.next payload ns) e

    pub after_on : after f payload (n ∷ ns) ≡ after s.result.next payload ns
    unfolding after
    after_on = ap (λ (t : Step). after t.result.next payload ns) e

-- a fragmenter that is done stays so, and writes nothing
pub written_done : (f : Fragmenter) (payload ns : List ℕ) → f.done ≡ true → written f payload ns ≡ []
written_done f payload [] d = written-nil f payload
written_done f payload (n ∷ ns) d = written_on f payload n ns (step_done f payload n d) ∙ written_done f payload ns d

pub after_done : (f : Fragmenter) (payload ns : List ℕ) → f.done ≡ true → after f payload ns ≡ f
after_done f payload [] d = after-nil f payload
after_done f payload (n ∷ ns) d = after_on f payload n ns (step_done f payload n d) ∙ after_done f payload ns d

-- what f has written of the payload when it has come to g
pub record SoFar (f : Fragmenter) (payload : List ℕ) (packets : List (List ℕ)) (g : Fragmenter) : Type 0 where
  pub turn : InTurn (key_under f.src f.dest f.tag) f.mtu f.first g.done f.seq packets
  pub low : f.payload_used ≤ g.payload_used
  pub body : joined packets ≡ part f.payload_used (g.payload_used - f.payload_used) payload
  pub all : g.done ≡ true → g.payload_used ≡ length payload
  pub kind : f.first ≡ true → g.done ≡ true → kind_in packets ≡ type_byte f.typ f.ic

-- a fragmenter with a message to send
pub record Sending (f : Fragmenter) (payload : List ℕ) : Type 0 where
  pub sound : Sound f
  pub going : f.done ≡ false
  pub used : f.payload_used ≤ length payload

so_far_none : (f : Fragmenter) (payload : List ℕ) → Sending f payload → SoFar f payload [] f
unfolding InTurn joined part
so_far_none f payload s = record {
  turn = subst (λ (b : Bool). InTurn (key_under f.src f.dest f.tag) f.mtu f.first b f.seq []) (sym s.going) tt;
  low = omega arith;
  body = let z : f.payload_used - f.payload_used ≡ 0 = omega arith in rw z;
  all = λ d. absurd (no_both d s.going);
  kind = λ _ d. absurd (no_both d s.going);
}

module _ (f : Fragmenter) (payload : List ℕ) (n : ℕ) (sending : Sending f payload) (room : lead f.first ≤ n) where
  abbrev p : List ℕ
  p = packet_for f payload n

  abbrev k : ℕ
  k = fitting f (length payload) n

  abbrev b : List ℕ
  b = part f.payload_used k payload

  abbrev g : Fragmenter
  g = next_of f (length payload) n

  head : header_of p ≡ Some (header_for f (ends f (length payload) n))
  head = read_back (header_for f (ends f (length payload) n)) sending.sound.seq sending.sound.tag (intro f.first (type_byte f.typ f.ic) b)

  pub packet_size : length p ≡ lead f.first + k
  packet_size =
      let u = sending.used in
      let l = length_part f.payload_used k payload (omega arith) in
      let z = length_packet f.first (header_for f (ends f (length payload) n)) (type_byte f.typ f.ic) b in
      omega arith

  packet_is : PacketIs (key_under f.src f.dest f.tag) f.mtu f.first (ends f (length payload) n) f.seq p
  packet_is =
      let l = packet_size in
      let m = lead_most f.first in
      let least = sending.sound.least in
      record { header = head; whole = omega arith; within = omega arith }

  packet_body : body_in p ≡ b
  packet_body =
      ap (λ (r : Option Header). drop (lead (says_som r)) p) head ∙ drop-lead f.first (header_for f (ends f (length payload) n)) (type_byte f.typ f.ic) b

  packet_kind : (ps : List (List ℕ)) → f.first ≡ true → kind_in (p ∷ ps) ≡ type_byte f.typ f.ic
  unfolding kind_in
  packet_kind ps e =
      ap (λ (c : Bool). get_or (header_bytes (header_for f (ends f (length payload) n)) ++ intro c (type_byte f.typ f.ic) b) 4 0) e

  -- the last packet
  so_far_last : ends f (length payload) n ≡ true → SoFar f payload (p ∷ []) g
  unfolding joined
  so_far_last e = record {
    turn = turn_one (ends f (length payload) n) packet_is;
    low = omega arith;
    body =
        let z : (f.payload_used + k) - f.payload_used ≡ k = omega arith in
        rw (z, packet_body) (append-nil b);
    all = λ _. eqb-true (f.payload_used + k) (length payload) e;
    kind = λ i _. packet_kind [] i;
  }

  -- a packet with more to come
  pub next_sending : ends f (length payload) n ≡ false → Sending g payload
  next_sending e = record { sound = next_sound f k (ends f (length payload) n) sending.sound; going = e; used = let u = sending.used in omega arith }

  so_far_more : {ps : List (List ℕ)} {h : Fragmenter} → ends f (length payload) n ≡ false → SoFar g payload ps h → SoFar f payload (p ∷ ps) h
  unfolding joined
  so_far_more {ps} {h} e s =
      let q : (f.seq % 4 + 1) % 4 ≡ (f.seq + 1) % 4 = omega arith in
      let low = s.low in
      let z : h.payload_used - f.payload_used ≡ k + (h.payload_used - (f.payload_used + k)) = omega arith in
      record {
        turn = turn-cons h.done ps
            (subst (λ (c : Bool). PacketIs (key_under f.src f.dest f.tag) f.mtu f.first c f.seq p) e packet_is)
            (subst (λ (m : ℕ). InTurn (key_under f.src f.dest f.tag) f.mtu false h.done m ps) q s.turn);
        low = omega arith;
        body = rw (packet_body, s.body, z) (sym (part-add f.payload_used k (h.payload_used - (f.payload_used + k)) payload));
        all = s.all;
        kind = λ i _. packet_kind ps i;
      }

  -- a step that writes
  so_far_emits : (ns : List ℕ) → (ends f (length payload) n ≡ false → SoFar g payload (written g payload ns) (after g payload ns))
      → SoFar f payload (written f payload (n ∷ ns)) (after f payload (n ∷ ns))
  so_far_emits ns more =
      let e = step_emits f payload n sending.going room sending.used in
      rw (written_on f payload n ns e, after_on f payload n ns e)
      (bool_cases (ends f (length payload) n)
      (λ d. rw (written_done g payload ns d, after_done g payload ns d) (so_far_last d))
      (λ d. so_far_more d (more d)))

-- the step lemma, for any fragmenter in the middle of a message
pub so_far_on : (ns : List ℕ) (f : Fragmenter) (payload : List ℕ) → Sending f payload → SoFar f payload (written f payload ns) (after f payload ns)
so_far_on [] f payload s = rw (written-nil f payload, after-nil f payload) (so_far_none f payload s)
so_far_on (n ∷ ns) f payload s =
    bool_cases (ltb n (lead f.first))
    (λ t.
    let e = step_small f payload n s.going (ltb-true n (lead f.first) t) in
    rw (written_on f payload n ns e, after_on f payload n ns e) (so_far_on ns f payload s))
    (λ t.
    let l = ltb-false n (lead f.first) t in
    so_far_emits f payload n s l ns (λ d. so_far_on ns (next_of f (length payload) n) payload (next_sending f payload n s l d)))

-- from the start: the packets so far are in turn, and joined they are the payload as far as it is used
pub so_far : (f : Fragmenter) (payload ns : List ℕ) → Sound f → f.first ≡ true → f.done ≡ false → f.payload_used ≡ 0
    → InTurn (key_under f.src f.dest f.tag) f.mtu true (after f payload ns).done f.seq (written f payload ns)
    × (joined (written f payload ns) ≡ take (after f payload ns).payload_used payload)
unfolding part
so_far f payload ns s i d u =
    let r = so_far_on ns f payload (record { sound = s; going = d; used = omega arith }) in
    let g = after f payload ns in
    let z : g.payload_used - 0 ≡ g.payload_used = omega arith in (
      subst (λ (b : Bool). InTurn (key_under f.src f.dest f.tag) f.mtu b g.done f.seq (written f payload ns)) i r.turn,
      r.body ∙ ap (λ (m : ℕ). part m (g.payload_used - m) payload) u ∙ ap (λ (m : ℕ). take m payload) z,
    )

module _ (typ : MsgType) (src dest : Eid) (tag : Tag) (mtu : ℕ) (cookie : Option AppCookie) (ic : MsgIC) (seq : ℕ) where
  abbrev start : Fragmenter
  start = fresh typ src dest tag mtu cookie ic seq

  cuts_fresh : Sound start → (payload ns : List ℕ) → (after start payload ns).done ≡ true → Carries (key_under src dest tag) typ ic mtu payload (written start payload ns)
  cuts_fresh s payload ns d =
      let r = so_far_on ns start payload (record { sound = s; going = refl; used = omega arith }) in
      let t = so_far start payload ns s refl refl refl in
      record {
        start = seq % 4;
        turn = subst (λ (b : Bool). InTurn (key_under src dest tag) mtu true b (seq % 4) (written start payload ns)) d t.0;
        kind = ap type_of (r.kind refl d) ∙ type_back typ ic s.typ;
        body = t.1 ∙ rw (r.all d) (take-length payload);
      }

  -- a run to its end, from `new`: the packets carry the payload
  pub cuts : {f : Fragmenter} (payload ns : List ℕ) → new_of typ src dest tag mtu cookie ic seq ≡ Ok f → (after f payload ns).done ≡ true
      → Carries (key_under src dest tag) typ ic mtu payload (written f payload ns)
  cuts payload ns e =
      let n = new_is typ src dest tag mtu cookie ic seq e in
      subst (λ (f : Fragmenter). (after f payload ns).done ≡ true → Carries (key_under src dest tag) typ ic mtu payload (written f payload ns)) n.same
      (cuts_fresh n.sound payload ns)
