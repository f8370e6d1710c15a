-- A packet written in place: the header's number stored to `&mut b[0..4]`, the type byte after it, and the payload's part copied into what
-- is lent past them. Side by side they are one store of the packet.
use Prim.Native.Nat.{ℕ, ◌+◌, ◌-◌, ◌≤◌}
use native.Mathlib.Omega.{arith}
use mathlib.Core.Path.{◌≡◌, refl, ◌∙◌}
use mathlib.Core.List.{List, [], ◌∷◌, ◌++◌}
use lib.ListN.{length, set, take, drop, length-drop}
use lib.Seq.{take_all}
use Rattle.octets.specs.Bytes.{le, over, lay, part}
use Rattle.octets.proofs.Part.{over-over, over-set, length_over, length_part, lent, lent_front, lay_front}
use Rattle.octets.proofs.Number.{window_store}
use Rattle.mctp.specs.declared.Header.{Header}
use Rattle.mctp.specs.Header.{header_bytes}

-- the header's number, where what was lent comes back as e
pub headed : (h : Header) (x : ℕ) (b : List ℕ) {e : List ℕ} → le 4 x ≡ header_bytes h → e ≡ lay 0 (le 4 x) (take 4 b) → 4 ≤ length b → e ++ drop 4 b ≡ over 0 (header_bytes h) b
headed h x b is q fits = window_store 0 4 x b q fits ∙ rw is

-- the type byte after it
pub typed : (h : Header) (kind : ℕ) (b : List ℕ) {p : List ℕ} → p ≡ over 0 (header_bytes h) b → 5 ≤ length b → set p 4 kind ≡ over 0 (header_bytes h ++ (kind ∷ [])) b
typed h kind b is fits =
    let q = over 0 (header_bytes h) b in
    let l = length_over 0 (header_bytes h) b (omega arith) in
    rw is (over-set 4 kind q (omega arith) ∙ over-over 0 4 (header_bytes h) (kind ∷ []) b refl fits)

-- `&payload[used..used + n]` copied into `&mut p[at..]`: what p holds once that comes back as e
copied : (at used n : ℕ) (payload p : List ℕ) {e : List ℕ} → at + n ≤ length p → used + n ≤ length payload
    → e ≡ lay 0 (take ((used + n) - used) (drop used payload)) (take (length p - at) (drop at p))
    → take at p ++ (e ++ drop (length p - at) (drop at p)) ≡ over at (part used n payload) p
copied at used n payload p fits within h =
    let v = part used n payload in
    let l = length_part used n payload within in
    let k : length (drop at p) ≡ length p - at = length-drop at p in
    let z : length v ≤ length (take (length p - at) (drop at p)) = rw (take_all (length p - at) (drop at p) (omega arith)) (omega arith) in
    lent_front at v p (omega arith) (rw (lent used n payload) at h ∙ lay_front v (take (length p - at) (drop at p)) z)

-- the same past a front s of b
pub front_copied : (at used n : ℕ) (payload s b : List ℕ) {p e : List ℕ} → p ≡ over 0 s b → length s ≡ at → at + n ≤ length b → used + n ≤ length payload
    → e ≡ lay 0 (take ((used + n) - used) (drop used payload)) (take (length p - at) (drop at p))
    → take at p ++ (e ++ drop (length p - at) (drop at p)) ≡ over 0 (s ++ part used n payload) b
front_copied at used n payload s b {p = p} is a fits within q =
    let l = length_part used n payload within in
    let k : length p ≡ length b = rw is (length_over 0 s b (omega arith)) in
    copied at used n payload p (omega arith) within q ∙ rw is (over-over 0 at s (part used n payload) b (omega arith) (omega arith))
