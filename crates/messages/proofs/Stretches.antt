-- A part lent from a buffer that may end before the part does: what there is of it is `part`, for every place and length. And a body copied as far as it fits.
use Prim.Native.Nat.{ℕ, ◌-◌, min}
use native.Mathlib.Omega.{arith}
use mathlib.Core.Path.{◌≡◌, sym, ap, ◌∙◌}
use mathlib.Core.List.{List}
use lib.ListN.{length, take, drop, length-drop, length-take}
use lib.Seq.{take_all}
use Rattle.std.proofs.lemmas.List.{take_min, drop_min}
use Rattle.octets.specs.Bytes.{part, over, lay}
use Rattle.octets.proofs.Part.{lay_clip, lay_fits}

-- the rest from byte m on, cut at k, where m and k stop at the end
pub lent_part : (at n : ℕ) (b : List ℕ) {m k : ℕ} → m ≡ min at (length b) → k ≡ min n (length (take (length b - m) (drop m b)))
    → take k (take (length b - m) (drop m b)) ≡ part at n b
unfolding part
lent_part at n b {m} {k} p q =
    let rest : take (length b - m) (drop m b) ≡ drop at b = take_all (length b - m) (drop m b) (omega (arith, length-drop m b)) ∙ ap (λ (i : ℕ). drop i b) p ∙ drop_min at b in
    let e : k ≡ min n (length (drop at b)) = q ∙ ap (λ (x : List ℕ). min n (length x)) rest in
    rw (rest, e) (take_min n (drop at b))

-- a body is copied over the front of p as far as it fits: how much of it that is, and what p then holds
pub front_copied : (p : List ℕ) {body b last : List ℕ} {n : ℕ} → body ≡ b → n ≡ min (length p) (length body) → last ≡ lay 0 body p
    → (n ≡ length (take (length p) b)) × (last ≡ over 0 (take (length p) b) p)
front_copied p {b = b} same k w =
    let l = length-take (length p) b in
    (rw (k, same, l), w ∙ rw same (sym (lay_clip (length p) b p (omega arith)) ∙ lay_fits 0 (take (length p) b) p (omega arith)))
