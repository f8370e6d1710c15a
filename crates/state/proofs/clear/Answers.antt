-- `clear` fills the first n bytes, or all where there are fewer: zeros past the end change nothing (`lay_clip`).
use Prim.Native.Nat.{ℕ, ◌≤◌, min}
use native.Mathlib.Omega.{arith}
use mathlib.Core.Path.{◌≡◌, sym, ap, ◌∙◌}
use mathlib.Core.List.{List, ◌++◌}
use lib.ListN.{length, take, drop, replicate, length-replicate}
use lib.Seq.{length-take-le}
use Rattle.std.proofs.lemmas.List.{take-replicate}
use Rattle.octets.specs.Bytes.{lay}
use Rattle.octets.proofs.Part.{lay_clip, lay_front}
use Rattle.state.proofs.clear.Goals as goal

filled : (n m : ℕ) (b : List ℕ) {s : List ℕ} → m ≡ min n (length b) → s ≡ replicate (length (take m b)) 0 → s ++ drop m b ≡ lay 0 (replicate n 0) b
filled n m b {s} e y =
    let z : s ≡ replicate m 0 = rw (length-take-le m b (omega arith)) at y in
    let k : length s ≡ m = ap length z ∙ length-replicate {A = ℕ} m 0 in
    let f : lay 0 s b ≡ s ++ drop m b = rw k at (lay_front s b (omega arith)) in
    let l : min (length (replicate {A = ℕ} n 0)) (length b) ≤ m = rw length-replicate (omega arith) in
    let c : lay 0 (replicate m 0) b ≡ lay 0 (replicate n 0) b = rw (take-replicate {X = ℕ} m n 0 (omega arith)) at (lay_clip m (replicate n 0) b l) in
    sym f ∙ ap (λ (t : List ℕ). lay 0 t b) z ∙ c

pub returns : goal.returns
returns c =
    filled c.args.n c.min-n.result c.args.b.now c.min-n.ensures (c.fill.ensures.after (λ y e. e))
