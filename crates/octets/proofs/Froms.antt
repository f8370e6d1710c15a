-- A record read from byte `at` of a buffer, or a blank one where its w bytes do not all lie there: what the code tests and reads, and what the definition says.
use Prim.Native.Nat.{ℕ, ◌+◌, ◌-◌, ◌≤◌, ◌<◌}
use native.Mathlib.Omega.{arith}
use mathlib.Core.Path.{◌≡◌, sym, ap, ◌∙◌}
use mathlib.Core.List.{List}
use lib.Dec.{ltb}
use lib.ListN.{length, take, drop}
use borrow.Author.Tests.{lt-ltb, le-ltb}
use Rattle.octets.specs.Pick.{pick, pick_true, pick_false}
use Rattle.octets.specs.Bytes.{part}
use Rattle.octets.proofs.Part.{lent}

module _ {A : Type 0} (dec : List ℕ → A) (blank : A) (at w : ℕ) (b : List ℕ) {x : A} where
  pub from_none : {k : ℕ} → k ≡ length b - at → k < w → x ≡ blank → x ≡ pick (ltb (length b - at) w) blank (dec (part at w b))
  from_none {k} e l q = q ∙ sym (pick_true _ _ _ (lt-ltb (length b - at) w (omega (arith, e, l))))

  pub from_some : {k : ℕ} → k ≡ length b - at → w ≤ k → x ≡ dec (part at w b) → x ≡ pick (ltb (length b - at) w) blank (dec (part at w b))
  from_some {k} e l q = q ∙ sym (pick_false _ _ _ (le-ltb (length b - at) w (omega (arith, e, l))))

  -- where the bytes lie in the buffer, the record is what they say
  pub from_read : at + w ≤ length b → x ≡ pick (ltb (length b - at) w) blank (dec (part at w b)) → x ≡ dec (take ((at + w) - at) (drop at b))
  from_read h q = q ∙ pick_false _ _ _ (le-ltb (length b - at) w (omega arith)) ∙ sym (ap dec (lent at w b))
