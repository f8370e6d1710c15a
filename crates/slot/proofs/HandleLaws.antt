-- The next number of a handle is within 64 bits.
use Prim.Native.Nat.{ℕ, ◌^◌, ◌<◌}
use native.Mathlib.Omega.{arith}
use borrow.Author.Tests.{ltb-true}
use Rattle.octets.specs.Pick.{pick_cases}
use Rattle.slot.specs.Handle.{next_issue}

pub issue_fits : (n : ℕ) → n < 2 ^ 64 → next_issue n < 2 ^ 64
unfolding next_issue
issue_fits n h =
    pick_cases (λ (m : ℕ). m < 2 ^ 64) (λ e. let l = ltb-true n 18446744073709551615 e in omega arith) (λ _. h)
