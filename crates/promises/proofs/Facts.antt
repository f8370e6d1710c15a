-- What a test of truth values tells, and that two keys are equal where `same_key` says that they are the same.
use mathlib.Core.Path.{◌≡◌, refl}
use mathlib.Core.Bool.{Bool, true, false, ◌&&◌}
use Rattle.octets.proofs.Bools as bools
pub use Rattle.octets.proofs.Bools.{fails as is_false}
pub use Rattle.mctp.proofs.Keys.{same_bool_is as same_bool_lem, same_key_refl as same_refl, same_key_is as same_key_lem}

pub no_both : (b : Bool) → b ≡ true → b ≡ false → ⊥
no_both b p q = bools.no_both p q

pub no_true : false ≡ true → ⊥
no_true e = no_both false e refl

pub and_left : (a b : Bool) → a && b ≡ true → a ≡ true
and_left true b e = refl
and_left false b e = e

pub and_right : (a b : Bool) → a && b ≡ true → b ≡ true
and_right true b e = e
and_right false b e = absurd (no_true e)

pub and_both : (a b : Bool) → a ≡ true → b ≡ true → a && b ≡ true
and_both true b e f = f
and_both false b e f = e
