-- A refusal's number is not 0, so an answer of 0 is never a refusal.
use native.Mathlib.Omega.{arith}
use mathlib.Core.Path.{◌≡◌}
use Rattle.mctp.specs.declared.Error.{Error}
use Rattle.mctp.specs.declared.Error.TheVariants.{InvalidInput, NoSpace, BadArgument, TagUnavailable, Unreachable, PoolShort}
use Rattle.mctp.specs.Terms.{error_no}

pub error_some : (err : Error) → error_no err ≡ 0 → ⊥
error_some InvalidInput e = omega arith
error_some NoSpace e = omega arith
error_some BadArgument e = omega arith
error_some TagUnavailable e = omega arith
error_some Unreachable e = omega arith
error_some PoolShort e = omega arith
