-- A cookie that is written as two numbers is read back from them.
use Prim.Native.Nat.{◌<◌}
use native.Mathlib.Omega.{arith}
use mathlib.Core.Path.{◌≡◌, refl}
use Rattle.std.specs.Prelude.{None, Option, Some}
use Rattle.octets.specs.Pick.{pick}
use Rattle.mctp.specs.Terms.{cookie_no, cookie_value, cookie_of}
use Rattle.mctp.specs.declared.AppCookie.{AppCookie}

pub cookie_back : (c : Option AppCookie) → cookie_of (cookie_no c) (cookie_value c) ≡ c
unfolding cookie_of pick
cookie_back None = refl
cookie_back (Some c) = refl

pub cookie_small : (c : Option AppCookie) → cookie_no c < 2
cookie_small None = omega arith
cookie_small (Some c) = omega arith
