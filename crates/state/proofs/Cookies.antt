-- What a cookie that a function owns is known to be: its value is one of 64 bits.
use Prim.Native.Nat.{◌^◌, ◌<◌}
use native.Mathlib.Omega.{arith}
use mathlib.Core.List.{[], ◌∷◌}
use denote.Laws.{Is}
use denote.Enum.Declared.{row}
use denote.Enum.Laws.{val, owed}
use Rattle.std.specs.Prelude.{None, Option, Some}
use Rattle.mctp.specs.Terms.{cookie_value}
use Rattle.std.specs.contracts.option.Option as option
use Rattle.std.proofs.option.Option.TheLaws as laws
use Rattle.mctp.specs.contracts.AppCookie as app
use Rattle.mctp.proofs.AppCookie.TheLaws as app_laws
use Rattle.mctp.specs.declared.AppCookie.{AppCookie}

pub cookie_fits : (k : Option AppCookie) → Is (row (option.the_type app.the_row)) k (val (option.the_type app.the_row) (laws.the_laws app.the_row app_laws.the_row_laws app_laws.the_told) k ∷ []) → cookie_value k < 2 ^ 64
cookie_fits None g = omega arith
cookie_fits (Some n) g = let h = owed (option.the_type app.the_row) (laws.the_laws app.the_row app_laws.the_row_laws app_laws.the_told) (Some n) (val (option.the_type app.the_row) (laws.the_laws app.the_row app_laws.the_row_laws app_laws.the_told) (Some n) ∷ []) g in omega arith
