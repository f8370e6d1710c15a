-- A test that answers a question exactly: yes only where it holds, and yes wherever it holds.
-- Leans on nothing.
use Rattle.std.specs.Prelude.{◌≡◌, Bool, true}

pub record Tells (P : Type 0) (r : Bool) : Type 0 where
  pub sound : r ≡ true → P
  pub complete : P → r ≡ true
