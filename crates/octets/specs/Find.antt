-- The first element of a list that passes a test, for any list and test.
-- Where none passes it is the list's length, so that one number tells both; `first` says the same as an option.
-- Leans on `pick` alone.
use Rattle.std.specs.Prelude.{ℕ, suc, List, [], ◌∷◌, Bool, Option, Some, None, ltb, length}
use Rattle.octets.specs.Pick.{pick}

-- place n of so many places, or none where n is past the last
unfoldable pub placed : ℕ → ℕ → Option ℕ
placed size n = pick (ltb n size) (Some n) None

module _ {A : Type 0} (p : A → Bool) where
  -- the first place at which the test passes, or the length where it passes nowhere
  unfoldable pub find : List A → ℕ
  find [] = 0
  find (x ∷ l) = pick (p x) 0 (suc (find l))

  -- the same as an option
  abbrev pub first : List A → Option ℕ
  first l = placed (length l) (find l)
