-- Numbers as little-endian bytes, parts of a buffer, bytes laid over it, and rows of fields.
-- Every definition is total: a byte past the end of a buffer reads as 0 and is not written.
-- Leans on the toolchain's lists alone.
use Rattle.std.specs.Prelude.{ℕ, zero, suc, ◌+◌, ◌*◌, ◌/◌, ◌%◌, List, [], ◌∷◌, ◌++◌, length, take, drop}

-- the low w bytes of x
unfoldable pub le : ℕ → ℕ → List ℕ
le zero x = []
le (suc w) x = x % 256 ∷ le w (x / 256)

unfoldable pub num : List ℕ → ℕ
num [] = 0
num (b ∷ l) = b + 256 * num l

-- n bytes of b, from byte `at` on
unfoldable pub part : ℕ → ℕ → List ℕ → List ℕ
part at n b = take n (drop at b)

-- b with s written over it, from byte `at` on
unfoldable pub over : ℕ → List ℕ → List ℕ → List ℕ
over at s b = take at b ++ (s ++ drop (at + length s) b)

-- b with s laid over it, from byte `at` on: the same where s fits, and what would lie past the end is left out
unfoldable pub lay : ℕ → List ℕ → List ℕ → List ℕ
lay at s [] = []
lay zero [] (y ∷ b) = y ∷ b
lay zero (x ∷ s) (y ∷ b) = x ∷ lay zero s b
lay (suc at) s (y ∷ b) = y ∷ lay at s b

-- the number that the w bytes from byte `at` on hold
abbrev pub field : ℕ → ℕ → List ℕ → ℕ
field at w b = num (part at w b)

-- the bytes of a row of fields, each a width and a number
unfoldable pub pack : List (ℕ × ℕ) → List ℕ
pack [] = []
pack (f ∷ fs) = le f.0 f.1 ++ pack fs

-- b with each field stored in turn, from byte `at` on
unfoldable pub puts : ℕ → List (ℕ × ℕ) → List ℕ → List ℕ
puts at [] b = b
puts at (f ∷ fs) b = puts (at + f.0) fs (lay at (le f.0 f.1) b)
