-- A region of blocks of equal width, each of which holds the bytes of one element.
-- It is stated once, for any element, width and codec.
-- Leans on `part` of Bytes.
use Rattle.std.specs.Prelude.{ℕ, zero, suc, ◌+◌, ◌≡◌, List, [], ◌∷◌, ◌++◌}
use Rattle.octets.specs.Bytes.{part}

-- how an A is stored in bytes; `Ok` says which elements come back when they are read (`Lawful`, in the proofs)
pub record Codec (A : Type 0) : Type 1 where
  pub width : ℕ
  pub enc : A → List ℕ
  pub dec : List ℕ → A
  pub Ok : A → Type 0

-- where block i starts, if blocks of w bytes lie from byte `at` on
unfoldable pub place : ℕ → ℕ → ℕ → ℕ
place w at zero = at
place w at (suc i) = place w (at + w) i

module _ {A : Type 0} (C : Codec A) where
  -- the n elements whose blocks lie from byte `at` on
  unfoldable pub region : ℕ → ℕ → List ℕ → List A
  region zero at b = []
  region (suc n) at b = C.dec (part at C.width b) ∷ region n (at + C.width) b

  -- the block at byte `at` holds the bytes of an element that is Ok
  pub record Holds (at : ℕ) (b : List ℕ) : Type 0 where
    pub same : part at C.width b ≡ C.enc (C.dec (part at C.width b))
    pub ok : C.Ok (C.dec (part at C.width b))

  -- and so does each of the n blocks from byte `at` on
  unfoldable pub Regular : ℕ → ℕ → List ℕ → Type 0
  Regular zero at b = Unit
  Regular (suc n) at b = Holds at b × Regular n (at + C.width) b

  -- the bytes of a list of elements
  unfoldable pub bytes : List A → List ℕ
  bytes [] = []
  bytes (x ∷ l) = C.enc x ++ bytes l
