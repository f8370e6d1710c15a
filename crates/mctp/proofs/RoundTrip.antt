-- A header and a type byte that were encoded are read back, since each field stands at its own bits.
use Prim.Native.Nat.{ℕ, zero, suc, ◌+◌, ◌*◌, ◌/◌, ◌%◌, ◌≤◌, ◌<◌}
use native.Mathlib.Nat.{mul-add-div, mul-add-mod_self_left, div-eq_of_lt, mod-eq_of_lt, add-zero}
use native.Mathlib.Omega.{arith}
use mathlib.Core.Path.{◌≡◌, ap}
use mathlib.Core.Bool.{Bool, true, false}
use mathlib.Core.List.{List, [], ◌∷◌, ◌++◌}
use lib.ListN.{length}
use lib.Dec.{eqb}
use borrow.Author.Tests.{le-ltb}
use Rattle.std.specs.Prelude.{Option, Some}
use Rattle.octets.specs.Pick.{pick}
use Rattle.mctp.specs.declared.Header.{Header}
use Rattle.mctp.specs.declared.MsgType.{MsgType}
use Rattle.mctp.specs.declared.MsgIC.{MsgIC}
use Rattle.mctp.specs.Header.{header_of, header_bytes, fields_of, flags_of, bit, type_byte, type_of}

abbrev one : Bool → ℕ
one true = 1
one false = 0

bit_is : (b : Bool) (n : ℕ) → (bit b n ≡ one b * n) × (one b ≤ 1)
bit_is true n = omega arith
bit_is false n = omega arith

one_is : (b : Bool) (n : ℕ) → n ≡ one b → eqb n 1 ≡ b
one_is true n e = rw e
one_is false n e = rw e

-- the digit d in base m that stands above the digits below b
digit : (b m u d lo : ℕ) → lo < b → d < m → (b * (m * u + d) + lo) / b % m ≡ d
digit b m u d lo l h =
    let pos : 0 < b = omega arith in
    rw (mul-add-div pos (m * u + d) lo, div-eq_of_lt l, add-zero (m * u + d), mul-add-mod_self_left m u d) (mod-eq_of_lt h)

-- byte 3 as its five fields
module _ (a e q o t : ℕ) (one-a : a ≤ 1) (one-e : e ≤ 1) (low : q < 4) (one-o : o ≤ 1) (small : t < 8) where
  abbrev word : ℕ
  word = a * 128 + (e * 64 + (q * 16 + (o * 8 + t)))

  at : (b m u d lo : ℕ) → word ≡ b * (m * u + d) + lo → lo < b → d < m → word / b % m ≡ d
  at b m u d lo is l k = rw is (digit b m u d lo l k)

  fields_of_lem : (word / 128 ≡ a) × (word / 64 % 2 ≡ e) × (word / 16 % 4 ≡ q) × (word / 8 % 2 ≡ o) × (word % 8 ≡ t)
  fields_of_lem = (
    omega arith,
    at 64 2 a e (q * 16 + (o * 8 + t)) (omega arith) (omega arith) (omega arith),
    at 16 4 (2 * a + e) q (o * 8 + t) (omega arith) (omega arith) low,
    at 8 2 (8 * a + (4 * e + q)) o t (omega arith) small (omega arith),
    omega arith,
  )

module _ (h : Header) (number : h.seq < 4) (tag : h.key.tag.0 < 8) where
  fields_back : fields_of h.key.dest.0 h.key.source.0 (flags_of h) ≡ h
  fields_back =
      let a = bit_is h.som 128 in
      let e = bit_is h.eom 64 in
      let o = bit_is h.key.owner 8 in
      let is : flags_of h ≡ word (one h.som) (one h.eom) h.seq (one h.key.owner) h.key.tag.0 a.1 e.1 number o.1 tag =
      rw (a.0, e.0, o.0, mod-eq_of_lt number, mod-eq_of_lt tag) in
      let f = fields_of_lem (one h.som) (one h.eom) h.seq (one h.key.owner) h.key.tag.0 a.1 e.1 number o.1 tag in
      let som = one_is h.som (flags_of h / 128) (rw is f.0) in
      let eom = one_is h.eom (flags_of h / 64 % 2) (rw is f.1) in
      let seq : flags_of h / 16 % 4 ≡ h.seq = rw is f.2 in
      let owner = one_is h.key.owner (flags_of h / 8 % 2) (rw is f.3) in
      let low : flags_of h % 8 ≡ h.key.tag.0 = rw is f.4 in
      λ i. record {
        key = record { source = h.key.source; dest = h.key.dest; owner = owner i; tag = record { 0 = low i } };
        som = som i;
        eom = eom i;
        seq = seq i;
      }

  pub read_back : (rest : List ℕ) → header_of (header_bytes h ++ rest) ≡ Some h
  unfolding header_of pick
  read_back rest = rw (le-ltb (length (header_bytes h ++ rest)) 4 (omega arith)) (ap {B = Option Header} Some fields_back)

pub type_back : (typ : MsgType) (ic : MsgIC) → typ.0 < 128 → type_of (type_byte typ ic) ≡ record { typ = typ; ic = ic }
type_back typ ic small =
    let b = type_byte typ ic in
    let s = bit_is ic.0 128 in
    let i = one_is ic.0 (b / 128) (omega arith) in
    let t : b % 128 ≡ typ.0 = omega arith in
    λ j. record { typ = record { 0 = t j }; ic = record { 0 = i j } }

-- a digit below 2, as a bit and back
bit_back : (x n : ℕ) → x < 2 → bit (eqb x 1) n ≡ x * n
bit_back zero n h = omega arith
bit_back (suc zero) n h = omega arith
bit_back (suc (suc x)) n h = absurd (omega arith)

-- the low digits of a byte, one more at a time
tag_digit : (f : ℕ) → f / 8 % 2 * 8 + f % 8 % 8 ≡ f % 16
tag_digit f = omega arith

number_digit : (f : ℕ) → f / 16 % 4 % 4 * 16 + f % 16 ≡ f % 64
number_digit f = omega arith

eom_digit : (f : ℕ) → f / 64 % 2 * 64 + f % 64 ≡ f % 128
eom_digit f = omega arith

som_digit : (f : ℕ) → f / 128 * 128 + f % 128 ≡ f
som_digit f = omega arith

flags_back : (d s f : ℕ) → f < 256 → flags_of (fields_of d s f) ≡ f
flags_back d s f h =
    rw (
      bit_back (f / 128) 128 (omega arith),
      bit_back (f / 64 % 2) 64 (omega arith),
      bit_back (f / 8 % 2) 8 (omega arith),
      tag_digit f,
      number_digit f,
      eom_digit f,
    ) (som_digit f)

-- encoding what was read gives the bytes back, except for the reserved bits of byte 0
pub write_back : (d s f : ℕ) → f < 256 → header_bytes (fields_of d s f) ≡ 1 ∷ d ∷ s ∷ f ∷ []
write_back d s f h = ap (λ (x : ℕ). 1 ∷ d ∷ s ∷ x ∷ []) (flags_back d s f h)

pub type_again : (b : ℕ) → b < 256 → type_byte (type_of b).typ (type_of b).ic ≡ b
type_again b h = rw (bit_back (b / 128) 128 (omega arith)) (omega arith)
