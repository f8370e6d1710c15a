-- Laws of `le` and `num`: each undoes the other, and two numbers side by side are one of twice the width.
use Prim.Native.Nat.{ℕ, zero, suc, ◌+◌, ◌-◌, ◌*◌, ◌/◌, ◌%◌, ◌≤◌, ◌<◌}
use native.Mathlib.Nat.{add_comm, mul_comm, mul-add, mul_assoc, mod-lt, div-add-mod}
use native.Mathlib.Omega.{arith}
use mathlib.Core.Path.{◌≡◌, refl, sym, ap, ◌∙◌}
use mathlib.Core.List.{List, [], ◌∷◌, ◌++◌, append-nil}
use lib.Dec.{leb}
use borrow.Author.Tests.{leb-true, leb-false}
use lib.ListN.{length, get_or, take, drop, length-append}
use mir.Syntax.{w8}
use mir.Val.{Fits}
use Rattle.octets.specs.Bytes.{le, num, part, over, lay, pack, puts}
use Rattle.octets.proofs.Bools.{bool_cases}
use Rattle.octets.proofs.Part.{part-add, part_past, part-whole, length_part, over-whole, lent, lent_back, lay-lay, lay-nil, lay_fits}

pub length-le : (w x : ℕ) → length (le w x) ≡ w
unfolding le
length-le zero x = refl
length-le (suc w) x = ap suc (length-le w (x / 256))

-- 256 to the power w
unfoldable pub top : ℕ → ℕ
top zero = 1
top (suc w) = 256 * top w

top_pos : (w : ℕ) → 0 < top w
unfolding top
top_pos zero = omega arith
top_pos (suc w) = let h = top_pos w in omega arith

pub num-le : (w x : ℕ) → x < top w → num (le w x) ≡ x
unfolding le num top
num-le zero x h = omega arith
num-le (suc w) x h = let i : num (le w (x / 256)) ≡ x / 256 = num-le w (x / 256) (omega arith) in omega arith

-- each number is below 256
unfoldable pub Bytes : List ℕ → Type 0
Bytes [] = Unit
Bytes (b ∷ l) = (b < 256) × Bytes l

pub bytes_le : (w x : ℕ) → Bytes (le w x)
unfolding le Bytes
bytes_le zero x = tt
bytes_le (suc w) x = (omega arith, bytes_le w (x / 256))

pub bytes_append : (s t : List ℕ) → Bytes s → Bytes t → Bytes (s ++ t)
unfolding Bytes
bytes_append [] t p q = q
bytes_append (x ∷ s) t p q = (p.0, bytes_append s t p.1 q)

-- the elements of a slice of bytes are below 256
pub bytes_slice : (s : List ℕ) → ((i : ℕ) → Fits w8 (get_or s i 0)) → Bytes s
unfolding Bytes
bytes_slice [] h = tt
bytes_slice (x ∷ s) h = ((h 0).fits, bytes_slice s (λ i. h (suc i)))

pub bytes_part : (at n : ℕ) (s : List ℕ) → Bytes s → Bytes (part at n s)
unfolding Bytes part
bytes_part zero zero s p = tt
bytes_part zero (suc n) [] p = tt
bytes_part zero (suc n) (x ∷ s) p = (p.0, bytes_part zero n s p.1)
bytes_part (suc at) zero s p = tt
bytes_part (suc at) (suc n) [] p = tt
bytes_part (suc at) (suc n) (x ∷ s) p = bytes_part at (suc n) s p.1

pub le-num : (s : List ℕ) → Bytes s → le (length s) (num s) ≡ s
unfolding le num Bytes
le-num [] p = refl
le-num (x ∷ s) p =
    let b : x < 256 = p.0 in
    let m : (x + 256 * num s) % 256 ≡ x = omega arith in
    let d : (x + 256 * num s) / 256 ≡ num s = omega arith in
    rw (m, d, le-num s p.1)

pub num-append : (s t : List ℕ) → num (s ++ t) ≡ num s + top (length s) * num t
unfolding num top
num-append [] t = omega arith
num-append (x ∷ s) t = rw (num-append s t, mul-add 256 (num s) (top (length s) * num t), ← mul_assoc 256 (top (length s)) (num t)) (omega arith)

-- a number from its low and its high part
pub le_pair : (n m a b : ℕ) → a < top n → b < top m → le n a ++ le m b ≡ le (n + m) (a + top n * b)
le_pair n m a b p q =
    let s = le n a ++ le m b in
    let e : num s ≡ a + top n * b = rw (num-append (le n a) (le m b), length-le n a, num-le n a p, num-le m b q) in
    let l : length s ≡ n + m = rw (length-append, length-le n a, length-le m b) in
    sym (rw (l, e) at (le-num s (bytes_append (le n a) (le m b) (bytes_le n a) (bytes_le m b))))

-- two fields side by side are one field
pub field_pair : (at m n : ℕ) (b : List ℕ) → num (part at (m + n) b) ≡ num (part at m b) + top m * num (part (at + m) n b)
unfolding num
field_pair at m n b =
    bool_cases (leb (at + m) (length b))
    (λ e. rw (part-add at m n b, num-append (part at m b) (part (at + m) n b), length_part at m b (leb-true (at + m) (length b) e)))
    (λ e. let h = leb-false (at + m) (length b) e in rw (part-add at m n b, part_past (at + m) n b (omega arith), append-nil (part at m b)) (omega arith))

pub get_pair : (at n k : ℕ) (b : List ℕ) {x y r : ℕ} → x ≡ num (part at n b) → y ≡ num (part (at + n) n b) → n + n ≡ k → r ≡ x + y * top n → r ≡ num (part at k b)
get_pair at n k b u v w z = z ∙ rw (u, v, ← w, field_pair at n n b, mul_comm (top n) (num (part (at + n) n b)))

-- past the end there is nothing to read
pub get_past : (at n : ℕ) (b : List ℕ) → length b ≤ at → 0 ≡ num (part at n b)
unfolding num
get_past at n b h = rw (part_past at n b h)

-- the number that bytes hold, written out again, gives those bytes
pub le-field : (at w : ℕ) (s : List ℕ) → at + w ≤ length s → Bytes s → le w (num (part at w s)) ≡ part at w s
le-field at w s h p = rw (length_part at w s h) at (le-num (part at w s) (bytes_part at w s p))

-- two stores side by side, of a number's low and high half
pub put_pair : (at n k x : ℕ) (b : List ℕ) {e f : List ℕ} → e ≡ lay at (le n (x % top n)) b → f ≡ lay (at + n) (le n (x / top n)) e → n + n ≡ k → x / top n < top n → f ≡ lay at (le k x) b
put_pair at n k x b u v w q =
    let l = length-le n (x % top n) in
    let z : x % top n + top n * (x / top n) ≡ x = add_comm (x % top n) (top n * (x / top n)) ∙ div-add-mod x (top n) in
    v ∙ rw (u, lay-lay at (at + n) (le n (x % top n)) (le n (x / top n)) b (omega arith), le_pair n n (x % top n) (x / top n) (mod-lt x (top_pos n)) q, z, w)

-- the stores of a row of fields, one after the other, are one store of their bytes
pub puts-lay : (at : ℕ) (fs : List (ℕ × ℕ)) (b : List ℕ) → puts at fs b ≡ lay at (pack fs) b
unfolding puts pack
puts-lay at [] b = sym (lay-nil at b)
puts-lay at (f ∷ fs) b =
    let w = length-le f.0 f.1 in
    rw (puts-lay (at + f.0) fs (lay at (le f.0 f.1) b), lay-lay at (at + f.0) (le f.0 f.1) (pack fs) b (omega arith))

-- a number read from `&b[at..at + w]`, and one stored to `&mut b[at..at + w]`, which comes back as e
pub window_read : (at w : ℕ) (b : List ℕ) {x : ℕ} → x ≡ num (part 0 w (take ((at + w) - at) (drop at b))) → at + w ≤ length b → x ≡ num (part at w b)
window_read at w b q h = q ∙ rw (lent at w b, part-whole w (part at w b) (length_part at w b h))

pub window_store : (at w x : ℕ) (b : List ℕ) {e : List ℕ} → e ≡ lay 0 (le w x) (take ((at + w) - at) (drop at b)) → at + w ≤ length b → take at b ++ (e ++ drop ((at + w) - at) (drop at b)) ≡ over at (le w x) b
window_store at w x b q h =
    let k = length_part at w b h in
    let l = length-le w x in
    let z = lay_fits 0 (le w x) (part at w b) (omega arith) ∙ over-whole w (le w x) (part at w b) l k in
    rw (q, lent at w b, z) (lent_back at w (le w x) b l h)
