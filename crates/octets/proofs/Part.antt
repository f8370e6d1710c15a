-- Laws of `part` and `over`: what a store leaves, stores side by side, and parts that are lent and come back.
use Prim.Native.Nat.{ℕ, zero, suc, ◌+◌, ◌-◌, ◌≤◌, ◌<◌, min}
use native.Mathlib.Nat.{add-zero, zero-add, suc-add}
use native.Mathlib.Numerals.{add-one}
use native.Mathlib.Omega.{arith}
use mathlib.Core.Path.{◌≡◌, refl, sym, ap, ◌∙◌}
use mathlib.Core.List.{List, [], ◌∷◌, ◌++◌, append-nil, append_assoc}
use lib.ListN.{length, get_or, set, take, drop, length-drop, length-append, drop_of_length-le, take-append-drop}
use lib.Seq.{take_all, take-nil, drop-drop, length-take-le, take_at, drop_at, take-append-le, drop-append-le, drop-append-add, set_split, take-take, take-add, drop-cons}
use Rattle.octets.specs.Bytes.{part, over, lay}

pub length_part : (at n : ℕ) (b : List ℕ) → at + n ≤ length b → length (part at n b) ≡ n
unfolding part
length_part at n b h = length-take-le n (drop at b) (rw length-drop (omega arith))

pub length_over : (at : ℕ) (s b : List ℕ) → at + length s ≤ length b → length (over at s b) ≡ length b
unfolding over
length_over at s b h = let t : at ≤ length b = omega arith in rw (length-append, length-append, length-drop, length-take-le at b t) (omega arith)

-- dropping the length of xs and n more from xs ++ ys drops n from ys
drop_more : {A : Type 0} (xs ys : List A) (k n : ℕ) → k ≡ length xs + n → drop k (xs ++ ys) ≡ drop n ys
drop_more xs ys k n e = rw e (drop-append-add xs ys n)

-- a part that lies within the first w bytes is the same part of the whole
part-take : (k n w : ℕ) (b : List ℕ) → k + n ≤ w → take n (drop k (take w b)) ≡ take n (drop k b)
part-take zero n w b e = take-take n w b (omega arith)
part-take (suc k) n zero b e = let z : n ≡ 0 = omega arith in rw z
part-take (suc k) n (suc w) [] e = refl
part-take (suc k) n (suc w) (x ∷ b) e = part-take k n w b (omega arith)

-- what was stored is there
pub part_same : (at n : ℕ) (s b : List ℕ) → length s ≡ n → at + n ≤ length b → part at n (over at s b) ≡ s
unfolding part over
part_same at n s b e h =
    let l : length (take at b) ≡ at = length-take-le at b (omega arith) in
    rw (drop_at (take at b) (s ++ drop (at + length s) b) at l, take_at s (drop (at + length s) b) n e)

-- a part that ends before a store is untouched
pub part_below : (at k n : ℕ) (s b : List ℕ) → k + n ≤ at → at ≤ length b → part k n (over at s b) ≡ part k n b
unfolding part over
part_below at k n s b e h =
    let l : length (take at b) ≡ at = length-take-le at b h in
    let m : n + k ≤ length (take at b) = omega arith in
    let d : k ≤ length (take at b) = omega arith in
    rw (drop-append-le k (take at b) (s ++ drop (at + length s) b) d, take-append-le n (drop k (take at b)) (s ++ drop (at + length s) b) (rw length-drop (omega arith))) (part-take k n at b e)

-- what lies past a store stays
pub drop-over : (k at : ℕ) (s b : List ℕ) → at + length s ≤ k → at + length s ≤ length b → drop k (over at s b) ≡ drop k b
unfolding over
drop-over k at s b e h =
    let l : length (take at b) ≡ at = length-take-le at b (omega arith) in
    let j = k - (at + length s) in
    let f : k ≡ length (take at b) + (length s + j) = omega arith in
    let g : (at + length s) + j ≡ k = omega arith in
    rw (drop_more (take at b) (s ++ drop (at + length s) b) k (length s + j) f, drop-append-add s (drop (at + length s) b) j, drop-drop j (at + length s) b, g)

-- a part that starts after a store is untouched
pub part_above : (at k n : ℕ) (s b : List ℕ) → at + length s ≤ k → at + length s ≤ length b → part k n (over at s b) ≡ part k n b
unfolding part
part_above at k n s b e h = rw (drop-over k at s b e h)

-- a store of one byte
pub over-set : (at x : ℕ) (b : List ℕ) → at < length b → set b at x ≡ over at (x ∷ []) b
unfolding over
over-set at x b h = rw (set_split b at x h, add-one)

-- two stores side by side are one
pub over-over : (at k : ℕ) (s t b : List ℕ) → at + length s ≡ k → k + length t ≤ length b → over k t (over at s b) ≡ over at (s ++ t) b
unfolding over
over-over at k s t b e h =
    let l : length (take at b) ≡ at = length-take-le at b (omega arith) in
    let m : length (take at b ++ s) ≡ k = rw length-append (omega arith) in
    let q : k + length t ≡ length (take at b ++ s) + length t = omega arith in
    let u : (at + length s) + length t ≡ at + (length s + length t) = omega arith in
    rw (
      ← append_assoc (take at b) s (drop (at + length s) b),
      take_at (take at b ++ s) (drop (at + length s) b) k m,
      drop_more (take at b ++ s) (drop (at + length s) b) (k + length t) (length t) q,
      drop-drop (length t) (at + length s) b,
      u,
      append_assoc (take at b) s (t ++ drop (at + (length s + length t)) b),
      length-append s t,
      append_assoc s t (drop (at + (length s + length t)) b),
    )

-- what is lent as `&mut b[at..e]` and comes back as s
pub over-part : (at e : ℕ) (s b : List ℕ) → at ≤ e → e ≤ length b → length s ≡ e - at → take at b ++ (s ++ drop (e - at) (drop at b)) ≡ over at s b
unfolding over
over-part at e s b h k l = rw (drop-drop (e - at) at b, l)

-- a part of a part
pub part-part : (at k n w : ℕ) (b : List ℕ) → k + n ≤ w → part k n (part at w b) ≡ part (at + k) n b
unfolding part
part-part at k n w b h = part-take k n w (drop at b) h ∙ rw (drop-drop k at b)

pub part-add : (at m n : ℕ) (b : List ℕ) → part at (m + n) b ≡ part at m b ++ part (at + m) n b
unfolding part
part-add at m n b = rw (take-add m n (drop at b), drop-drop m at b)

pub part_one : (at : ℕ) (b : List ℕ) → at < length b → part at 1 b ≡ get_or b at 0 ∷ []
unfolding part
part_one at b h = rw (drop-cons b at 0 h)

-- past the end there is nothing
pub part_past : (at n : ℕ) (b : List ℕ) → length b ≤ at → part at n b ≡ []
unfolding part
part_past at n b h = rw (drop_of_length-le b h) (take-nil n)

pub part-whole : (n : ℕ) (b : List ℕ) → length b ≡ n → part 0 n b ≡ b
unfolding part
part-whole n b e = take_all n b (omega arith)

-- a store over the whole buffer
pub over-whole : (n : ℕ) (s b : List ℕ) → length s ≡ n → length b ≡ n → over 0 s b ≡ s
unfolding over
over-whole n s b e h = let z : length b ≤ 0 + length s = omega arith in rw (drop_of_length-le b z, append-nil s)

pub over-nil : (at : ℕ) (b : List ℕ) → over at [] b ≡ b
unfolding over
over-nil at b = rw add-zero (take-append-drop at b)

-- a block of w bytes lent as `&b[at..at + w]`, and as `&mut b[at..at + w]` that comes back as s
pub lent : (at w : ℕ) (b : List ℕ) → take ((at + w) - at) (drop at b) ≡ part at w b
unfolding part
lent at w b = let e : (at + w) - at ≡ w = omega arith in rw e

pub lent_back : (at w : ℕ) (s b : List ℕ) → length s ≡ w → at + w ≤ length b → take at b ++ (s ++ drop ((at + w) - at) (drop at b)) ≡ over at s b
lent_back at w s b e h = over-part at (at + w) s b (omega arith) h (omega arith)

-- `&mut b[at..]`, lent on, that comes back with v over its front
pub lent_front : (at : ℕ) (v b : List ℕ) {e : List ℕ} → at + length v ≤ length b → e ≡ v ++ drop (length v) (take (length b - at) (drop at b)) → take at b ++ (e ++ drop (length b - at) (drop at b)) ≡ over at v b
unfolding over
lent_front at v b h u =
    let l : length (drop at b) ≤ length b - at = rw length-drop (omega arith) in
    rw (u, take_all (length b - at) (drop at b) l, drop_of_length-le (drop at b) l, append-nil (v ++ drop (length v) (drop at b)), drop-drop (length v) at b)

-- ---- bytes laid over a buffer, as far as they fit

pub lay-nil : (at : ℕ) (b : List ℕ) → lay at [] b ≡ b
unfolding lay
lay-nil at [] = refl
lay-nil zero (y ∷ b) = refl
lay-nil (suc at) (y ∷ b) = ap (λ (l : List ℕ). y ∷ l) (lay-nil at b)

-- past the end nothing is laid
pub lay_past : (at : ℕ) (s b : List ℕ) → length b ≤ at → b ≡ lay at s b
unfolding lay
lay_past at s [] h = refl
lay_past zero s (y ∷ b) h = absurd (omega arith)
lay_past (suc at) s (y ∷ b) h = ap (λ (l : List ℕ). y ∷ l) (lay_past at s b (omega arith))

-- a store of one byte
pub lay-set : (at x : ℕ) (b : List ℕ) → set b at x ≡ lay at (x ∷ []) b
unfolding lay
lay-set at x [] = refl
lay-set zero x (y ∷ b) = ap (λ (l : List ℕ). x ∷ l) (sym (lay-nil zero b))
lay-set (suc at) x (y ∷ b) = ap (λ (l : List ℕ). y ∷ l) (lay-set at x b)

-- two stores side by side are one
pub lay-next : (at : ℕ) (s t b : List ℕ) → lay (at + length s) t (lay at s b) ≡ lay at (s ++ t) b
unfolding lay
lay-next at s t [] = refl
lay-next zero [] t (y ∷ b) = refl
lay-next zero (x ∷ s) t (y ∷ b) = rw zero-add (ap (λ (l : List ℕ). x ∷ l) (rw zero-add at (lay-next zero s t b)))
lay-next (suc at) s t (y ∷ b) = rw suc-add (ap (λ (l : List ℕ). y ∷ l) (lay-next at s t b))

pub lay-lay : (at k : ℕ) (s t b : List ℕ) → at + length s ≡ k → lay k t (lay at s b) ≡ lay at (s ++ t) b
lay-lay at k s t b e = rw (sym e) (lay-next at s t b)

-- where all of it fits, it is a plain store
pub lay_fits : (at : ℕ) (s b : List ℕ) → at + length s ≤ length b → lay at s b ≡ over at s b
unfolding lay over
lay_fits zero [] [] h = refl
lay_fits (suc at) s [] h = absurd (omega arith)
lay_fits zero (x ∷ s) [] h = absurd (omega arith)
lay_fits zero [] (y ∷ b) h = refl
lay_fits zero (x ∷ s) (y ∷ b) h = rw zero-add (ap (λ (l : List ℕ). x ∷ l) (rw zero-add at (lay_fits zero s b (omega arith))))
lay_fits (suc at) s (y ∷ b) h = rw suc-add (ap (λ (l : List ℕ). y ∷ l) (lay_fits at s b (omega arith)))

-- a store over the front
pub lay_front : (s b : List ℕ) → length s ≤ length b → lay 0 s b ≡ s ++ drop (length s) b
unfolding over
lay_front s b h = rw zero-add at (lay_fits 0 s b (omega arith))

-- what would lie past the end of b may be cut off first
pub lay_clip : (n : ℕ) (s b : List ℕ) → min (length s) (length b) ≤ n → lay 0 (take n s) b ≡ lay 0 s b
unfolding lay
lay_clip n s [] h = refl
lay_clip zero [] (y ∷ b) h = refl
lay_clip zero (x ∷ s) (y ∷ b) h = absurd (omega arith)
lay_clip (suc n) [] (y ∷ b) h = refl
lay_clip (suc n) (x ∷ s) (y ∷ b) h = ap (λ (l : List ℕ). x ∷ l) (lay_clip n s b (omega arith))
