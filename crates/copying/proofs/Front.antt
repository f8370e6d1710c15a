-- Laws of a copy by moves: a move of a number's bytes, two moves side by side, and a copied front that further moves extend to the whole.
use Prim.Native.Nat.{ℕ, ◌+◌, ◌-◌, ◌≤◌, ◌<◌}
use native.Mathlib.Nat.{zero-add}
use native.Mathlib.Omega.{arith}
use mathlib.Core.Path.{◌≡◌, refl, sym, ap, ◌∙◌}
use mathlib.Core.List.{List, ◌++◌, append_assoc}
use lib.ListN.{length, get_or, set, take, drop, length-append, length-drop}
use lib.Seq.{take-append-le, take-take, take-add, take-length, drop-drop, drop-append-add, length-take-le}
use mir.Syntax.{w8}
use mir.Val.{Fits}
use Rattle.octets.specs.Bytes.{le, num, part, over}
use Rattle.octets.proofs.Part.{part-add, part_one, length_part, over-over, over-set}
use Rattle.octets.proofs.Number.{bytes_slice, le-field}

-- d with the first n bytes of s over its front
unfoldable pub front : ℕ → List ℕ → List ℕ → List ℕ
front n s d = take n s ++ drop n d

-- a copy from s to d
module _ (s d : List ℕ) where
  -- w bytes read as a number, and stored at the same place
  pub moved : (i w : ℕ) {x : ℕ} {e : List ℕ} → x ≡ num (part i w s) → e ≡ over i (le w x) d → i + w ≤ length s → ((k : ℕ) → Fits w8 (get_or s k 0)) → e ≡ over i (part i w s) d
  moved i w p q h g = q ∙ ap (λ (y : ℕ). over i (le w y) d) p ∙ ap (λ (v : List ℕ). over i v d) (le-field i w s h (bytes_slice s g))

  -- two moves, where the second begins at the end of the first
  pub moved_on : (i j n m k : ℕ) {f : List ℕ} → f ≡ over j (part j m s) (over i (part i n s) d) → i + n ≡ j → n + m ≡ k → i + k ≤ length s → length s ≤ length d → f ≡ over i (part i k s) d
  moved_on i j n m k q y z hs hd =
      let l = length_part i n s (omega arith) in
      let r = length_part j m s (omega arith) in
      q ∙ over-over i j (part i n s) (part j m s) d (omega arith) (omega arith) ∙ ap (λ (v : List ℕ). over i v d) (ap (λ (u : ℕ). part i n s ++ part u m s) (sym y) ∙ sym (part-add i n m s) ∙ ap (λ (w : ℕ). part i w s) z)

  pub front_zero : d ≡ front 0 s d
  unfolding front
  front_zero = refl

  -- m bytes from p, which is in the front or at its end
  pub front_next : (n p m : ℕ) {e f : List ℕ} → e ≡ front n s d → f ≡ over p (part p m s) e → p ≤ n → n ≤ p + m → p + m ≤ length s → f ≡ front (p + m) s d
  unfolding front over part
  front_next n p m u q hp hn hs =
      let ln : length (take n s) ≡ n = length-take-le n s (omega arith) in
      let lm : length (take m (drop p s)) ≡ m = length-take-le m (drop p s) (rw length-drop (omega arith)) in
      let k = p + m - n in
      let t : p + length (take m (drop p s)) ≡ length (take n s) + k = omega arith in
      let r : n + k ≡ p + m = omega arith in
      q ∙ rw (u, t, take-append-le p (take n s) (drop n d) (omega arith), take-take p n s hp, drop-append-add (take n s) (drop n d) k, drop-drop k n d, r, take-add p m s, append_assoc (take p s) (take m (drop p s)) (drop (p + m) d))

  -- one byte by its index, which is in the front or at its end
  pub front_byte : (n p : ℕ) {e f : List ℕ} → e ≡ front n s d → f ≡ set e p (get_or s p 0) → p ≤ n → n ≤ p + 1 → n ≤ length s → p < length s → length s ≤ length d → f ≡ front (p + 1) s d
  unfolding front
  front_byte n p {e = e} u q hp hn hl h k =
      let ln : length (take n s) ≡ n = length-take-le n s hl in
      let l : length e ≡ length d = rw (u, length-append, length-drop, ln) (omega arith) in
      front_next n p 1 u (q ∙ rw (over-set p (get_or s p 0) e (omega arith), part_one p s h)) hp hn (omega arith)

  pub front_all : (n : ℕ) {e : List ℕ} → e ≡ front n s d → n ≡ length s → e ≡ s ++ drop (length s) d
  unfolding front
  front_all n u h = u ∙ rw (h, take-length s)

  -- the last m bytes, which begin in the front or at its end
  pub front_last : (n m : ℕ) {e f : List ℕ} → e ≡ front n s d → f ≡ over (length s - m) (part (length s - m) m s) e → n ≤ length s → m ≤ length s → length s ≤ n + m → f ≡ s ++ drop (length s) d
  front_last n m u q hn hm h = front_all (length s - m + m) (front_next n (length s - m) m u q (omega arith) (omega arith) (omega arith)) (omega arith)

  -- the first m bytes
  pub front_first : (m : ℕ) {e : List ℕ} → e ≡ over 0 (part 0 m s) d → m ≤ length s → e ≡ front m s d
  front_first m p h = rw zero-add at (front_next 0 0 m front_zero p (omega arith) (omega arith) (omega arith))

  -- the first m and the last m
  pub both_ends : (m : ℕ) {e f : List ℕ} → e ≡ over 0 (part 0 m s) d → f ≡ over (length s - m) (part (length s - m) m s) e → m ≤ length s → length s ≤ m + m → f ≡ s ++ drop (length s) d
  both_ends m p q hm h = front_last m m (front_first m p hm) q hm hm h

  -- the same, where one call moves both
  pub ends_at_once : (m : ℕ) {f : List ℕ} → f ≡ over (length s - m) (part (length s - m) m s) (over 0 (part 0 m s) d) → m ≤ length s → length s ≤ m + m → f ≡ s ++ drop (length s) d
  ends_at_once m q hm h = both_ends m refl q hm h
