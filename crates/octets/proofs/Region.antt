-- Laws of a region of blocks of equal width: what a store of one block does to its element, and to the others.
use Prim.Native.Nat.{ℕ, zero, suc, ◌+◌, ◌*◌, ◌≤◌, ◌<◌}
use native.Mathlib.Nat.{add-zero, mul-suc, mul-zero}
use native.Mathlib.Omega.{arith}
use mathlib.Core.Path.{◌≡◌, refl, sym, ap}
use mathlib.Core.List.{List}
use lib.ListN.{length, get_or, set}
use Rattle.octets.specs.Bytes.{part, over}
use Rattle.octets.specs.Region.{Codec, place, region, Holds, Regular, bytes}
use Rattle.octets.proofs.Part.{part_same, part_below, part_above, part-add}

pub place_is : (w at i : ℕ) → place w at i ≡ at + w * i
unfolding place
place_is w at zero = rw mul-zero (sym (add-zero at))
place_is w at (suc i) = rw (place_is w (at + w) i, mul-suc) (omega arith)

pub place_up : (w at i : ℕ) → at ≤ place w at i
unfolding place
place_up w at zero = omega arith
place_up w at (suc i) = let h : at + w ≤ place w (at + w) i = place_up w (at + w) i in omega arith

-- block i ends before the region does
pub place_in : (w at i n : ℕ) → i < n → place w at i + w ≤ place w at n
unfolding place
place_in w at zero (suc n) h = place_up w (at + w) n
place_in w at (suc i) (suc n) h = place_in w (at + w) i n (omega arith)
place_in w at i zero h = absurd (omega arith)

pub record Lawful {A : Type 0} (C : Codec A) : Type 0 where
  pub long : (x : A) → length (C.enc x) ≡ C.width
  pub back : (x : A) → C.Ok x → C.dec (C.enc x) ≡ x

module _ {A : Type 0} (C : Codec A) where
  pub region_length : (n at : ℕ) (b : List ℕ) → length (region C n at b) ≡ n
  unfolding region
  region_length zero at b = refl
  region_length (suc n) at b = ap suc (region_length n (at + C.width) b)

  pub region_get : (n at i : ℕ) (b : List ℕ) (d : A) → i < n → get_or (region C n at b) i d ≡ C.dec (part (place C.width at i) C.width b)
  unfolding region place
  region_get zero at i b d h = absurd (omega arith)
  region_get (suc n) at zero b d h = refl
  region_get (suc n) at (suc i) b d h = region_get n (at + C.width) i b d (omega arith)

  pub regular_get : (n at i : ℕ) (b : List ℕ) → i < n → Regular C n at b → Holds C (place C.width at i) b
  unfolding Regular place
  regular_get zero at i b h r = absurd (omega arith)
  regular_get (suc n) at zero b h r = r.0
  regular_get (suc n) at (suc i) b h r = regular_get n (at + C.width) i b (omega arith) r.1

  pub holds_as : (at : ℕ) (b b' : List ℕ) → part at C.width b' ≡ part at C.width b → Holds C at b → Holds C at b'
  holds_as at b b' e h = record { same = rw e h.same; ok = rw e h.ok }

  -- a store that ends before the region or starts after it leaves the elements
  pub region_after : (n at k : ℕ) (s b : List ℕ) → k + length s ≤ at → k + length s ≤ length b → region C n at (over k s b) ≡ region C n at b
  unfolding region
  region_after zero at k s b h l = refl
  region_after (suc n) at k s b h l = rw (part_above k at C.width s b h l, region_after n (at + C.width) k s b (omega arith) l)

  pub regular_after : (n at k : ℕ) (s b : List ℕ) → k + length s ≤ at → k + length s ≤ length b → Regular C n at b → Regular C n at (over k s b)
  unfolding Regular
  regular_after zero at k s b h l r = tt
  regular_after (suc n) at k s b h l r = (holds_as at b (over k s b) (part_above k at C.width s b h l) r.0, regular_after n (at + C.width) k s b (omega arith) l r.1)

  pub region_before : (n at k : ℕ) (s b : List ℕ) → place C.width at n ≤ k → k ≤ length b → region C n at (over k s b) ≡ region C n at b
  unfolding region place
  region_before zero at k s b h l = refl
  region_before (suc n) at k s b h l =
      let u : at + C.width ≤ place C.width (at + C.width) n = place_up C.width (at + C.width) n in
      rw (part_below k at C.width s b (omega arith) l, region_before n (at + C.width) k s b h l)

  pub regular_before : (n at k : ℕ) (s b : List ℕ) → place C.width at n ≤ k → k ≤ length b → Regular C n at b → Regular C n at (over k s b)
  unfolding Regular place
  regular_before zero at k s b h l r = tt
  regular_before (suc n) at k s b h l r =
      let u : at + C.width ≤ place C.width (at + C.width) n = place_up C.width (at + C.width) n in
      (holds_as at b (over k s b) (part_below k at C.width s b (omega arith) l) r.0, regular_before n (at + C.width) k s b h l r.1)

  -- a store of block i replaces element i and leaves the others
  module _ (L : Lawful C) (x : A) (ok : C.Ok x) (b : List ℕ) where
    pub region_put : (n at i : ℕ) → i < n → place C.width at n ≤ length b → region C n at (over (place C.width at i) (C.enc x) b) ≡ set (region C n at b) i x
    unfolding region place
    region_put zero at i h l = absurd (omega arith)
    region_put (suc n) at zero h l =
        let u : at + C.width ≤ place C.width (at + C.width) n = place_up C.width (at + C.width) n in
        let w = L.long x in
        rw (part_same at C.width (C.enc x) b w (omega arith), L.back x ok, region_after n (at + C.width) at (C.enc x) b (omega arith) (omega arith))
    region_put (suc n) at (suc i) h l =
        let u : at + C.width ≤ place C.width (at + C.width) i = place_up C.width (at + C.width) i in
        let v = place_in C.width (at + C.width) i n (omega arith) in
        rw (part_below (place C.width (at + C.width) i) at C.width (C.enc x) b (omega arith) (omega arith), region_put n (at + C.width) i (omega arith) l)

    pub holds_put : (at : ℕ) → at + C.width ≤ length b → Holds C at (over at (C.enc x) b)
    holds_put at l =
        let e = part_same at C.width (C.enc x) b (L.long x) l in
        record { same = rw (e, L.back x ok); ok = rw (e, L.back x ok) ok }

    pub regular_put : (n at i : ℕ) → i < n → place C.width at n ≤ length b → Regular C n at b → Regular C n at (over (place C.width at i) (C.enc x) b)
    unfolding Regular place
    regular_put zero at i h l r = absurd (omega arith)
    regular_put (suc n) at zero h l r =
        let u : at + C.width ≤ place C.width (at + C.width) n = place_up C.width (at + C.width) n in
        let w = L.long x in
        (holds_put at (omega arith), regular_after n (at + C.width) at (C.enc x) b (omega arith) (omega arith) r.1)
    regular_put (suc n) at (suc i) h l r =
        let u : at + C.width ≤ place C.width (at + C.width) i = place_up C.width (at + C.width) i in
        let v = place_in C.width (at + C.width) i n (omega arith) in
        let k = place C.width (at + C.width) i in
        (holds_as at b (over k (C.enc x) b) (part_below k at C.width (C.enc x) b (omega arith) (omega arith)) r.0, regular_put n (at + C.width) i (omega arith) l r.1)

  -- the elements give the bytes
  pub regular_bytes : (n at : ℕ) (b : List ℕ) → Regular C n at b → part at (place C.width 0 n) b ≡ bytes C (region C n at b)
  unfolding Regular region bytes place part
  regular_bytes zero at b r = refl
  regular_bytes (suc n) at b r =
      let e : place C.width (0 + C.width) n ≡ C.width + place C.width 0 n = rw (place_is C.width (0 + C.width) n, place_is C.width 0 n) (omega arith) in
      rw (e, part-add at C.width (place C.width 0 n) b, regular_bytes n (at + C.width) b r.1, ← r.0.same)
