-- Laws of tags as bits of a byte: what the used-tag byte of a table says, how one more flow changes it, how many tags it leaves free, and what the
-- search finds. Each holds by induction over the number of bits or of tags, with no case per tag.
use Prim.Native.Nat.{ℕ, zero, suc, ◌+◌, ◌-◌, ◌*◌, ◌/◌, ◌%◌, ◌≤◌, ◌<◌}
use native.Mathlib.Nat.{div-one, zero-add, add-zero, mod-lt, not-suc-le-zero}
use native.Mathlib.Numerals.{add-one}
use native.Mathlib.Decide.{ℕ_discrete}
use native.Mathlib.Omega.{arith}
use mathlib.Core.Path.{◌≡◌, refl, sym, ap, ◌∙◌}
use mathlib.Core.Bool.{Bool, true, false, not}
use mathlib.Core.List.{List, [], ◌∷◌, ◌++◌}
use borrow.Author.Tests.{ne_eqb, eq-eqb, lt-ltb, ltb-true, ltb-false, not-true, not-false}
use lib.Count.{ones, ones_step}
use lib.Dec.{eqb, ltb}
use lib.ListN.{length, get_or, take}
use lib.Seq.{take-suc}
use Rattle.std.specs.Prelude.{None, Option, Some}
use Rattle.octets.specs.Pick.{pick, pick_true, pick_false, pick_cases}
use Rattle.octets.specs.Find.{find}
use Rattle.mctp.specs.declared.Eid.{Eid}
use Rattle.mctp.specs.declared.TagValue.{TagValue}
use Rattle.mctp.specs.Terms.{same_eid}
use Rattle.mctp.specs.Header.{bit}
use Rattle.flows.specs.declared.Flow.{Flow}
use Rattle.flows.specs.Tags.{bits_of, is_set, set_bit, marked, turn, is_free_in, free_tag_of, free_count, count_free}
use Rattle.flows.specs.Table.{no_flow, is_flow, standing, used_tags}
use Rattle.octets.proofs.Finds.{find_hit, find_first, find_at, find_none, some_found, some_snoc}
use Rattle.flows.proofs.Bits.{bit_one, halved, set_halved}

-- ---- bits by a test

bit_low : (b : Bool) (m : ℕ) → (bit b 1 + 2 * m) % 2 ≡ bit b 1
bit_low true m = omega arith
bit_low false m = omega arith

bit_high : (b : Bool) (m : ℕ) → (bit b 1 + 2 * m) / 2 ≡ m
bit_high true m = omega arith
bit_high false m = omega arith

bit-count : (b : Bool) (m k n : ℕ) → m + k ≡ n → (bit b 1 + m) + (bit (not b) 1 + k) ≡ suc n
bit-count true m k n e = omega arith
bit-count false m k n e = omega arith

-- setting bit 0
bit_first : (b : Bool) (m : ℕ) → set_bit 0 (bit b 1 + 2 * m) ≡ 1 + 2 * m
unfolding set_bit pick
bit_first true m = rw (div-one, bit_low true m)
bit_first false m = rw (div-one, bit_low false m) (omega arith)

-- bit k of the bits of s, s + 1, ..
pub bits_set : (f : ℕ → Bool) (k s n : ℕ) → k < n → is_set k (bits_of f s n) ≡ f (s + k)
unfolding bits_of
bits_set f k s zero h = absurd (not-suc-le-zero h)
bits_set f zero s (suc n) h = rw (div-one, bit_low (f s) (bits_of f (s + 1) n), bit_one (f s), add-zero)
bits_set f (suc k) s (suc n) h =
    let e : s + 1 + k ≡ s + suc k = omega arith in
    rw (halved k (bit (f s) 1 + 2 * bits_of f (s + 1) n), bit_high (f s) (bits_of f (s + 1) n)) (bits_set f k (s + 1) n (omega arith) ∙ ap f e)

-- tests that agree from s on give the same bits
pub bits_same : (f g : ℕ → Bool) (s n : ℕ) → ((t : ℕ) → s ≤ t → f t ≡ g t) → bits_of f s n ≡ bits_of g s n
unfolding bits_of
bits_same f g s zero e = refl
bits_same f g s (suc n) e = rw (e s (omega arith), bits_same f g (s + 1) n (λ t h. e t (omega arith)))

-- one more bit set
pub bits_more : (f g : ℕ → Bool) (k s n : ℕ) → k < n → g (s + k) ≡ true → ((t : ℕ) → (t ≡ s + k → ⊥) → f t ≡ g t)
    → set_bit k (bits_of f s n) ≡ bits_of g s n
unfolding bits_of
bits_more f g k s zero h y e = absurd (not-suc-le-zero h)
bits_more f g zero s (suc n) h y e =
    rw (bits_same f g (s + 1) n (λ t l. e t (λ q. past s t l q)), sym (ap g (add-zero s)) ∙ y) (bit_first (f s) (bits_of g (s + 1) n))
  where
    past : (s t : ℕ) → s + 1 ≤ t → t ≡ s + 0 → ⊥
    past s t l q = omega arith
bits_more f g (suc k) s (suc n) h y e =
    let q : s + 1 + k ≡ s + suc k = omega arith in
    let m = bits_of f (s + 1) n in
    let i = bits_more f g k (s + 1) n (omega arith) (ap g q ∙ y) (λ t d. e t (λ r. d (r ∙ sym q))) in
    rw (set_halved k (bit (f s) 1 + 2 * m), bit_low (f s) m, bit_high (f s) m, i, e s (λ r. omega arith))

-- the bits that are set and those that are not are n together
pub bits_count : (f : ℕ → Bool) (s n : ℕ) → ones (bits_of f s n) + count_free f s n ≡ n
unfolding bits_of count_free ones
bits_count f s zero = refl
bits_count f s (suc n) =
    let m = bits_of f (s + 1) n in
    rw (ones_step (bit (f s) 1 + 2 * m), bit_low (f s) m, bit_high (f s) m) (bit-count (f s) _ _ n (bits_count f (s + 1) n))

-- none is left out where every one passes, some where one does not
pub all_stand : (f : ℕ → Bool) (s n : ℕ) → ((t : ℕ) → s ≤ t → t < s + n → f t ≡ true) → count_free f s n ≡ 0
unfolding count_free
all_stand f s zero h = refl
all_stand f s (suc n) h =
    let e = h s (omega arith) (omega arith) in
    ap (λ (b : Bool). bit (not b) 1 + count_free f (s + 1) n) e ∙ omega (arith, all_stand f (s + 1) n (λ t a b. h t (omega arith) (omega arith)))

pub one_free : (f : ℕ → Bool) (s n t : ℕ) → s ≤ t → t < s + n → f t ≡ false → 0 < count_free f s n
unfolding count_free
one_free f s zero t a b e = absurd (omega arith)
one_free f s (suc n) t a b e = go (ℕ_discrete s t) (λ l. one_free f (s + 1) n t l (omega arith) e)
  where
    go : Dec (s ≡ t) → (s + 1 ≤ t → 0 < count_free f (s + 1) n) → 0 < bit (not (f s)) 1 + count_free f (s + 1) n
    go (yes q) h = rw (q, e) (omega arith)
    go (no q) h = omega (arith, h (omega (arith, q)))

-- ---- the used-tag byte of a table

abbrev tagged : ℕ → TagValue
tagged t = record { 0 = t }

-- bit t is set exactly when a flow of that peer and tag stands
pub used_is : (peer : Eid) (t : ℕ) (flows : List Flow) → t < 8 → is_set t (used_tags peer flows) ≡ standing peer (record { 0 = t }) flows
used_is peer t flows h = bits_set (λ t. standing peer (tagged t) flows) t 0 8 h ∙ ap (λ (k : ℕ). standing peer (tagged k) flows) (zero-add t)

pub used_none : (peer : Eid) → used_tags peer [] ≡ 0
unfolding bits_of find
used_none peer = refl

-- how many tags no flow has
pub free_counts : (peer : Eid) (flows : List Flow) → free_count (used_tags peer flows) ≡ count_free (λ t. standing peer (record { 0 = t }) flows) 0 8
free_counts peer flows = let e = bits_count (λ t. standing peer (tagged t) flows) 0 8 in omega arith

-- a flow stands in a table with one more place where it stands in the places before, or in that place
pub standing-next : (peer : Eid) (tag : TagValue) (flows : List Flow) (i : ℕ) → i < length flows
    → standing peer tag (take (i + 1) flows) ≡ pick (standing peer tag (take i flows)) true (is_flow peer tag (get_or flows i no_flow))
standing-next peer tag flows i h =
    let p = is_flow peer tag in
    let l = take i flows in
    let x = get_or flows i no_flow in
    rw (add-one i, take-suc flows i no_flow h, some_found p (l ++ (x ∷ [])), some_found p l, some_snoc p l x)

keep : (b : Bool) → pick b true false ≡ b
unfolding pick
keep true = refl
keep false = refl

-- a byte with one more flow's tag, by what is known of the flow
mark_more : (u s : Bool) (k : ℕ) (old : ℕ → Bool) → k < 8
    → bits_of (λ t. pick (old t) true (pick u (pick s (eqb k t) false) false)) 0 8 ≡ pick u (pick s (set_bit k (bits_of old 0 8)) (bits_of old 0 8)) (bits_of old 0 8)
unfolding pick
mark_more true true k old h =
    let z : k ≡ 0 + k = sym (zero-add k) in
    sym (bits_more old (λ t. pick (old t) true (eqb k t)) k 0 8 h (there (old (0 + k)) (eq-eqb k (0 + k) z))
    (λ t d. sym (ap (pick (old t) true) (ne_eqb k t (λ q. d (sym q ∙ z))) ∙ keep (old t))))
  where
    there : (b : Bool) {e : Bool} → e ≡ true → pick b true e ≡ true
    there true y = refl
    there false y = y
mark_more true false k old h = bits_same (λ t. pick (old t) true false) old 0 8 (λ t _. keep (old t))
mark_more false s k old h = bits_same (λ t. pick (old t) true false) old 0 8 (λ t _. keep (old t))

-- the loop over the table: one more place looked at
pub used_next : (peer : Eid) (flows : List Flow) (i : ℕ) → i < length flows → (get_or flows i no_flow).tag.0 < 8
    → used_tags peer (take (i + 1) flows) ≡ marked peer (get_or flows i no_flow) (used_tags peer (take i flows))
unfolding is_flow marked
used_next peer flows i h k =
    let x = get_or flows i no_flow in
    let old : ℕ → Bool = λ t. standing peer (tagged t) (take i flows) in
    let new : ℕ → Bool = λ t. standing peer (tagged t) (take (i + 1) flows) in
    bits_same new (λ t. pick (old t) true (is_flow peer (tagged t) x)) 0 8 (λ t _. standing-next peer (tagged t) flows i h)
    ∙ mark_more x.used (same_eid x.peer peer) x.tag.0 old k

-- ---- the search

-- the tags from start on, by their number
turn_from : ℕ → ℕ → ℕ → List ℕ
turn_from start k zero = []
turn_from start k (suc n) = (start + k) % 8 ∷ turn_from start (suc k) n

turn_from_lem : (start : ℕ) → turn start ≡ turn_from start 0 8
unfolding turn_from
turn_from_lem start = rw (add-zero start)

turn-get : (start k n j : ℕ) → j < n → get_or (turn_from start k n) j 0 ≡ (start + (k + j)) % 8
unfolding turn_from
turn-get start k zero j h = absurd (not-suc-le-zero h)
turn-get start k (suc n) zero h = rw (add-zero k)
turn-get start k (suc n) (suc j) h = let e : suc k + j ≡ k + suc j = omega arith in turn-get start (suc k) n j (omega arith) ∙ ap (λ (m : ℕ). (start + m) % 8) e

pub turn_at : (start k : ℕ) → k < 8 → get_or (turn start) k 0 ≡ (start + k) % 8
turn_at start k h =
    ap (λ (l : List ℕ). get_or l k 0) (turn_from_lem start) ∙ turn-get start 0 8 k h ∙ ap (λ (m : ℕ). (start + m) % 8) (zero-add k)

module _ (used start : ℕ) where
  -- the first free tag is found
  pub free_found : (k : ℕ) → k < 8 → is_free_in used ((start + k) % 8) ≡ true → ((j : ℕ) → j < k → is_free_in used ((start + j) % 8) ≡ false)
      → free_tag_of used start ≡ Some (record { 0 = (start + k) % 8 })
  unfolding free_tag_of
  free_found k h y first =
      let p = is_free_in used in
      let before : (j : ℕ) → j < k → p (get_or (turn start) j 0) ≡ false = λ j l. ap p (turn_at start j (omega arith)) ∙ first j l in
      let at : find p (turn start) ≡ k = find_at p (turn start) k 0 h (ap p (turn_at start k h) ∙ y) before in
      rw at (pick_true (ltb k 8) _ _ (lt-ltb k 8 h))

  -- none is free
  pub free_none : ((j : ℕ) → j < 8 → is_free_in used ((start + j) % 8) ≡ false) → free_tag_of used start ≡ None
  unfolding free_tag_of
  free_none nowhere =
      let at : find (is_free_in used) (turn start) ≡ 8 = find_none (is_free_in used) (turn start) 0 (λ j l. ap (is_free_in used) (turn_at start j l) ∙ nowhere j l) in
      rw at (pick_false (ltb 8 8) _ _ refl)

  -- a free tag, the first one from start on
  pub record Found (t : TagValue) : Type 0 where
    pub below : t.0 < 8
    pub clear : is_set t.0 used ≡ false
    pub turns : ℕ
    pub there : t.0 ≡ (start + turns) % 8
    pub before : (j : ℕ) → j < turns → is_set ((start + j) % 8) used ≡ true

  -- what the search tells: the first free tag, or that all eight are used
  abbrev pub Told : Option TagValue → Type 0
  Told (Some t) = Found t
  Told None = (t : ℕ) → t < 8 → is_set t used ≡ true

  -- the search comes by every tag
  met : (t : ℕ) → t < 8 → (start + (t + (8 - start % 8)) % 8) % 8 ≡ t
  met t h = omega arith

  pub searched : Told (free_tag_of used start)
  unfolding free_tag_of
  searched = pick_cases Told found none
    where
      p : ℕ → Bool
      p = is_free_in used

      k : ℕ
      k = find p (turn start)

      found : ltb k 8 ≡ true → Found (record { 0 = (start + k) % 8 })
      found y =
          let h : k < 8 = ltb-true k 8 y in record {
            below = mod-lt (start + k) (omega arith);
            clear = not-true _ (ap p (sym (turn_at start k h)) ∙ find_hit p (turn start) 0 h);
            turns = k;
            there = refl;
            before = λ j l. not-false _ (ap p (sym (turn_at start j (omega arith))) ∙ find_first p (turn start) j 0 l);
          }

      none : ltb k 8 ≡ false → (t : ℕ) → t < 8 → is_set t used ≡ true
      none n t h =
          let j = (t + (8 - start % 8)) % 8 in
          let l : j < 8 = mod-lt (t + (8 - start % 8)) (omega arith) in
          let m : 8 ≤ k = ltb-false k 8 n in
          not-false _ (ap p (sym (turn_at start j l ∙ met t h)) ∙ find_first p (turn start) j 0 (omega arith))
