-- Laws of `find` and `first`, for a search or a loop that walks a list upward: what it finds, and what a store changes in that.
use Prim.Native.Nat.{ℕ, zero, suc, ◌+◌, ◌≤◌, ◌<◌}
use native.Mathlib.Omega.{arith}
use mathlib.Core.Path.{◌≡◌, refl, sym, ap, ◌∙◌}
use mathlib.Core.List.{List, [], ◌∷◌, ◌++◌}
use mathlib.Core.Bool.{Bool, true, false}
use lib.Dec.{ltb, leb-suc-suc}
use lib.ListN.{length, get_or, set}
use borrow.Author.Tests.{lt-ltb, le-ltb, ltb-true, ltb-false}
use Rattle.std.specs.Prelude.{Option, Some, None, MatchOption, IfSome, unwrap_or}
use Rattle.octets.specs.Pick.{pick, pick_cases}
use Rattle.octets.specs.Find.{placed, find, first}
use Rattle.octets.proofs.Bools.{no_both, bool_cases}

abbrev there : Option ℕ → Bool
there (Some i) = true
there None = false

nothing : {i : ℕ} → ◌≡◌ {A = Option ℕ} None (Some i) → ⊥
nothing e = no_both (ap there e) refl

-- a place as an option
pub placed_some : (size n : ℕ) → n < size → Some n ≡ placed size n
unfolding placed pick
placed_some size n m = rw (lt-ltb n size m)

pub placed_none : (size n : ℕ) → size ≤ n → None ≡ placed size n
unfolding placed pick
placed_none size n m = rw (le-ltb n size m)

pub some_placed : (size n i : ℕ) → placed size n ≡ Some i → (i ≡ n) × (i < size)
unfolding placed
some_placed size n i =
    pick_cases (λ (o : Option ℕ). o ≡ Some i → (i ≡ n) × (i < size))
    (λ t e. let j : n ≡ i = cc in let m = ltb-true n size t in (sym j, omega (arith, j, m)))
    (λ _ e. absurd (nothing e))

pub none_placed : (size n : ℕ) → placed size n ≡ None → size ≤ n
unfolding placed
none_placed size n =
    pick_cases (λ (o : Option ℕ). o ≡ None → size ≤ n)
    (λ _ e. absurd (nothing (sym e)))
    (λ f _. ltb-false n size f)

-- the place is below the size, and is read back where it is at most that
pub placed_below : (size n : ℕ) → IfSome (placed size n) (λ i. i < size)
unfolding placed
placed_below size n = pick_cases (λ (o : Option ℕ). IfSome o (λ i. i < size)) (λ t. ltb-true n size t) (λ _. tt)

pub placed_back : (size n : ℕ) → n ≤ size → unwrap_or (placed size n) size ≡ n
unfolding placed
placed_back size n m =
    pick_cases (λ (o : Option ℕ). unwrap_or o size ≡ n) (λ _. refl) (λ f. let h = ltb-false n size f in omega arith)

-- a place below the size, or the size itself, is read back from the option
pub is_placed : (size n : ℕ) (o : Option ℕ) → IfSome o (λ j. j < size) → unwrap_or o size ≡ n → o ≡ placed size n
is_placed size n None h e = placed_none size n (omega (arith, e))
is_placed size n (Some j) h e = ap Some e ∙ placed_some size n (omega (arith, e, h))

module _ {A : Type 0} (p : A → Bool) where
  pub find_bound : (l : List A) → find p l ≤ length l
  unfolding find
  find_bound [] = omega arith
  find_bound (x ∷ l) = let h = find_bound l in pick_cases (λ (n : ℕ). n ≤ suc (length l)) (λ _. omega arith) (λ _. omega arith)

  -- the place found passes
  pub find_hit : (l : List A) (d : A) → find p l < length l → p (get_or l (find p l) d) ≡ true
  unfolding find
  find_hit [] d = λ h. absurd (omega arith)
  find_hit (x ∷ l) d = pick_cases (λ (n : ℕ). n < suc (length l) → p (get_or (x ∷ l) n d) ≡ true) {x = 0} (λ t _. t) (λ _ (h : suc (find p l) < suc (length l)). find_hit l d (omega arith))

  -- and none before it does
  pub find_first : (l : List A) (k : ℕ) (d : A) → k < find p l → p (get_or l k d) ≡ false
  unfolding find
  find_first [] k d = λ h. absurd (omega arith)
  find_first (x ∷ l) zero d = pick_cases (λ (n : ℕ). 0 < n → p x ≡ false) (λ _ h. absurd (omega arith)) (λ f _. f)
  find_first (x ∷ l) (suc k) d = pick_cases (λ (n : ℕ). suc k < n → p (get_or l k d) ≡ false) (λ _ h. absurd (omega arith)) (λ _ h. find_first l k d (omega arith))

  -- where none passes before i, the place found is not before i
  pub find_least : (l : List A) (i : ℕ) (d : A) → i ≤ length l → ((k : ℕ) → k < i → p (get_or l k d) ≡ false) → i ≤ find p l
  unfolding find pick
  find_least l zero d m f = omega arith
  find_least [] (suc i) d m f = absurd (omega arith)
  find_least (x ∷ l) (suc i) d m f =
      let h = find_least l i d (omega arith) (λ k n. f (suc k) (omega arith)) in
      rw (f 0 (omega arith)) (omega arith)

  -- a place that passes, with the place found not before it, is the place found
  pub here : (l : List A) (i : ℕ) (d : A) → i ≤ find p l → i < length l → p (get_or l i d) ≡ true → i ≡ find p l
  unfolding find pick
  here [] i d h m t = absurd (omega arith)
  here (x ∷ l) zero d h m t = rw t
  here (x ∷ l) (suc i) d h m t =
      let f : p x ≡ false = find_first (x ∷ l) 0 d (omega arith) in
      rw f (ap suc (here l i d (omega (arith, rw f at h)) (omega arith) t))

  -- a place that passes, with none before it that does, is the place found
  pub find_at : (l : List A) (i : ℕ) (d : A) → i < length l → p (get_or l i d) ≡ true → ((k : ℕ) → k < i → p (get_or l k d) ≡ false) → find p l ≡ i
  find_at l i d m t f = sym (here l i d (find_least l i d (omega arith) f) m t)

  -- where none passes, the place found is the length
  pub find_none : (l : List A) (d : A) → ((k : ℕ) → k < length l → p (get_or l k d) ≡ false) → find p l ≡ length l
  find_none l d f = let a = find_least l (length l) d (omega arith) f in let b = find_bound l in omega arith

  -- what a search over the numbers below the length finds (`first_from_Range` says it of the library's `find`)
  abbrev pub Searched : List A → A → ℕ → Option ℕ → Type 0
  Searched l d n r =
      MatchOption r ((k : ℕ) → 0 ≤ k → k < n → p (get_or l k d) ≡ false)
      (λ i. (0 ≤ i) × (i < n) × (p (get_or l i d) ≡ true) × ((k : ℕ) → 0 ≤ k → k < i → p (get_or l k d) ≡ false))

  pub searched_first : (l : List A) (d : A) (n : ℕ) (r : Option ℕ) → length l ≡ n → Searched l d n r → r ≡ first p l
  searched_first l d n None e h =
      let f : find p l ≡ length l = find_none l d (λ k m. h k (omega arith) (omega (arith, e))) in
      placed_none (length l) (find p l) (omega (arith, f))
  searched_first l d n (Some i) e h =
      let m : i < length l = omega (arith, e, h.1) in
      let f : find p l ≡ i = find_at l i d m h.2 (λ k b. h.3 k (omega arith) b) in
      ap Some (sym f) ∙ placed_some (length l) (find p l) (omega (arith, f, m))

  -- where the default does not pass, a place that passes is within the list
  pub passes_in : (l : List A) (j : ℕ) (d : A) → p d ≡ false → p (get_or l j d) ≡ true → j < length l
  passes_in [] j d n y = absurd (no_both y n)
  passes_in (x ∷ l) zero d n y = omega arith
  passes_in (x ∷ l) (suc j) d n y = let h = passes_in l j d n y in omega arith

  -- a store leaves the place found where the new element passes exactly when the old one does
  pub find-set : (l : List A) (i : ℕ) (y d : A) → p y ≡ p (get_or l i d) → find p (set l i y) ≡ find p l
  unfolding find
  find-set [] i y d e = refl
  find-set (x ∷ l) zero y d e = rw e
  find-set (x ∷ l) (suc i) y d e = rw (find-set l i y d e)

  -- whether any element passes
  unfoldable pub some : List A → Bool
  some [] = false
  some (x ∷ l) = pick (p x) true (some l)

  pub some_found : (l : List A) → ltb (find p l) (length l) ≡ some l
  unfolding find some pick
  some_found [] = refl
  some_found (x ∷ l) = bool_cases (p x) (λ e. rw e (lt-ltb 0 (suc (length l)) (omega arith))) (λ e. rw e (leb-suc-suc (suc (find p l)) (length l) ∙ some_found l))

  pub some_snoc : (l : List A) (x : A) → some (l ++ (x ∷ [])) ≡ pick (some l) true (p x)
  unfolding some pick
  some_snoc [] x = bool_cases (p x) (λ e. rw e) (λ e. rw e)
  some_snoc (y ∷ l) x = bool_cases (p y) (λ e. rw e) (λ e. rw e (some_snoc l x))

-- two tests that agree on each element find the same place
pub find_ext : {A : Type 0} (p q : A → Bool) (l : List A) (d : A) → ((i : ℕ) → i < length l → p (get_or l i d) ≡ q (get_or l i d)) → find p l ≡ find q l
unfolding find
find_ext p q [] d h = refl
find_ext p q (x ∷ l) d h = rw (h 0 (omega arith), find_ext p q l d (λ i m. h (suc i) (omega arith)))

pub first_ext : {A : Type 0} (p q : A → Bool) (l : List A) (d : A) → ((i : ℕ) → i < length l → p (get_or l i d) ≡ q (get_or l i d)) → first p l ≡ first q l
first_ext p q l d h = ap (placed (length l)) (find_ext p q l d h)
