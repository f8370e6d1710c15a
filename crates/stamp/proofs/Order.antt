-- The order of stamps is strict and total. The next event is later than every stamp given before, until the counter is at its largest value.
use Prim.Native.Nat.{ℕ, ◌+◌, ◌<◌, ◌≤◌}
use native.Mathlib.Omega.{arith}
use mathlib.Core.Path.{◌≡◌, refl, sym, ap, ◌∙◌}
use mathlib.Core.Logic.{◌⊎◌, inl, inr, ⊎_elim}
use mathlib.Core.Bool.{Bool, true, false}
use lib.Dec.{ltb}
use borrow.Author.Tests.{lt-ltb, le-ltb, ltb-true, ltb-false}
use Rattle.octets.proofs.Bools.{false_true, no_both, fails}
use Rattle.octets.specs.Pick.{pick, pick_true, pick_false, pick_cases}
use Rattle.stamp.specs.declared.EventStamp.{EventStamp}
use Rattle.stamp.specs.Stamp.{earlier, next, last_count}

-- what `earlier` says, in numbers
pub record Earlier (a b : EventStamp) : Type 0 where
  pub order : (a.clock < b.clock) ⊎ ((a.clock ≡ b.clock) × (a.counter < b.counter))

pub is_earlier : (a b : EventStamp) → Earlier a b → earlier a b ≡ true
unfolding earlier pick
is_earlier a b o =
    ⊎_elim (λ (h : a.clock < b.clock). rw (lt-ltb a.clock b.clock h))
    (λ (h : (a.clock ≡ b.clock) × (a.counter < b.counter)).
    rw (le-ltb a.clock b.clock (omega (arith, h.0)), le-ltb b.clock a.clock (omega (arith, h.0)), lt-ltb a.counter b.counter h.1))
    o.order

by_tests : (x y z : Bool) → pick x true (pick y false z) ≡ true → (x ≡ true) ⊎ ((x ≡ false) × (y ≡ false) × (z ≡ true))
unfolding pick
by_tests true y z e = inl refl
by_tests false true z e = false_true e
by_tests false false z e = inr (refl, refl, e)

pub earlier_is : (a b : EventStamp) → earlier a b ≡ true → Earlier a b
unfolding earlier
earlier_is a b e = record {
  order =
      ⊎_elim (λ (h : ltb a.clock b.clock ≡ true). inl (ltb-true a.clock b.clock h))
      (λ (h : (ltb a.clock b.clock ≡ false) × (ltb b.clock a.clock ≡ false) × (ltb a.counter b.counter ≡ true)).
      inr (omega (arith, ltb-false a.clock b.clock h.0, ltb-false b.clock a.clock h.1), ltb-true a.counter b.counter h.2))
      (by_tests (ltb a.clock b.clock) (ltb b.clock a.clock) (ltb a.counter b.counter) e);
}

less : (m n : ℕ) → (m < n) ⊎ ((m ≡ n) ⊎ (n < m))
less m n = go (ltb m n) (ltb n m) refl refl
  where
    go : (x y : Bool) → ltb m n ≡ x → ltb n m ≡ y → (m < n) ⊎ ((m ≡ n) ⊎ (n < m))
    go true y e f = inl (ltb-true m n e)
    go false true e f = inr (inr (ltb-true n m f))
    go false false e f = inr (inl (omega (arith, ltb-false m n e, ltb-false n m f)))

-- of two stamps one is earlier, or they are equal
pub total : (a b : EventStamp) → (earlier a b ≡ true) ⊎ ((a ≡ b) ⊎ (earlier b a ≡ true))
total a b =
    ⊎_elim (λ (h : a.clock < b.clock). inl (is_earlier a b (record { order = inl h })))
    (λ (r : (a.clock ≡ b.clock) ⊎ (b.clock < a.clock)).
    ⊎_elim (λ (h : a.clock ≡ b.clock). by_counter h (less a.counter b.counter))
    (λ (h : b.clock < a.clock). inr (inr (is_earlier b a (record { order = inl h })))) r)
    (less a.clock b.clock)
  where
    by_counter : a.clock ≡ b.clock → (a.counter < b.counter) ⊎ ((a.counter ≡ b.counter) ⊎ (b.counter < a.counter)) → (earlier a b ≡ true) ⊎ ((a ≡ b) ⊎ (earlier b a ≡ true))
    by_counter h (inl c) = inl (is_earlier a b (record { order = inr (h, c) }))
    by_counter h (inr (inl c)) = inr (inl (λ i. record { clock = h i; counter = c i }))
    by_counter h (inr (inr c)) = inr (inr (is_earlier b a (record { order = inr (sym h, c) })))

-- the next event is later than the last stamp, and than every stamp that the last one was not before
pub later : (s now : EventStamp) → now.counter < last_count → (earlier s now ≡ true) ⊎ (s ≡ now) → earlier s (next now) ≡ true
unfolding next
later s now room was =
    rw (pick_true (ltb now.counter last_count) (record { clock = now.clock; counter = now.counter + 1 }) now (lt-ltb now.counter last_count room))
    (is_earlier s (record { clock = now.clock; counter = now.counter + 1 })
    (⊎_elim (λ (e : earlier s now ≡ true). record { order = ⊎_elim (λ (h : s.clock < now.clock). inl h) (λ (h : (s.clock ≡ now.clock) × (s.counter < now.counter)). inr (h.0, omega (arith, h.1))) (earlier_is s now e).order })
    (λ (e : s ≡ now). record { order = inr (ap (λ (x : EventStamp). x.clock) e, omega (arith, ap (λ (x : EventStamp). x.counter) e)) }) was))

-- at its largest value the counter stays
pub stays : (s : EventStamp) → last_count ≤ s.counter → next s ≡ s
unfolding next
stays s h = pick_false (ltb s.counter last_count) (record { clock = s.clock; counter = s.counter + 1 }) s (le-ltb s.counter last_count h)

-- the order by clock, and by counter where the clocks are equal
abbrev Ordered : EventStamp → EventStamp → Type 0
Ordered a b = (a.clock < b.clock) ⊎ ((a.clock ≡ b.clock) × (a.counter < b.counter))

chain : (a b c : EventStamp) → Ordered a b → Ordered b c → Ordered a c
chain a b c (inl h) (inl k) = inl (omega arith)
chain a b c (inl h) (inr k) = inl (omega arith)
chain a b c (inr h) (inl k) = inl (omega arith)
chain a b c (inr h) (inr k) = inr (omega arith, omega arith)

never : (a : EventStamp) → Ordered a a → ⊥
never a (inl h) = omega arith
never a (inr h) = omega arith

-- no stamp is before itself
pub earlier_irreflexive : (a : EventStamp) → earlier a a ≡ false
earlier_irreflexive a = fails (earlier a a) (λ e. never a (earlier_is a a e).order)

-- of two stamps at most one is before the other
pub earlier_asymmetric : (a b : EventStamp) → earlier a b ≡ true → earlier b a ≡ false
earlier_asymmetric a b e = fails (earlier b a) (λ f. never a (chain a b a (earlier_is a b e).order (earlier_is b a f).order))

-- where a is not before b and b is not before c, a is not before c
pub not-earlier_trans : (a b c : EventStamp) → earlier a b ≡ false → earlier b c ≡ false → earlier a c ≡ false
not-earlier_trans a b c e f = fails (earlier a c) (λ g. go g (total a b))
  where
    go : earlier a c ≡ true → (earlier a b ≡ true) ⊎ ((a ≡ b) ⊎ (earlier b a ≡ true)) → ⊥
    go g (inl h) = no_both h e
    go g (inr (inl h)) = no_both (sym (ap (λ (x : EventStamp). earlier x c) h) ∙ g) f
    go g (inr (inr h)) = no_both (is_earlier b c (record { order = chain b a c (earlier_is b a h).order (earlier_is a c g).order })) f

-- an event leaves the clock
pub next_clock : (s : EventStamp) → (next s).clock ≡ s.clock
unfolding next
next_clock s = pick_cases (λ (r : EventStamp). r.clock ≡ s.clock) (λ _. refl) (λ _. refl)
