-- `tick` stores the counter of the next stamp alone: the clock of the next stamp is the same.
use mathlib.Core.Path.{◌≡◌, refl, ap, subst, ◌∙◌}
use mathlib.Core.List.{List}
use Prim.Native.Nat.{ℕ}
use Rattle.octets.specs.Pick.{pick_cases}
use Rattle.stamp.specs.declared.EventStamp.{EventStamp}
use Rattle.stamp.specs.Stamp.{next}
use Rattle.state.specs.declared.Sizes.{Sizes}
use Rattle.state.specs.Head.{with_now, with_counter}
use Rattle.state.specs.Stack.{Becomes, stack_of, with_head, ticked}
use Rattle.state.proofs.tick.Goals as goal

counted : (s : EventStamp) → ◌≡◌ {A = EventStamp} (record { clock = s.clock; counter = (next s).counter }) (next s)
unfolding next
counted s = pick_cases (λ (t : EventStamp). ◌≡◌ {A = EventStamp} (record { clock = s.clock; counter = t.counter }) t) (λ _. refl) (λ _. refl)

ticks : (z : Sizes) (b x : List ℕ) (t : EventStamp) → t ≡ next (stack_of z b).head.now
    → Becomes z b x (with_head (with_counter t.counter (stack_of z b).head) (stack_of z b)) → Becomes z b x (ticked (stack_of z b))
ticks z b x t e p =
    let st = stack_of z b in
    let q = subst (λ (k : EventStamp). Becomes z b x (with_head (with_counter k.counter st.head) st)) e p in
    subst (λ (k : EventStamp). Becomes z b x (with_head (with_now k st.head) st)) (counted st.head.now) q

pub returns : goal.returns
returns c =
    let e = c.increment-stamp.ensures ∙ ap next c.now_at.ensures in
    (e, ticks c.args.sizes c.args.state.now _ _ e c.put_counter.ensures)
