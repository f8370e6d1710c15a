-- A walk upward over the slots or the flows that stores one element at a time: what is known on the way, for any function W of the elements that are left.
-- A check of time is such a walk: it goes element by element.
use Prim.Native.Nat.{ℕ, suc, ◌+◌, ◌-◌, ◌≤◌, ◌<◌}
use native.Mathlib.Numerals.{add-one}
use native.Mathlib.Omega.{arith}
use mathlib.Core.Path.{◌≡◌, refl, sym, ap, subst, ◌∙◌}
use mathlib.Core.Bool.{Bool, true, false}
use mathlib.Core.List.{List, [], ◌∷◌, ◌++◌, map}
use lib.ListN.{length, get_or, set, take, drop, take-append-drop, drop_of_length-le, length-drop}
use lib.Seq.{drop-cons, take-suc-set, drop-set-lt, append_snoc, set-get_or}
use Rattle.config.specs.Config.{flow_count}
use Rattle.octets.specs.Pick.{pick}
use Rattle.stamp.specs.declared.Timeout.{Timeout}
use Rattle.stamp.specs.Stamp.{is_expired}
use Rattle.flows.specs.declared.Flow.{Flow}
use Rattle.flows.specs.Table.{no_flow, flow_timeout, faded_flow}
use Rattle.slot.specs.declared.Reassembler.{Reassembler}
use Rattle.slot.specs.Slot.{blank_slot, slot_timeout, faded_slot}
use Rattle.state.specs.declared.Sizes.{Sizes}
use Rattle.state.specs.Layout.{size}
use Rattle.state.specs.Stack.{Stack, stack_of, Kept, Becomes, with_slots, with_flows}
use Rattle.state.proofs.StackLaws.{slots_length, flows_length, stays, determined}
use Rattle.stamp.specs.declared.Check.{Check}
use Rattle.stamp.specs.Checks.{least_left, any_expired, check_of}

-- a store keeps the length of the bytes
pub becomes_length : (z : Sizes) (b x : List ℕ) (st : Stack) → Kept z b → Becomes z b x st → length x ≡ length b
becomes_length z b x st k q =
    let m = k.long in
    let n = q.kept.long in
    let e : length x - size z ≡ length b - size z = sym (length-drop (size z) x) ∙ ap length q.rest ∙ length-drop (size z) b in
    omega arith

-- a part of the stack that is a list
pub record Part (A : Type 0) : Type 1 where
  pub get : Stack → List A
  pub put : List A → Stack → Stack
  pub blank : A
  pub count : Sizes → ℕ
  pub got : (l : List A) (st : Stack) → get (put l st) ≡ l
  pub again : (l m : List A) (st : Stack) → put l (put m st) ≡ put l st
  pub back : (st : Stack) → put (get st) st ≡ st
  pub counted : (z : Sizes) (b : List ℕ) → length (get (stack_of z b)) ≡ count z

abbrev pub slot_part : Part Reassembler
slot_part = record {
  get = λ st. st.slots;
  put = with_slots;
  blank = blank_slot;
  count = λ z. z.slots;
  got = λ l st. refl;
  again = λ l m st. refl;
  back = λ st. refl;
  counted = slots_length;
}

abbrev pub flow_part : Part Flow
flow_part = record {
  get = λ st. st.flows;
  put = with_flows;
  blank = no_flow;
  count = λ z. flow_count;
  got = λ l st. refl;
  again = λ l m st. refl;
  back = λ st. refl;
  counted = flows_length;
}

module _ {A : Type 0} (p : Part A) where
  -- the elements that bytes hold, element i, and the stack with another element i
  abbrev pub list_in : Sizes → List ℕ → List A
  list_in z b = p.get (stack_of z b)

  abbrev pub element_at : ℕ → Stack → A
  element_at i st = get_or (p.get st) i p.blank

  abbrev pub restored : ℕ → A → Stack → Stack
  restored i a st = p.put (set (p.get st) i a) st

  module _ (z : Sizes) (b : List ℕ) (i : ℕ) where
    -- a stored element by another name
    pub stored_as : (x : List ℕ) (a c : A) → a ≡ c → Becomes z b x (restored i a (stack_of z b)) → Becomes z b x (restored i c (stack_of z b))
    stored_as x a c e = subst (λ (s : A). Becomes z b x (restored i s (stack_of z b))) e

    -- an element stored as it was
    pub same_stored : Kept z b → Becomes z b b (restored i (element_at i (stack_of z b)) (stack_of z b))
    same_stored k = record {
      view = sym (p.back (stack_of z b)) ∙ ap (λ (l : List A). p.put l (stack_of z b)) (sym (set-get_or (list_in z b) i p.blank));
      kept = k;
      rest = refl;
    }

    -- the elements from i on: element i, and those behind it
    pub drop_here : i < p.count z → drop i (list_in z b) ≡ element_at i (stack_of z b) ∷ drop (suc i) (list_in z b)
    drop_here h = drop-cons (list_in z b) i p.blank (rw (p.counted z b) h)

    pub drop_end : p.count z ≤ i → drop i (list_in z b) ≡ []
    drop_end h = drop_of_length-le (list_in z b) {i = i} (rw (p.counted z b) h)

  module _ (z : Sizes) (b x : List ℕ) (i : ℕ) (a : A) (q : Becomes z b x (restored i a (stack_of z b))) where
    stored : list_in z x ≡ set (list_in z b) i a
    stored = ap p.get q.view ∙ p.got (set (list_in z b) i a) (stack_of z b)

    -- the elements behind i are as they were
    pub drop-next : drop (i + 1) (list_in z x) ≡ drop (suc i) (list_in z b)
    drop-next = rw (stored, add-one) (drop-set-lt (suc i) (list_in z b) i a (omega arith))

  module _ (z : Sizes) (W : List A → List A) where
    -- the walk, which began with the bytes b₀, has come to element i and to the bytes b
    pub record Walked (b₀ b : List ℕ) (i : ℕ) : Type 0 where
      pub within : i ≤ p.count z
      pub ahead : take i (list_in z b) ++ W (drop i (list_in z b)) ≡ W (list_in z b₀)
      pub made : Becomes z b₀ b (p.put (list_in z b) (stack_of z b₀))

    pub walk_start : (b : List ℕ) → Kept z b → Walked b b 0
    walk_start b k = record { within = omega arith; ahead = refl; made = rw (p.back (stack_of z b)) (stays z b k) }

    -- element i becomes a
    pub walk_next : (b₀ b x : List ℕ) (i : ℕ) (a : A) → Walked b₀ b i → i < p.count z
        → Becomes z b x (restored i a (stack_of z b))
        → W (element_at i (stack_of z b) ∷ drop (suc i) (list_in z b)) ≡ a ∷ W (drop (suc i) (list_in z b))
        → Walked b₀ x (i + 1)
    walk_next b₀ b x i a w h q e =
        let l = list_in z b in
        let t = drop (suc i) l in
        let s : list_in z x ≡ set l i a = stored z b x i a q in
        let n : i < length l = rw (p.counted z b) h in
        let u : take (i + 1) (list_in z x) ≡ take i l ++ (a ∷ []) = rw (s, add-one) (take-suc-set l i a n) in
        let g : take i l ++ W (drop i l) ≡ take i l ++ (a ∷ W t) = ap (λ (r : List A). take i l ++ r) (ap W (drop_here z b i h) ∙ e) in
        let r : take (i + 1) (list_in z x) ++ W (drop (i + 1) (list_in z x)) ≡ take i l ++ (a ∷ W t) = rw (u, drop-next z b x i a q) (append_snoc (take i l) a (W t)) in
        record {
          within = omega arith;
          ahead = r ∙ sym g ∙ w.ahead;
          made = record {
            view =
                q.view
                ∙ ap (λ (m : List A). p.put m (stack_of z b)) (sym s)
                ∙ ap (λ (st : Stack). p.put (list_in z x) st) w.made.view
                ∙ p.again (list_in z x) l (stack_of z b₀);
            kept = q.kept;
            rest = q.rest ∙ w.made.rest;
          };
        }

    -- nothing that is left changes
    pub walk_done : (b₀ b : List ℕ) (i : ℕ) → Walked b₀ b i → W (drop i (list_in z b)) ≡ drop i (list_in z b) → Becomes z b₀ b (p.put (W (list_in z b₀)) (stack_of z b₀))
    walk_done b₀ b i w e =
        let l = list_in z b in
        let g : l ≡ W (list_in z b₀) = sym (take-append-drop i l) ∙ ap (λ (r : List A). take i l ++ r) (sym e) ∙ w.ahead in
        subst (λ (m : List A). Becomes z b₀ b (p.put m (stack_of z b₀))) g w.made

    -- the same where element i was stored as it was
    pub walk_stop : (b₀ b x : List ℕ) (i : ℕ) (a : A) → Walked b₀ b i → a ≡ element_at i (stack_of z b)
        → Becomes z b x (restored i a (stack_of z b))
        → W (drop i (list_in z b)) ≡ drop i (list_in z b)
        → Becomes z b₀ x (p.put (W (list_in z b₀)) (stack_of z b₀))
    walk_stop b₀ b x i a w e q f =
        let s = element_at i (stack_of z b) in
        let d : b ≡ x = determined z b b x (restored i s (stack_of z b)) (same_stored z b i w.made.kept) (stored_as z b i x a s e q) in
        subst (λ (y : List ℕ). Becomes z b₀ y (p.put (W (list_in z b₀)) (stack_of z b₀))) d (walk_done b₀ b i w f)

-- ---- a check of time

-- a part whose elements are timed: an expired one becomes the blank one
pub record Timed (A : Type 0) : Type 1 where
  pub part : Part A
  pub time : ℕ → A → Timeout
  pub fade : ℕ → A → A
  pub fades : (now : ℕ) (a : A) → fade now a ≡ pick (is_expired (time now a)) part.blank a

pub slot_fades : (now : ℕ) (s : Reassembler) → faded_slot now s ≡ pick (is_expired (slot_timeout now s)) blank_slot s
unfolding faded_slot
slot_fades now s = refl

pub flow_fades : (now : ℕ) (f : Flow) → faded_flow now f ≡ pick (is_expired (flow_timeout now f)) no_flow f
unfolding faded_flow
flow_fades now f = refl

abbrev pub timed_slots : Timed Reassembler
timed_slots = record { part = slot_part; time = slot_timeout; fade = faded_slot; fades = slot_fades }

abbrev pub timed_flows : Timed Flow
timed_flows = record { part = flow_part; time = flow_timeout; fade = faded_flow; fades = flow_fades }

module _ {A : Type 0} (p : Timed A) (z : Sizes) (now : ℕ) where
  abbrev time_at : ℕ → Stack → Timeout
  time_at i st = p.time now (element_at p.part i st)

  abbrev faded_at : ℕ → Stack → Stack
  faded_at i st = restored p.part i (p.fade now (element_at p.part i st)) st

  -- a check that has come to element i: what was found so far, with what is found from i on, is what the whole check finds
  pub record Checked (b₀ : List ℕ) (c₀ : Check) (b : List ℕ) (c : Check) (i : ℕ) : Type 0 where
    pub walked : Walked p.part z (map (p.fade now)) b₀ b i
    pub found : check_of (map (p.time now) (drop i (list_in p.part z b))) c ≡ check_of (map (p.time now) (list_in p.part z b₀)) c₀

  pub check_start : (b : List ℕ) (c : Check) → Kept z b → Checked b c b c 0
  check_start b c k = record { walked = walk_start p.part z (map (p.fade now)) b k; found = refl }

  module _ (b₀ : List ℕ) (c₀ : Check) (b : List ℕ) (c : Check) (i : ℕ) (w : Checked b₀ c₀ b c i) where
    pub check_next : (x : List ℕ) (d : Check) → i < p.part.count z
        → (d ≡ check_of (time_at i (stack_of z b) ∷ []) c) × Becomes z b x (faded_at i (stack_of z b))
        → Checked b₀ c₀ x d (i + 1)
    unfolding least_left any_expired
    check_next x d h s =
        let a = element_at p.part i (stack_of z b) in
        let t = drop (suc i) (list_in p.part z b) in
        record {
          walked = walk_next p.part z (map (p.fade now)) b₀ b x i (p.fade now a) w.walked h s.1 refl;
          found =
              ap (λ (l : List A). check_of (map (p.time now) l) d) (drop-next p.part z b x i (p.fade now a) s.1)
              ∙ ap (λ (f : Check). check_of (map (p.time now) t) f) s.0
              ∙ ap (λ (l : List A). check_of (map (p.time now) l) c) (sym (drop_here p.part z b i h))
              ∙ w.found;
        }

    pub check_done : p.part.count z ≤ i
        → (c ≡ check_of (map (p.time now) (list_in p.part z b₀)) c₀) × Becomes z b₀ b (p.part.put (map (p.fade now) (list_in p.part z b₀)) (stack_of z b₀))
    unfolding least_left any_expired
    check_done h =
        let g = drop_end p.part z b i h in
        (sym (ap (λ (l : List A). check_of (map (p.time now) l) c) g) ∙ w.found, walk_done p.part z (map (p.fade now)) b₀ b i w.walked (ap (map (p.fade now)) g ∙ sym g))

    -- the bytes keep their length
    pub check_length : Kept z b₀ → length b ≡ length b₀
    check_length k = becomes_length z b₀ b _ k w.walked.made

  -- one element of a check: it is read as y, its time is t, the check with it is r, and g says whether it is expired
  module _ (b : List ℕ) (i : ℕ) (c : Check) {y : A} {t : Timeout} {r : Check} {g : Bool}
      (read : y ≡ element_at p.part i (stack_of z b)) (timed : t ≡ p.time now y) (noted : r ≡ check_of (t ∷ []) c) (told : g ≡ is_expired t) where
    at_time : t ≡ time_at i (stack_of z b)
    at_time = timed ∙ ap (p.time now) read

    found_one : r ≡ check_of (time_at i (stack_of z b) ∷ []) c
    found_one = noted ∙ ap (λ (u : Timeout). check_of (u ∷ []) c) at_time

    fades_to : (h : Bool) → g ≡ h → pick h p.part.blank (element_at p.part i (stack_of z b)) ≡ p.fade now (element_at p.part i (stack_of z b))
    fades_to h e =
        let s = element_at p.part i (stack_of z b) in
        sym (p.fades now s ∙ ap (λ (x : Bool). pick x p.part.blank s) (sym (told ∙ ap is_expired at_time) ∙ e))

    -- an expired element goes
    pub expire_gone : g ≡ true → {a : A} {x : List ℕ} → a ≡ p.part.blank → Becomes z b x (restored p.part i a (stack_of z b))
        → (r ≡ check_of (time_at i (stack_of z b) ∷ []) c) × Becomes z b x (faded_at i (stack_of z b))
    unfolding pick
    expire_gone e q s = (found_one, stored_as p.part z b i _ _ _ (q ∙ fades_to true e) s)

    -- any other stays
    pub expire_stays : g ≡ false → Kept z b → (r ≡ check_of (time_at i (stack_of z b) ∷ []) c) × Becomes z b b (faded_at i (stack_of z b))
    unfolding pick
    expire_stays e k = (found_one, stored_as p.part z b i b _ _ (fades_to false e) (same_stored p.part z b i k))
