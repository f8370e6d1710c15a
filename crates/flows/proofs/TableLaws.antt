-- Laws of the table as a list of places: each peer and tag has one place, and an insertion, a removal and a check of time change what stands
-- for no other. Each follows from what a store or a map makes of a list.
use Prim.Native.Nat.{ℕ, ◌^◌, ◌≤◌, ◌<◌}
use native.Mathlib.Omega.{arith}
use mathlib.Core.Path.{◌≡◌, refl, sym, ap, subst, ◌∙◌}
use mathlib.Core.Bool.{Bool, true, false}
use mathlib.Core.Logic.{⊎_elim}
use mathlib.Core.List.{List, map}
use borrow.Author.Tests.{eqb-true, eq-eqb, ltb-true, ltb-false, not-true}
use lib.Dec.{ltb}
use lib.ListN.{length, get_or, set, length-set, length-map, get_or-eq_default}
use lib.Seq.{get_or-set_same, get_or-set_other}
use Rattle.std.specs.Prelude.{None, Option, Some}
use Rattle.octets.specs.Pick.{pick, pick_true, pick_false, pick_cases}
use Rattle.octets.specs.Find.{find}
use Rattle.mctp.specs.declared.Eid.{Eid}
use Rattle.mctp.specs.declared.TagValue.{TagValue}
use Rattle.mctp.specs.Terms.{same_eid, same_tag, cookie_value}
use Rattle.stamp.specs.declared.EventStamp.{EventStamp}
use Rattle.stamp.specs.Stamp.{next, is_expired, last_count}
use Rattle.stamp.proofs.Order.{next_clock}
use Rattle.flows.specs.declared.Flow.{Flow}
use Rattle.flows.specs.Tags.{free_tag_of}
use Rattle.flows.specs.Table.{no_flow, is_free, is_flow, flow_place, standing, flow_cookie, removed, used_tags, lasts, lasts_by, time_by, new_flow, Table, Flowed, counted, insert_flow, turned, with_tag, fresh_flow, fixed_flow, set_flow, flow_timeout, faded_flow, Unique}
use Rattle.flows.specs.Codec.{FlowOk}
use Rattle.octets.proofs.Bools.{no_both, bool_cases}
use Rattle.octets.proofs.Each.{get_d_set, get_d_mapped}
use Rattle.octets.proofs.Finds.{find_hit, find_first, find_at, find-set, passes_in}
use Rattle.flows.proofs.TagLaws.{used_is, Told, searched}
use Rattle.mctp.specs.declared.AppCookie.{AppCookie}

-- ---- whose a place is

pub record Is (p : Eid) (u : TagValue) (f : Flow) : Type 0 where
  pub used : f.used ≡ true
  pub peer : f.peer.0 ≡ p.0
  pub tag : f.tag.0 ≡ u.0

all_true : (u s e : Bool) → pick u (pick s e false) false ≡ true → (u ≡ true) × (s ≡ true) × (e ≡ true)
unfolding pick
all_true true true e y = (refl, refl, y)
all_true true false e y = absurd (no_both y refl)
all_true false s e y = absurd (no_both y refl)

true_all : {u s e : Bool} → u ≡ true → s ≡ true → e ≡ true → pick u (pick s e false) false ≡ true
unfolding pick
true_all p q r = rw (p, q, r)

pub is_flow_lem : (peer : Eid) (tag : TagValue) (f : Flow) → is_flow peer tag f ≡ true → Is peer tag f
unfolding is_flow
is_flow_lem peer tag f y =
    let a = all_true f.used (same_eid f.peer peer) (same_tag f.tag tag) y in
    record { used = a.0; peer = eqb-true _ _ a.1; tag = eqb-true _ _ a.2 }

pub flow_is : (peer : Eid) (tag : TagValue) (f : Flow) → Is peer tag f → is_flow peer tag f ≡ true
unfolding is_flow
flow_is peer tag f i = true_all i.used (eq-eqb _ _ i.peer) (eq-eqb _ _ i.tag)

-- a free place belongs to no peer and tag
pub free_not : (peer : Eid) (tag : TagValue) (f : Flow) → f.used ≡ false → is_flow peer tag f ≡ false
unfolding is_flow
free_not peer tag f e = pick_false f.used _ _ e

-- another peer or another tag
abbrev pub Other : Eid → TagValue → Eid → TagValue → Type 0
Other peer tag p u = peer.0 ≡ p.0 → tag.0 ≡ u.0 → ⊥

-- a flow belongs to one peer and tag only
pub other_not : (peer : Eid) (tag : TagValue) (p : Eid) (u : TagValue) (f : Flow) → Other peer tag p u → Is peer tag f → is_flow p u f ≡ false
other_not peer tag p u f o i =
    bool_cases (is_flow p u f) (λ y. let j = is_flow_lem p u f y in absurd (o (sym i.peer ∙ j.peer) (sym i.tag ∙ j.tag))) (λ e. e)

-- ---- what stands

module _ (peer : Eid) (tag : TagValue) (flows : List Flow) where
  pub stands : standing peer tag flows ≡ true → is_flow peer tag (get_or flows (flow_place peer tag flows) no_flow) ≡ true
  stands y = find_hit (is_flow peer tag) flows no_flow (ltb-true _ _ y)

  pub standing_at : (j : ℕ) → is_flow peer tag (get_or flows j no_flow) ≡ true → standing peer tag flows ≡ true
  standing_at j y =
      let h : j < length flows = passes_in (is_flow peer tag) flows j no_flow (free_not peer tag no_flow refl) y in
      bool_cases (standing peer tag flows) (λ e. e) (λ e. absurd (no_both y (find_first (is_flow peer tag) flows j no_flow (past e h))))
    where
      past : {j : ℕ} → standing peer tag flows ≡ false → j < length flows → j < flow_place peer tag flows
      past e h = let g = ltb-false (flow_place peer tag flows) (length flows) e in omega arith

  pub absent : standing peer tag flows ≡ false → (j : ℕ) → is_flow peer tag (get_or flows j no_flow) ≡ false
  absent n j = bool_cases (is_flow peer tag (get_or flows j no_flow)) (λ y. absurd (no_both (standing_at j y) n)) (λ e. e)

  pub gone : ((j : ℕ) → is_flow peer tag (get_or flows j no_flow) ≡ false) → standing peer tag flows ≡ false
  gone nowhere = bool_cases (standing peer tag flows) (λ y. absurd (no_both (stands y) (nowhere _))) (λ e. e)

-- a peer's tag stands in both tables or in none, with the same flow
pub record Same (p : Eid) (u : TagValue) (old new : List Flow) : Type 0 where
  pub stands : standing p u new ≡ standing p u old
  pub flow : get_or new (flow_place p u new) no_flow ≡ get_or old (flow_place p u old) no_flow
  pub cookie : flow_cookie p u new ≡ flow_cookie p u old

same : (p : Eid) (u : TagValue) (old new : List Flow) → standing p u new ≡ standing p u old
    → get_or new (flow_place p u new) no_flow ≡ get_or old (flow_place p u old) no_flow → Same p u old new
same p u old new e q = record { stands = e; flow = q; cookie = ap (λ (f : Flow). f.cookie) q }

-- ---- a store

module _ (p : Eid) (u : TagValue) (l : List Flow) (i : ℕ) (x : Flow) where
  -- a store of a flow that is not that of p and u, over another that is not, leaves what stands for p and u
  pub set_other : is_flow p u x ≡ false → is_flow p u (get_or l i no_flow) ≡ false → Same p u l (set l i x)
  set_other n m = same p u l (set l i x) (rw (place, length-set)) (rw place there)
    where
      k : ℕ
      k = flow_place p u l

      place : flow_place p u (set l i x) ≡ k
      place = find-set (is_flow p u) l i x no_flow (n ∙ sym m)

      there : get_or (set l i x) k no_flow ≡ get_or l k no_flow
      there =
          bool_cases (standing p u l)
          (λ y. get_or-set_other l i k x no_flow (λ e. no_both (stands p u l y) (ap (λ (j : ℕ). is_flow p u (get_or l j no_flow)) e ∙ m)))
          (λ e. let g : length l ≤ k = ltb-false k (length l) e in
          get_or-eq_default (set l i x) no_flow (rw length-set g) ∙ sym (get_or-eq_default l no_flow g))

  -- a store of the flow of p and u, where none stands, puts it at its place
  pub set_there : i < length l → is_flow p u x ≡ true → standing p u l ≡ false → flow_place p u (set l i x) ≡ i
  set_there h y n =
      find_at (is_flow p u) (set l i x) i no_flow (rw length-set h) (rw (get_or-set_same l i x no_flow h) y)
      (λ k g. rw (get_or-set_other l i k x no_flow (λ e. omega arith)) (absent p u l n k))

-- a store keeps each peer and tag to one place, if what is stored stands nowhere else
pub unique_set : (l : List Flow) (i : ℕ) (x : Flow) → Unique l
    → ((p : Eid) (u : TagValue) (j : ℕ) → is_flow p u x ≡ true → is_flow p u (get_or l j no_flow) ≡ true → i ≡ j) → Unique (set l i x)
unfolding Unique
unique_set l i x unique apart p u a b ya yb =
    ⊎_elim (λ va. ⊎_elim (λ vb. va.0 ∙ sym vb.0) (λ eb. va.0 ∙ apart p u b (moved va.1 ya) (moved eb yb)) (get_d_set l i b x no_flow))
    (λ ea. ⊎_elim (λ vb. sym (apart p u a (moved vb.1 yb) (moved ea ya)) ∙ sym vb.0) (λ eb. unique p u a b (moved ea ya) (moved eb yb)) (get_d_set l i b x no_flow))
    (get_d_set l i a x no_flow)
  where
    moved : {f g : Flow} → f ≡ g → is_flow p u f ≡ true → is_flow p u g ≡ true
    moved e y = ap (is_flow p u) (sym e) ∙ y

pub no_flow_ok : FlowOk no_flow
no_flow_ok = record { peer = omega arith; tag = omega arith; value = omega arith; clock = omega arith; counter = omega arith }

-- ---- a removal

module _ (peer : Eid) (tag : TagValue) (flows : List Flow) where
  pub removed_unique : Unique flows → Unique (removed peer tag flows)
  removed_unique unique =
      unique_set flows (flow_place peer tag flows) no_flow unique (λ p u j y _. absurd (no_both y (free_not p u no_flow refl)))

  pub removed_gone : Unique flows → standing peer tag (removed peer tag flows) ≡ false
  unfolding Unique
  removed_gone unique = gone peer tag (removed peer tag flows) (λ j. bool_cases (at j) (λ y. absurd (still j y)) (λ e. e))
    where
      k : ℕ
      k = flow_place peer tag flows

      at : ℕ → Bool
      at j = is_flow peer tag (get_or (removed peer tag flows) j no_flow)

      off : is_flow peer tag no_flow ≡ false
      off = free_not peer tag no_flow refl

      still : (j : ℕ) → at j ≡ true → ⊥
      still j y =
          ⊎_elim (λ v. no_both y (ap (is_flow peer tag) v.1 ∙ off))
          (λ e. let z : is_flow peer tag (get_or flows j no_flow) ≡ true = ap (is_flow peer tag) (sym e) ∙ y in
          let s = standing_at peer tag flows j z in
          let q : j ≡ k = unique peer tag j k z (stands peer tag flows s) in
          no_both y (ap at q ∙ ap (is_flow peer tag) (get_or-set_same flows k no_flow no_flow (ltb-true k (length flows) s)) ∙ off))
          (get_d_set flows k j no_flow no_flow)

  pub removed_others : (p : Eid) (u : TagValue) → Other peer tag p u → Same p u flows (removed peer tag flows)
  removed_others p u o =
      set_other p u flows (flow_place peer tag flows) no_flow (free_not p u no_flow refl)
      (bool_cases (standing peer tag flows) (λ y. other_not peer tag p u _ o (is_flow_lem peer tag _ (stands peer tag flows y)))
      (λ e. ap (is_flow p u) (get_or-eq_default flows no_flow (ltb-false (flow_place peer tag flows) (length flows) e)) ∙ free_not p u no_flow refl))

-- ---- a new flow

module _ (peer : Eid) (tag : TagValue) (expires : Bool) (cookie : Option AppCookie) (s : EventStamp) where
  pub new_is : Is peer tag (new_flow peer tag expires cookie s)
  unfolding new_flow
  new_is = pick_cases (Is peer tag) (λ _. record { used = refl; peer = refl; tag = refl }) (λ _. record { used = refl; peer = refl; tag = refl })

  pub new_cookie : (new_flow peer tag expires cookie s).cookie ≡ cookie
  unfolding new_flow
  new_cookie = pick_cases (λ (f : Flow). f.cookie ≡ cookie) (λ _. refl) (λ _. refl)

  pub new_ok : peer.0 < 256 → tag.0 < 8 → cookie_value cookie < 2 ^ 64 → s.clock < 2 ^ 64 → s.counter < 2 ^ 32
      → FlowOk (new_flow peer tag expires cookie s)
  unfolding new_flow
  new_ok p t v c n =
      pick_cases FlowOk (λ _. record { peer = p; tag = t; value = v; clock = c; counter = n })
      (λ _. record { peer = p; tag = t; value = v; clock = omega arith; counter = omega arith })

pub counted_clock : (expires : Bool) (s : EventStamp) → (counted expires s).clock ≡ s.clock
counted_clock expires s = pick_cases (λ (r : EventStamp). r.clock ≡ s.clock) (λ _. next_clock s) (λ _. refl)

pub counted_counter : (expires : Bool) (s : EventStamp) → s.counter < 2 ^ 32 → (counted expires s).counter < 2 ^ 32
unfolding next
counted_counter expires s h =
    pick_cases small (λ _. pick_cases small (λ y. let k = ltb-true s.counter last_count y in omega arith) (λ _. h)) (λ _. h)
  where
    small : EventStamp → Type 0
    small r = r.counter < 2 ^ 32

-- ---- an insertion

module _ (peer : Eid) (tag : TagValue) (expires : Bool) (cookie : Option AppCookie) (t : Table) where
  abbrev after : List Flow
  after = (insert_flow peer tag expires cookie t).table.flows

  abbrev at : ℕ
  at = find is_free t.flows

  abbrev new : Flow
  new = new_flow peer tag expires cookie (counted expires t.now)

  -- the place taken was free
  taken_free : ltb at (length t.flows) ≡ true → (p : Eid) (u : TagValue) → is_flow p u (get_or t.flows at no_flow) ≡ false
  taken_free y p u = free_not p u _ (not-true _ (find_hit is_free t.flows no_flow (ltb-true _ _ y)))

  -- proof by cases: the new flow takes the first free place, or the table is full
  by_place : (P : List Flow → Type 0) → (ltb at (length t.flows) ≡ true → P (set t.flows at new))
      → (ltb at (length t.flows) ≡ false → P t.flows) → P after
  unfolding insert_flow
  by_place P room full = pick_cases (λ (r : Flowed). P r.table.flows) room full

  pub insert_others : (p : Eid) (u : TagValue) → Other peer tag p u → Same p u t.flows after
  insert_others p u o =
      by_place (Same p u t.flows)
      (λ y. set_other p u t.flows at new (other_not peer tag p u new o (new_is peer tag expires cookie (counted expires t.now))) (taken_free y p u))
      (λ _. record { stands = refl; flow = refl; cookie = refl })

  pub insert_unique : standing peer tag t.flows ≡ false → Unique t.flows → Unique after
  insert_unique n unique =
      by_place Unique (λ y. unique_set t.flows at new unique (λ p u j yn yj. absurd (apart p u j yn yj))) (λ _. unique)
    where
      apart : (p : Eid) (u : TagValue) (j : ℕ) → is_flow p u new ≡ true → is_flow p u (get_or t.flows j no_flow) ≡ true → ⊥
      apart p u j yn yj =
          let i = new_is peer tag expires cookie (counted expires t.now) in
          let m = is_flow_lem p u new yn in
          let f = is_flow_lem p u (get_or t.flows j no_flow) yj in
          no_both (flow_is peer tag (get_or t.flows j no_flow) (record { used = f.used; peer = f.peer ∙ sym m.peer ∙ i.peer; tag = f.tag ∙ sym m.tag ∙ i.tag }))
          (absent peer tag t.flows n j)

  -- where there is a free place, the new flow stands with its cookie
  pub insert_stands : ltb at (length t.flows) ≡ true → standing peer tag t.flows ≡ false
      → (standing peer tag after ≡ true) × (flow_cookie peer tag after ≡ cookie)
  insert_stands y n =
      let h = ltb-true at (length t.flows) y in
      let s = counted expires t.now in
      let v = get_or-set_same t.flows at new no_flow h in
      let e = set_there peer tag t.flows at new h (flow_is peer tag new (new_is peer tag expires cookie s)) n in
      by_place (λ (l : List Flow). (standing peer tag l ≡ true) × (flow_cookie peer tag l ≡ cookie))
      (λ _. (rw (e, length-set) y, ap (λ (j : ℕ). (get_or (set t.flows at new) j no_flow).cookie) e ∙ ap (λ (f : Flow). f.cookie) v ∙ new_cookie peer tag expires cookie s))
      (λ full. absurd (no_both y full))

-- ---- what a send makes of the table

module _ (peer : Eid) (expires : Bool) (cookie : Option AppCookie) (t : Table) where
  -- the table with another counter
  abbrev with : ℕ → Table
  with n = record { flows = t.flows; now = t.now; counter = n }

  abbrev inserted : TagValue → ℕ → List Flow
  inserted tag n = (insert_flow peer tag expires cookie (with n)).table.flows

  fresh : (P : List Flow → Type 0) → P t.flows
      → ((tag : TagValue) (n : ℕ) → tag.0 < 8 → standing peer tag t.flows ≡ false → P (inserted tag n)) → (n start : ℕ) (r : Option TagValue)
      → Told (used_tags peer t.flows) start r → P (with_tag peer r expires cookie (with n)).table.flows
  unfolding with_tag
  fresh P same ins n start (Some tag) told = ins tag n told.below (sym (used_is peer tag.0 t.flows told.below) ∙ told.clear)
  fresh P same ins n start None told = same

  -- a fixed tag that stands leaves the table as it is: its flow keeps its first cookie
  pub fixed_stands : (tag : TagValue) → standing peer tag t.flows ≡ true → (fixed_flow peer tag expires cookie t).table ≡ t
  unfolding fixed_flow pick
  fixed_stands tag y = bool_cases (lasts (get_or t.flows (flow_place peer tag t.flows) no_flow)) (λ l. rw (y, l)) (λ l. rw (y, l))

  fixed : (P : List Flow → Type 0) (tag : TagValue) → P t.flows → (standing peer tag t.flows ≡ false → P (inserted tag t.counter))
      → P (fixed_flow peer tag expires cookie t).table.flows
  unfolding fixed_flow
  fixed P tag same ins =
      bool_cases (standing peer tag t.flows) (λ y. subst (λ (u : Table). P u.flows) (sym (fixed_stands tag y)) same)
      (λ n. subst (λ (r : Flowed). P r.table.flows) (sym (pick_false _ _ _ n)) (ins n))

  -- proof by cases: the flows stay, or a tag that does not stand is inserted
  pub by_insert : (P : List Flow → Type 0) (wish : Option TagValue) → P t.flows
      → ((tag : TagValue) (n : ℕ) → tag.0 < 8 → standing peer tag t.flows ≡ false → P (inserted tag n))
      → P (set_flow peer wish expires cookie t).table.flows
  unfolding set_flow fresh_flow
  by_insert P None same ins =
      let start = (turned t).counter in
      fresh P same ins start start (free_tag_of (used_tags peer t.flows) start) (searched (used_tags peer t.flows) start)
  by_insert P (Some tag) same ins =
      pick_cases (λ (r : Flowed). P r.table.flows) (λ _. same) (λ n. fixed P tag same (ins tag t.counter (omega (arith, ltb-false))))

  pub set_flow_unique : (wish : Option TagValue) → Unique t.flows → Unique (set_flow peer wish expires cookie t).table.flows
  set_flow_unique wish unique = by_insert Unique wish unique (λ tag n _ free. insert_unique peer tag expires cookie (with n) free unique)

-- ---- time

module _ (now : ℕ) where
  faded_none : faded_flow now no_flow ≡ no_flow
  unfolding faded_flow pick
  faded_none = refl

  -- a flow stays or goes
  faded_was : (p : Eid) (u : TagValue) (f : Flow) → is_flow p u (faded_flow now f) ≡ true → is_flow p u f ≡ true
  unfolding faded_flow
  faded_was p u f =
      pick_cases (λ (g : Flow). is_flow p u g ≡ true → is_flow p u f ≡ true) (λ _ y. absurd (no_both y (free_not p u no_flow refl))) (λ _ y. y)

  module _ (flows : List Flow) where
    faded_at_lem : (j : ℕ) → get_or (map (faded_flow now) flows) j no_flow ≡ faded_flow now (get_or flows j no_flow)
    faded_at_lem j = get_d_mapped (faded_flow now) flows j no_flow faded_none

    faded_from : (p : Eid) (u : TagValue) (j : ℕ) → is_flow p u (get_or (map (faded_flow now) flows) j no_flow) ≡ true
        → is_flow p u (get_or flows j no_flow) ≡ true
    faded_from p u j y = faded_was p u (get_or flows j no_flow) (ap (is_flow p u) (sym (faded_at_lem j)) ∙ y)

    pub faded_length : length (map (faded_flow now) flows) ≡ length flows
    faded_length = length-map flows (faded_flow now)

    pub faded_unique : Unique flows → Unique (map (faded_flow now) flows)
    unfolding Unique
    faded_unique unique p u i j yi yj = unique p u i j (faded_from p u i yi) (faded_from p u j yj)

    -- a flow that is not expired stands as before
    pub faded_stands : (p : Eid) (u : TagValue) → standing p u flows ≡ true
        → is_expired (flow_timeout now (get_or flows (flow_place p u flows) no_flow)) ≡ false → Same p u flows (map (faded_flow now) flows)
    unfolding faded_flow
    faded_stands p u y n = same p u flows new (rw (place, faded_length)) (rw place there)
      where
        new : List Flow
        new = map (faded_flow now) flows

        k : ℕ
        k = flow_place p u flows

        there : get_or new k no_flow ≡ get_or flows k no_flow
        there = faded_at_lem k ∙ pick_false _ _ _ n

        before : (j : ℕ) → j < k → is_flow p u (get_or new j no_flow) ≡ false
        before j h = bool_cases (is_flow p u (get_or new j no_flow)) (λ b. absurd (no_both (faded_from p u j b) (find_first (is_flow p u) flows j no_flow h))) (λ e. e)

        place : flow_place p u new ≡ k
        place = find_at (is_flow p u) new k no_flow (rw faded_length (ltb-true k (length flows) y)) (ap (is_flow p u) there ∙ stands p u flows y) before

    -- an expired one is gone
    pub faded_gone : (p : Eid) (u : TagValue) → Unique flows → is_expired (flow_timeout now (get_or flows (flow_place p u flows) no_flow)) ≡ true
        → standing p u (map (faded_flow now) flows) ≡ false
    unfolding Unique faded_flow
    faded_gone p u unique e = gone p u new (λ j. bool_cases (is_flow p u (get_or new j no_flow)) (λ y. absurd (still j y)) (λ n. n))
      where
        new : List Flow
        new = map (faded_flow now) flows

        still : (j : ℕ) → is_flow p u (get_or new j no_flow) ≡ true → ⊥
        still j y =
            let z = faded_from p u j y in
            let q = unique p u j (flow_place p u flows) z (stands p u flows (standing_at p u flows j z)) in
            no_both y (ap (λ (i : ℕ). is_flow p u (get_or new i no_flow)) q ∙ ap (is_flow p u) (faded_at_lem (flow_place p u flows) ∙ pick_true _ _ _ e) ∙ free_not p u no_flow refl)

  -- a flow that has no expiry is never expired
  pub lasting : (f : Flow) → lasts f ≡ true → is_expired (flow_timeout now f) ≡ false
  lasting f = by f.expiry
    where
      by : (e : Option EventStamp) → lasts_by e ≡ true → is_expired (time_by now e) ≡ false
      by None y = refl
      by (Some s) y = absurd (no_both y refl)
