-- A refused send: its number, and what it leaves of the stack. All this is found by going through the definition, test by test.
-- What a send leaves does not depend on its MTU, so an MTU that is refused leaves what a good one does.
use Prim.Native.Nat.{ℕ, ◌≤◌, ◌<◌}
use native.Mathlib.Omega.{arith}
use mathlib.Core.Path.{◌≡◌, refl, sym, ap, ◌∙◌}
use mathlib.Core.Logic.{inl, inr}
use mathlib.Core.Bool.{Bool, true, false}
use mathlib.Core.List.{List, [], ◌∷◌}
use lib.Dec.{ltb}
use lib.ListN.{length}
use borrow.Author.Tests.{ltb-true, ltb-false, lt-ltb}
use Rattle.std.specs.Prelude.{Err, None, Ok, Option, Result, Some}
use Rattle.octets.specs.Pick.{pick, pick_true, pick_false, pick_cases}
use Rattle.octets.specs.Find.{find}
use Rattle.octets.proofs.Finds.{find_bound}
use Rattle.mctp.specs.declared.Eid.{Eid}
use Rattle.mctp.specs.declared.TagValue.{TagValue}
use Rattle.mctp.specs.declared.Tag.{Tag}
use Rattle.mctp.specs.declared.Tag.TheVariants.{Owned, Unowned}
use Rattle.mctp.specs.Terms.{tag_of}
use Rattle.mctp.specs.Answer.{refuses}
use Rattle.flows.specs.Tags.{is_set, free_tag_of}
use Rattle.flows.specs.Table.{Table, Flowed, is_free, standing, used_tags, counted, turned, insert_flow, with_tag, fresh_flow, fixed_flow, set_flow}
use Rattle.flows.proofs.TagLaws.{all_stand, one_free, free_counts, used_is, Told, searched}
use Rattle.fragment.specs.Step.{new_of}
use Rattle.fragment.specs.Answers.{started_as}
use Rattle.state.specs.Head.{with_next_seq}
use Rattle.state.specs.Stack.{Stack, with_head}
use Rattle.flow_walks.specs.FlowWalks.{table_of, with_table}
use Rattle.sending.specs.declared.Send.{Send}
use Rattle.sending.specs.Sends.{Sent, bad_tag, mtu_of, under_granted, send_under, owned_tag, tag_for, send_as, send_tagged, start_send_of}
use Rattle.estack.specs.Basics.{free_tags_of}
use Rattle.promises.specs.Calls.{World, start_send, step, performed}
use Rattle.promises.specs.Refusals.{Among, first_nonzero, full_no, flow_no, mtu_no, send_no, Unsent, invalid, expiring, none_free, table_full, bad_mtu, with_mtu, tag_after, untagged}
use Rattle.promises.proofs.Facts.{no_both}
use Rattle.promises.proofs.Refused.{Says, refusal, sole, first_none, first_some}
use Rattle.mctp.specs.declared.Error.{Error}
use Rattle.fragment.specs.declared.Fragmenter.{Fragmenter}

-- ---- free tags: none where all stand, some where one does not

module _ (peer : Eid) where
  none_left : (st : Stack) → ((t : ℕ) → t < 8 → is_set t (used_tags peer st.flows) ≡ true) → free_tags_of peer st ≡ 0
  none_left st h =
      free_counts peer st.flows
      ∙ all_stand (λ t. standing peer (record { 0 = t }) st.flows) 0 8 (λ t _ b. sym (used_is peer t st.flows (omega arith)) ∙ h t (omega arith))

  some_left : (t : ℕ) (st : Stack) → t < 8 → is_set t (used_tags peer st.flows) ≡ false → 0 < free_tags_of peer st
  some_left t st b c =
      rw (free_counts peer st.flows)
      (one_free (λ t. standing peer (record { 0 = t }) st.flows) 0 8 t (omega arith) (omega arith) (sym (used_is peer t st.flows b) ∙ c))

-- ---- the same send with another MTU

both : (b : Bool) (x x' y y' : Sent) → x.stack ≡ x'.stack → y.stack ≡ y'.stack → (pick b x y).stack ≡ (pick b x' y').stack
unfolding pick
both true x x' y y' e f = e
both false x x' y y' e f = f

module _ (mtu : Option ℕ) (q : Send) where
  as_mtu : (c : Result Tag Error) (st : Stack) → (send_as (with_mtu mtu q) c st).stack ≡ (send_as q c st).stack
  unfolding send_as
  as_mtu (Ok tag) st = refl
  as_mtu (Err err) st = refl

  -- it leaves the same stack
  pub mtu_same : (st : Stack) → (start_send_of (with_mtu mtu q) st).stack ≡ (start_send_of q st).stack
  unfolding start_send_of
  mtu_same st =
      let t = tag_for q.dest q.tag q.expires q.cookie st in
      both (ltb 127 q.typ.0) _ _ _ _ refl (both (bad_tag q.tag) _ _ _ _ refl (as_mtu t.said t.stack))

-- ---- the walk

-- a send that is refused, and what it leaves
pub record Unsends (q : Send) (st st' : Stack) (n : ℕ) (vs : List ℕ) : Type 0 where
  pub among : Among (1 ∷ 3 ∷ 4 ∷ []) n vs
  pub left : Unsent q st n st'

module _ (q : Send) (st : Stack) where
  abbrev flow : ℕ
  flow = flow_no q.dest q.tag st

  abbrev size : ℕ
  size = mtu_no (mtu_of q.mtu st.head.mtu)

  -- what comes of a send whose number is k, where it leaves what the send with an MTU of 5 does
  Fate : ℕ → Sent → Type 0
  Fate k s = (start_send_of (with_mtu (Some 5) q) st).stack ≡ s.stack → Says k (Unsends q st s.stack) (started_as s.said)

  module _ (k : ℕ) (kind : q.typ.0 ≤ 127) where
    -- where the send has its tag, the MTU decides
    under : (tag : Tag) (st₁ : Stack) → (tag_of tag).0 ≤ 7 → st₁.head.mtu ≡ st.head.mtu → k ≡ mtu_no (mtu_of q.mtu st₁.head.mtu) → Fate k (send_under q tag st₁)
    unfolding new_of Fate
    under tag st₁ t m is e =
        pick_cases P (λ y. absurd (omega (arith, ltb-true 7 (tag_of tag).0 y)))
        (λ _. pick_cases P (λ y. absurd (omega (arith, ltb-true 127 q.typ.0 y)))
        (λ _. pick_cases P
        (λ y. (is ∙ pick_true _ _ _ y, record { among = sole refl; left = bad_mtu (inl (rw (sym m) (ltb-true (mtu_of q.mtu st₁.head.mtu) 5 y))) refl (sym e) }))
        (λ a. pick_cases P
        (λ y. (is ∙ pick_false _ _ _ a ∙ pick_true _ _ _ y, record { among = sole refl; left = bad_mtu (inr (rw (sym m) (ltb-true 255 (mtu_of q.mtu st₁.head.mtu) y))) refl (sym e) }))
        (λ b. is ∙ pick_false _ _ _ a ∙ pick_false _ _ _ b))))
      where
        P : Result Fragmenter Error → Type 0
        P s = Says k (Unsends q st (with_head (with_next_seq st₁.head) st₁)) (started_as s)

    module _ (is : k ≡ first_nonzero flow size) where
      -- what comes of a flow that is asked for
      Flows : Flowed → Type 0
      Flows f = Fate k (send_as q (under_granted f.granted) (with_table f.table st))

      granted : (tag : TagValue) (t : Table) → tag.0 ≤ 7 → flow ≡ 0 → Flows (record { table = t; granted = Ok tag })
      unfolding Flows send_as
      granted tag t b f = under (Owned tag) (with_table t st) b refl (is ∙ first_none flow size f)

      -- the table with the counter at n, which is where the tag leaves it
      inserts : (tag : TagValue) (n : ℕ) → tag.0 ≤ 7 → tag_after q.tag st.head.next_tag ≡ n → (q.tag ≡ None → 0 < free_tags_of q.dest st)
          → flow ≡ full_no st → Flows (insert_flow q.dest tag q.expires q.cookie (record { flows = st.flows; now = st.head.now; counter = n }))
      unfolding insert_flow Flows send_as Fate
      inserts tag n b c free g =
          pick_cases Flows (λ f. granted tag _ b (g ∙ pick_true _ _ _ f))
          (λ f _. (
            is ∙ first_some flow size 4 (g ∙ pick_false _ _ _ f) refl,
            record {
              among = sole refl;
              left = table_full free (find_full f) refl
                  (ap (λ (m : ℕ). with_table (record { flows = st.flows; now = counted q.expires st.head.now; counter = m }) st) (sym c));
            },
          ))
        where
          find_full : ltb (find is_free st.flows) (length st.flows) ≡ false → find is_free st.flows ≡ length st.flows
          find_full f = let u = find_bound is_free st.flows in let l = ltb-false (find is_free st.flows) (length st.flows) f in omega arith

      -- a fresh tag
      searches : q.tag ≡ None → (r : Option TagValue) → Told (used_tags q.dest st.flows) (turned (table_of st)).counter r
          → Flows (with_tag q.dest r q.expires q.cookie (turned (table_of st)))
      unfolding with_tag Flows send_as Fate pick
      searches e (Some tag) told =
          let some = some_left q.dest tag.0 st told.below told.clear in
          inserts tag (turned (table_of st)).counter (omega (arith, told.below)) (ap (λ (t : Option Tag). tag_after t st.head.next_tag) e) (λ _. some)
          (ap (λ (t : Option Tag). flow_no q.dest t st) e ∙ pick_true _ _ _ (lt-ltb 0 (free_tags_of q.dest st) some))
      searches e None told =
          let none = none_left q.dest st told in
          λ _. (
            is ∙ first_some flow size 4 (ap (λ (t : Option Tag). flow_no q.dest t st) e ∙ pick_false _ _ _ (ap (λ (m : ℕ). ltb 0 m) none)) refl,
            record {
              among = sole refl;
              left = none_free e none refl (sym (ap (λ (t : Option Tag). with_head (untagged t false st.head) st) e));
            },
          )

      -- a fixed tag
      fixes : (tag : TagValue) → q.tag ≡ Some (Owned tag) → tag.0 ≤ 7 → Flows (fixed_flow q.dest tag q.expires q.cookie (table_of st))
      unfolding fixed_flow Flows send_as Fate
      fixes tag e b =
          let g = ap (λ (t : Option Tag). flow_no q.dest t st) e in
          pick_cases Flows
          (λ s. pick_cases Flows (λ l. granted tag (table_of st) b (g ∙ pick_true _ _ _ s ∙ pick_true _ _ _ l))
          (λ l _. (
            is ∙ first_some flow size 3 (g ∙ pick_true _ _ _ s ∙ pick_false _ _ _ l) refl,
            record { among = sole refl; left = expiring tag e s l refl refl },
          )))
          (λ s. inserts tag st.head.next_tag b (ap (λ (t : Option Tag). tag_after t st.head.next_tag) e) (λ f. no_fresh (sym e ∙ f)) (g ∙ pick_false _ _ _ s))
        where
          no_fresh : {A : Type 0} → Some (Owned tag) ≡ None → A
          no_fresh f = let z : ◌≡◌ {A = ℕ} 0 1 = cc in absurd (omega arith)

      tags : (tag : Option Tag) → q.tag ≡ tag → bad_tag tag ≡ false → Fate k (send_tagged q (tag_for q.dest tag q.expires q.cookie st))
      unfolding tag_for owned_tag set_flow fresh_flow Flows send_as
      tags None e g =
          searches e (free_tag_of (used_tags q.dest st.flows) (turned (table_of st)).counter) (searched (used_tags q.dest st.flows) (turned (table_of st)).counter)
      tags (Some (Owned tag)) e g =
          pick_cases Flows (λ y. absurd (no_both (ltb 7 tag.0) y g)) (λ _. fixes tag e (ltb-false 7 tag.0 g))
      tags (Some (Unowned tag)) e g =
          under (Unowned tag) st (ltb-false 7 tag.0 g) refl (is ∙ first_none flow size (ap (λ (t : Option Tag). flow_no q.dest t st) e))

  pub started-says : Says (send_no q st) (Unsends q st (start_send_of q st).stack) (started_as (start_send_of q st).said)
  unfolding start_send_of Fate
  started-says =
      let P = Fate (send_no q st) in
      pick_cases P (λ y _. (pick_true _ _ _ y, record { among = sole refl; left = invalid (inl (ltb-true 127 q.typ.0 y)) refl refl }))
      (λ a. pick_cases P (λ y _. (pick_false _ _ _ a ∙ pick_true _ _ _ y, record { among = sole refl; left = invalid (inr y) refl refl }))
      (λ g. tags (send_no q st) (ltb-false 127 q.typ.0 a) (pick_false _ _ _ a ∙ pick_false _ _ _ g) q.tag refl g))
      (mtu_same (Some 5) q st)

  pub unsent : (n : ℕ) (vs : List ℕ) → started_as (start_send_of q st).said ≡ refuses n vs → Unsends q st (start_send_of q st).stack n vs
  unsent n vs e = refusal (send_no q st) (Unsends q st (start_send_of q st).stack) (started_as (start_send_of q st).said) n vs started-says e

-- what a refused send leaves of the stack
pub refused_send : (B : ℕ) (q : Send) (w : World) (n : ℕ) (vs : List ℕ) → performed B (start_send q) w ≡ refuses n vs
    → Unsent q w.stack n (step B (start_send q) w).stack
unfolding step
refused_send B q w n vs e = (unsent q w.stack n vs e).left
