-- An event leaves the clock as it is. So a receive leaves the clock, and a send leaves the clock and the slots.
use Prim.Native.Nat.{ℕ}
use mathlib.Core.Path.{◌≡◌, refl, ◌∙◌}
use mathlib.Core.Bool.{Bool}
use mathlib.Core.List.{List}
use Rattle.std.specs.Prelude.{Err, None, Ok, Option, Result, Some}
use Rattle.octets.specs.Pick.{pick_cases}
use Rattle.mctp.specs.declared.Eid.{Eid}
use Rattle.mctp.specs.declared.TagValue.{TagValue}
use Rattle.mctp.specs.declared.Key.{Key}
use Rattle.mctp.specs.declared.Header.{Header}
use Rattle.mctp.specs.Header.{header_of}
use Rattle.stamp.specs.Stamp.{next}
use Rattle.flows.proofs.TableLaws.{counted_clock}
use Rattle.flows.specs.Table.{Table, Flowed, used_tags, insert_flow, turned, with_tag, fresh_flow, fixed_flow, set_flow}
use Rattle.flows.specs.Tags.{free_tag_of}
use Rattle.reassemble.specs.Enter.{enter}
use Rattle.slot.specs.Slot.{is_empty}
use Rattle.slot.specs.Search.{slot_for}
use Rattle.slot.specs.Handle.{next_issue}
use Rattle.state.specs.Stack.{Stack, slot_at, ticked}
use Rattle.flow_walks.specs.FlowWalks.{table_of}
use Rattle.sending.specs.declared.Send.{Send}
use Rattle.receiving.specs.Receive.{Receipt, settled, land, counted_opening, gate_of, receive_at, receive_by, receive_of}
use Rattle.sending.specs.Sends.{Sent, owned_tag, tag_for, send_as, send_tagged, start_send_of}
use Rattle.mctp.specs.declared.AppCookie.{AppCookie}
use Rattle.mctp.specs.declared.Error.{Error}
use Rattle.reassemble.specs.declared.Intake.{Intake}
use Rattle.slot.specs.declared.Reassembler.{Reassembler}
use Rattle.mctp.specs.declared.Tag.{Tag}
use Rattle.mctp.specs.declared.Tag.TheVariants.{Owned}
use Rattle.mctp.specs.declared.Tag.TheVariants.{Unowned}
pub use Rattle.stamp.proofs.Order.{next_clock}

-- ---- a receive

pub opening_clock : (b : Bool) (st : Stack) → (counted_opening b st).head.now.clock ≡ st.head.now.clock
opening_clock b st = pick_cases (λ (r : Stack). r.head.now.clock ≡ st.head.now.clock) (λ _. next_clock st.head.now) (λ _. refl)

module _ (B : ℕ) (st : Stack) (p : List ℕ) where
  settled_clock : (i : ℕ) (st₁ : Stack) (k : Key) (e : Result Intake Error) → (settled B i st₁ k p e).stack.head.now.clock ≡ st₁.head.now.clock
  settled_clock i st₁ k (Err err) = refl
  settled_clock i st₁ k (Ok t) = refl

  land_clock : (i : ℕ) (st₁ : Stack) (h : Header) (g : Result Reassembler Error) → (land B i st₁ h p g).stack.head.now.clock ≡ st₁.head.now.clock
  unfolding land
  land_clock i st₁ h (Err err) = refl
  land_clock i st₁ h (Ok s) =
      settled_clock i (ticked st₁) h.key (enter B (next st₁.head.now) (next_issue st₁.head.issue) s h p) ∙ next_clock st₁.head.now

  at_clock : (i : ℕ) (r : Option Header) → (receive_at B i st p r).stack.head.now.clock ≡ st.head.now.clock
  unfolding receive_at
  at_clock i None = opening_clock (is_empty (slot_at i st)) st
  at_clock i (Some h) = land_clock i (counted_opening (is_empty (slot_at i st)) st) h (gate_of i st h) ∙ opening_clock (is_empty (slot_at i st)) st

  pub receive_clock : (room : ℕ) → (receive_of B st room p).stack.head.now.clock ≡ st.head.now.clock
  unfolding receive_of receive_by
  receive_clock room = pick_cases P (λ _. refl) (λ _. pick_cases P (λ _. at_clock (slot_for (header_of p) st.slots) (header_of p)) (λ _. refl))
    where
      P : Receipt → Type 0
      P r = r.stack.head.now.clock ≡ st.head.now.clock

-- ---- a send

module _ (peer : Eid) (expires : Bool) (cookie : Option AppCookie) where
  insert_clock : (tag : TagValue) (t : Table) → (insert_flow peer tag expires cookie t).table.now.clock ≡ t.now.clock
  unfolding insert_flow
  insert_clock tag t = pick_cases (λ (f : Flowed). f.table.now.clock ≡ t.now.clock) (λ _. counted_clock expires t.now) (λ _. counted_clock expires t.now)

  tag_clock : (f : Option TagValue) (t : Table) → (with_tag peer f expires cookie t).table.now.clock ≡ t.now.clock
  unfolding with_tag
  tag_clock (Some tag) t = insert_clock tag t
  tag_clock None t = refl

  flow_clock : (wish : Option TagValue) (t : Table) → (set_flow peer wish expires cookie t).table.now.clock ≡ t.now.clock
  unfolding set_flow fresh_flow fixed_flow
  flow_clock None t = tag_clock (free_tag_of (used_tags peer t.flows) (turned t).counter) (turned t)
  flow_clock (Some tag) t = pick_cases P (λ _. refl) (λ _. pick_cases P (λ _. pick_cases P (λ _. refl) (λ _. refl)) (λ _. insert_clock tag t))
    where
      P : Flowed → Type 0
      P f = f.table.now.clock ≡ t.now.clock

-- two stacks with the same slots and clock
pub record Same (st st' : Stack) : Type 0 where
  pub slots : st'.slots ≡ st.slots
  pub clock : st'.head.now.clock ≡ st.head.now.clock

same : (st : Stack) → Same st st
same st = record { slots = refl; clock = refl }

module _ (q : Send) where
  as_same : (c : Result Tag Error) (st : Stack) → Same st (send_as q c st).stack
  unfolding send_as
  as_same (Ok tag) st = record { slots = refl; clock = refl }
  as_same (Err err) st = same st

  owned_same : (wish : Option TagValue) (st : Stack) → Same st (owned_tag q.dest wish q.expires q.cookie st).stack
  unfolding owned_tag
  owned_same wish st = record { slots = refl; clock = flow_clock q.dest q.expires q.cookie wish (table_of st) }

  tag_same : (tag : Option Tag) (st : Stack) → Same st (tag_for q.dest tag q.expires q.cookie st).stack
  unfolding tag_for
  tag_same None st = owned_same None st
  tag_same (Some (Owned tag)) st = owned_same (Some tag) st
  tag_same (Some (Unowned tag)) st = same st

  tagged_same : (st : Stack) → Same st (send_tagged q (tag_for q.dest q.tag q.expires q.cookie st)).stack
  tagged_same st =
      let t = tag_for q.dest q.tag q.expires q.cookie st in
      let u = tag_same q.tag st in
      let v = as_same t.said t.stack in
      record { slots = v.slots ∙ u.slots; clock = v.clock ∙ u.clock }

  pub send_same : (st : Stack) → Same st (start_send_of q st).stack
  unfolding start_send_of
  send_same st = pick_cases P (λ _. same st) (λ _. pick_cases P (λ _. same st) (λ _. tagged_same st))
    where
      P : Sent → Type 0
      P s = Same st s.stack
