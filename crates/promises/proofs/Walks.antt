-- What a call that is no receive does to the slots: each stays, or it is one of those that the call may take and no longer collects.
-- No slot starts to collect, the number of slots stays, and the clock does not go back.
use Prim.Native.Nat.{ℕ, zero, suc, ◌≤◌, ◌<◌}
use native.Mathlib.Nat.{le_refl}
use native.Mathlib.Decide.{ℕ_discrete, dec_lt}
use native.Mathlib.Omega.{arith}
use mathlib.Core.Path.{◌≡◌, refl, ap, ◌∙◌}
use mathlib.Core.Bool.{Bool, true, false}
use mathlib.Core.List.{List, [], ◌∷◌}
use lib.ListN.{length, get_or, set, length-set, length-map}
use lib.Seq.{get_or-set_other, get_or-set_same, set_out}
use borrow.Author.Tests.{eqb-true, ltb-true, ltb-false}
use Rattle.octets.specs.Pick.{pick_cases}
use Rattle.mctp.specs.declared.Eid.{Eid}
use Rattle.mctp.specs.declared.TagValue.{TagValue}
use Rattle.mctp.specs.declared.Tag.{Tag}
use Rattle.mctp.specs.Terms.{tag_of, is_owner}
use Rattle.stamp.specs.declared.EventStamp.{EventStamp}
use Rattle.stamp.specs.Stamp.{clocked, is_expired}
use Rattle.slot.specs.declared.State.{State}
use Rattle.slot.specs.declared.State.TheVariants.{Empty, Collecting, Done, HandleOut}
use Rattle.slot.specs.declared.Reassembler.{Reassembler}
use Rattle.slot.specs.Slot.{blank_slot, collecting_state, out_state, issue_is, handle_taken, is_done, is_reply, kept_under, slot_timeout, faded_slot, with_state}
use Rattle.slot.specs.Search.{earliest}
use Rattle.slot.proofs.Searches.{earliest_hit}
use Rattle.state.specs.Stack.{Stack, slot_at, with_stamp}
use Rattle.slot_walks.specs.SlotWalks.{swept}
use Rattle.slot.specs.declared.ReceiveHandle.{ReceiveHandle}
use Rattle.slot.specs.Handle.{next_issue}
use Rattle.handles.specs.Handles.{Handled, Lookup, is_good, handled, take_of, deferred_of, by_source_of}
use Rattle.updating.specs.Update.{Update, checked, update_of}
use Rattle.estack.specs.Basics.{cancel_of}
use Rattle.promises.proofs.Facts.{no_true}
use Rattle.promises.proofs.Slots.{get_d_mapped}

-- a slot before and after; P says that the call may take it
pub data Changed (P : Type 0) (s s' : Reassembler) : Type 0 where
  stays : s' ≡ s → Changed P s s'
  goes : collecting_state s'.state ≡ false → P → Changed P s s'

pub record Touches (P : Reassembler → Type 0) (st st' : Stack) : Type 0 where
  pub each : (k : ℕ) → Changed (P (slot_at k st)) (slot_at k st) (slot_at k st')
  pub count : length st'.slots ≡ length st.slots
  pub later : st.head.now.clock ≤ st'.head.now.clock

changed_by : {P Q : Type 0} {s s' : Reassembler} → (P → Q) → Changed P s s' → Changed Q s s'
changed_by f (stays e) = stays e
changed_by f (goes n x) = goes n (f x)

pub touches_by : {P Q : Reassembler → Type 0} (st st' : Stack) → ((s : Reassembler) → P s → Q s) → Touches P st st' → Touches Q st st'
touches_by st st' f t = record { each = λ k. changed_by (f (slot_at k st)) (t.each k); count = t.count; later = t.later }

-- the slots and the clock stay
pub untouched : {P : Reassembler → Type 0} (st st' : Stack) → st'.slots ≡ st.slots → st.head.now.clock ≤ st'.head.now.clock → Touches P st st'
untouched st st' e h = record { each = λ k. stays (ap (λ (l : List Reassembler). get_or l k blank_slot) e); count = ap length e; later = h }

module _ (P : Reassembler → Type 0) (st : Stack) where
  -- one slot is stored, and no longer collects
  set_each : (i : ℕ) (s : Reassembler) → collecting_state s.state ≡ false → P (slot_at i st)
      → (k : ℕ) → Changed (P (slot_at k st)) (slot_at k st) (get_or (set st.slots i s) k blank_slot)
  set_each i s n x k = go (ℕ_discrete k i)
    where
      inn : Dec (i < length st.slots) → Changed (P (slot_at i st)) (slot_at i st) (get_or (set st.slots i s) i blank_slot)
      inn (yes h) = goes (rw (get_or-set_same st.slots i s blank_slot h) n) x
      inn (no h) = stays (rw (set_out st.slots i s (omega arith)))

      go : Dec (k ≡ i) → Changed (P (slot_at k st)) (slot_at k st) (get_or (set st.slots i s) k blank_slot)
      go (no q) = stays (get_or-set_other st.slots i k s blank_slot q)
      go (yes q) = rw q (inn (dec_lt i (length st.slots)))

  set_touches : (st' : Stack) (i : ℕ) (s : Reassembler) → st'.slots ≡ set st.slots i s → st'.head.now ≡ st.head.now
      → collecting_state s.state ≡ false → P (slot_at i st) → Touches P st st'
  set_touches st' i s e c n x = record {
    each = λ k. rw e (set_each i s n x k);
    count = ap length e ∙ length-set st.slots i s;
    later = rw c (le_refl st.head.now.clock);
  }

-- ---- by a handle: one whose handle is out

pub out_of : (m : ℕ) (f : State) → issue_is m f ≡ true → f ≡ HandleOut m
out_of m Empty e = absurd (no_true e)
out_of m Collecting e = absurd (no_true e)
out_of m Done e = absurd (no_true e)
out_of m (HandleOut n) e = ap HandleOut (eqb-true n m e)

pub out_idle : (f : State) → out_state f ≡ true → collecting_state f ≡ false
out_idle Empty e = refl
out_idle Collecting e = absurd (no_true e)
out_idle Done e = refl
out_idle (HandleOut n) e = refl

good_out : (h : ReceiveHandle) (st : Stack) → is_good h st ≡ true → handle_taken (slot_at h.index st) ≡ true
unfolding is_good
good_out h st =
    pick_cases (λ (b : Bool). b ≡ true → handle_taken (slot_at h.index st) ≡ true)
    (λ _ e. ap out_state (out_of h.issue (slot_at h.index st).state e)) (λ _ e. absurd (no_true e))

pub handled_touches : (f : Reassembler → Reassembler) → ((s : Reassembler) → handle_taken s ≡ true → collecting_state (f s).state ≡ false)
    → (h : ReceiveHandle) (st : Stack) → Touches (λ s. handle_taken s ≡ true) st (handled f h st).stack
unfolding handled
handled_touches f n h st =
    pick_cases (λ (o : Handled). Touches (λ s. handle_taken s ≡ true) st o.stack)
    (λ e. set_touches (λ s. handle_taken s ≡ true) st _ h.index (f (slot_at h.index st)) refl refl (n (slot_at h.index st) (good_out h st e)) (good_out h st e))
    (λ _. untouched st st refl (le_refl st.head.now.clock))

-- ---- by a lookup: one that is done

pub deferred_touches : (f : Reassembler → Bool) (st : Stack) → Touches (λ s. is_done s ≡ true) st (deferred_of f st).stack
unfolding take_of
deferred_touches f st =
    let i = earliest f st.slots in
    pick_cases (λ (r : Lookup). Touches (λ s. is_done s ≡ true) st r.stack)
    (λ e. set_touches (λ s. is_done s ≡ true) st _ i (with_state (HandleOut (next_issue st.head.issue)) (slot_at i st)) refl refl refl (earliest_hit f st.slots (ltb-true i (length st.slots) e)).0)
    (λ _. untouched st st refl (le_refl st.head.now.clock))

pub source_touches : (source : Eid) (tag : Tag) (st : Stack) → Touches (λ s. is_done s ≡ true) st (by_source_of source tag st).stack
unfolding by_source_of
source_touches source tag st =
    pick_cases (λ (r : Lookup). Touches (λ s. is_done s ≡ true) st r.stack)
    (λ _. untouched st st refl (le_refl st.head.now.clock)) (λ _. deferred_touches (kept_under source (is_owner tag) (tag_of tag)) st)

-- ---- by a check of time: one that has expired, at a clock that is taken

pub faded_blank : (t : ℕ) → faded_slot t blank_slot ≡ blank_slot
unfolding faded_slot
faded_blank t = pick_cases (λ (r : Reassembler). r ≡ blank_slot) (λ _. refl) (λ _. refl)

faded_changes : (t : ℕ) (s : Reassembler) → Changed (is_expired (slot_timeout t s) ≡ true) s (faded_slot t s)
unfolding faded_slot
faded_changes t s = pick_cases (Changed (is_expired (slot_timeout t s) ≡ true) s) (λ e. goes refl e) (λ _. stays refl)

clocked-later : (t : ℕ) (s : EventStamp) → s.clock ≤ (clocked t s).clock
unfolding clocked
clocked-later t s = pick_cases (λ (r : EventStamp). s.clock ≤ r.clock) (λ e. omega (arith, ltb-true s.clock t e)) (λ _. le_refl s.clock)

pub update_touches : (t : ℕ) (st : Stack) → Touches (λ s. (st.head.now.clock ≤ t) × (is_expired (slot_timeout t s) ≡ true)) st (update_of t st).stack
unfolding update_of checked
update_touches t st =
    pick_cases P (λ _. untouched st st refl (le_refl st.head.now.clock))
    (λ e. pick_cases P (λ _. untouched st (with_stamp (clocked t st.head.now) st) refl (clocked-later t st.head.now))
    (λ _. record {
      each = λ k. rw (get_d_mapped (faded_slot t) st.slots k blank_slot (faded_blank t))
          (changed_by (λ x. (ltb-false t st.head.now.clock e, x)) (faded_changes t (slot_at k st)));
      count = length-map st.slots (faded_slot t);
      later = clocked-later t st.head.now;
    }))
  where
    P : Update → Type 0
    P u = Touches (λ s. (st.head.now.clock ≤ t) × (is_expired (slot_timeout t s) ≡ true)) st u.stack

-- ---- by a cancel: a reply of that peer and tag

module _ (peer : Eid) (tag : TagValue) where
  swept_each : (l : List Reassembler) (k : ℕ) → Changed (is_reply peer tag (get_or l k blank_slot) ≡ true) (get_or l k blank_slot) (get_or (swept peer tag l) k blank_slot)
  unfolding swept
  swept_each [] k = stays refl
  swept_each (s ∷ l) zero = pick_cases P (λ y. pick_cases P (λ _. stays refl) (λ _. goes refl y)) (λ _. stays refl)
    where
      P : List Reassembler → Type 0
      P r = Changed (is_reply peer tag s ≡ true) s (get_or r 0 blank_slot)
  swept_each (s ∷ l) (suc k) = pick_cases P (λ _. pick_cases P (λ _. stays refl) (λ _. swept_each l k)) (λ _. swept_each l k)
    where
      P : List Reassembler → Type 0
      P r = Changed (is_reply peer tag (get_or l k blank_slot) ≡ true) (get_or l k blank_slot) (get_or r (suc k) blank_slot)

  pub swept-count : (l : List Reassembler) → length (swept peer tag l) ≡ length l
  unfolding swept
  swept-count [] = refl
  swept-count (s ∷ l) = pick_cases P (λ _. pick_cases P (λ _. refl) (λ _. ap suc (swept-count l))) (λ _. ap suc (swept-count l))
    where
      P : List Reassembler → Type 0
      P r = length r ≡ suc (length l)

  pub cancel_touches : (st : Stack) → Touches (λ s. is_reply peer tag s ≡ true) st (cancel_of peer tag st).stack
  unfolding cancel_of
  cancel_touches st =
      let walk : (st' : Stack) → st'.slots ≡ swept peer tag st.slots → st'.head ≡ st.head → Touches (λ s. is_reply peer tag s ≡ true) st st' =
      λ st' e c. record {
        each = λ k. rw e (swept_each st.slots k);
        count = ap length e ∙ swept-count st.slots;
        later = rw c (le_refl st.head.now.clock);
      } in
      pick_cases P (λ _. untouched st st refl (le_refl st.head.now.clock)) (λ _. pick_cases P (λ _. walk _ refl refl) (λ _. walk _ refl refl))
    where
      P : Handled → Type 0
      P o = Touches (λ s. is_reply peer tag s ≡ true) st o.stack
