-- A packet that is taken is one more in the story of its own slot, and every other slot's story is as it was: no two slots collect under one key.
use Prim.Native.Nat.{ℕ, ◌+◌, ◌*◌, ◌≤◌}
use native.Mathlib.Decide.{ℕ_discrete}
use native.Mathlib.Omega.{arith}
use mathlib.Core.Path.{◌≡◌, refl, sym, ap, ◌∙◌, subst}
use mathlib.Core.Logic.{◌≢◌}
use mathlib.Core.Bool.{Bool, true, false}
use mathlib.Core.List.{List, ◌∷◌}
use lib.ListN.{length, get_or, length-set}
use lib.Seq.{get_or-set_other, get_or-set_same}
use Rattle.octets.specs.Pick.{pick, pick_cases}
use Rattle.octets.specs.Bytes.{over}
use Rattle.mctp.specs.declared.Key.{Key}
use Rattle.mctp.specs.declared.Header.{Header}
use Rattle.mctp.specs.Terms.{same_key}
use Rattle.slot.specs.declared.State.{State}
use Rattle.slot.specs.declared.Reassembler.{Reassembler}
use Rattle.slot.specs.Slot.{blank_slot, collects, collects_in}
use Rattle.reassemble.specs.Enter.{appended}
use Rattle.fragment.specs.Cutting.{body_in}
use Rattle.state.specs.Stack.{slot_at}
use Rattle.receiving.specs.Receive.{Receipt}
use Rattle.handles.specs.Handles.{message_in}
use Rattle.promises.specs.Calls.{World}
use Rattle.promises.specs.Delivery.{read_from, cookie_for}
use Rattle.promises.specs.History.{Taken, since}
use Rattle.promises.proofs.Facts.{no_both, is_false, same_key_lem, same_refl}
use Rattle.promises.proofs.Slots.{collects_key, parts}
use Rattle.promises.proofs.Pool.{slot_le, body_at, pool_length, body_apart}
use Rattle.promises.proofs.Gate.{Source, collected, opens}
use Rattle.promises.proofs.Outcome.{Took}
use Rattle.promises.proofs.Since.{since_other, since-opens, since_more, opens_as}
use Rattle.promises.proofs.Story.{Story, Inv, goes_on, begins}

module _ (B : ℕ) (H : List Taken) (w : World) (v : Inv B H w) (p : List ℕ) (lent : Bool) (r : Receipt) (i : ℕ) (h : Header) (t : Took B w.stack p r i h) where
  abbrev pub taken : Taken
  taken = record { header = h; packet = p; here = lent; cookie = cookie_for h.key w.stack }

  abbrev pub pool_now : List ℕ
  pool_now = pick lent (over (B * i + t.base.len) (body_in p) w.pool) w.pool

  abbrev pub slot_now : Reassembler
  slot_now = appended h.eom t.now t.issue (length (body_in p)) t.base

  holds : B * i + B ≤ length w.pool
  holds = omega (arith, slot_le B i (length w.stack.slots) t.found, v.room)

  -- no other slot collects under the packet's key
  pub alone : (k : ℕ) → collects h.key (slot_at k w.stack) ≡ true → k ≡ i
  alone k c = go t.source
    where
      go : Source w.stack.slots i h → k ≡ i
      go (collected d) = v.one k i h.key c d
      go (opens e y n) = absurd (no_both (collects h.key (slot_at k w.stack)) c (n k))

  pub base_collects : collects h.key t.base ≡ true
  base_collects = ap (λ (f : State). collects_in f (same_key t.base.key h.key)) t.is_base.state ∙ ap (λ (k : Key). same_key k h.key) t.is_base.key ∙ same_refl h.key

  -- the slot's own story
  pub own : Story B pool_now i (since h.key (taken ∷ H)) slot_now
  own = go h.som refl
    where
      go : (b : Bool) → h.som ≡ b → Story B pool_now i (since h.key (taken ∷ H)) slot_now
      go true y =
          subst (λ (l : List Taken). Story B pool_now i l slot_now) (sym (since-opens h.key taken H (same_refl h.key) y))
          (begins B i p h lent (cookie_for h.key w.stack) w.pool t.base t.now t.issue t.number t.fits holds y (t.is_base.afresh y)
          (t.is_base.kind y, t.is_base.cookie))
      go false n =
          let q = t.is_base.goes_on n in
          let was : Story B w.pool i (since h.key H) t.base = rw q (v.story i h.key (rw q at base_collects)) in
          subst (λ (l : List Taken). Story B pool_now i l slot_now) (sym (since_more h.key taken H (same_refl h.key) n))
          (goes_on B i p h lent (cookie_for h.key w.stack) w.pool t.base t.now t.issue t.number t.fits holds (since h.key H) n was)

  apart : (k n : ℕ) → k ≢ i → n ≤ B → body_at B k n pool_now ≡ body_at B k n w.pool
  apart k n ne le = pick_cases (λ (d : List ℕ). body_at B k n d ≡ body_at B k n w.pool) (λ _. body_apart B i t.base.len (body_in p) w.pool t.fits holds k n le ne) (λ _. refl)

  -- every other slot's story is as it was
  others : (k : ℕ) → k ≢ i → (K : Key) → collects K (slot_at k w.stack) ≡ true → Story B pool_now k (since K (taken ∷ H)) (slot_at k w.stack)
  others k ne K c =
      let o = v.story k K c in
      let s = slot_at k w.stack in
      subst (λ (l : List Taken). Story B pool_now k l s) (sym (since_other K taken H (is_false (same_key h.key K) (λ e. ne (alone k (rw (same_key_lem h.key K e) c))))))
      (record {
        short = o.short;
        body = λ x. apart k s.len ne o.short ∙ o.body x;
        number = o.number;
        turn = o.turn;
        opened = opens_as (read_from w.pool (message_in B k s)) (read_from pool_now (message_in B k s)) refl refl refl (since K H) o.opened;
      })

  -- ---- the slots afterwards

  pub here_slot : get_or r.stack.slots i blank_slot ≡ slot_now
  here_slot = ap (λ (l : List Reassembler). get_or l i blank_slot) t.slots ∙ get_or-set_same w.stack.slots i slot_now blank_slot t.found

  there_slot : (k : ℕ) → k ≢ i → get_or r.stack.slots k blank_slot ≡ slot_at k w.stack
  there_slot k ne = ap (λ (l : List Reassembler). get_or l k blank_slot) t.slots ∙ get_or-set_other w.stack.slots i k slot_now blank_slot ne

  pub key_now : slot_now.key ≡ h.key
  key_now = (parts h.eom t.now t.issue (length (body_in p)) t.base).key ∙ t.is_base.key

  -- slot i collects under the packet's key, if it collects
  here_key : (K : Key) → collects K (get_or r.stack.slots i blank_slot) ≡ true → h.key ≡ K
  here_key K c = sym key_now ∙ collects_key K slot_now (rw here_slot at c)

  one_now : (a b : ℕ) (K : Key) → collects K (get_or r.stack.slots a blank_slot) ≡ true → collects K (get_or r.stack.slots b blank_slot) ≡ true → a ≡ b
  one_now a b K ca cb = go (ℕ_discrete a i) (ℕ_discrete b i)
    where
      go : Dec (a ≡ i) → Dec (b ≡ i) → a ≡ b
      go (yes x) (yes y) = x ∙ sym y
      go (yes x) (no y) = absurd (y (alone b (rw (here_key K (rw x at ca)) (rw (there_slot b y) at cb))))
      go (no x) (yes y) = absurd (x (alone a (rw (here_key K (rw y at cb)) (rw (there_slot a x) at ca))))
      go (no x) (no y) = v.one a b K (rw (there_slot a x) at ca) (rw (there_slot b y) at cb)

  story_now : (k : ℕ) (K : Key) → collects K (get_or r.stack.slots k blank_slot) ≡ true → Story B pool_now k (since K (taken ∷ H)) (get_or r.stack.slots k blank_slot)
  story_now k K c = go (ℕ_discrete k i)
    where
      go : Dec (k ≡ i) → Story B pool_now k (since K (taken ∷ H)) (get_or r.stack.slots k blank_slot)
      go (no q) = rw (there_slot k q) (others k q K (rw (there_slot k q) at c))
      go (yes q) = rw q (rw here_slot (subst (λ (X : Key). Story B pool_now i (since X (taken ∷ H)) slot_now) (here_key K (rw q at c)) own))

  pub took_inv : Inv B (taken ∷ H) (record { stack = r.stack; pool = pool_now })
  took_inv = record {
    room = rw (ap (λ (l : List Reassembler). length l) t.slots ∙ length-set w.stack.slots i slot_now, long) v.room;
    story = story_now;
    one = one_now;
  }
    where
      long : length pool_now ≡ length w.pool
      long = pick_cases (λ (d : List ℕ). length d ≡ length w.pool) (λ _. pool_length B i t.base.len (body_in p) w.pool t.fits holds) (λ _. refl)
