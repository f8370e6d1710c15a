-- What the history tells about a slot that collects: its body, the number that is due, and what opened it; and what one more packet makes of that.
use Prim.Native.Nat.{ℕ, ◌+◌, ◌*◌, ◌%◌, ◌≤◌}
use native.Mathlib.Decide.{ℕ_discrete}
use native.Mathlib.Omega.{arith}
use mathlib.Core.Path.{◌≡◌, refl, sym, ap, ◌∙◌}
use mathlib.Core.Bool.{Bool, true, false}
use mathlib.Core.List.{List, [], ◌∷◌, ◌++◌, append-nil}
use lib.ListN.{length, get_or, set, length-set}
use lib.Seq.{get_or-set_other}
use Rattle.std.specs.Prelude.{Option}
use Rattle.octets.specs.Pick.{pick, pick_true}
use Rattle.octets.specs.Bytes.{part, over}
use Rattle.mctp.specs.declared.Key.{Key}
use Rattle.mctp.specs.declared.Header.{Header}
use Rattle.stamp.specs.declared.EventStamp.{EventStamp}
use Rattle.slot.specs.declared.Reassembler.{Reassembler}
use Rattle.slot.specs.Slot.{blank_slot, collects}
use Rattle.reassemble.specs.Enter.{appended}
use Rattle.fragment.specs.Cutting.{body_in}
use Rattle.state.specs.Stack.{Stack, slot_at}
use Rattle.handles.specs.Handles.{message_in}
use Rattle.promises.specs.Calls.{World}
use Rattle.promises.specs.Delivery.{read_from, all_of}
use Rattle.promises.specs.History.{Taken, since, gathered, follows, numbered, Opens}
use Rattle.promises.proofs.Facts.{and_left}
use Rattle.promises.proofs.Slots.{idle-collects, parts, get_d_set_default}
use Rattle.promises.proofs.Pool.{body_at, body_append}
use Rattle.promises.proofs.Walks.{Changed, stays, goes, Touches}
use Rattle.promises.proofs.Since.{gathered_snoc, due, due_snoc, numbered_snoc, all_snoc, opens_snoc, opens_as}
use Rattle.mctp.specs.declared.AppCookie.{AppCookie}

-- the slot s at place i holds what the packets l brought
pub record Story (B : ℕ) (pool : List ℕ) (i : ℕ) (l : List Taken) (s : Reassembler) : Type 0 where
  pub short : s.len ≤ B
  pub body : all_of (λ t. t.here) l ≡ true → body_at B i s.len pool ≡ gathered l
  pub number : s.next_seq ≡ due l
  pub turn : numbered l ≡ true
  pub opened : Opens (read_from pool (message_in B i s)) l

pub record Inv (B : ℕ) (H : List Taken) (w : World) : Type 0 where
  pub room : B * length w.stack.slots ≤ length w.pool
  pub story : (i : ℕ) (K : Key) → collects K (slot_at i w.stack) ≡ true → Story B w.pool i (since K H) (slot_at i w.stack)
  pub one : (i j : ℕ) (K : Key) → collects K (slot_at i w.stack) ≡ true → collects K (slot_at j w.stack) ≡ true → i ≡ j

-- ---- a call that starts no slot, and leaves the pool

-- each slot that collects afterwards was the same before
pub record Shrinks (l l' : List Reassembler) : Type 0 where
  pub stood : (K : Key) (k : ℕ) → collects K (get_or l' k blank_slot) ≡ true → get_or l' k blank_slot ≡ get_or l k blank_slot
  pub count : length l' ≡ length l

pub shrunk : (B : ℕ) (H : List Taken) (w w' : World) → Inv B H w → Shrinks w.stack.slots w'.stack.slots → w'.pool ≡ w.pool → Inv B H w'
shrunk B H w w' v h e = record {
  room = rw (h.count, e) v.room;
  story = λ i K c. rw (h.stood K i c, e) (v.story i K (was K i c));
  one = λ i j K a b. v.one i j K (was K i a) (was K j b);
}
  where
    was : (K : Key) (i : ℕ) → collects K (slot_at i w'.stack) ≡ true → collects K (slot_at i w.stack) ≡ true
    was K i c = ap (collects K) (sym (h.stood K i c)) ∙ c

pub unshrunk : (l l' : List Reassembler) → l' ≡ l → Shrinks l l'
unshrunk l l' e = record { stood = λ K k c. ap (λ (x : List Reassembler). get_or x k blank_slot) e; count = ap length e }

pub silent_shrinks : (P : Reassembler → Type 0) (st st' : Stack) → Touches P st st' → Shrinks st.slots st'.slots
silent_shrinks P st st' t = record { stood = λ K k c. stand K k (t.each k) c; count = t.count }
  where
    stand : (K : Key) (k : ℕ) → Changed (P (slot_at k st)) (slot_at k st) (slot_at k st') → collects K (slot_at k st') ≡ true → slot_at k st' ≡ slot_at k st
    stand K k (stays e) c = e
    stand K k (goes n x) c = absurd (idle-collects K (slot_at k st') n c)

pub blank_shrinks : (l : List Reassembler) (i : ℕ) → Shrinks l (set l i blank_slot)
blank_shrinks l i = record { stood = λ K k c. stand K k (ℕ_discrete k i) c; count = length-set l i blank_slot }
  where
    stand : (K : Key) (k : ℕ) → Dec (k ≡ i) → collects K (get_or (set l i blank_slot) k blank_slot) ≡ true → get_or (set l i blank_slot) k blank_slot ≡ get_or l k blank_slot
    stand K k (no q) c = get_or-set_other l i k blank_slot blank_slot q
    stand K k (yes q) c = absurd (idle-collects K blank_slot refl (rw (q, get_d_set_default l i blank_slot) at c))

-- ---- one more packet in a story

-- the packet p with header h, taken into the slot s at place i
module _ (B i : ℕ) (p : List ℕ) (h : Header) (lent : Bool) (cookie : Option AppCookie) (pool : List ℕ) (s : Reassembler) (now : EventStamp) (issue : ℕ)
    (number : h.seq ≡ s.next_seq) (fits : s.len + length (body_in p) ≤ B) (holds : B * i + B ≤ length pool) where
  abbrev t : Taken
  t = record { header = h; packet = p; here = lent; cookie = cookie }

  abbrev slot₁ : Reassembler
  slot₁ = appended h.eom now issue (length (body_in p)) s

  abbrev pool₁ : List ℕ
  pool₁ = pick lent (over (B * i + s.len) (body_in p) pool) pool

  due_next : slot₁.next_seq ≡ (h.seq + 1) % 4
  due_next = let q = (parts h.eom now issue (length (body_in p)) s).next in omega arith

  -- with the watched pool lent, its bytes come after those that were there
  joins : lent ≡ true → body_at B i slot₁.len pool₁ ≡ body_at B i s.len pool ++ body_in p
  joins y =
      ap (λ (n : ℕ). body_at B i n pool₁) (parts h.eom now issue (length (body_in p)) s).len
      ∙ ap (λ (d : List ℕ). body_at B i (s.len + length (body_in p)) d) (pick_true lent (over (B * i + s.len) (body_in p) pool) pool y)
      ∙ body_append B i s.len (body_in p) pool fits holds

  opens_on : (l : List Taken) → Opens (read_from pool (message_in B i s)) l → Opens (read_from pool₁ (message_in B i slot₁)) l
  opens_on l o =
      let q = parts h.eom now issue (length (body_in p)) s in
      opens_as (read_from pool (message_in B i s)) (read_from pool₁ (message_in B i slot₁)) q.typ q.ic q.cookie l o

  short₁ : slot₁.len ≤ B
  short₁ = rw (parts h.eom now issue (length (body_in p)) s).len fits

  -- the story goes on
  pub goes_on : (l : List Taken) → h.som ≡ false → Story B pool i l s → Story B pool₁ i (l ++ (t ∷ [])) slot₁
  goes_on l n o = record {
    short = short₁;
    body = λ c. let q = all_snoc (λ (x : Taken). x.here) l t c in
        joins q.1 ∙ ap (λ (b : List ℕ). b ++ body_in p) (o.body q.0) ∙ sym (gathered_snoc l t);
    number = due_next ∙ sym (due_snoc l t);
    turn = numbered_snoc l t o.turn n (number ∙ o.number);
    opened = opens_on (l ++ (t ∷ [])) (opens_snoc (read_from pool (message_in B i s)) l t o.opened);
  }

  -- the story begins
  pub begins : h.som ≡ true → s.len ≡ 0 → Opens (read_from pool (message_in B i s)) (t ∷ []) → Story B pool₁ i (t ∷ []) slot₁
  unfolding gathered numbered follows part
  begins y z o = record {
    short = short₁;
    body = λ c. joins (and_left lent true c) ∙ ap (λ (n : ℕ). body_at B i n pool ++ body_in p) z ∙ sym (append-nil (body_in p));
    number = due_next;
    turn = rw y;
    opened = opens_on (t ∷ []) o;
  }
