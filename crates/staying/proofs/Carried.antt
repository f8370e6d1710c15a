-- Whatever a receive hands out was carried: the packets taken under its key since the newest opening one are a message in packets as DSP0236 has it, with SOM
-- on the first alone and EOM on the last alone. For a slot that collects has met no EOM since it was opened.
use Prim.Native.Nat.{ℕ, ◌+◌, ◌*◌, ◌%◌, ◌≤◌}
use native.Mathlib.Nat.{le_refl, le_trans, le-max_left, le-max_right}
use native.Mathlib.Decide.{ℕ_discrete}
use native.Mathlib.Omega.{arith}
use mathlib.Core.Path.{◌≡◌, refl, sym, ap, subst, ◌∙◌}
use mathlib.Core.Bool.{Bool, true, false, not, ◌&&◌}
use mathlib.Core.List.{List, [], ◌∷◌, ◌++◌}
use lib.Dec.{eqb}
use lib.ListN.{length, get_or}
use lib.Seq.{get_or-set_other}
use borrow.Author.Tests.{ltb-false, eqb-true, not-true}
use Rattle.std.specs.Prelude.{Err, None, Ok, Option, Result, Some}
use Rattle.octets.specs.Pick.{pick, pick_cases}
use Rattle.octets.proofs.Bools.{bool_cases}
use Rattle.mctp.specs.declared.Key.{Key}
use Rattle.mctp.specs.declared.Header.{Header}
use Rattle.mctp.specs.Terms.{same_key}
use Rattle.mctp.specs.Header.{header_of, lead}
use Rattle.mctp.specs.Answer.{gives}
use Rattle.slot.specs.declared.Reassembler.{Reassembler}
use Rattle.slot.specs.Slot.{blank_slot, is_empty, collects}
use Rattle.slot.specs.Search.{slot_for}
use Rattle.reassemble.specs.Enter.{enter, appended}
use Rattle.fragment.specs.Cutting.{body_in, PacketIs, InTurn, joined, kind_in, Carries}
use Rattle.state.specs.Stack.{Stack, slot_at, ticked}
use Rattle.slot.specs.declared.ReceiveHandle.{ReceiveHandle}
use Rattle.slot.specs.Handle.{handle_words}
use Rattle.receiving.specs.Receive.{Receipt, settled, land, counted_opening, gate_of, receive_at, receive_by, receive_of}
use Rattle.promises.specs.Calls.{Call, receive, World, step, steps, receipt, performed, has_key}
use Rattle.promises.specs.Delivery.{Message, message_at, all_of}
use Rattle.promises.specs.History.{Taken, takes, note, noted, logged, history, lent_here, since, gathered, follows, numbered, Opens}
use Rattle.promises.proofs.Facts.{no_both, no_true, and_left, and_right, and_both, same_refl, same_key_lem, is_false}
use Rattle.promises.proofs.Slots.{collects_key}
use Rattle.promises.proofs.Outcome.{Took, Outcome, quiet, dropped, took, receive_outcome}
use Rattle.promises.proofs.Quiet.{Spare, Kind, here, there, silent, kind}
use Rattle.promises.proofs.Fetch.{as_told, told_of}
use Rattle.promises.proofs.Since.{since_other, since-opens, since_more, snoc_all}
use Rattle.promises.proofs.Story.{Inv, Shrinks, unshrunk, silent_shrinks, blank_shrinks}
use Rattle.promises.proofs.Taking.{taken, slot_now, alone, base_collects, here_slot, key_now}
use Rattle.promises.proofs.Runs.{log, took_log, quiet_log, steps_inv, fresh_inv}
use Rattle.promises.proofs.Told.{told, told_here}
use Rattle.staying.specs.Packets.{packets_of, longest}
use Rattle.mctp.specs.declared.Error.{Error}
use Rattle.reassemble.specs.declared.Intake.{Intake}

-- ---- a packet that is taken is whole: its header is good, and with SOM its type byte is there

abbrev is_good_header : Option Header → Bool
is_good_header (Some h) = true
is_good_header None = false

good_long : (p : List ℕ) (h : Header) → header_of p ≡ Some h → 4 ≤ length p
unfolding header_of
good_long p h =
    pick_cases (λ (r : Option Header). r ≡ Some h → 4 ≤ length p) (λ _ e. absurd (no_true (ap is_good_header e))) (λ n _. ltb-false (length p) 4 n)

lead_four : (b : Bool) (n : ℕ) → b ≡ false → 4 ≤ n → lead b ≤ n
lead_four b n e l = rw e l

lead_five : (b : Bool) (n : ℕ) → 5 ≤ n → lead b ≤ n
lead_five true n l = l
lead_five false n l = omega arith

module _ (B : ℕ) (p : List ℕ) (h : Header) (read : header_of p ≡ Some h) where
  Long : Receipt → Type 0
  Long r = takes r.said ≡ true → lead h.som ≤ length p

  land_long : (i : ℕ) (st : Stack) (g : Result Reassembler Error) → Long (land B i st h p g)
  unfolding land enter Long
  land_long i st (Err err) = λ e. absurd (no_true e)
  land_long i st (Ok s) =
      pick_cases P (λ _. pick_cases P (λ _ e. absurd (no_true e)) (λ n _. lead_five h.som (length p) (ltb-false (length p) 5 n)))
      (λ n _. lead_four h.som (length p) n (good_long p h read))
    where
      P : Result Intake Error → Type 0
      P e = takes (settled B i (ticked st) h.key p e).said ≡ true → lead h.som ≤ length p

  at_long : (i : ℕ) (st : Stack) (r : Option Header) → header_of p ≡ r → Long (receive_at B i st p r)
  unfolding receive_at Long
  at_long i st None again = λ e. absurd (no_true e)
  at_long i st (Some g) again =
      let same : Some g ≡ Some h = sym again ∙ read in
      let k : g ≡ h = cc in
      subst (λ (x : Header). takes (land B i (counted_opening (is_empty (slot_at i st)) st) x p (gate_of i st x)).said ≡ true → lead h.som ≤ length p) (sym k)
      (land_long i (counted_opening (is_empty (slot_at i st)) st) (gate_of i st h))

  pub taken_long : (st : Stack) (room : ℕ) → takes (receive_of B st room p).said ≡ true → lead h.som ≤ length p
  unfolding receive_of receive_by Long
  taken_long st room =
      pick_cases P (λ _ e. absurd (no_true e))
      (λ _. pick_cases P (λ _. at_long (slot_for (header_of p) st.slots) st (header_of p) refl) (λ _ e. absurd (no_true e)))
    where
      P : Receipt → Type 0
      P r = takes r.said ≡ true → lead h.som ≤ length p

-- ---- what holds of each

module _ (P : Taken → Type 0) where
  unfoldable Each : List Taken → Type 0
  Each [] = Unit
  Each (t ∷ l) = P t × Each l

  each_snoc : (l : List Taken) (t : Taken) → Each l → P t → Each (l ++ (t ∷ []))
  unfolding Each
  each_snoc [] t a x = (x, tt)
  each_snoc (y ∷ l) t a x = (a.0, each_snoc l t a.1 x)

-- a packet that was read, and is whole
record Read (t : Taken) : Type 0 where
  pub header : header_of t.packet ≡ Some t.header
  pub whole : lead t.header.som ≤ length t.packet

-- and has that key
record Of (K : Key) (t : Taken) : Type 0 where
  pub read : Read t
  pub key : t.header.key ≡ K

since_of : (K : Key) (H : List Taken) → Each Read H → Each (Of K) (since K H)
unfolding since Each
since_of K [] a = tt
since_of K (t ∷ H) a =
    let ih = since_of K H a.1 in
    pick_cases (Each (Of K))
    (λ y. let o : Of K t = record { read = a.0; key = same_key_lem t.header.key K y } in pick_cases (Each (Of K)) (λ _. (o, tt)) (λ _. each_snoc (Of K) (since K H) t ih o))
    (λ _. ih)

-- ---- every packet of a history is read and whole

noted_read : (B : ℕ) (st : Stack) (room : ℕ) (lent : Bool) (p : List ℕ) (H : List Taken) → Each Read H → Each Read (noted (receive_of B st room p).said st lent p H)
unfolding noted Each
noted_read B st room lent p H a = pick_cases (Each Read) (λ y. go y (header_of p) refl) (λ _. a)
  where
    go : takes (receive_of B st room p).said ≡ true → (r : Option Header) → header_of p ≡ r → Each Read (note st lent r p H)
    go y None e = a
    go y (Some h) e = (record { header = e; whole = taken_long B p h e st room y }, a)

logged_read : (B : ℕ) (c : Call) (w : World) (H : List Taken) → Each Read H → Each Read (logged B c w H)
unfolding logged
logged_read B c w H a = go c (kind B w c)
  where
    go : (c : Call) → Kind B w c → Each Read (logged B c w H)
    go c (here p) = noted_read B w.stack (length w.pool) true p H a
    go c (there n p) = noted_read B w.stack n false p H a
    go c (silent s) = rw (s.log H) a

history_read : (B : ℕ) (cs : List Call) (w : World) (H : List Taken) → Each Read H → Each Read (history B cs w H)
unfolding history
history_read B [] w H a = a
history_read B (c ∷ cs) w H a = history_read B cs (step B c w) (logged B c w H) (logged_read B c w H a)

-- ---- a slot that collects has met no EOM

abbrev unended : Taken → Bool
unended t = not t.header.eom

-- where a slot collects under K, none of the packets since the newest opening one had EOM
record Going (H : List Taken) (l : List Reassembler) : Type 0 where
  pub none : (i : ℕ) (K : Key) → collects K (get_or l i blank_slot) ≡ true → all_of unended (since K H) ≡ true

shrunk_going : (H : List Taken) (l l' : List Reassembler) → Going H l → Shrinks l l' → Going H l'
shrunk_going H l l' g h = record { none = λ i K c. g.none i K (ap (collects K) (sym (h.stood K i c)) ∙ c) }

module _ (B : ℕ) (H : List Taken) (w : World) (v : Inv B H w) (g : Going H w.stack.slots) (p : List ℕ) (lent : Bool) where
  module _ (r : Receipt) (i : ℕ) (h : Header) (t : Took B w.stack p r i h) where
    abbrev one : Taken
    one = taken B H w v p lent r i h t

    abbrev slot : Reassembler
    slot = slot_now B H w v p lent r i h t

    -- without SOM the slot collected already
    was : h.som ≡ false → collects h.key (slot_at i w.stack) ≡ true
    was n = ap (collects h.key) (sym (t.is_base.goes_on n)) ∙ base_collects B H w v p lent r i h t

    -- before this packet none had EOM
    before : (P : List Taken → Type 0) → P (one ∷ []) → ((l : List Taken) → all_of unended l ≡ true → P (l ++ (one ∷ []))) → P (since h.key (one ∷ H))
    before P one-alone more =
        bool_cases h.som (λ y. subst P (sym (since-opens h.key one H (same_refl h.key) y)) one-alone)
        (λ n. subst P (sym (since_more h.key one H (same_refl h.key) n)) (more (since h.key H) (g.none i h.key (was n))))

    -- a slot that collects after this packet has had no EOM with it
    slot_unended : (eom : Bool) → (K : Key) → collects K (appended eom t.now t.issue (length (body_in p)) t.base) ≡ true → eom ≡ false
    unfolding pick
    slot_unended true K c = absurd (no_true c)
    slot_unended false K c = refl

    own : (K : Key) → collects K slot ≡ true → all_of unended (since K (one ∷ H)) ≡ true
    own K c =
        let k : h.key ≡ K = sym (key_now B H w v p lent r i h t) ∙ collects_key K slot c in
        let o : unended one ≡ true = ap not (slot_unended h.eom K c) in
        subst (λ (X : Key). all_of unended (since X (one ∷ H)) ≡ true) k
        (before (λ l. all_of unended l ≡ true) (rw o) (λ l a. snoc_all unended l one a o))

    took_going : Going (one ∷ H) r.stack.slots
    took_going = record { none = λ k K c. go k K (ℕ_discrete k i) c }
      where
        go : (k : ℕ) (K : Key) → Dec (k ≡ i) → collects K (get_or r.stack.slots k blank_slot) ≡ true → all_of unended (since K (one ∷ H)) ≡ true
        go k K (yes q) c =
            own K (ap (collects K) (sym (ap (λ (j : ℕ). get_or r.stack.slots j blank_slot) q ∙ here_slot B H w v p lent r i h t)) ∙ c)
        go k K (no q) c =
            let there = ap (λ (l : List Reassembler). get_or l k blank_slot) t.slots ∙ get_or-set_other w.stack.slots i k slot blank_slot q in
            let c' : collects K (slot_at k w.stack) ≡ true = ap (collects K) (sym there) ∙ c in
            let n : same_key h.key K ≡ false = is_false (same_key h.key K) (λ e. q (alone B H w v p lent r i h t k (ap (λ (X : Key). collects X (slot_at k w.stack)) (same_key_lem h.key K e) ∙ c'))) in
            ap (all_of unended) (since_other K one H n) ∙ g.none k K c'

  outcome_going : (r : Receipt) → Outcome B w.stack p r → Going (log B H w v p lent r) r.stack.slots
  outcome_going r (quiet s b n) =
      subst (λ (x : List Taken). Going x r.stack.slots) (sym (quiet_log B H w v p lent r n)) (shrunk_going H w.stack.slots r.stack.slots g (unshrunk w.stack.slots r.stack.slots s))
  outcome_going r (dropped i h read src e b n) =
      subst (λ (x : List Taken). Going x r.stack.slots) (sym (quiet_log B H w v p lent r n))
      (shrunk_going H w.stack.slots r.stack.slots g (subst (Shrinks w.stack.slots) (sym e) (blank_shrinks w.stack.slots i)))
  outcome_going r (took i h t) = subst (λ (x : List Taken). Going x r.stack.slots) (sym (took_log B H w v p lent r i h t)) (took_going r i h t)

going_by : (B : ℕ) (H : List Taken) (w : World) → Inv B H w → Going H w.stack.slots → (c : Call) → Kind B w c → Going (logged B c w H) (step B c w).stack.slots
unfolding step logged
going_by B H w v g c (here p) = outcome_going B H w v g p true (receive_of B w.stack (length w.pool) p) (receive_outcome B w.stack p (length w.pool))
going_by B H w v g c (there n p) = outcome_going B H w v g p false (receive_of B w.stack n p) (receive_outcome B w.stack p n)
going_by B H w v g c (silent s) =
    subst (λ (x : List Taken). Going x (step B c w).stack.slots) (sym (s.log H))
    (shrunk_going H w.stack.slots (step B c w).stack.slots g (silent_shrinks (Spare c w.stack) w.stack (step B c w).stack s.slots))

step_inv : (B : ℕ) (c : Call) (H : List Taken) (w : World) → Inv B H w → Inv B (logged B c w H) (step B c w)
unfolding steps history
step_inv B c H w v = steps_inv B (c ∷ []) H w v

steps_going : (B : ℕ) (cs : List Call) (H : List Taken) (w : World) → Inv B H w → Going H w.stack.slots → Going (history B cs w H) (steps B cs w).stack.slots
unfolding history steps
steps_going B [] H w v g = g
steps_going B (c ∷ cs) H w v g = steps_going B cs (logged B c w H) (step B c w) (step_inv B c H w v) (going_by B H w v g c (kind B w c))

-- ---- the last has EOM, and none before it

unfoldable last_alone : List Taken → Bool
last_alone [] = false
last_alone (t ∷ []) = t.header.eom
last_alone (t ∷ u ∷ l) = unended t && last_alone (u ∷ l)

last_more : (l : List Taken) (t : Taken) → all_of unended l ≡ true → t.header.eom ≡ true → last_alone (l ++ (t ∷ [])) ≡ true
unfolding last_alone
last_more [] t a e = e
last_more (x ∷ []) t a e = and_both (unended x) t.header.eom (and_left (unended x) true a) e
last_more (x ∷ y ∷ l) t a e =
    and_both (unended x) (last_alone (y ∷ (l ++ (t ∷ [])))) (and_left (unended x) (all_of unended (y ∷ l)) a) (last_more (y ∷ l) t (and_right (unended x) (all_of unended (y ∷ l)) a) e)

-- a receive that hands out closes what stands under its key
closes : (B : ℕ) (H : List Taken) (w : World) → Inv B H w → Going H w.stack.slots → (p : List ℕ) (lent : Bool) (r : Receipt) → Outcome B w.stack p r
    → (k : ReceiveHandle) → r.said ≡ Ok (Some k) → (K : Key) → has_key K (header_of p) ≡ true → last_alone (since K (noted r.said w.stack lent p H)) ≡ true
unfolding last_alone
closes B H w v g p lent r (quiet s b n) k y K q = absurd (no_both (takes r.said) (ap takes y) n)
closes B H w v g p lent r (dropped i h read src s b n) k y K q = absurd (no_both (takes r.said) (ap takes y) n)
closes B H w v g p lent r (took i h t) k y K q =
    let one = taken B H w v p lent r i h t in
    let same : h.key ≡ K = same_key_lem h.key K (ap (has_key K) (sym t.read) ∙ q) in
    let e : h.eom ≡ true = (told_of h.eom i t.issue k (sym t.said ∙ y)).0 in
    subst (λ (l : List Taken). last_alone (since K l) ≡ true) (sym (took_log B H w v p lent r i h t))
    (subst (λ (X : Key). last_alone (since X (one ∷ H)) ≡ true) same
    (before B H w v g p lent r i h t (λ l. last_alone l ≡ true) e (λ l a. last_more l one a e)))

-- ---- in turn

module _ (K : Key) (mtu : ℕ) where
  is_packet : (t : Taken) (som eom : Bool) (n : ℕ) → Of K t → length t.packet ≤ mtu → t.header.som ≡ som → t.header.eom ≡ eom → t.header.seq ≡ n
      → PacketIs K mtu som eom n t.packet
  is_packet t som eom n o l s e q = record {
    header = o.read.header ∙ ap Some (λ i. record { key = o.key i; som = s i; eom = e i; seq = q i });
    whole = rw s at o.read.whole;
    within = l;
  }

  Fits : Taken → Type 0
  Fits t = length t.packet ≤ mtu

  in_turn : (l : List Taken) (t : Taken) (som : Bool) (n : ℕ) → Each (Of K) (t ∷ l) → Each Fits (t ∷ l) → t.header.som ≡ som → t.header.seq ≡ n
      → follows n l ≡ true → last_alone (t ∷ l) ≡ true → InTurn K mtu som true n (packets_of (t ∷ l))
  unfolding InTurn follows last_alone Each Fits
  in_turn [] t som n a f s q w e = is_packet t som true n a.0 f.0 s e q
  in_turn (u ∷ l) t som n a f s q w e =
      let x = and_right (not u.header.som) _ w in (
        is_packet t som false n a.0 f.0 s (not-true t.header.eom (and_left (unended t) (last_alone (u ∷ l)) e)) q,
        in_turn l u false ((n + 1) % 4) a.1 f.1 (not-true u.header.som (and_left (not u.header.som) _ w))
            (eqb-true u.header.seq ((n + 1) % 4) (and_left (eqb u.header.seq ((n + 1) % 4)) _ x))
            (subst (λ (k : ℕ). follows k l ≡ true) (eqb-true u.header.seq ((n + 1) % 4) (and_left (eqb u.header.seq ((n + 1) % 4)) _ x))
            (and_right (eqb u.header.seq ((n + 1) % 4)) (follows u.header.seq l) x))
            (and_right (unended t) (last_alone (u ∷ l)) e),
      )

  within : (l : List Taken) → longest (packets_of l) ≤ mtu → Each Fits l
  unfolding Each Fits
  within [] h = tt
  within (t ∷ l) h = (le_trans (le-max_left (length t.packet) (longest (packets_of l))) h, within l (le_trans (le-max_right (length t.packet) (longest (packets_of l))) h))

joined_is : (l : List Taken) → joined (packets_of l) ≡ gathered l
unfolding joined gathered
joined_is [] = refl
joined_is (t ∷ l) = ap (λ (b : List ℕ). body_in t.packet ++ b) (joined_is l)

-- packets numbered in turn, each read and whole and of that key, the last with EOM and none before it: a message in packets
carries : (K : Key) (m : Message) (l : List Taken) (mtu : ℕ) → longest (packets_of l) ≤ mtu → Each (Of K) l → numbered l ≡ true → last_alone l ≡ true → Opens m l
    → Carries K m.typ m.ic mtu (gathered l) (packets_of l)
unfolding numbered kind_in
carries K m [] mtu h a w e o = absurd o
carries K m (t ∷ l) mtu h a w e o = record {
  start = t.header.seq;
  turn = in_turn K mtu l t true t.header.seq a (within K mtu (t ∷ l) h) (and_left t.header.som (follows t.header.seq l) w) refl
      (and_right t.header.som (follows t.header.seq l) w) e;
  kind = o.0;
  body = joined_is (t ∷ l);
}

-- ---- what is handed out was carried

module _ (B : ℕ) (w₀ : World) (empty : all_of is_empty w₀.stack.slots ≡ true) (room : B * length w₀.stack.slots ≤ length w₀.pool) (cs : List Call) where
  inv : Inv B (history B cs w₀ []) (steps B cs w₀)
  inv = steps_inv B cs [] w₀ (fresh_inv B w₀ empty room)

  going : Going (history B cs w₀ []) (steps B cs w₀).stack.slots
  unfolding since
  going = steps_going B cs [] w₀ (fresh_inv B w₀ empty room) (record { none = λ i K c. refl })

  all_read : (p : List ℕ) → Each Read (logged B (receive p) (steps B cs w₀) (history B cs w₀ []))
  unfolding Each
  all_read p = logged_read B (receive p) (steps B cs w₀) (history B cs w₀ []) (history_read B cs w₀ [] tt)

  closed : (p : List ℕ) (h : ReceiveHandle) → performed B (receive p) (steps B cs w₀) ≡ gives (handle_words h) → (K : Key) → has_key K (header_of p) ≡ true
      → last_alone (since K (logged B (receive p) (steps B cs w₀) (history B cs w₀ []))) ≡ true
  unfolding logged
  closed p h said K k =
      let w = steps B cs w₀ in
      closes B (history B cs w₀ []) w inv going p true (receipt B p w) (receive_outcome B w.stack p (length w.pool))
      h (as_told (receipt B p w).said h said) K k

-- from a stack with no slot taken and a pool that is long enough, after any calls at all: whenever a packet hands out a message m, the packets taken under its
-- key since the newest opening one carry a message of that key, type and IC, whatever MTU they fit: SOM on the first alone, EOM on the last alone, numbered in turn
pub told_carries : (B : ℕ) (w₀ : World) → all_of is_empty w₀.stack.slots ≡ true → B * length w₀.stack.slots ≤ length w₀.pool
    → (cs : List Call) (p : List ℕ) (h : ReceiveHandle) → performed B (receive p) (steps B cs w₀) ≡ gives (handle_words h)
    → let m = message_at B h.index (step B (receive p) (steps B cs w₀)) in
    let l = since m.key (logged B (receive p) (steps B cs w₀) (history B cs w₀ [])) in
    (mtu : ℕ) → longest (packets_of l) ≤ mtu → Carries m.key m.typ m.ic mtu (gathered l) (packets_of l)
told_carries B w₀ e room cs p h said mtu fits =
    let m = message_at B h.index (step B (receive p) (steps B cs w₀)) in
    let H = logged B (receive p) (steps B cs w₀) (history B cs w₀ []) in
    let x = told B w₀ e room cs p h said in
    carries m.key m (since m.key H) mtu fits (since_of m.key H (all_read B w₀ e room cs p)) x.turn (closed B w₀ e room cs p h said m.key x.closing) x.opened

-- the same, with the watched pool at every receive: they carry that message, its body included
pub told_carried : (B : ℕ) (w₀ : World) → all_of is_empty w₀.stack.slots ≡ true → B * length w₀.stack.slots ≤ length w₀.pool
    → (cs : List Call) → all_of lent_here cs ≡ true → (p : List ℕ) (h : ReceiveHandle) → performed B (receive p) (steps B cs w₀) ≡ gives (handle_words h)
    → let m = message_at B h.index (step B (receive p) (steps B cs w₀)) in
    let ps = packets_of (since m.key (logged B (receive p) (steps B cs w₀) (history B cs w₀ []))) in
    Carries m.key m.typ m.ic (longest ps) m.body ps
told_carried B w₀ e room cs q p h said =
    let m = message_at B h.index (step B (receive p) (steps B cs w₀)) in
    let ps = packets_of (since m.key (logged B (receive p) (steps B cs w₀) (history B cs w₀ []))) in
    subst (λ (b : List ℕ). Carries m.key m.typ m.ic (longest ps) b ps) (sym (told_here B w₀ e room cs q p h said))
    (told_carries B w₀ e room cs p h said (longest ps) (le_refl (longest ps)))
