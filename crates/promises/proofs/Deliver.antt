-- From a fragment that has come to its slot to the last: what waits goes on waiting through permitted calls, and each later fragment finds it.
use Prim.Native.Nat.{ℕ, ◌+◌, ◌%◌, ◌≤◌, ◌<◌}
use native.Mathlib.Omega.{arith}
use mathlib.Core.Path.{◌≡◌, refl, ap, ◌∙◌, subst}
use mathlib.Core.Bool.{Bool, true, false}
use mathlib.Core.List.{List, [], ◌∷◌, ◌++◌, append-nil, append_assoc}
use lib.ListN.{length, length-append}
use borrow.Author.Tests.{lt-ltb}
use Rattle.std.specs.Prelude.{Option}
use Rattle.octets.specs.Pick.{pick}
use Rattle.octets.specs.Find.{find}
use Rattle.mctp.specs.declared.Key.{Key}
use Rattle.mctp.specs.declared.MsgType.{MsgType}
use Rattle.mctp.specs.declared.MsgIC.{MsgIC}
use Rattle.mctp.specs.declared.Header.{Header}
use Rattle.slot.specs.Slot.{blank_slot, collects}
use Rattle.slot.specs.Search.{slot_for}
use Rattle.reassemble.specs.Enter.{gate, enter}
use Rattle.fragment.specs.Cutting.{PacketIs, InTurn, body_in, joined}
use Rattle.state.specs.Stack.{slot_at}
use Rattle.receiving.specs.Conclude.{received_as}
use Rattle.promises.specs.Calls.{World, Call, receive, step, steps, permitted}
use Rattle.promises.specs.Delivery.{next_gap, later_gaps, Delivers, all_of}
use Rattle.promises.proofs.Facts.{no_both, is_false, and_left, and_right, same_refl}
use Rattle.promises.proofs.Slots.{passes_in, find_is}
use Rattle.promises.proofs.Quiet.{Open}
use Rattle.promises.proofs.Frame.{Keeps, keeps}
use Rattle.promises.proofs.Arrive.{gathering, Poised, Waiting, hands, collects_more}
use Rattle.mctp.specs.declared.AppCookie.{AppCookie}

-- the header of a packet of K
abbrev pub headed : Key → Bool → Bool → ℕ → Header
headed K som eom number = record { key = K; som = som; eom = eom; seq = number }

module _ (B : ℕ) (K : Key) (typ : MsgType) (ic : MsgIC) (cookie : Option AppCookie) (t₀ j : ℕ) where
  -- ---- what waits goes on waiting

  module _ (number : ℕ) (bytes : List ℕ) (short : length bytes ≤ B) where
    wait_step : (w : World) → Waiting B K typ ic cookie t₀ j number bytes w → (w' : World) → Keeps B K t₀ j w w' → Waiting B K typ ic cookie t₀ j number bytes w'
    wait_step w o w' k = record {
      stamp = o.stamp;
      slot = k.slots.same ∙ o.slot;
      since = o.since;
      later = k.later;
      room = rw (k.slots.count, k.room) o.room;
      first = λ i h. is_false (collects K (slot_at i w'.stack)) (λ c. no_both (collects K (slot_at i w.stack)) (k.slots.fewer i c) (o.first i h));
      body = k.body (length bytes) short ∙ o.body;
    }

    open_of : (w : World) → Waiting B K typ ic cookie t₀ j number bytes w → Open K t₀ w.stack (slot_at j w.stack)
    open_of w o = record { collects = rw o.slot (same_refl K); since = rw o.slot o.since; later = o.later }

    wait_steps : (cs : List Call) → all_of (permitted K t₀) cs ≡ true → (w : World) → Waiting B K typ ic cookie t₀ j number bytes w
        → Waiting B K typ ic cookie t₀ j number bytes (steps B cs w)
    unfolding steps
    wait_steps [] ok w o = o
    wait_steps (c ∷ cs) ok w o =
        wait_steps cs (and_right (permitted K t₀ c) (all_of (permitted K t₀) cs) ok) (step B c w)
        (wait_step w o (step B c w) (keeps B K t₀ j w (open_of w o) o.room c (and_left (permitted K t₀ c) (all_of (permitted K t₀) cs) ok)))

  next_ok : (gaps : List (List Call)) → all_of (all_of (permitted K t₀)) gaps ≡ true → all_of (permitted K t₀) (next_gap gaps) ≡ true
  next_ok [] ok = refl
  next_ok (g ∷ gs) ok = and_left (all_of (permitted K t₀) g) (all_of (all_of (permitted K t₀)) gs) ok

  later_ok : (gaps : List (List Call)) → all_of (all_of (permitted K t₀)) gaps ≡ true → all_of (all_of (permitted K t₀)) (later_gaps gaps) ≡ true
  later_ok [] ok = refl
  later_ok (g ∷ gs) ok = and_right (all_of (permitted K t₀) g) (all_of (all_of (permitted K t₀)) gs) ok

  -- ---- a later fragment finds its slot

  later_poised : (mtu number : ℕ) (eom : Bool) (bytes p : List ℕ) (w : World) → Waiting B K typ ic cookie t₀ j number bytes w
      → PacketIs K mtu false eom number p → length bytes + length (body_in p) ≤ B → Poised B K typ ic cookie t₀ j bytes (headed K false eom number) p w
  unfolding slot_for gate enter pick
  later_poised mtu number eom bytes p w o is fits = record {
    read = is.header;
    found = rw (here, lt-ltb j (length w.stack.slots) inn);
    inside = inn;
    room = o.room;
    slot = gathering K typ ic number (length bytes) o.stamp cookie;
    gate = rw o.slot;
    stamp = λ now. o.stamp;
    since = λ now e. o.since;
    enters = λ now issue. refl;
    fits = fits;
    first = o.first;
    body = o.body;
    later = o.later;
  }
    where
      col : collects K (slot_at j w.stack) ≡ true
      col = rw o.slot (same_refl K)

      here : find (collects K) w.stack.slots ≡ j
      here = find_is (collects K) blank_slot refl w.stack.slots j col o.first

      inn : j < length w.stack.slots
      inn = passes_in (collects K) blank_slot refl w.stack.slots j col

  -- ---- from a fragment that is poised to the last

  pub delivers_from : (ps : List (List ℕ)) (p : List ℕ) (mtu : ℕ) (som : Bool) (number : ℕ) (bytes : List ℕ) (gaps : List (List Call)) (w : World)
      → InTurn K mtu som true number (p ∷ ps)
      → ((eom : Bool) → PacketIs K mtu som eom number p → Poised B K typ ic cookie t₀ j bytes (headed K som eom number) p w)
      → length bytes + length (joined (p ∷ ps)) ≤ B → all_of (all_of (permitted K t₀)) gaps ≡ true
      → Delivers B (record { key = K; typ = typ; ic = ic; body = bytes ++ joined (p ∷ ps); cookie = cookie }) (p ∷ ps) gaps w
  unfolding InTurn joined Delivers
  delivers_from [] p mtu som number bytes gaps w turn o fits ok =
      rw append-nil (hands B K typ ic cookie t₀ j bytes (headed K som true number) p w (o true turn) refl)
  delivers_from (q ∷ ps) p mtu som number bytes gaps w turn o fits ok =
      let all : length (body_in p ++ joined (q ∷ ps)) ≡ length (body_in p) + length (joined (q ∷ ps)) = length-append (body_in p) (joined (q ∷ ps)) in
      let one : length (body_in q ++ joined ps) ≡ length (body_in q) + length (joined ps) = length-append (body_in q) (joined ps) in
      let had : length (bytes ++ body_in p) ≡ length bytes + length (body_in p) = length-append bytes (body_in p) in
      let t = collects_more B K typ ic cookie t₀ j bytes (headed K som false number) p w (o false turn.0) refl in
      let u = wait_steps ((number + 1) % 4) (bytes ++ body_in p) (omega arith) (next_gap gaps) (next_ok gaps ok) (step B (receive p) w) t.1 in (
        ap received_as t.0,
        subst (λ (b : List ℕ). Delivers B (record { key = K; typ = typ; ic = ic; body = b; cookie = cookie }) (q ∷ ps) (later_gaps gaps) (steps B (next_gap gaps) (step B (receive p) w))) (append_assoc bytes (body_in p) (joined (q ∷ ps)))
            (delivers_from ps q mtu false ((number + 1) % 4) (bytes ++ body_in p) (later_gaps gaps) (steps B (next_gap gaps) (step B (receive p) w)) turn.1
            (λ eom is. later_poised mtu ((number + 1) % 4) eom (bytes ++ body_in p) q (steps B (next_gap gaps) (step B (receive p) w)) u is (omega arith))
            (omega arith) (later_ok gaps ok)),
      )
