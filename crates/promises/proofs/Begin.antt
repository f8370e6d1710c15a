-- The first fragment finds a slot: the one that collects its key already, else a free one, through the gate.
use Prim.Native.Nat.{ℕ, ◌*◌, ◌≤◌, ◌<◌}
use native.Mathlib.Omega.{arith}
use mathlib.Core.Path.{◌≡◌, refl}
use mathlib.Core.Bool.{Bool, true, false}
use mathlib.Core.List.{List, []}
use lib.Dec.{ltb}
use lib.ListN.{length, get_or}
use borrow.Author.Tests.{ltb-true, ltb-false, le-ltb}
use Rattle.std.specs.Prelude.{Ok, Option}
use Rattle.octets.specs.Pick.{pick}
use Rattle.octets.specs.Find.{find}
use Rattle.octets.proofs.Finds.{find_hit, find_first}
use Rattle.octets.specs.Bytes.{part}
use Rattle.mctp.specs.declared.Key.{Key}
use Rattle.mctp.specs.declared.MsgType.{MsgType}
use Rattle.mctp.specs.declared.MsgIC.{MsgIC}
use Rattle.mctp.specs.Header.{type_of}
use Rattle.flows.specs.Table.{standing, flow_cookie}
use Rattle.slot.specs.declared.Reassembler.{Reassembler}
use Rattle.slot.specs.Slot.{blank_slot, is_empty, empty_state, collects}
use Rattle.slot.specs.Search.{slot_for}
use Rattle.reassemble.specs.Enter.{opened, gate_empty, gate, enter, append}
use Rattle.fragment.specs.Cutting.{PacketIs, body_in}
use Rattle.state.specs.Stack.{slot_at}
use Rattle.promises.specs.Calls.{World}
use Rattle.promises.specs.Delivery.{collecting, vacancy}
use Rattle.promises.proofs.Slots.{collects_state, collects_key, not_in, find_none}
use Rattle.promises.proofs.Arrive.{gathering, Poised}
use Rattle.promises.proofs.Deliver.{headed}
use Rattle.mctp.specs.declared.AppCookie.{AppCookie}

module _ (B : ℕ) (K : Key) (typ : MsgType) (ic : MsgIC) (mtu number : ℕ) (eom : Bool) (p : List ℕ) (w : World) (is : PacketIs K mtu true eom number p)
    (kind : type_of (get_or p 4 0) ≡ record { typ = typ; ic = ic }) (fits : length (body_in p) ≤ B) (room : B * length w.stack.slots ≤ length w.pool) where
  long : ltb (length p) 5 ≡ false
  long = le-ltb (length p) 5 is.whole

  -- the first fragment comes to a slot that collects its key already
  pub again_poised : collecting K w.stack ≡ true
      → Poised B K typ ic (slot_at (find (collects K) w.stack.slots) w.stack).cookie w.stack.head.now.clock (find (collects K) w.stack.slots) []
      (headed K true eom number) p w
  unfolding slot_for gate enter pick part
  again_poised e = record {
    read = is.header;
    found = rw e;
    inside = inn;
    room = room;
    slot = s;
    gate = rw (not_in K s col empty_state refl);
    stamp = λ now. now;
    since = λ now q. q;
    enters = λ now issue. rw long (λ i. append B now issue (record {
      state = collects_state K s col i;
      key = collects_key K s col i;
      typ = (kind i).typ;
      ic = (kind i).ic;
      next_seq = number;
      len = 0;
      cookie = s.cookie;
      stamp = now;
    }) (headed K true eom number) p 5);
    fits = omega arith;
    first = λ k h. find_first (collects K) w.stack.slots k blank_slot h;
    body = refl;
    later = omega arith;
  }
    where
      s : Reassembler
      s = slot_at (find (collects K) w.stack.slots) w.stack

      inn : find (collects K) w.stack.slots < length w.stack.slots
      inn = ltb-true (find (collects K) w.stack.slots) (length w.stack.slots) e

      col : collects K s ≡ true
      col = find_hit (collects K) w.stack.slots blank_slot inn

  -- the first fragment comes to a free slot, and passes the gate with the cookie c
  pub fresh_poised : collecting K w.stack ≡ false → vacancy w.stack ≡ true → (c : Option AppCookie)
      → gate_empty w.stack.head.own_eid (headed K true eom number) (standing K.source K.tag w.stack.flows) (flow_cookie K.source K.tag w.stack.flows)
      ≡ Ok (opened (headed K true eom number) c)
      → Poised B K typ ic c w.stack.head.now.clock (find is_empty w.stack.slots) [] (headed K true eom number) p w
  unfolding slot_for gate enter pick part
  fresh_poised e f c g = record {
    read = is.header;
    found = rw e;
    inside = inn;
    room = room;
    slot = opened (headed K true eom number) c;
    gate = rw (find_hit is_empty w.stack.slots blank_slot inn) g;
    stamp = λ now. now;
    since = λ now q. q;
    enters = λ now issue. rw long (λ i. append B now issue (gathering K (kind i).typ (kind i).ic number 0 now c) (headed K true eom number) p 5);
    fits = omega arith;
    first = λ k h. find_none (collects K) blank_slot refl w.stack.slots (ltb-false (find (collects K) w.stack.slots) (length w.stack.slots) e) k;
    body = refl;
    later = omega arith;
  }
    where
      inn : find is_empty w.stack.slots < length w.stack.slots
      inn = ltb-true (find is_empty w.stack.slots) (length w.stack.slots) f
