-- A buffer of zeros is a state: every field of its head is 0, its flows are unused, and its slots are empty.
use Prim.Native.Nat.{ℕ, zero, suc, ◌+◌, ◌-◌, ◌≤◌}
use native.Mathlib.Omega.{arith}
use native.Mathlib.Nat.{zero-add}
use mathlib.Core.Path.{◌≡◌, refl, sym, ap, ◌∙◌}
use mathlib.Core.List.{List, ◌++◌}
use lib.ListN.{length, take, drop, replicate, length-replicate, length-take, replicate-append-replicate}
use lib.Seq.{take_at, drop_at}
use lib.Dec.{lit<, lit≤}
use Rattle.config.specs.Config.{flow_count}
use Rattle.octets.specs.Bytes.{le, num, part, pack, lay}
use Rattle.octets.specs.Pick.{pick}
use Rattle.octets.specs.Region.{Codec, place, region, Holds, Regular}
use Rattle.octets.proofs.Part.{part-part, lay_front}
use Rattle.octets.proofs.Region.{place_is, place_up}
use Rattle.mctp.specs.Terms.{cookie_of}
use Rattle.flows.specs.Codec.{flow_width, expiry_of, flow_codec, flow_of}
use Rattle.flows.specs.Table.{no_flow}
use Rattle.flows.proofs.CodecLaws.{blank_flow}
use Rattle.flows.proofs.TableLaws.{no_flow_ok}
use Rattle.slot.specs.Slot.{blank_slot}
use Rattle.state.specs.declared.Head.{Head}
use Rattle.state.specs.declared.Sizes.{Sizes}
use Rattle.state.specs.Layout.{head_width, slot_width, flows_at, slots_at, size, SizesOk}
use Rattle.state.specs.Head.{head_codec, head_bytes, head_of, HeadOk}
use Rattle.state.specs.Slot.{state_from, slot_codec, slot_bytes, slot_of}
use Rattle.state.specs.Stack.{Stack, stack_of, Kept, Becomes}
use Rattle.state.proofs.SlotLaws.{blank_ok}

-- a part of zeros
part_zeros : (at w k : ℕ) → part at w (replicate (at + (w + k)) 0) ≡ replicate w 0
unfolding part
part_zeros at w k =
    rw (
      ← replicate-append-replicate {A = ℕ} at (w + k) 0,
      ← replicate-append-replicate {A = ℕ} w k 0,
      drop_at (replicate at 0) (replicate w 0 ++ replicate k 0) at (length-replicate {A = ℕ} at 0),
      take_at (replicate w 0) (replicate k 0) w (length-replicate {A = ℕ} w 0),
    )

-- a buffer whose first m bytes are zero
module _ (m : ℕ) (b : List ℕ) (zeros : take m b ≡ replicate m 0) where
  front : part 0 m b ≡ replicate m 0
  unfolding part
  front = zeros

  zeros_part : (at w : ℕ) → at + w ≤ m → part at w b ≡ replicate w 0
  zeros_part at w h =
      let e : at + (w + (m - (at + w))) ≡ m = omega arith in
      let f : part at w (replicate m 0) ≡ replicate w 0 = rw e at (part_zeros at w (m - (at + w))) in
      let g : part at w (part 0 m b) ≡ part (0 + at) w b = part-part 0 at w m b h in
      sym (rw zero-add at g) ∙ ap (part at w) front ∙ f

  -- such a buffer where zeros are the bytes of an element
  module _ {A : Type 0} (C : Codec A) (x : A) (dec : C.dec (replicate C.width 0) ≡ x) (enc : C.enc x ≡ replicate C.width 0) (ok : C.Ok x) where
    zeros_hold : (at : ℕ) → at + C.width ≤ m → Holds C at b
    zeros_hold at h = let e = zeros_part at C.width h in record { same = rw (e, dec) (sym enc); ok = rw (e, dec) ok }

    zeros_regular : (n at : ℕ) → place C.width at n ≤ m → Regular C n at b
    unfolding Regular place
    zeros_regular zero at h = tt
    zeros_regular (suc n) at h =
        let u : at + C.width ≤ place C.width (at + C.width) n = place_up C.width (at + C.width) n in
        (zeros_hold at (omega arith), zeros_regular n (at + C.width) h)

    zeros_region : (n at : ℕ) → place C.width at n ≤ m → region C n at b ≡ replicate n x
    unfolding region place
    zeros_region zero at h = refl
    zeros_region (suc n) at h =
        let u : at + C.width ≤ place C.width (at + C.width) n = place_up C.width (at + C.width) n in
        rw (zeros_part at C.width (omega arith), dec, zeros_region n (at + C.width) h)

abbrev pub blank_head : Head
blank_head = record {
  own_eid = record { 0 = 0 };
  mtu = 0;
  now = record { clock = 0; counter = 0 };
  next_timeout = 0;
  next_tag = 0;
  next_seq = 0;
  issue = 0;
}

abbrev pub fresh_stack : Sizes → Stack
fresh_stack z = record { head = blank_head; flows = replicate flow_count no_flow; slots = replicate z.slots blank_slot }

head_dec : head_of (replicate head_width 0) ≡ blank_head
unfolding head_of part num
head_dec = refl

head_enc : head_bytes blank_head ≡ replicate head_width 0
unfolding head_bytes pack le
head_enc = refl

flow_dec : flow_of (replicate flow_width 0) ≡ no_flow
unfolding flow_of part num pick cookie_of expiry_of
flow_dec = refl

slot_dec : slot_of (replicate slot_width 0) ≡ blank_slot
unfolding slot_of part num pick cookie_of state_from
slot_dec = refl

slot_enc : slot_bytes blank_slot ≡ replicate slot_width 0
unfolding slot_bytes pack le
slot_enc = refl

head_blank : HeadOk blank_head
head_blank = record { own = lit< tt; tag = lit< tt; seq = lit< tt; counter = lit< tt; clock = lit< tt; planned = lit< tt; issue = lit< tt; mtu = lit< tt; soon = lit≤ tt }

module _ (z : Sizes) (b : List ℕ) (sizes : SizesOk z) (zeros : take (size z) b ≡ replicate (size z) 0) where
  -- the flows end within the state, and so do the slots
  flows_in : place flow_width flows_at flow_count ≤ size z
  flows_in = let p = place_is flow_width flows_at flow_count in omega arith

  slots_in : place slot_width slots_at z.slots ≤ size z
  slots_in = let p = place_is slot_width slots_at z.slots in omega arith

  pub fresh_kept : Kept z b
  fresh_kept = record {
    sizes = sizes;
    long = let l = ap length zeros in let n = length-replicate {A = ℕ} (size z) 0 in omega (arith, simp length-take at l);
    head = zeros_hold (size z) b zeros head_codec blank_head head_dec head_enc head_blank 0 (omega arith);
    flows = zeros_regular (size z) b zeros flow_codec no_flow flow_dec blank_flow no_flow_ok flow_count flows_at flows_in;
    slots = zeros_regular (size z) b zeros (slot_codec z.body) blank_slot slot_dec slot_enc (blank_ok z.body) z.slots slots_at slots_in;
  }

  pub fresh_stack_lem : stack_of z b ≡ fresh_stack z
  unfolding stack_of
  fresh_stack_lem =
      let h : head_of (part 0 head_width b) ≡ blank_head = ap head_of (zeros_part (size z) b zeros 0 head_width (omega arith)) ∙ head_dec in
      let f = zeros_region (size z) b zeros flow_codec no_flow flow_dec blank_flow no_flow_ok flow_count flows_at flows_in in
      let s = zeros_region (size z) b zeros (slot_codec z.body) blank_slot slot_dec slot_enc (blank_ok z.body) z.slots slots_at slots_in in
      λ i. record { head = h i; flows = f i; slots = s i }

-- what `clear` leaves
pub fresh_becomes : (z : Sizes) (b : List ℕ) → SizesOk z → size z ≤ length b → Becomes z b (lay 0 (replicate (size z) 0) b) (fresh_stack z)
fresh_becomes z b sizes h =
    let r = length-replicate {A = ℕ} (size z) 0 in
    let l : lay 0 (replicate (size z) 0) b ≡ replicate (size z) 0 ++ drop (size z) b = rw r at (lay_front (replicate (size z) 0) b (omega arith)) in
    let e = take_at (replicate (size z) 0) (drop (size z) b) (size z) r in
    let x = replicate (size z) 0 ++ drop (size z) b in
    rw l (record { view = fresh_stack_lem z x sizes e; kept = fresh_kept z x sizes e; rest = drop_at (replicate (size z) 0) (drop (size z) b) (size z) r })
