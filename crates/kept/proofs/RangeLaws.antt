-- A record read from bytes has the ranges that their widths give; the other ranges are tested.
use Prim.Native.Nat.{ℕ, zero, suc, ◌^◌, ◌<◌, ◌≤◌}
use native.Mathlib.Omega.{arith}
use mathlib.Core.Path.{◌≡◌}
use mathlib.Core.List.{List, [], ◌∷◌}
use lib.ListN.{length, get_or, drop, length-take}
use mir.Syntax.{w8}
use mir.Val.{Fits}
use Rattle.std.specs.Prelude.{Option}
use Rattle.octets.specs.Bytes.{num, part}
use Rattle.octets.specs.Pick.{pick_cases}
use Rattle.octets.proofs.Number.{top, Bytes, bytes_part, bytes_slice}
use Rattle.octets.proofs.Part.{lent}
use Rattle.mctp.specs.Terms.{cookie_value, cookie_of}
use Rattle.flows.specs.declared.Flow.{Flow}
use Rattle.flows.specs.Codec.{expiry_stamp, expiry_of, flow_of, FlowOk}
use Rattle.slot.specs.declared.State.{State}
use Rattle.slot.specs.declared.Reassembler.{Reassembler}
use Rattle.state.specs.declared.Head.{Head}
use Rattle.state.specs.Head.{head_of, HeadOk}
use Rattle.state.specs.Slot.{issue_no, state_from, slot_of, SlotOk}
use Rattle.state.proofs.StackLaws.{lent_as}
use Rattle.kept.specs.Ranges.{HeadRanges, SlotRanges}
use Rattle.mctp.specs.declared.AppCookie.{AppCookie}
use Rattle.stamp.specs.declared.EventStamp.{EventStamp}

num_small : (w : ℕ) (s : List ℕ) → Bytes s → length s ≤ w → num s < top w
unfolding num top Bytes
num_small zero [] p h = omega arith
num_small (suc w) [] p h = let i : 0 < top w = num_small w [] tt (omega arith) in omega arith
num_small zero (x ∷ s) p h = absurd (omega arith)
num_small (suc w) (x ∷ s) p h =
    let b : x < 256 = p.0 in
    let i : num s < top w = num_small w s p.1 (omega arith) in
    omega arith

part_short : (at w : ℕ) (b : List ℕ) → length (part at w b) ≤ w
unfolding part
part_short at w b = rw (length-take w (drop at b)) (omega arith)

field_small : (at w : ℕ) (b : List ℕ) → Bytes b → num (part at w b) < top w
field_small at w b p = num_small w (part at w b) (bytes_part at w b p) (part_short at w b)

module _ (m : ℕ) (pos : 0 < m) (n v : ℕ) (h : v < m) where
  cookie_under : cookie_value (cookie_of n v) < m
  unfolding cookie_of
  cookie_under = pick_cases (λ (c : Option AppCookie). cookie_value c < m) (λ e. h) (λ e. pos)

  issue_under : issue_no (state_from n v) < m
  unfolding state_from
  issue_under =
      pick_cases (λ (s : State). issue_no s < m) (λ e. pos)
      (λ e. pick_cases (λ (s : State). issue_no s < m) (λ e. pos) (λ e. pick_cases (λ (s : State). issue_no s < m) (λ e. h) (λ e. pos)))

  clock_under : (k : ℕ) → (expiry_stamp (expiry_of n v k)).clock < m
  unfolding expiry_of
  clock_under k = pick_cases (λ (e : Option EventStamp). (expiry_stamp e).clock < m) (λ e. h) (λ e. pos)

  counter_under : (k : ℕ) → (expiry_stamp (expiry_of n k v)).counter < m
  unfolding expiry_of
  counter_under k = pick_cases (λ (e : Option EventStamp). (expiry_stamp e).counter < m) (λ e. h) (λ e. pos)

module _ (b : List ℕ) (p : Bytes b) where
  head_fits : HeadRanges (head_of b) → HeadOk (head_of b)
  unfolding head_of top
  head_fits r = record {
    own = field_small 0 1 b p;
    tag = r.tag;
    seq = r.seq;
    counter = field_small 4 4 b p;
    clock = field_small 8 8 b p;
    planned = field_small 16 8 b p;
    issue = field_small 24 8 b p;
    mtu = field_small 32 8 b p;
    soon = r.soon;
  }

  flow_fits : (flow_of b).tag.0 < 8 → FlowOk (flow_of b)
  unfolding flow_of top
  flow_fits t = record {
    peer = field_small 1 1 b p;
    tag = t;
    value = cookie_under (2 ^ 64) (omega arith) (num (part 4 1 b)) (num (part 8 8 b)) (field_small 8 8 b p);
    clock = clock_under (2 ^ 64) (omega arith) (num (part 6 1 b)) (num (part 16 8 b)) (field_small 16 8 b p) (num (part 24 4 b));
    counter = counter_under (2 ^ 32) (omega arith) (num (part 6 1 b)) (num (part 24 4 b)) (field_small 24 4 b p) (num (part 16 8 b));
  }

  slot_fits : (B : ℕ) → SlotRanges B (slot_of b) → SlotOk B (slot_of b)
  unfolding slot_of top
  slot_fits B r = record {
    dest = field_small 1 1 b p;
    source = field_small 2 1 b p;
    tag = omega arith;
    typ = omega arith;
    seq = r.seq;
    len = r.len;
    wide = field_small 6 2 b p;
    counter = field_small 8 4 b p;
    clock = field_small 16 8 b p;
    value = cookie_under (2 ^ 64) (omega arith) (num (part 12 1 b)) (num (part 24 8 b)) (field_small 24 8 b p);
    issue = issue_under (2 ^ 64) (omega arith) (num (part 0 1 b)) (num (part 32 8 b)) (field_small 32 8 b p);
  }

-- for a record that is read from a lent block
module _ (at w : ℕ) (b : List ℕ) (p : (i : ℕ) → Fits w8 (get_or b i 0)) where
  bytes_lent : Bytes (lent_as at w b)
  bytes_lent = rw (lent at w b) (bytes_part at w b (bytes_slice b p))

  pub head_ranged : {h : Head} → h ≡ head_of (lent_as at w b) → HeadRanges h → HeadOk h
  head_ranged e r = rw e (head_fits (lent_as at w b) bytes_lent (rw e at r))

  pub flow_ranged : {f : Flow} → f ≡ flow_of (lent_as at w b) → f.tag.0 < 8 → FlowOk f
  flow_ranged e t = rw e (flow_fits (lent_as at w b) bytes_lent (rw e at t))

  pub slot_ranged : (B : ℕ) {s : Reassembler} → s ≡ slot_of (lent_as at w b) → SlotRanges B s → SlotOk B s
  slot_ranged B e r = rw e (slot_fits (lent_as at w b) bytes_lent B (rw e at r))

-- what is tested is part of what `HeadOk` and `SlotOk` ask
pub head_tested : (h : Head) → HeadOk h → HeadRanges h
head_tested h ok = record { tag = ok.tag; seq = ok.seq; soon = ok.soon }

pub slot_tested : (B : ℕ) (s : Reassembler) → SlotOk B s → SlotRanges B s
slot_tested B s ok = record { seq = ok.seq; len = ok.len }
