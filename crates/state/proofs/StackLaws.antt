-- What a store of one head, flow or slot makes of the stack: its own place changes, and every other keeps its bytes.
use Prim.Native.Nat.{ℕ, ◌+◌, ◌-◌, ◌*◌, ◌≤◌, ◌<◌}
use native.Mathlib.Omega.{arith}
use mathlib.Core.Path.{◌≡◌, refl, sym, ap, ◌∙◌}
use mathlib.Core.List.{List, [], ◌∷◌, ◌++◌}
use borrow.Author.Tests.{ltb-true, ltb-false}
use lib.Dec.{ltb}
use lib.ListN.{length, get_or, set, drop, take, take-append-drop, get_or-eq_default}
use lib.Seq.{set_out}
use Rattle.config.specs.Config.{flow_count}
use Rattle.octets.specs.Bytes.{part, over, lay, field}
use Rattle.octets.specs.Region.{Codec, place, region, Regular, bytes}
use Rattle.octets.proofs.Part.{part_same, part_below, part-add, length_over, drop-over, over-whole, lent, lent_back, lay_fits}
use Rattle.octets.proofs.Bools.{bool_cases}
use Rattle.octets.proofs.Region.{Lawful, place_is, region_length, region_get, regular_get, holds_as, holds_put, region_after, regular_after, region_before, regular_before, region_put, regular_put, regular_bytes}
use Rattle.flows.specs.declared.Flow.{Flow}
use Rattle.flows.specs.Codec.{flow_width, flow_codec, flow_bytes, flow_of, FlowOk}
use Rattle.flows.specs.Table.{no_flow}
use Rattle.flows.proofs.CodecLaws.{flow_long, flow_lawful}
use Rattle.flows.proofs.TableLaws.{no_flow_ok}
use Rattle.slot.specs.declared.Reassembler.{Reassembler}
use Rattle.slot.specs.Slot.{blank_slot}
use Rattle.state.specs.declared.Head.{Head}
use Rattle.state.specs.declared.Sizes.{Sizes}
use Rattle.state.specs.Layout.{head_width, slot_width, slots_at, flows_at, size}
use Rattle.state.specs.Head.{head_codec, head_bytes, head_of, HeadOk}
use Rattle.state.specs.Slot.{slot_codec, slot_bytes, slot_of, SlotOk}
use Rattle.state.specs.Stack.{Stack, stack_of, encode, Kept, Becomes, with_head, with_slot, with_flow, slot_at, flow_at}
use Rattle.state.proofs.HeadLaws.{head_long, head_lawful}
use Rattle.state.proofs.SlotLaws.{slot_long, slot_lawful, blank_ok}

-- where flow i and slot i start
abbrev pub flow_place : ℕ → ℕ
flow_place i = flows_at + flow_width * i

abbrev pub slot_place : ℕ → ℕ
slot_place i = slots_at + slot_width * i

-- a block of w bytes as it is lent, `b[at..at + w]`, and the whole buffer once the block comes back as s
abbrev pub lent_as : ℕ → ℕ → List ℕ → List ℕ
lent_as at w b = take ((at + w) - at) (drop at b)

abbrev pub back_as : ℕ → ℕ → List ℕ → List ℕ → List ℕ
back_as at w s b = take at b ++ (s ++ drop ((at + w) - at) (drop at b))

module _ (z : Sizes) (b : List ℕ) where
  pub slots_length : length (stack_of z b).slots ≡ z.slots
  unfolding stack_of
  slots_length = region_length (slot_codec z.body) z.slots slots_at b

  pub flows_length : length (stack_of z b).flows ≡ flow_count
  unfolding stack_of
  flows_length = region_length flow_codec flow_count flows_at b

  -- where nothing is stored, the stack stays
  pub stays : Kept z b → Becomes z b b (stack_of z b)
  stays k = record { view = refl; kept = k; rest = refl }

  -- the head is what its block says
  pub head_get : head_of (lent_as 0 head_width b) ≡ (stack_of z b).head
  unfolding stack_of
  head_get = ap head_of (lent 0 head_width b)

-- the bytes of slots are the same whatever a body holds
bytes_any : (B : ℕ) (l : List Reassembler) → bytes (slot_codec 0) l ≡ bytes (slot_codec B) l
unfolding bytes
bytes_any B [] = refl
bytes_any B (s ∷ l) = ap (λ (t : List ℕ). slot_bytes s ++ t) (bytes_any B l)

-- element i of a region that is regular, or d past its end
module _ {A : Type 0} (C : Codec A) (n at : ℕ) (b : List ℕ) (d : A) (r : Regular C n at b) (i : ℕ) where
  abbrev element : A
  element = get_or (region C n at b) i d

  block_past : n ≤ i → element ≡ d
  block_past h = get_or-eq_default (region C n at b) d (rw (region_length C n at b) h)

  block_get : i < n → element ≡ C.dec (part (at + C.width * i) C.width b)
  block_get h = rw (← place_is C.width at i) (region_get C n at i b d h)

  -- its block, as it is lent, is its bytes
  block_lent : i < n → lent_as (at + C.width * i) C.width b ≡ C.enc element
  block_lent h = lent (at + C.width * i) C.width b ∙ rw (block_get h, ← place_is C.width at i) (regular_get C n at i b h r).same

  -- and a number read from the block is the one that the bytes hold there
  block_field : (j w : ℕ) → i < n → field j w (lent_as (at + C.width * i) C.width b) ≡ field j w (C.enc element)
  block_field j w h = ap (λ (l : List ℕ). field j w l) (block_lent h)

  module _ (blank : C.Ok d) where
    block_ok : C.Ok element
    block_ok =
        bool_cases (ltb i n)
        (λ y. let h = ltb-true i n y in rw (block_get h, ← place_is C.width at i) (regular_get C n at i b h r).ok)
        (λ e. rw (block_past (ltb-false i n e)) blank)

    -- the value v that is read from the lent block
    block_read : (v : A) → i < n → v ≡ C.dec (lent_as (at + C.width * i) C.width b) → (v ≡ element) × C.Ok v
    block_read v h e =
        let q : v ≡ element = e ∙ rw (lent (at + C.width * i) C.width b) (sym (block_get h)) in
        (q, rw q block_ok)

    -- past the end the blank element is read
    blank_read : (v : A) → n ≤ i → v ≡ d → (v ≡ element) × C.Ok v
    blank_read v h e = (e ∙ sym (block_past h), rw e blank)

module _ {A : Type 0} (C : Codec A) (L : Lawful C) where
  -- the block at `at` holds x's bytes; it is lent and comes back as f makes it, and then it holds y's bytes
  block_back : (at : ℕ) (b : List ℕ) (x y : A) (f : List ℕ → List ℕ) (s : List ℕ) → at + C.width ≤ length b → lent_as at C.width b ≡ C.enc x
      → f (C.enc x) ≡ C.enc y → s ≡ f (lent_as at C.width b) → back_as at C.width s b ≡ over at (C.enc y) b
  block_back at b x y f s l p q e =
      let g : s ≡ C.enc y = e ∙ ap f p ∙ q in
      rw g (lent_back at C.width (C.enc y) b (L.long y) l)

  -- an element's bytes laid over another's
  block_whole : (x y : A) → lay 0 (C.enc y) (C.enc x) ≡ C.enc y
  block_whole x y =
      let p = L.long x in
      let q = L.long y in
      lay_fits 0 (C.enc y) (C.enc x) (omega arith) ∙ over-whole C.width (C.enc y) (C.enc x) q p

pub head_whole : (x y : Head) → lay 0 (head_bytes y) (head_bytes x) ≡ head_bytes y
head_whole = block_whole head_codec head_lawful

pub flow_whole : (x y : Flow) → lay 0 (flow_bytes y) (flow_bytes x) ≡ flow_bytes y
flow_whole = block_whole flow_codec flow_lawful

pub slot_whole : (x y : Reassembler) → lay 0 (slot_bytes y) (slot_bytes x) ≡ slot_bytes y
slot_whole = block_whole (slot_codec 0) (slot_lawful 0)

module _ (z : Sizes) (b : List ℕ) (k : Kept z b) where
  head_put : (h : Head) → HeadOk h → Becomes z b (over 0 (head_bytes h) b) (with_head h (stack_of z b))
  unfolding stack_of
  head_put h ok =
      let n = k.long in
      let w = head_long h in
      let C = slot_codec z.body in
      record {
        view = rw (
          part_same 0 head_width (head_bytes h) b w (omega arith),
          head_lawful.back h ok,
          region_after flow_codec flow_count flows_at 0 (head_bytes h) b (omega arith) (omega arith),
          region_after C z.slots slots_at 0 (head_bytes h) b (omega arith) (omega arith),
        );
        kept = record {
          sizes = k.sizes;
          long = rw (length_over 0 (head_bytes h) b (omega arith)) n;
          head = holds_put head_codec head_lawful h ok b 0 (omega arith);
          flows = regular_after flow_codec flow_count flows_at 0 (head_bytes h) b (omega arith) (omega arith) k.flows;
          slots = regular_after C z.slots slots_at 0 (head_bytes h) b (omega arith) (omega arith) k.slots;
        };
        rest = drop-over (size z) 0 (head_bytes h) b (omega arith) (omega arith);
      }

  -- a store past the head, by what it makes of the two regions
  module _ (at : ℕ) (s : List ℕ) (past : head_width ≤ at) (in-state : at + length s ≤ size z) where
    abbrev after : List ℕ
    after = over at s b

    stored : (fs : List Flow) (ss : List Reassembler) →
        region flow_codec flow_count flows_at after ≡ fs →
        region (slot_codec z.body) z.slots slots_at after ≡ ss →
        Regular flow_codec flow_count flows_at after →
        Regular (slot_codec z.body) z.slots slots_at after →
        Becomes z b after (record { head = (stack_of z b).head; flows = fs; slots = ss })
    unfolding stack_of
    stored fs ss f g r q =
        let n = k.long in
        let e = part_below at 0 head_width s b (omega arith) (omega arith) in
        record {
          view = rw (e, f, g);
          kept = record { sizes = k.sizes; long = rw (length_over at s b (omega arith)) n; head = holds_as head_codec 0 b after e k.head; flows = r; slots = q };
          rest = drop-over (size z) at s b in-state (omega arith);
        }

  flow_put : (i : ℕ) (f : Flow) → i < flow_count → FlowOk f → Becomes z b (over (flow_place i) (flow_bytes f) b) (with_flow i f (stack_of z b))
  unfolding stack_of
  flow_put i f h ok =
      let n = k.long in
      let w = flow_long f in
      let p = place_is flow_width flows_at i in
      let e = place_is flow_width flows_at flow_count in
      let C = slot_codec z.body in
      stored (flow_place i) (flow_bytes f) (omega arith) (omega arith) (set (region flow_codec flow_count flows_at b) i f) (region C z.slots slots_at b)
      (rw (← p) (region_put flow_codec flow_lawful f ok b flow_count flows_at i h (omega arith)))
      (region_after C z.slots slots_at (flow_place i) (flow_bytes f) b (omega arith) (omega arith))
      (rw (← p) (regular_put flow_codec flow_lawful f ok b flow_count flows_at i h (omega arith) k.flows))
      (regular_after C z.slots slots_at (flow_place i) (flow_bytes f) b (omega arith) (omega arith) k.slots)

  slot_put : (i : ℕ) (s : Reassembler) → i < z.slots → SlotOk z.body s → Becomes z b (over (slot_place i) (slot_bytes s) b) (with_slot i s (stack_of z b))
  unfolding stack_of
  slot_put i s h ok =
      let n = k.long in
      let w = slot_long s in
      let p = place_is slot_width slots_at i in
      let e = place_is slot_width slots_at z.slots in
      let f = place_is flow_width flows_at flow_count in
      let C = slot_codec z.body in
      let L = slot_lawful z.body in
      stored (slot_place i) (slot_bytes s) (omega arith) (omega arith) (region flow_codec flow_count flows_at b) (set (region C z.slots slots_at b) i s)
      (region_before flow_codec flow_count flows_at (slot_place i) (slot_bytes s) b (omega arith) (omega arith))
      (rw (← p) (region_put C L s ok b z.slots slots_at i h (omega arith)))
      (regular_before flow_codec flow_count flows_at (slot_place i) (slot_bytes s) b (omega arith) (omega arith) k.flows)
      (rw (← p) (regular_put C L s ok b z.slots slots_at i h (omega arith) k.slots))

  -- what a read of a block is
  module _ (i : ℕ) where
    pub slot_ok : SlotOk z.body (slot_at i (stack_of z b))
    unfolding stack_of
    slot_ok = block_ok (slot_codec z.body) z.slots slots_at b blank_slot k.slots i (blank_ok z.body)

    pub slot_past : z.slots ≤ i → slot_at i (stack_of z b) ≡ blank_slot
    unfolding stack_of
    slot_past = block_past (slot_codec z.body) z.slots slots_at b blank_slot k.slots i

    slot_lent : i < z.slots → lent_as (slot_place i) slot_width b ≡ slot_bytes (slot_at i (stack_of z b))
    unfolding stack_of
    slot_lent = block_lent (slot_codec z.body) z.slots slots_at b blank_slot k.slots i

    pub slot_field : (j w : ℕ) → i < z.slots → field j w (lent_as (slot_place i) slot_width b) ≡ field j w (slot_bytes (slot_at i (stack_of z b)))
    unfolding stack_of
    slot_field = block_field (slot_codec z.body) z.slots slots_at b blank_slot k.slots i

    pub slot_read : (r : Reassembler) → i < z.slots → r ≡ slot_of (lent_as (slot_place i) slot_width b) → (r ≡ slot_at i (stack_of z b)) × SlotOk z.body r
    unfolding stack_of
    slot_read = block_read (slot_codec z.body) z.slots slots_at b blank_slot k.slots i (blank_ok z.body)

    pub slot_none : (r : Reassembler) → z.slots ≤ i → r ≡ blank_slot → (r ≡ slot_at i (stack_of z b)) × SlotOk z.body r
    unfolding stack_of
    slot_none = blank_read (slot_codec z.body) z.slots slots_at b blank_slot k.slots i (blank_ok z.body)

    -- a store past the last slot stores nothing
    pub slot_stays : (s : Reassembler) → z.slots ≤ i → Becomes z b b (with_slot i s (stack_of z b))
    slot_stays s h =
        let n = slots_length z b in
        let e = set_out (stack_of z b).slots i s (omega arith) in
        rw e (stays z b k)

    pub flow_ok : FlowOk (flow_at i (stack_of z b))
    unfolding stack_of
    flow_ok = block_ok flow_codec flow_count flows_at b no_flow k.flows i no_flow_ok

    pub flow_past : flow_count ≤ i → flow_at i (stack_of z b) ≡ no_flow
    unfolding stack_of
    flow_past = block_past flow_codec flow_count flows_at b no_flow k.flows i

    flow_lent : i < flow_count → lent_as (flow_place i) flow_width b ≡ flow_bytes (flow_at i (stack_of z b))
    unfolding stack_of
    flow_lent = block_lent flow_codec flow_count flows_at b no_flow k.flows i

    pub flow_field : (j w : ℕ) → i < flow_count → field j w (lent_as (flow_place i) flow_width b) ≡ field j w (flow_bytes (flow_at i (stack_of z b)))
    unfolding stack_of
    flow_field = block_field flow_codec flow_count flows_at b no_flow k.flows i

    pub flow_read : (r : Flow) → i < flow_count → r ≡ flow_of (lent_as (flow_place i) flow_width b) → (r ≡ flow_at i (stack_of z b)) × FlowOk r
    unfolding stack_of
    flow_read = block_read flow_codec flow_count flows_at b no_flow k.flows i no_flow_ok

    pub flow_none : (r : Flow) → flow_count ≤ i → r ≡ no_flow → (r ≡ flow_at i (stack_of z b)) × FlowOk r
    unfolding stack_of
    flow_none = blank_read flow_codec flow_count flows_at b no_flow k.flows i no_flow_ok

    pub flow_stays : (f : Flow) → flow_count ≤ i → Becomes z b b (with_flow i f (stack_of z b))
    flow_stays f h =
        let n = flows_length z b in
        let e = set_out (stack_of z b).flows i f (omega arith) in
        rw e (stays z b k)

  head_lent : lent_as 0 head_width b ≡ head_bytes (stack_of z b).head
  unfolding stack_of
  head_lent = lent 0 head_width b ∙ k.head.same

  pub head_ok : HeadOk (stack_of z b).head
  unfolding stack_of
  head_ok = k.head.ok

  -- a block, lent and stored to as f says, comes back as the bytes of another element
  module _ (f : List ℕ → List ℕ) (s : List ℕ) where
    pub head_store : (h : Head) → f (head_bytes (stack_of z b).head) ≡ head_bytes h → HeadOk h → s ≡ f (lent_as 0 head_width b)
        → Becomes z b (back_as 0 head_width s b) (with_head h (stack_of z b))
    head_store h q ok e =
        let l = k.long in
        rw (block_back head_codec head_lawful 0 b (stack_of z b).head h f s (omega arith) head_lent q e) (head_put h ok)

    pub flow_store : (i : ℕ) (x : Flow) (h : i < flow_count) → f (flow_bytes (flow_at i (stack_of z b))) ≡ flow_bytes x → FlowOk x
        → s ≡ f (lent_as (flow_place i) flow_width b)
        → Becomes z b (back_as (flow_place i) flow_width s b) (with_flow i x (stack_of z b))
    flow_store i x h q ok e =
        let l = k.long in
        rw (block_back flow_codec flow_lawful (flow_place i) b (flow_at i (stack_of z b)) x f s (omega arith) (flow_lent i h) q e) (flow_put i x h ok)

    pub slot_store : (i : ℕ) (x : Reassembler) (h : i < z.slots) → f (slot_bytes (slot_at i (stack_of z b))) ≡ slot_bytes x → SlotOk z.body x
        → s ≡ f (lent_as (slot_place i) slot_width b)
        → Becomes z b (back_as (slot_place i) slot_width s b) (with_slot i x (stack_of z b))
    slot_store i x h q ok e =
        let l = k.long in
        rw (block_back (slot_codec z.body) (slot_lawful z.body) (slot_place i) b (slot_at i (stack_of z b)) x f s (omega arith) (slot_lent i h) q e) (slot_put i x h ok)

  -- the stack gives the bytes
  encoded : encode (stack_of z b) ≡ take (size z) b
  unfolding stack_of encode part
  encoded =
      let B = z.body in
      let n = slot_width * z.slots in
      let p : place slot_width 0 z.slots ≡ n = place_is slot_width 0 z.slots ∙ omega arith in
      let q : place flow_width 0 flow_count ≡ flow_width * flow_count = place_is flow_width 0 flow_count in
      let f = sym (regular_bytes flow_codec flow_count flows_at b k.flows) ∙ ap (λ (m : ℕ). part flows_at m b) q in
      let u = bytes_any B (region (slot_codec B) z.slots slots_at b) in
      let s = u ∙ sym (regular_bytes (slot_codec B) z.slots slots_at b k.slots) ∙ ap (λ (m : ℕ). part slots_at m b) p in
      let e : head_width + (flow_width * flow_count + n) ≡ size z = omega arith in
      rw (← k.head.same, f, s, ← part-add flows_at (flow_width * flow_count) n b, ← part-add 0 head_width (flow_width * flow_count + n) b, e)

  pub kept_bytes : b ≡ encode (stack_of z b) ++ drop (size z) b
  kept_bytes = rw encoded (sym (take-append-drop (size z) b))

-- two buffers that come from the same one and hold the same stack are the same
pub determined : (z : Sizes) (b x y : List ℕ) (st : Stack) → Becomes z b x st → Becomes z b y st → x ≡ y
determined z b x y st p q =
    let e : stack_of z x ≡ stack_of z y = p.view ∙ sym q.view in
    let d : drop (size z) x ≡ drop (size z) y = p.rest ∙ sym q.rest in
    kept_bytes z x p.kept ∙ rw (e, d) (sym (kept_bytes z y q.kept))

-- one store after another
pub and_then : (z : Sizes) (f : Stack → Stack) (b x y : List ℕ) (st : Stack) → Becomes z b x st → Becomes z x y (f (stack_of z x)) → Becomes z b y (f st)
and_then z f b x y st p q = record { view = q.view ∙ ap f p.view; kept = q.kept; rest = q.rest ∙ p.rest }

-- the same as an equation of bytes
pub becomes_bytes : (z : Sizes) (b b' : List ℕ) (st : Stack) → Becomes z b b' st → b' ≡ encode st ++ drop (size z) b
becomes_bytes z b b' st p = rw (p.view, p.rest) at (kept_bytes z b' p.kept)
