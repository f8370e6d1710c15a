-- A slot that is Ok is read back from its bytes, since each field has its own place and fits there.
use Prim.Native.Nat.{ℕ, ◌+◌, ◌/◌, ◌%◌, ◌<◌, ◌≤◌}
use native.Mathlib.Omega.{arith}
use mathlib.Core.Path.{◌≡◌, refl, ap, ◌∙◌}
use mathlib.Core.Bool.{Bool, true, false}
use mathlib.Core.List.{List}
use lib.Dec.{eqb, lit<}
use lib.ListN.{length}
use borrow.Author.Tests.{eq-eqb, ne_eqb}
use Rattle.octets.specs.Bytes.{le, num, part, field, pack, puts, lay}
use Rattle.octets.specs.Pick.{pick}
use Rattle.octets.proofs.Number.{num-le, top, puts-lay}
use Rattle.flows.proofs.Bits.{bit_small}
use Rattle.octets.proofs.Region.{Lawful}
use Rattle.mctp.specs.declared.TypeIC.{TypeIC}
use Rattle.mctp.specs.Terms.{cookie_no, cookie_value}
use Rattle.mctp.specs.Header.{bit, type_byte, type_of}
use Rattle.mctp.proofs.RoundTrip.{type_back}
use Rattle.mctp.proofs.CookieLaws.{cookie_back, cookie_small}
use Rattle.slot.specs.declared.State.{State}
use Rattle.slot.specs.declared.State.TheVariants.{Empty, Collecting, Done, HandleOut}
use Rattle.slot.specs.declared.Reassembler.{Reassembler}
use Rattle.slot.specs.Slot.{blank_slot, state_no}
use Rattle.state.specs.declared.Progress.{Progress}
use Rattle.state.specs.Layout.{slot_width}
use Rattle.state.specs.Slot.{issue_no, state_from, owner_tag, lead_row, rest_row, slot_row, slot_bytes, slot_of, SlotOk, ProgressOk, slot_codec, progress, progress_row, progress_of, key_word}

state_back : (s : State) → state_from (state_no s) (issue_no s) ≡ s
unfolding state_from pick
state_back Empty = refl
state_back Collecting = refl
state_back Done = refl
state_back (HandleOut n) = refl

pub state_small : (s : State) → state_no s < 4
state_small Empty = omega arith
state_small Collecting = omega arith
state_small Done = omega arith
state_small (HandleOut n) = omega arith

pub owner_back : (o : Bool) (t : ℕ) → t < 8 → eqb ((bit o 8 + t) / 8) 1 ≡ o
owner_back true t h = eq-eqb ((8 + t) / 8) 1 (omega arith)
owner_back false t h = ne_eqb ((0 + t) / 8) 1 (λ e. omega arith)

pub tag_back : (o : Bool) (t : ℕ) → t < 8 → (bit o 8 + t) % 8 ≡ t
tag_back true t h = omega arith
tag_back false t h = omega arith

pub slot_long : (s : Reassembler) → length (slot_bytes s) ≡ slot_width
unfolding slot_bytes pack le
slot_long s = refl

module _ (B : ℕ) (s : Reassembler) (ok : SlotOk B s) where
  record Read : Type 0 where
    pub state : field 0 1 (slot_bytes s) ≡ state_no s.state
    pub dest : field 1 1 (slot_bytes s) ≡ s.key.dest.0
    pub source : field 2 1 (slot_bytes s) ≡ s.key.source.0
    pub from : field 3 1 (slot_bytes s) ≡ owner_tag s.key
    pub kind : field 4 1 (slot_bytes s) ≡ type_byte s.typ s.ic
    pub seq : field 5 1 (slot_bytes s) ≡ s.next_seq
    pub len : field 6 2 (slot_bytes s) ≡ s.len
    pub counter : field 8 4 (slot_bytes s) ≡ s.stamp.counter
    pub has : field 12 1 (slot_bytes s) ≡ cookie_no s.cookie
    pub clock : field 16 8 (slot_bytes s) ≡ s.stamp.clock
    pub value : field 24 8 (slot_bytes s) ≡ cookie_value s.cookie
    pub issue : field 32 8 (slot_bytes s) ≡ issue_no s.state

  read : Read
  unfolding slot_bytes pack le part top
  read = record {
    state = num-le 1 (state_no s.state) (omega (arith, state_small s.state));
    dest = num-le 1 s.key.dest.0 ok.dest;
    source = num-le 1 s.key.source.0 ok.source;
    from = num-le 1 (owner_tag s.key) (omega (arith, ok, bit_small s.key.owner 8));
    kind = num-le 1 (type_byte s.typ s.ic) (omega (arith, bit_small s.ic.0 128));
    seq = num-le 1 s.next_seq (omega arith);
    len = num-le 2 s.len ok.wide;
    counter = num-le 4 s.stamp.counter ok.counter;
    has = num-le 1 (cookie_no s.cookie) (omega (arith, cookie_small s.cookie));
    clock = num-le 8 s.stamp.clock ok.clock;
    value = num-le 8 (cookie_value s.cookie) ok.value;
    issue = num-le 8 (issue_no s.state) ok.issue;
  }

  -- type and IC
  typ_back : type_of (type_byte s.typ s.ic) ≡ record { typ = s.typ; ic = s.ic }
  typ_back = type_back s.typ s.ic ok.typ

  pub slot_back : slot_of (slot_bytes s) ≡ s
  unfolding slot_of
  slot_back =
      let r = read in
      rw (
        r.state,
        r.dest,
        r.source,
        r.from,
        r.kind,
        r.seq,
        r.len,
        r.counter,
        r.has,
        r.clock,
        r.value,
        r.issue,
        state_back s.state,
        cookie_back s.cookie,
        owner_back s.key.owner s.key.tag.0 ok.tag,
        tag_back s.key.owner s.key.tag.0 ok.tag,
        ap (λ (t : TypeIC). t.typ) typ_back,
        ap (λ (t : TypeIC). t.ic) typ_back,
      )

  -- a slot's first four bytes as one number
  pub slot_word : field 0 4 (slot_bytes s) ≡ key_word s
  unfolding slot_bytes pack le part num
  slot_word = omega (arith, ok, state_small s.state, bit_small s.key.owner 8)

  -- its sequence and its length
  pub slot_progress : (seq len : ℕ) → seq ≡ field 5 1 (slot_bytes s) → len ≡ field 6 2 (slot_bytes s) → record { seq = seq; len = len } ≡ progress_of s
  slot_progress seq len p q = let r = read in let u = p ∙ r.seq in let v = q ∙ r.len in λ i. record { seq = u i; len = v i }

pub blank_ok : (B : ℕ) → SlotOk B blank_slot
blank_ok B = record {
  dest = lit< tt;
  source = lit< tt;
  tag = lit< tt;
  typ = lit< tt;
  seq = lit< tt;
  len = omega arith;
  wide = lit< tt;
  counter = lit< tt;
  clock = lit< tt;
  value = lit< tt;
  issue = lit< tt;
}

pub slot_lawful : (B : ℕ) → Lawful (slot_codec B)
slot_lawful B = record { long = slot_long; back = slot_back B }

-- the two rows stored one after the other
pub slot_rows : (s : Reassembler) (b : List ℕ) →
    puts 8 (rest_row s.stamp.counter (cookie_no s.cookie) s.stamp.clock (cookie_value s.cookie) (issue_no s.state))
    (puts 0 (lead_row (state_no s.state) s.key.dest.0 s.key.source.0 (owner_tag s.key) (type_byte s.typ s.ic) s.next_seq s.len) b)
    ≡ lay 0 (slot_bytes s) b
unfolding puts slot_bytes
slot_rows s b = puts-lay 0 (slot_row s) b

-- a store of sequence and length alone in a slot's bytes
pub progress_bytes : (p : Progress) (s : Reassembler) → puts 5 (progress_row p) (slot_bytes s) ≡ slot_bytes (progress p.seq p.len s)
unfolding slot_bytes pack le puts lay
progress_bytes p s = refl

pub progress_ok : (B : ℕ) (p : Progress) (s : Reassembler) → ProgressOk B p → B ≤ 65535 → SlotOk B s → SlotOk B (progress p.seq p.len s)
progress_ok B p s k w ok = record {
  dest = ok.dest;
  source = ok.source;
  tag = ok.tag;
  typ = ok.typ;
  seq = k.seq;
  len = k.len;
  wide = omega arith;
  counter = ok.counter;
  clock = ok.clock;
  value = ok.value;
  issue = ok.issue;
}
