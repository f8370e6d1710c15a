-- A flow is read back from its 32 bytes, since each number fits its width, and the first four tell which peer and tag it belongs to.
use Prim.Native.Nat.{◌+◌, ◌*◌, ◌<◌}
use native.Mathlib.Omega.{arith}
use mathlib.Core.Path.{◌≡◌, refl}
use mathlib.Core.Bool.{Bool, true, false}
use lib.ListN.{length, replicate}
use Rattle.std.specs.Prelude.{None, Option, Some}
use Rattle.octets.specs.Bytes.{le, num, part, field, pack}
use Rattle.octets.specs.Pick.{pick}
use Rattle.octets.proofs.Number.{num-le, top}
use Rattle.octets.proofs.Region.{Lawful}
use Rattle.mctp.specs.declared.Eid.{Eid}
use Rattle.mctp.specs.declared.TagValue.{TagValue}
use Rattle.mctp.specs.Header.{bit}
use Rattle.mctp.specs.Terms.{cookie_no, cookie_value}
use Rattle.mctp.proofs.CookieLaws.{cookie_back, cookie_small}
use Rattle.flows.specs.declared.Flow.{Flow}
use Rattle.flows.specs.Table.{no_flow, is_flow}
use Rattle.flows.proofs.Bits.{bit_one, bit_small}
use Rattle.flows.proofs.TableLaws.{is_flow_lem, flow_is}
use Rattle.flows.specs.Codec.{flow_width, expiry_no, expiry_stamp, expiry_of, flow_bytes, flow_of, FlowOk, flow_codec, flow_word}
use Rattle.stamp.specs.declared.EventStamp.{EventStamp}

expiry_back : (e : Option EventStamp) → expiry_of (expiry_no e) (expiry_stamp e).clock (expiry_stamp e).counter ≡ e
unfolding expiry_of pick
expiry_back None = refl
expiry_back (Some s) = refl

expiry_small : (e : Option EventStamp) → expiry_no e < 2
expiry_small None = omega arith
expiry_small (Some s) = omega arith

pub flow_long : (f : Flow) → length (flow_bytes f) ≡ flow_width
unfolding flow_bytes pack le
flow_long f = refl

-- 32 zeros are a place that holds no flow
pub blank_flow : flow_bytes no_flow ≡ replicate 32 0
unfolding flow_bytes pack le
blank_flow = refl

module _ (f : Flow) (ok : FlowOk f) where
  record Read : Type 0 where
    pub used : field 0 1 (flow_bytes f) ≡ bit f.used 1
    pub peer : field 1 1 (flow_bytes f) ≡ f.peer.0
    pub tag : field 2 1 (flow_bytes f) ≡ f.tag.0
    pub has : field 4 1 (flow_bytes f) ≡ cookie_no f.cookie
    pub kind : field 6 1 (flow_bytes f) ≡ expiry_no f.expiry
    pub value : field 8 8 (flow_bytes f) ≡ cookie_value f.cookie
    pub clock : field 16 8 (flow_bytes f) ≡ (expiry_stamp f.expiry).clock
    pub counter : field 24 4 (flow_bytes f) ≡ (expiry_stamp f.expiry).counter

  read : Read
  unfolding flow_bytes pack le part top
  read = record {
    used = num-le 1 _ (omega (arith, bit_small f.used 1));
    peer = num-le 1 _ ok.peer;
    tag = num-le 1 _ (omega arith);
    has = num-le 1 _ (omega (arith, cookie_small f.cookie));
    kind = num-le 1 _ (omega (arith, expiry_small f.expiry));
    value = num-le 8 _ ok.value;
    clock = num-le 8 _ ok.clock;
    counter = num-le 4 _ ok.counter;
  }

  pub flow_back : flow_of (flow_bytes f) ≡ f
  unfolding flow_of
  flow_back = rw (
    read.used,
    read.peer,
    read.tag,
    read.has,
    read.kind,
    read.value,
    read.clock,
    read.counter,
    bit_one f.used,
    cookie_back f.cookie,
    expiry_back f.expiry,
  )

  -- the first four bytes as one number
  pub flow_word_lem : field 0 4 (flow_bytes f) ≡ flow_word f
  unfolding flow_bytes pack le part num
  flow_word_lem = let h = bit_small f.used 1 in omega arith

pub flow_lawful : Lawful flow_codec
flow_lawful = record { long = flow_long; back = flow_back }

-- the word of a place says whether the place belongs to that peer and tag
module _ (peer : Eid) (tag : TagValue) (f : Flow) (ok : FlowOk f) where
  pub word_is : is_flow peer tag f ≡ true → flow_word f ≡ 1 + 256 * (peer.0 + 256 * tag.0)
  word_is y = let i = is_flow_lem peer tag f y in rw (i.used, i.peer, i.tag)

  pub is_word : peer.0 < 256 → tag.0 < 256 → flow_word f ≡ 1 + 256 * (peer.0 + 256 * tag.0) → is_flow peer tag f ≡ true
  is_word p t e =
      let h = bit_small f.used 1 in
      let k = ok.peer in
      let m = ok.tag in
      flow_is peer tag f (record { used = bit_true f.used (omega arith); peer = omega arith; tag = omega arith })
    where
      bit_true : (b : Bool) → bit b 1 ≡ 1 → b ≡ true
      bit_true true e = refl
      bit_true false e = absurd (omega arith)
