-- A head that is Ok is read back from its bytes, since each field has its own place and fits there.
use Prim.Native.Nat.{ℕ, ◌^◌, ◌<◌}
use native.Mathlib.Omega.{arith}
use mathlib.Core.Path.{◌≡◌, refl}
use lib.ListN.{length}
use Rattle.octets.specs.Bytes.{le, part, field, pack, lay}
use Rattle.octets.proofs.Number.{num-le, top}
use Rattle.octets.proofs.Region.{Lawful}
use Rattle.state.specs.declared.Head.{Head}
use Rattle.state.specs.Layout.{head_width}
use Rattle.state.specs.Head.{head_bytes, head_of, HeadOk, head_codec, with_counter, with_next_tag, with_next_seq, with_issue}

pub head_long : (h : Head) → length (head_bytes h) ≡ head_width
unfolding head_bytes pack le
head_long h = refl

module _ (h : Head) (ok : HeadOk h) where
  record Read : Type 0 where
    pub own : field 0 1 (head_bytes h) ≡ h.own_eid.0
    pub tag : field 1 1 (head_bytes h) ≡ h.next_tag
    pub seq : field 2 1 (head_bytes h) ≡ h.next_seq
    pub counter : field 4 4 (head_bytes h) ≡ h.now.counter
    pub clock : field 8 8 (head_bytes h) ≡ h.now.clock
    pub planned : field 16 8 (head_bytes h) ≡ h.next_timeout
    pub issue : field 24 8 (head_bytes h) ≡ h.issue
    pub mtu : field 32 8 (head_bytes h) ≡ h.mtu

  read : Read
  unfolding head_bytes pack le part top
  read = record {
    own = num-le 1 h.own_eid.0 ok.own;
    tag = num-le 1 h.next_tag (omega arith);
    seq = num-le 1 h.next_seq (omega arith);
    counter = num-le 4 h.now.counter ok.counter;
    clock = num-le 8 h.now.clock ok.clock;
    planned = num-le 8 h.next_timeout ok.planned;
    issue = num-le 8 h.issue ok.issue;
    mtu = num-le 8 h.mtu ok.mtu;
  }

  pub head_back : head_of (head_bytes h) ≡ h
  unfolding head_of
  head_back = let r = read in rw (r.own, r.tag, r.seq, r.counter, r.clock, r.planned, r.issue, r.mtu)

pub head_lawful : Lawful head_codec
head_lawful = record { long = head_long; back = head_back }

-- stores of single fields in a head's bytes
pub counter_bytes : (n : ℕ) (h : Head) → lay 4 (le 4 n) (head_bytes h) ≡ head_bytes (with_counter n h)
unfolding head_bytes pack le lay
counter_bytes n h = refl

pub counter_ok : (n : ℕ) (h : Head) → n < 2 ^ 32 → HeadOk h → HeadOk (with_counter n h)
counter_ok n h l ok = record { own = ok.own; tag = ok.tag; seq = ok.seq; counter = l; clock = ok.clock; planned = ok.planned; issue = ok.issue; mtu = ok.mtu; soon = ok.soon }

pub tag_bytes : (n : ℕ) (h : Head) → lay 1 (le 1 n) (head_bytes h) ≡ head_bytes (with_next_tag n h)
unfolding head_bytes pack le lay
tag_bytes n h = refl

pub tag_ok : (n : ℕ) (h : Head) → n < 8 → HeadOk h → HeadOk (with_next_tag n h)
tag_ok n h l ok = record { own = ok.own; tag = l; seq = ok.seq; counter = ok.counter; clock = ok.clock; planned = ok.planned; issue = ok.issue; mtu = ok.mtu; soon = ok.soon }

pub seq_bytes : (h : Head) → lay 2 (le 2 (with_next_seq h).next_seq) (head_bytes h) ≡ head_bytes (with_next_seq h)
unfolding head_bytes pack le lay
seq_bytes h = refl

pub seq_ok : (h : Head) → HeadOk h → HeadOk (with_next_seq h)
seq_ok h ok = record { own = ok.own; tag = ok.tag; seq = omega arith; counter = ok.counter; clock = ok.clock; planned = ok.planned; issue = ok.issue; mtu = ok.mtu; soon = ok.soon }

pub issue_bytes : (n : ℕ) (h : Head) → lay 24 (le 8 n) (head_bytes h) ≡ head_bytes (with_issue n h)
unfolding head_bytes pack le lay
issue_bytes n h = refl

pub issue_ok : (n : ℕ) (h : Head) → n < 2 ^ 64 → HeadOk h → HeadOk (with_issue n h)
issue_ok n h l ok = record { own = ok.own; tag = ok.tag; seq = ok.seq; counter = ok.counter; clock = ok.clock; planned = ok.planned; issue = l; mtu = ok.mtu; soon = ok.soon }
