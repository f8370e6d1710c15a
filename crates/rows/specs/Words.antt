-- Rows of 64-bit numbers read as records, for callers that hold only numbers: a send, a fragmenter. What a row says of an answer stands beside the
-- record: `handle_words`, `message_words`, `words_of`. Any number but 0 is read as yes.
-- Leans on the records of `mctp`, `fragment` and `sending`.
use Rattle.std.specs.Prelude.{ℕ, ◌%◌, Bool, ◌&&◌, ◌||◌, List, ltb, leb, eqb, get_or, set, None, Option, Some}
use Rattle.std.specs.Bool.{then_some}
use Rattle.octets.specs.Pick.{pick}
use Rattle.mctp.specs.declared.Tag.{Tag}
use Rattle.mctp.specs.Terms.{tag_under}
use Rattle.mctp.specs.Answer.{flag_word}
use Rattle.fragment.specs.declared.Fragmenter.{Fragmenter}
use Rattle.sending.specs.declared.Send.{Send}
use Rattle.mctp.specs.declared.AppCookie.{AppCookie}
use Rattle.mctp.specs.declared.Tag.TheVariants.{Owned}
use Rattle.mctp.specs.declared.Tag.TheVariants.{Unowned}

-- word i of a row
abbrev pub word : ℕ → List ℕ → ℕ
word i w = get_or w i 0

abbrev pub is_yes : ℕ → Bool
is_yes w = ltb 0 w

-- a number taken as a byte: its low eight bits
abbrev pub narrow : ℕ → ℕ
narrow w = w % 256

abbrev pub tag_from : Bool → ℕ → Tag
tag_from owner t = tag_under owner (record { 0 = t })

abbrev pub cookie_from : Bool → ℕ → Option AppCookie
cookie_from has value = then_some has (record { 0 = value })

-- A send: destination, type, kind of tag, tag, expires, IC, has an MTU, MTU, has a cookie, cookie. The kind is 0 for a fresh tag, 1 for a given owned tag
-- and 2 for a given unowned one.

-- whether the row is a good send: destination and type are bytes, the kind of tag is one of the three, and a given tag is a byte
unfoldable pub good_send : List ℕ → Bool
good_send w = leb (word 0 w) 255 && leb (word 1 w) 255 && leb (word 2 w) 2 && (eqb (word 2 w) 0 || leb (word 3 w) 255)

unfoldable pub send_tag_from : ℕ → ℕ → Option Tag
send_tag_from kind t = pick (eqb kind 0) None (pick (eqb kind 1) (Some (Owned (record { 0 = t }))) (Some (Unowned (record { 0 = t }))))

abbrev pub send_mtu_from : Bool → ℕ → Option ℕ
send_mtu_from has mtu = then_some has mtu

abbrev pub send_of : List ℕ → Send
send_of w = record {
  dest = record { 0 = narrow (word 0 w) };
  typ = record { 0 = narrow (word 1 w) };
  tag = send_tag_from (word 2 w) (narrow (word 3 w));
  expires = is_yes (word 4 w);
  ic = record { 0 = is_yes (word 5 w) };
  mtu = send_mtu_from (is_yes (word 6 w)) (word 7 w);
  cookie = cookie_from (is_yes (word 8 w)) (word 9 w);
}

-- The row of a fragmenter is `words_of` (fragment, Answers).

-- the row after a packet: sequence, first, done and the bytes sent are the next fragmenter's, the other words stay
abbrev pub advanced_row : Fragmenter → List ℕ → List ℕ
advanced_row next w = set (set (set (set w 6 next.seq) 8 (flag_word next.first)) 9 (flag_word next.done)) 12 next.payload_used

abbrev pub fragmenter_of : List ℕ → Fragmenter
fragmenter_of w = record {
  src = record { 0 = narrow (word 0 w) };
  dest = record { 0 = narrow (word 1 w) };
  typ = record { 0 = narrow (word 2 w) };
  tag = tag_from (is_yes (word 3 w)) (narrow (word 4 w));
  ic = record { 0 = is_yes (word 5 w) };
  seq = narrow (word 6 w);
  mtu = word 7 w;
  first = is_yes (word 8 w);
  done = is_yes (word 9 w);
  cookie = cookie_from (is_yes (word 10 w)) (word 11 w);
  payload_used = word 12 w;
}
