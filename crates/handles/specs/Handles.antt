-- docs/RULES.md 72, 73, 76 and 78 to 82: fetch, finish, return, set cookie, and the deferred lookups.
-- A handle is an index and an issue number.
-- Leans on `slot` for a slot's part and the count of handles, on `state` for the stack.
use Rattle.std.specs.Prelude.{ℕ, ◌*◌, ◌<◌, ◌≡◌, Bool, true, false, List, [], ◌∷◌, ltb, length, set, Err, None, Ok, Option, Result, Some}
use Rattle.octets.specs.Pick.{pick}
use Rattle.mctp.specs.declared.Eid.{Eid}
use Rattle.mctp.specs.declared.Tag.{Tag}
use Rattle.mctp.specs.declared.Error.TheVariants.{BadArgument, PoolShort}
use Rattle.mctp.specs.Terms.{tag_of, is_owner, cookie_no, cookie_value}
use Rattle.mctp.specs.Answer.{Answer, gives, answer_as, found_words, flag_word}
use Rattle.slot.specs.declared.State.TheVariants.{Done as Waiting, HandleOut}
use Rattle.slot.specs.declared.Reassembler.{Reassembler}
use Rattle.slot.specs.Slot.{blank_slot, handle_is, kept_under, listed, with_state, with_slot_cookie}
use Rattle.slot.specs.Search.{earliest}
use Rattle.state.specs.Head.{with_issue}
use Rattle.state.specs.Slot.{SlotOk}
use Rattle.state.specs.Stack.{Stack, slot_at, with_slot}
use Rattle.slot.specs.declared.ReceiveHandle.{ReceiveHandle}
use Rattle.handles.specs.declared.Message.{Message}
use Rattle.slot.specs.Handle.{next_issue, handle_words}
use Rattle.mctp.specs.declared.AppCookie.{AppCookie}
use Rattle.mctp.specs.declared.Error.{Error}

-- ---- answers in numbers

-- 0 and nothing else
abbrev pub done_as : Result (Unit {0}) Error → Answer
done_as = answer_as (λ _. [])

-- a message in numbers: source, destination, TO, tag, type, IC, has a cookie, cookie, the body's place in the pool and its length
abbrev pub message_words : Message → List ℕ
message_words m =
    m.key.source.0
    ∷ m.key.dest.0
    ∷ flag_word m.key.owner
    ∷ m.key.tag.0
    ∷ m.typ.0
    ∷ flag_word m.ic.0
    ∷ cookie_no m.cookie
    ∷ cookie_value m.cookie
    ∷ m.at
    ∷ m.len
    ∷ []

abbrev pub fetched_as : Result Message Error → Answer
fetched_as = answer_as message_words

-- 0 and a handle, or 0 alone where there is none
abbrev pub deferred_as : Option ReceiveHandle → Answer
deferred_as d = gives (found_words handle_words d)

-- ---- handles

-- whether a handle is good: its index is that of a slot, and that slot's handle is out under its number
unfoldable pub is_good : ReceiveHandle → Stack → Bool
is_good h st = pick (ltb h.index (length st.slots)) (handle_is h.issue (slot_at h.index st)) false

-- s is the slot under a good handle
pub record IsUnder (B : ℕ) (h : ReceiveHandle) (st : Stack) (s : Reassembler) : Type 0 where
  pub good : is_good h st ≡ true
  pub inside : h.index < length st.slots
  pub same : s ≡ slot_at h.index st
  pub ok : SlotOk B s

-- a handle that is not good is refused
pub record IsBad (h : ReceiveHandle) (st : Stack) (err : Error) : Type 0 where
  pub bad : is_good h st ≡ false
  pub same : err ≡ BadArgument

pub record Handled : Type 0 where
  pub stack : Stack
  pub said : Result (Unit {0}) Error

-- the slot of a good handle becomes what f makes of it; any other handle is BadArgument
unfoldable pub handled : (Reassembler → Reassembler) → ReceiveHandle → Stack → Handled
handled f h st =
    pick (is_good h st) (record { stack = with_slot h.index (f (slot_at h.index st)) st; said = Ok tt })
    (record { stack = st; said = Err BadArgument })

-- finish empties the slot
abbrev pub finish_of : ReceiveHandle → Stack → Handled
finish_of h st = handled (λ s. blank_slot) h st

-- return keeps the message with no handle out and its old stamp
abbrev pub return_of : ReceiveHandle → Stack → Handled
return_of h st = handled (with_state Waiting) h st

-- set cookie changes that slot's cookie alone
abbrev pub set_cookie_of : ReceiveHandle → Option AppCookie → Stack → Handled
set_cookie_of h cookie st = handled (with_slot_cookie cookie) h st

-- the message in slot i, whose body lies in the pool from byte B i on
abbrev pub message_in : ℕ → ℕ → Reassembler → Message
message_in B i s = record { key = s.key; typ = s.typ; ic = s.ic; cookie = s.cookie; at = B * i; len = s.len }

-- fetch gives the slot's message and changes nothing
unfoldable pub fetch_of : ℕ → ReceiveHandle → Stack → ℕ → Result Message Error
fetch_of B h st room =
    pick (ltb room (B * length st.slots)) (Err PoolShort)
    (pick (is_good h st) (Ok (message_in B h.index (slot_at h.index st))) (Err BadArgument))

pub record Lookup : Type 0 where
  pub stack : Stack
  pub said : Option ReceiveHandle

-- slot i's handle goes out under the next number, where there is a slot i
unfoldable pub take_of : ℕ → Stack → Lookup
take_of i st =
    pick (ltb i (length st.slots))
    (record {
      stack = record {
        head = with_issue (next_issue st.head.issue) st.head;
        flows = st.flows;
        slots = set st.slots i (with_state (HandleOut (next_issue st.head.issue)) (slot_at i st));
      };
      said = Some (record { index = i; issue = next_issue st.head.issue });
    })
    (record { stack = st; said = None })

-- the earliest done slot that matches, with its handle now out, or none
abbrev pub deferred_of : (Reassembler → Bool) → Stack → Lookup
deferred_of f st = take_of (earliest f st.slots) st

-- the lookup by source, TO and tag; a tag above 7 finds none
unfoldable pub by_source_of : Eid → Tag → Stack → Lookup
by_source_of source tag st =
    pick (ltb 7 (tag_of tag).0) (record { stack = st; said = None }) (deferred_of (kept_under source (is_owner tag) (tag_of tag)) st)

-- the lookup by any of a list of cookies
abbrev pub by_cookie_of : List ℕ → Stack → Lookup
by_cookie_of cookies st = deferred_of (λ s. listed cookies s.cookie) st
