-- The link, call by call: what the contract of an exported call says is what `step` says of that call.
-- Each law takes the contract's equations as they stand in `board`, and gives `Performs`.
use Prim.Native.Nat.{ℕ}
use mathlib.Core.Path.{◌≡◌, refl}
use mathlib.Core.Bool.{Bool, true, false}
use mathlib.Core.List.{List, [], ◌∷◌}
use lib.ListN.{length}
use Rattle.std.specs.Prelude.{Err, None, Option, Some}
use Rattle.octets.specs.Pick.{pick}
use Rattle.octets.specs.Bytes.{over}
use Rattle.mctp.specs.declared.Eid.{Eid}
use Rattle.mctp.specs.declared.Tag.{Tag}
use Rattle.mctp.specs.declared.TagValue.{TagValue}
use Rattle.mctp.specs.declared.Error.TheVariants.{InvalidInput}
use Rattle.mctp.specs.Answer.{answer_no, row_after, flag_word}
use Rattle.fragment.specs.Answers.{started_as}
use Rattle.state.specs.Stack.{Stack, stack_of, Kept, Becomes}
use Rattle.state.proofs.StackLaws.{stays}
use Rattle.slot.specs.declared.ReceiveHandle.{ReceiveHandle}
use Rattle.receiving.specs.Conclude.{received_as}
use Rattle.receiving.specs.Receive.{Receipt, receive_of}
use Rattle.handles.specs.Handles.{Handled, done_as, fetched_as, deferred_as, finish_of, return_of, set_cookie_of, fetch_of, by_source_of, by_cookie_of}
use Rattle.sending.specs.Sends.{Sent, unsent, start_send_of}
use Rattle.updating.specs.Update.{updated_as, update_of}
use Rattle.estack.specs.Basics.{set_eid_of, local_of, cancel_of, free_tags_of}
use Rattle.promises.specs.Calls.{receive, elsewhere, update, start_send, cancel_flow, get_deferred, get_deferred_by_cookie, fetch_message, finished_receive, return_handle, set_cookie, set_eid, eid, is_local_dest, free_tags, step, steps}
use Rattle.rows.specs.Words.{good_send, send_of}
use Rattle.board.specs.Board.{board, start_of}
use Rattle.performing.specs.Perform.{Lent, lent, Performs, tells, send_calls}
use Rattle.mctp.specs.declared.AppCookie.{AppCookie}

-- ---- a number alone is told, and the stack moves

module _ (b b' : List ℕ) (r : ℕ) where
  -- what the contract of such a call says
  abbrev Did : (Stack → Handled) → Type 0
  Did f = (r ≡ answer_no (done_as (f (stack_of board b)).said)) × Becomes board b b' (f (stack_of board b)).stack

  pub finish_link : (h : ReceiveHandle) → Did (finish_of h) → (l : Lent) → Performs (finished_receive h ∷ []) b b' l l r
  unfolding steps step tells
  finish_link h e l = record { stack = e.1; pool = refl; said = e.0; other = refl; handle = refl; message = refl; fragmenter = refl }

  pub return_link : (h : ReceiveHandle) → Did (return_of h) → (l : Lent) → Performs (return_handle h ∷ []) b b' l l r
  unfolding steps step tells
  return_link h e l = record { stack = e.1; pool = refl; said = e.0; other = refl; handle = refl; message = refl; fragmenter = refl }

  pub cookie_link : (h : ReceiveHandle) (k : Option AppCookie) → Did (set_cookie_of h k) → (l : Lent) → Performs (set_cookie h k ∷ []) b b' l l r
  unfolding steps step tells
  cookie_link h k e l = record { stack = e.1; pool = refl; said = e.0; other = refl; handle = refl; message = refl; fragmenter = refl }

  pub set_eid_link : (n : ℕ) → Did (set_eid_of n) → (l : Lent) → Performs (set_eid n ∷ []) b b' l l r
  unfolding steps step tells
  set_eid_link n e l = record { stack = e.1; pool = refl; said = e.0; other = refl; handle = refl; message = refl; fragmenter = refl }

  pub cancel_link : (peer : Eid) (tag : TagValue) → Did (cancel_of peer tag) → (l : Lent) → Performs (cancel_flow peer tag ∷ []) b b' l l r
  unfolding steps step tells
  cancel_link peer tag e l = record { stack = e.1; pool = refl; said = e.0; other = refl; handle = refl; message = refl; fragmenter = refl }

-- ---- a number alone is told, and the stack stays

module _ (b : List ℕ) (k : Kept board b) (r : ℕ) (l : Lent) where
  -- what is no call is answered 1
  pub nothing_link : r ≡ 1 → Performs [] b b l l r
  unfolding steps tells
  nothing_link e = record { stack = stays board b k; pool = refl; said = e; other = refl; handle = refl; message = refl; fragmenter = refl }

  pub eid_link : r ≡ (stack_of board b).head.own_eid.0 → Performs (eid ∷ []) b b l l r
  unfolding steps step tells
  eid_link e = record { stack = stays board b k; pool = refl; said = e; other = refl; handle = refl; message = refl; fragmenter = refl }

  pub local_link : (p : List ℕ) → r ≡ flag_word (local_of p (stack_of board b)) → Performs (is_local_dest p ∷ []) b b l l r
  unfolding steps step tells
  local_link p e = record { stack = stays board b k; pool = refl; said = e; other = refl; handle = refl; message = refl; fragmenter = refl }

  pub free_tags_link : (peer : Eid) → r ≡ free_tags_of peer (stack_of board b) → Performs (free_tags peer ∷ []) b b l l r
  unfolding steps step tells
  free_tags_link peer e = record { stack = stays board b k; pool = refl; said = e; other = refl; handle = refl; message = refl; fragmenter = refl }

-- ---- what is told goes into a row

-- a lookup never refuses
found_zero : (d : Option ReceiveHandle) → 0 ≡ answer_no (deferred_as d)
found_zero (Some h) = refl
found_zero None = refl

module _ (b b' : List ℕ) (n n' : List ℕ) (p o m f : List ℕ) where
  pub update_link : (r t : ℕ)
      → (r ≡ answer_no (updated_as (update_of t (stack_of board b)).said))
      × (Becomes board b b' (update_of t (stack_of board b)).stack × (n' ≡ row_after 2 (updated_as (update_of t (stack_of board b)).said) n))
      → Performs (update t ∷ []) b b' (lent p o n m f) (lent p o n' m f) r
  unfolding steps step tells
  update_link r t e = record { stack = e.1.0; pool = refl; said = e.0; other = refl; handle = e.1.1; message = refl; fragmenter = refl }

  pub source_link : (source : Eid) (tag : Tag)
      → Becomes board b b' (by_source_of source tag (stack_of board b)).stack × (n' ≡ row_after 2 (deferred_as (by_source_of source tag (stack_of board b)).said) n)
      → Performs (get_deferred source tag ∷ []) b b' (lent p o n m f) (lent p o n' m f) 0
  unfolding steps step tells
  source_link source tag e = record { stack = e.0; pool = refl; said = found_zero (by_source_of source tag (stack_of board b)).said; other = refl; handle = e.1; message = refl; fragmenter = refl }

  pub by_cookie_link : (cookies : List ℕ)
      → Becomes board b b' (by_cookie_of cookies (stack_of board b)).stack × (n' ≡ row_after 2 (deferred_as (by_cookie_of cookies (stack_of board b)).said) n)
      → Performs (get_deferred_by_cookie cookies ∷ []) b b' (lent p o n m f) (lent p o n' m f) 0
  unfolding steps step tells
  by_cookie_link cookies e = record { stack = e.0; pool = refl; said = found_zero (by_cookie_of cookies (stack_of board b)).said; other = refl; handle = e.1; message = refl; fragmenter = refl }

-- ---- bytes are written or read

module _ (b b' : List ℕ) (r : ℕ) where
  -- what the contract of a receive says: it is lent x and leaves it as x', and it is lent the row n and leaves it as n'
  abbrev Got : Receipt → (x x' n n' : List ℕ) → Type 0
  Got c x x' n n' = (r ≡ answer_no (received_as c.said)) × (Becomes board b b' c.stack × ((x' ≡ over c.at c.bytes x) × (n' ≡ row_after 2 (received_as c.said) n)))

  pub receive_link : (q p p' n n' o m f : List ℕ) → Got (receive_of 1032 (stack_of board b) (length p) q) p p' n n'
      → Performs (receive q ∷ []) b b' (lent p o n m f) (lent p' o n' m f) r
  unfolding steps step tells
  receive_link q p p' n n' o m f e = record { stack = e.1.0; pool = e.1.1.0; said = e.0; other = refl; handle = e.1.1.1; message = refl; fragmenter = refl }

  pub elsewhere_link : (q p o o' n n' m f : List ℕ) → Got (receive_of 1032 (stack_of board b) (length o) q) o o' n n'
      → Performs (elsewhere (length o) q ∷ []) b b' (lent p o n m f) (lent p o' n' m f) r
  unfolding steps step tells
  elsewhere_link q p o o' n n' m f e = record { stack = e.1.0; pool = refl; said = e.0; other = e.1.1.0; handle = e.1.1.1; message = refl; fragmenter = refl }

  -- what the contract of a send says of the stack after it and of its row
  abbrev Sent' : Sent → (f f' : List ℕ) → Type 0
  Sent' s f f' = (r ≡ answer_no (started_as s.said)) × (Becomes board b b' s.stack × (f' ≡ row_after 13 (started_as s.said) f))

  pub send_link : (w p o n m f f' : List ℕ) → Sent' (start_of w (stack_of board b)) f f'
      → Performs (send_calls w) b b' (lent p o n m f) (lent p o n m f') r
  unfolding start_of send_calls pick steps step tells
  send_link w p o n m f f' e = go (good_send w) e
    where
      go : (t : Bool) → Sent' (pick t (start_send_of (send_of w) (stack_of board b)) (unsent (stack_of board b) (Err InvalidInput))) f f'
          → Performs (pick t (start_send (send_of w) ∷ []) []) b b' (lent p o n m f) (lent p o n m f') r
      go true e = record { stack = e.1.0; pool = refl; said = e.0; other = refl; handle = refl; message = refl; fragmenter = e.1.1 }
      go false e = record { stack = e.1.0; pool = refl; said = e.0; other = refl; handle = refl; message = refl; fragmenter = e.1.1 }

-- a fetch that is lent a buffer of that length, the watched pool or any other
pub fetch_link : (b : List ℕ) → Kept board b → (r : ℕ) (h : ReceiveHandle) (room : ℕ) (p o n m m' f : List ℕ)
    → (r ≡ answer_no (fetched_as (fetch_of 1032 h (stack_of board b) room))) × (m' ≡ row_after 10 (fetched_as (fetch_of 1032 h (stack_of board b) room)) m)
    → Performs (fetch_message h room ∷ []) b b (lent p o n m f) (lent p o n m' f) r
unfolding steps step tells
fetch_link b k r h room p o n m m' f e = record { stack = stays board b k; pool = refl; said = e.0; other = refl; handle = refl; message = e.1; fragmenter = refl }
