-- Demand 3, second half, and that a stale handle stays stale, for what is performed: `told` and `stale_stays` are carried over from the model.
use Prim.Native.Nat.{ℕ, ◌*◌, ◌≤◌}
use mathlib.Core.Path.{◌≡◌, refl, sym, ap, subst, ◌∙◌}
use mathlib.Core.Bool.{true, false}
use mathlib.Core.List.{List, [], ◌∷◌}
use lib.ListN.{length}
use borrow.Author.Tests.{le-ltb}
use Rattle.std.specs.Prelude.{Err, None, Ok, Option, Result, Some}
use Rattle.octets.specs.Pick.{pick}
use Rattle.mctp.specs.declared.Error.TheVariants.{BadArgument}
use Rattle.mctp.specs.Answer.{gives, answer_no, row_after}
use Rattle.mctp.proofs.Answers.{error_some}
use Rattle.slot.specs.declared.State.TheVariants.{Done as Waiting}
use Rattle.slot.specs.Slot.{blank_slot, is_empty, with_state, with_slot_cookie}
use Rattle.slot.specs.declared.Reassembler.{Reassembler}
use Rattle.state.specs.Stack.{stack_of, Kept, Becomes}
use Rattle.state.proofs.StackLaws.{slots_length}
use Rattle.slot.specs.declared.ReceiveHandle.{ReceiveHandle}
use Rattle.slot.specs.Handle.{handle_words}
use Rattle.receiving.specs.Conclude.{received_as}
use Rattle.handles.specs.Handles.{is_good, handled, done_as, fetched_as, fetch_of}
use Rattle.promises.specs.Calls.{World, receive, fetch_message, finished_receive, return_handle, set_cookie, step, steps, receipt, performed}
use Rattle.promises.specs.Delivery.{Hands, message_at, all_of}
use Rattle.promises.specs.History.{Exactly, history, logged}
use Rattle.promises.specs.Stale.{counting}
use Rattle.promises.proofs.Fetch.{told_fetched}
use Rattle.promises.proofs.Told.{told}
use Rattle.promises.proofs.Stale.{stale_stays}
use Rattle.board.specs.Board.{board}
use Rattle.performing.specs.Perform.{Performs, tells}
use Rattle.performing.specs.Trace.{Deed, Done, Trace, last_bytes, last_pool, all_calls, HandsOut}
use Rattle.performing.proofs.Traced.{world, Stands, as_world, traced}
use Rattle.performing.proofs.Handed.{heard, last_out}
use Rattle.mctp.specs.declared.AppCookie.{AppCookie}
use Rattle.mctp.specs.declared.Error.{Error}
use Rattle.handles.specs.declared.Message.{Message}

-- where the answer is 0 and the row's number is not 0, that handle was told
as_handle : (r : Result (Option ReceiveHandle) Error) (old : List ℕ) (h : ReceiveHandle) → answer_no (received_as r) ≡ 0 → row_after 2 (received_as r) old ≡ handle_words h → (h.issue ≡ 0 → ⊥)
    → received_as r ≡ gives (handle_words h)
as_handle (Ok None) old h z e n = absurd (n (cc))
as_handle (Ok (Some k)) old h z e n = ap gives e
as_handle (Err err) old h z e n = absurd (error_some err z)

module _ (b p : List ℕ) (k : Kept board b) (ds : List Deed) (t : Trace ds b p) where
  -- the world after those calls
  abbrev then : World
  then = steps 1032 (all_calls ds) (world b p)

  stood : Stands b (last_bytes ds b) (last_pool ds p) then
  stood = traced ds b p k t

  -- Demand 3, second half. From bytes that hold no message and a pool of four bodies, after any calls performed: where a receive is answered 0 with a handle in
  -- the row, a fetch with that handle tells of a message, and this is exactly what was taken under its key since the newest opening packet
  pub performed-told : all_of is_empty (stack_of board b).slots ≡ true → 4128 ≤ length p
      → (q : List ℕ) (d : Deed) → d.calls ≡ receive q ∷ [] → Done d (last_bytes ds b) → d.lent.pool ≡ last_pool ds p
      → (h : ReceiveHandle) → d.said ≡ 0 → d.left.handle ≡ handle_words h → (h.issue ≡ 0 → ⊥)
      → HandsOut (message_at 1032 h.index (world d.after d.left.pool)) d
      × Exactly (message_at 1032 h.index (world d.after d.left.pool)) q
      (logged 1032 (receive q) then (history 1032 (all_calls ds) (world b p) []))
  unfolding stood
  performed-told empty room q d o done same h said row n =
      let g = heard q d (last_bytes ds b) (last_pool ds p) o done same in
      let w = world (last_bytes ds b) (last_pool ds p) in
      let a = as_handle (receipt 1032 q w).said d.lent.handle h (sym g.said ∙ said) (sym g.handle ∙ row) n in
      let e : w ≡ then = as_world b (last_bytes ds b) (last_pool ds p) then stood in
      let e' : world d.after d.left.pool ≡ step 1032 (receive q) w = as_world (last_bytes ds b) d.after d.left.pool (step 1032 (receive q) w) g.stands in
      let long : 1032 * length (stack_of board b).slots ≤ length p = rw (slots_length board b) room in
      let hands : Hands 1032 (message_at 1032 h.index (step 1032 (receive q) w)) q w = record { handle = h; told = a; facts = _; fetched = told_fetched 1032 q w h a; message = refl } in
      let exact = told 1032 (world b p) empty long (all_calls ds) q h (subst (λ (x : World). performed 1032 (receive q) x ≡ gives (handle_words h)) e a) in (
        subst (λ (x : World). HandsOut (message_at 1032 h.index x) d) (sym e') (last_out _ q d (last_bytes ds b) (last_pool ds p) g hands),
        subst (λ (x : World). Exactly (message_at 1032 h.index x) q (logged 1032 (receive q) then (history 1032 (all_calls ds) (world b p) []))) (sym (e' ∙ ap (step 1032 (receive q)) e)) exact,
      )

  -- A handle that is no good, and whose number has gone out, is no good after any calls performed, while the count of handles has not come to its end
  pub performed_stale : (h : ReceiveHandle) → h.issue ≤ (stack_of board b).head.issue → is_good h (stack_of board b) ≡ false → counting (stack_of board (last_bytes ds b))
      → is_good h (stack_of board (last_bytes ds b)) ≡ false
  unfolding stood
  performed_stale h l e g =
      let v = stood.stack.view in
      ap (is_good h) v ∙ stale_stays 1032 h (all_calls ds) (world b p) l e (rw v at g)

-- ---- and it is answered so

-- what a call under a handle that is no good is answered: 3, BadArgument, with the stack as it was
abbrev Rejected : Deed → List ℕ → Type 0
Rejected d b = (d.said ≡ 3) × Becomes board b d.after (stack_of board b)

module _ (h : ReceiveHandle) (d : Deed) (b : List ℕ) (e : is_good h (stack_of board b) ≡ false) (done : Done d b) where
  no_good : (f : Reassembler → Reassembler) → answer_no (done_as (handled f h (stack_of board b)).said) ≡ 3
  unfolding handled pick
  no_good f = rw e

  pub finish_stale : d.calls ≡ finished_receive h ∷ [] → Rejected d b
  unfolding tells steps step handled pick
  finish_stale o =
      let g : Performs (finished_receive h ∷ []) b d.after d.lent d.left d.said = rw o at done in
      (g.said ∙ no_good (λ s. blank_slot), rw e at g.stack)

  pub return_stale : d.calls ≡ return_handle h ∷ [] → Rejected d b
  unfolding tells steps step handled pick
  return_stale o =
      let g : Performs (return_handle h ∷ []) b d.after d.lent d.left d.said = rw o at done in
      (g.said ∙ no_good (with_state Waiting), rw e at g.stack)

  pub cookie_stale : (cookie : Option AppCookie) → d.calls ≡ set_cookie h cookie ∷ [] → Rejected d b
  unfolding tells steps step handled pick
  cookie_stale cookie o =
      let g : Performs (set_cookie h cookie ∷ []) b d.after d.lent d.left d.said = rw o at done in
      (g.said ∙ no_good (with_slot_cookie cookie), rw e at g.stack)

  -- a fetch, lent a pool that is long enough, leaves its row as it was, too
  pub fetch_stale : (n : ℕ) → 4128 ≤ n → d.calls ≡ fetch_message h n ∷ [] → Rejected d b × (d.left.message ≡ d.lent.message)
  unfolding tells steps step fetch_of pick
  fetch_stale n long o =
      let g : Performs (fetch_message h n ∷ []) b d.after d.lent d.left d.said = rw o at done in
      let f : fetch_of 1032 h (stack_of board b) n ≡ Err BadArgument = rw (slots_length board b, le-ltb n 4128 long, e) in
      ((g.said ∙ ap (λ (y : Result Message Error). answer_no (fetched_as y)) f, g.stack), g.message ∙ ap (λ (y : Result Message Error). row_after 10 (fetched_as y) d.lent.message) f)
