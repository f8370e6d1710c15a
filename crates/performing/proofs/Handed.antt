-- Demand 3, first half, for what is performed: `hands_out` is carried over from the model to calls made by `perform`.
use Prim.Native.Nat.{ℕ}
use native.Mathlib.Omega.{arith}
use mathlib.Core.Path.{◌≡◌, refl, sym, ap, subst, ◌∙◌}
use mathlib.Core.List.{List, [], ◌∷◌}
use lib.ListN.{length}
use Rattle.std.specs.Prelude.{Err, None, Ok, Option, Result, Some}
use Rattle.mctp.specs.declared.Key.{Key}
use Rattle.mctp.specs.declared.MsgType.{MsgType}
use Rattle.mctp.specs.declared.MsgIC.{MsgIC}
use Rattle.mctp.specs.Answer.{Answer, gives, answer_no, answer_values, row_after}
use Rattle.mctp.proofs.Answers.{error_some}
use Rattle.state.specs.Stack.{stack_of, Kept}
use Rattle.state.proofs.StackLaws.{slot_ok}
use Rattle.slot.specs.declared.ReceiveHandle.{ReceiveHandle}
use Rattle.receiving.specs.Conclude.{received_as}
use Rattle.handles.specs.declared.Message.{Message as Facts}
use Rattle.handles.specs.Handles.{fetched_as}
use Rattle.promises.specs.Calls.{World, receive, fetch_message, step, steps, receipt}
use Rattle.handles.specs.declared.Message.{Message as Facts}
use Rattle.promises.specs.Delivery.{Message, Hands, Delivers, cookie_for, Lawful}
use Rattle.promises.proofs.Fetch.{as_told}
use Rattle.promises.proofs.HandOut.{hands_out}
use Rattle.promises.proofs.Issues.{told_some}
use Rattle.staying.specs.Staying.{Fetches}
use Rattle.staying.proofs.Stays.{handed_stays, fetch_inside}
use Rattle.board.specs.Board.{board}
use Rattle.performing.specs.Perform.{Performs, tells}
use Rattle.performing.specs.Trace.{Deed, Done, Trace, last_bytes, last_pool, all_calls, Fed, packets_of, gaps_of, Feeds, Gives, HandsOut, Answers}
use Rattle.performing.proofs.Traced.{world, Stands, as_world, traced}
use Rattle.mctp.specs.declared.Error.{Error}

-- ---- a receive that was performed

-- what the answer says, in the terms of the model
pub record Heard (q : List ℕ) (d : Deed) (b p : List ℕ) : Type 0 where
  pub said : d.said ≡ answer_no (received_as (receipt 1032 q (world b p)).said)
  pub handle : d.left.handle ≡ row_after 2 (received_as (receipt 1032 q (world b p)).said) d.lent.handle
  pub stands : Stands b d.after d.left.pool (step 1032 (receive q) (world b p))

pub heard : (q : List ℕ) (d : Deed) (b p : List ℕ) → d.calls ≡ receive q ∷ [] → Done d b → d.lent.pool ≡ p → Heard q d b p
unfolding tells steps
heard q d b p o h e =
    let g : Performs (receive q ∷ []) b d.after d.lent d.left d.said = rw o at h in
    subst (λ (x : List ℕ). Heard q d b x) e (record { said = g.said; handle = g.handle; stands = record { stack = g.stack; pool = g.pool } })

-- an answer that says "more" in numbers is "more"
as_more : (r : Result (Option ReceiveHandle) Error) → received_as r ≡ gives [] → r ≡ Ok None
as_more (Ok None) e = refl
as_more (Ok (Some h)) e = let z : ◌≡◌ {A = ℕ} 2 0 = ap (λ (a : Answer). length (answer_values a)) e in absurd (omega arith)
as_more (Err err) e = absurd (error_some err (ap answer_no e))

-- after a receive and any calls performed, bytes and pool hold what the model's steps make
pub then_world : (q : List ℕ) (d : Deed) (b p : List ℕ) (ds : List Deed) → Heard q d b p → Trace ds d.after d.left.pool
    → Kept board (last_bytes ds d.after)
    × (world (last_bytes ds d.after) (last_pool ds d.left.pool) ≡ steps 1032 (all_calls ds) (step 1032 (receive q) (world b p)))
then_world q d b p ds h t =
    let b₁ = d.after in
    let p₁ = d.left.pool in
    let w₁ = step 1032 (receive q) (world b p) in
    let gap = traced ds b₁ p₁ h.stands.stack.kept t in (
      gap.stack.kept,
      as_world b₁ (last_bytes ds b₁) (last_pool ds p₁) (steps 1032 (all_calls ds) (world b₁ p₁)) gap
          ∙ ap (steps 1032 (all_calls ds)) (as_world b b₁ p₁ w₁ h.stands),
    )

-- a fetch that is performed where the model gives m
gives_from : (m : Message) (h : ReceiveHandle) (b p : List ℕ) (e : Deed) → Kept board b → Fetches 1032 h m (world b p) → e.calls ≡ fetch_message h (length p) ∷ [] → Done e b
    → Gives m p e
unfolding tells
gives_from m h b p e k f o done =
    let g : Performs (fetch_message h (length p) ∷ []) b e.after e.lent e.left e.said = rw o at done in
    record {
      facts = f.facts;
      said = g.said ∙ ap (λ (y : Result Facts Error). answer_no (fetched_as y)) f.fetched;
      told = g.message ∙ ap (λ (y : Result Facts Error). row_after 10 (fetched_as y) e.lent.message) f.fetched;
      inside = fetch_inside 1032 h (stack_of board b) (length p) f.facts f.fetched (slot_ok board b k h.index).len;
      message = f.message;
    }

-- the packet that hands out
pub last_out : (m : Message) (q : List ℕ) (d : Deed) (b p : List ℕ) → Heard q d b p → Hands 1032 m q (world b p) → HandsOut m d
last_out m q d b p h x =
    let t = as_told (receipt 1032 q (world b p)).said x.handle x.told in
    record {
      handle = x.handle;
      said = h.said ∙ ap (λ (r : Result (Option ReceiveHandle) Error). answer_no (received_as r)) t;
      told = h.handle ∙ ap (λ (r : Result (Option ReceiveHandle) Error). row_after 2 (received_as r) d.lent.handle) t;
      number = told_some 1032 (stack_of board b) (length p) q x.handle t;
      fetched = λ ds trace ok e o done.
          let w = then_world q d b p ds h trace in
          gives_from m x.handle (last_bytes ds d.after) (last_pool ds d.left.pool) e w.0
          (subst (Fetches 1032 x.handle m) (sym w.1) (handed_stays 1032 m q (all_calls ds) (world b p) x ok)) o done;
    }

-- whatever the model delivers, the performed calls answer
pub answers_from : (m : Message) (fs : List Fed) (b p : List ℕ) → Kept board b → Feeds fs b p → Delivers 1032 m (packets_of fs) (gaps_of fs) (world b p) → Answers m fs
unfolding Feeds Delivers packets_of gaps_of Answers
answers_from m [] b p k z d = absurd d
answers_from m (f ∷ []) b p k z d = last_out m f.packet f.deed b p (heard f.packet f.deed b p z.0 z.1.0 z.1.1.0) d
answers_from m (f ∷ g ∷ fs) b p k z d =
    let h = heard f.packet f.deed b p z.0 z.1.0 z.1.1.0 in
    let t = as_more (receipt 1032 f.packet (world b p)).said d.0 in
    let b₂ = last_bytes f.gap f.deed.after in
    let p₂ = last_pool f.gap f.deed.left.pool in
    let e = then_world f.packet f.deed b p f.gap h z.1.1.1.0 in (
      h.said ∙ ap (λ (r : Result (Option ReceiveHandle) Error). answer_no (received_as r)) t,
      (
        h.handle ∙ ap (λ (r : Result (Option ReceiveHandle) Error). row_after 2 (received_as r) f.deed.lent.handle) t,
        answers_from m (g ∷ fs) b₂ p₂ e.0 z.1.1.1.1
            (subst (λ (w : World). Delivers 1032 m (packets_of (g ∷ fs)) (gaps_of (g ∷ fs)) w) (sym e.1) d.1),
      ),
    )

-- Demand 3, first half, for any bytes that are kept and any pool. If the packets that are received carry `body` as one message, with any calls performed
-- between, and the premises of `Lawful` hold of what bytes and pool say, then each packet but the last is answered 0 and issue 0, the last 0 and a handle, and
-- a fetch with that handle tells of exactly that message
pub delivered_by_calls : (K : Key) (typ : MsgType) (ic : MsgIC) (mtu : ℕ) (body : List ℕ) (fs : List Fed) (b p : List ℕ) → Kept board b → Feeds fs b p
    → Lawful 1032 K typ ic mtu body (packets_of fs) (gaps_of fs) (world b p)
    → Answers (record { key = K; typ = typ; ic = ic; body = body; cookie = cookie_for K (stack_of board b) }) fs
delivered_by_calls K typ ic mtu body fs b p k z law =
    answers_from _ fs b p k z (hands_out 1032 K typ ic mtu body (packets_of fs) (gaps_of fs) (world b p) law)
