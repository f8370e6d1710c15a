-- A message whose handle is out stays as it is, and its handle good, whatever calls come but a finish, a return or a set cookie under that very handle.
-- No clock ends it, since no time runs for its slot. And no body grows past its slot's part of the pool.
use Prim.Native.Nat.{ℕ, zero, suc, ◌+◌, ◌*◌, ◌≤◌}
use native.Mathlib.Omega.{arith}
use mathlib.Core.Path.{◌≡◌, refl, sym, ap, subst, ◌∙◌}
use mathlib.Core.Bool.{Bool, true, false}
use mathlib.Core.List.{List, [], ◌∷◌}
use lib.ListN.{length, get_or, replicate}
use lib.Seq.{get_or-set_same}
use borrow.Author.Tests.{le-ltb, ltb-false, not-true}
use Rattle.std.specs.Prelude.{Err, Ok, Option, Result, Some}
use Rattle.octets.specs.Pick.{pick, pick_true, pick_cases}
use Rattle.mctp.specs.declared.Eid.{Eid}
use Rattle.mctp.specs.Answer.{gives}
use Rattle.slot.specs.declared.State.TheVariants.{HandleOut}
use Rattle.slot.specs.declared.Reassembler.{Reassembler}
use Rattle.slot.specs.Slot.{blank_slot, out_state, handle_taken, handle_is, with_slot_cookie}
use Rattle.reassemble.specs.Enter.{appended}
use Rattle.fragment.specs.Cutting.{body_in}
use Rattle.state.specs.declared.Sizes.{Sizes}
use Rattle.state.specs.Stack.{Stack, Kept, stack_of, slot_at}
use Rattle.state.proofs.StackLaws.{slot_ok}
use Rattle.slot.specs.declared.ReceiveHandle.{ReceiveHandle}
use Rattle.slot.specs.Handle.{handle_words}
use Rattle.receiving.specs.Receive.{Receipt}
use Rattle.handles.specs.declared.Message.{Message as Facts}
use Rattle.handles.specs.Handles as handles
use Rattle.handles.specs.Handles.{is_good, handled, set_cookie_of, message_in, fetch_of}
use Rattle.estack.specs.Basics.{fresh_stack}
use Rattle.promises.specs.Calls.{Call, receive, set_cookie, World, step, steps, receipt, performed}
use Rattle.promises.specs.Delivery.{Message, read_from, message_at, Hands, all_of}
use Rattle.promises.specs.History.{takes}
use Rattle.promises.proofs.Facts.{no_both, no_true, and_left, and_right}
use Rattle.promises.proofs.Slots.{passes_in, parts}
use Rattle.promises.proofs.Pool.{body_at, slot_le}
use Rattle.promises.proofs.Walks.{out_of}
use Rattle.promises.proofs.Issues.{issue_some}
use Rattle.promises.proofs.Outcome.{Outcome, quiet, dropped, took, receive_outcome}
use Rattle.promises.proofs.Fetch.{as_told}
use Rattle.promises.proofs.Told.{index_is}
use Rattle.promises.proofs.Stale.{good_is}
use Rattle.staying.specs.Staying.{names, spares, Fetches, with_cookie, Short}
use Rattle.staying.proofs.Fates.{done_in, Fate, stays, goes, found, named, filled, fates}
use Rattle.staying.proofs.Tail.{Whole, whole_stays, room_stays}
use Rattle.mctp.specs.declared.AppCookie.{AppCookie}
use Rattle.mctp.specs.declared.Error.{Error}

-- ---- a handle that is out

-- two handles that are out in the same slot are the same
one_handle : (h k : ReceiveHandle) (s : Reassembler) → k.index ≡ h.index → handle_is h.issue s ≡ true → handle_is k.issue s ≡ true → k ≡ h
one_handle h k s i a b =
    let e : HandleOut k.issue ≡ HandleOut h.issue = sym (out_of k.issue s.state b) ∙ out_of h.issue s.state a in
    let n : k.issue ≡ h.issue = cc in
    ap (λ (x : ℕ). record { index = x; issue = k.issue }) i ∙ ap (λ (x : ℕ). record { index = h.index; issue = x }) n

-- ---- a call that does not name it

module _ (B : ℕ) (h : ReceiveHandle) (c : Call) (st : Stack) (y : handle_is h.issue (slot_at h.index st) ≡ true) (ok : spares h c ≡ true) where
  out : handle_taken (slot_at h.index st) ≡ true
  out = ap out_state (out_of h.issue (slot_at h.index st).state y)

  slot_stays : (s' : Reassembler) → Fate B c st h.index s' → s' ≡ slot_at h.index st
  slot_stays s' (stays e) = e
  slot_stays s' (goes e o r) = absurd (no_both _ out o)
  slot_stays s' (found e d r) = absurd (no_both _ out (done_in (slot_at h.index st) d))
  slot_stays s' (named k i z m l x) =
      absurd (no_both (names h c) (subst (λ (x : ReceiveHandle). names x c ≡ true) (one_handle h k (slot_at h.index st) i y z) m) (not-true (names h c) ok))
  slot_stays s' (filled d o l x) = absurd (no_both _ out o)

out_whole : (m : ℕ) (s : Reassembler) → handle_is m s ≡ true → Whole s
out_whole m s y d o = no_both (handle_taken s) (ap out_state (out_of m s.state y)) o

-- the slot and its part of the pool
pub record Holds (B : ℕ) (j n : ℕ) (w w' : World) : Type 0 where
  pub slot : slot_at j w'.stack ≡ slot_at j w.stack
  pub body : body_at B j n w'.pool ≡ body_at B j n w.pool

step_holds : (B : ℕ) (h : ReceiveHandle) (c : Call) (w : World) (n : ℕ) → handle_is h.issue (slot_at h.index w.stack) ≡ true → n ≤ B → spares h c ≡ true
    → Holds B h.index n w (step B c w)
step_holds B h c w n y l ok = record {
  slot = slot_stays B h c w.stack y ok (slot_at h.index (step B c w).stack) ((fates B c w).each h.index);
  body = whole_stays B h.index n c w (out_whole h.issue (slot_at h.index w.stack) y) l;
}

steps_hold : (B : ℕ) (h : ReceiveHandle) (calls : List Call) (w : World) (n : ℕ) → handle_is h.issue (slot_at h.index w.stack) ≡ true → n ≤ B
    → all_of (spares h) calls ≡ true → Holds B h.index n w (steps B calls w)
unfolding steps
steps_hold B h [] w n y l ok = record { slot = refl; body = refl }
steps_hold B h (c ∷ cs) w n y l ok =
    let one = step_holds B h c w n y l (and_left (spares h c) (all_of (spares h) cs) ok) in
    let rest = steps_hold B h cs (step B c w) n (ap (handle_is h.issue) one.slot ∙ y) l (and_right (spares h c) (all_of (spares h) cs) ok) in
    record { slot = rest.slot ∙ one.slot; body = rest.body ∙ one.body }

-- ---- the message

-- the message of a slot with that body
abbrev pub of : Reassembler → List ℕ → Message
of s b = record { key = s.key; typ = s.typ; ic = s.ic; body = b; cookie = s.cookie }

-- a slot's message, by the slot and its part of the pool
pub message_by : (B j : ℕ) (w w' : World) → Holds B j (slot_at j w.stack).len w w' → message_at B j w' ≡ message_at B j w
message_by B j w w' k =
    ap (λ (s : Reassembler). read_from w'.pool (message_in B j s)) k.slot
    ∙ ap (λ (b : List ℕ). of (slot_at j w.stack) b) k.body

-- a message whose handle h is out: whatever calls come, none of them a finish, a return or a set cookie under h, the handle is good afterwards and the
-- message (key, type, IC, body in the watched pool, cookie) is the one that it was
pub message_stays : (B : ℕ) (h : ReceiveHandle) (calls : List Call) (w : World)
    → is_good h w.stack ≡ true → (slot_at h.index w.stack).len ≤ B → all_of (spares h) calls ≡ true
    → (is_good h (steps B calls w).stack ≡ true) × (message_at B h.index (steps B calls w) ≡ message_at B h.index w)
message_stays B h calls w g l ok =
    let y = sym (good_is h w.stack) ∙ g in
    let k = steps_hold B h calls w (slot_at h.index w.stack).len y l ok in
    (good_is h (steps B calls w).stack ∙ (ap (handle_is h.issue) k.slot ∙ y), message_by B h.index w (steps B calls w) k)

-- ---- a fetch

-- what a fetch gives is the message of a good handle, and the pool is long enough
pub record Fetched (B : ℕ) (h : ReceiveHandle) (st : Stack) (room : ℕ) (f : Facts) : Type 0 where
  pub good : is_good h st ≡ true
  pub long : B * length st.slots ≤ room
  pub facts : f ≡ message_in B h.index (slot_at h.index st)

abbrev is_given : Result Facts Error → Bool
is_given (Ok f) = true
is_given (Err err) = false

fetch_of_lem : (B : ℕ) (h : ReceiveHandle) (st : Stack) (room : ℕ) (f : Facts) → fetch_of B h st room ≡ Ok f → Fetched B h st room f
unfolding fetch_of
fetch_of_lem B h st room f =
    pick_cases P (λ _ e. absurd (no_true (ap is_given e)))
    (λ n. pick_cases P (λ g e. record { good = g; long = ltb-false room (B * length st.slots) n; facts = sym (inside e) }) (λ _ e. absurd (no_true (ap is_given e))))
  where
    P : Result Facts Error → Type 0
    P x = x ≡ Ok f → Fetched B h st room f

    inside : {a b : Facts} → ◌≡◌ {A = Result Facts Error} (Ok a) (Ok b) → a ≡ b
    inside e = cc

pub fetch_good : (B : ℕ) (h : ReceiveHandle) (st : Stack) (room : ℕ) → is_good h st ≡ true → B * length st.slots ≤ room
    → fetch_of B h st room ≡ Ok (message_in B h.index (slot_at h.index st))
unfolding fetch_of pick
fetch_good B h st room g r = rw (le-ltb room (B * length st.slots) r, g)

-- the message m is held under the handle h: a fetch gives it, and its body lies within its slot's part of the pool
pub record Held (B : ℕ) (h : ReceiveHandle) (m : Message) (w : World) : Type 0 where
  pub good : is_good h w.stack ≡ true
  pub short : (slot_at h.index w.stack).len ≤ B
  pub long : B * length w.stack.slots ≤ length w.pool
  pub message : message_at B h.index w ≡ m

pub held_fetches : (B : ℕ) (h : ReceiveHandle) (m : Message) (w : World) → Held B h m w → Fetches B h m w
held_fetches B h m w k = record {
  facts = message_in B h.index (slot_at h.index w.stack);
  fetched = fetch_good B h w.stack (length w.pool) k.good k.long;
  message = k.message;
}

pub fetches_held : (B : ℕ) (h : ReceiveHandle) (m : Message) (w : World) → Fetches B h m w → (slot_at h.index w.stack).len ≤ B → Held B h m w
fetches_held B h m w f l =
    let d = fetch_of_lem B h w.stack (length w.pool) f.facts f.fetched in
    record { good = d.good; short = l; long = d.long; message = ap (read_from w.pool) (sym d.facts) ∙ f.message }

pub held_stays : (B : ℕ) (h : ReceiveHandle) (m : Message) (calls : List Call) (w : World) → Held B h m w → all_of (spares h) calls ≡ true → Held B h m (steps B calls w)
held_stays B h m calls w k ok =
    let s = message_stays B h calls w k.good k.short ok in
    let slot = (steps_hold B h calls w (slot_at h.index w.stack).len (sym (good_is h w.stack) ∙ k.good) k.short ok).slot in
    record {
      good = s.0;
      short = subst (λ (x : Reassembler). x.len ≤ B) (sym slot) k.short;
      long = room_stays B calls w k.long;
      message = s.1 ∙ k.message;
    }

-- what a fetch gives under a handle it still gives, with the same bytes in the pool, whatever calls come but those three
pub fetch_stays : (B : ℕ) (h : ReceiveHandle) (m : Message) (calls : List Call) (w : World)
    → Fetches B h m w → (slot_at h.index w.stack).len ≤ B → all_of (spares h) calls ≡ true → Fetches B h m (steps B calls w)
fetch_stays B h m calls w f l ok = held_fetches B h m (steps B calls w) (held_stays B h m calls w (fetches_held B h m w f l) ok)

-- ---- no body grows past its slot's part

fate_short : (B : ℕ) (c : Call) (st : Stack) (k : ℕ) (s' : Reassembler) → Fate B c st k s' → (slot_at k st).len ≤ B → s'.len ≤ B
fate_short B c st k s' (stays e) l = rw e l
fate_short B c st k s' (goes e o r) l = rw e (omega arith)
fate_short B c st k s' (found e d r) l = rw e l
fate_short B c st k s' (named h i z m q x) l = omega arith
fate_short B c st k s' (filled d o q x) l = q

pub short_stays : (B : ℕ) (calls : List Call) (w : World) → Short B w.stack → Short B (steps B calls w).stack
unfolding steps
short_stays B [] w l = l
short_stays B (c ∷ cs) w l =
    short_stays B cs (step B c w) (λ k. fate_short B c w.stack k (slot_at k (step B c w).stack) ((fates B c w).each k) (l k))

-- a new stack has no body
pub fresh_slot : (z : Sizes) (own : Eid) (mtu clock k : ℕ) → slot_at k (fresh_stack z own mtu clock) ≡ blank_slot
fresh_slot z own mtu clock k = replicated z.slots k
  where
    replicated : (n k : ℕ) → get_or (replicate n blank_slot) k blank_slot ≡ blank_slot
    replicated zero k = refl
    replicated (suc n) zero = refl
    replicated (suc n) (suc k) = replicated n k

pub fresh_short : (B : ℕ) (z : Sizes) (own : Eid) (mtu clock : ℕ) → Short B (fresh_stack z own mtu clock)
fresh_short B z own mtu clock k = rw (fresh_slot z own mtu clock k) (omega arith)

-- from a new stack: after any calls a good handle's message stays, whatever calls come but those three
pub fresh_stays : (B : ℕ) (z : Sizes) (own : Eid) (mtu clock : ℕ) (pool : List ℕ) (before : List Call) (h : ReceiveHandle) (calls : List Call)
    → let w = steps B before (record { stack = fresh_stack z own mtu clock; pool = pool }) in
    is_good h w.stack ≡ true → all_of (spares h) calls ≡ true
    → (is_good h (steps B calls w).stack ≡ true) × (message_at B h.index (steps B calls w) ≡ message_at B h.index w)
fresh_stays B z own mtu clock pool before h calls g ok =
    let w₀ : World = record { stack = fresh_stack z own mtu clock; pool = pool } in
    message_stays B h calls (steps B before w₀) g (short_stays B before w₀ (fresh_short B z own mtu clock) h.index) ok

-- in every state that a call accepts (`Kept`, the one premise of every call) no body is longer than its slot's part, so a message whose handle is out stays
pub kept_short : (z : Sizes) (b : List ℕ) → Kept z b → Short z.body (stack_of z b)
kept_short z b ok k = (slot_ok z b ok k).len

pub kept_stays : (z : Sizes) (b : List ℕ) → Kept z b → (pool : List ℕ) (h : ReceiveHandle) (calls : List Call)
    → let w : World = record { stack = stack_of z b; pool = pool } in
    is_good h w.stack ≡ true → all_of (spares h) calls ≡ true
    → (is_good h (steps z.body calls w).stack ≡ true) × (message_at z.body h.index (steps z.body calls w) ≡ message_at z.body h.index w)
kept_stays z b ok pool h calls g all =
    message_stays z.body h calls (record { stack = stack_of z b; pool = pool }) g (kept_short z b ok h.index) all

-- ---- a message that is handed out

handed_short : (B : ℕ) (st : Stack) (p : List ℕ) (h : ReceiveHandle) (r : Receipt) → Outcome B st p r → r.said ≡ Ok (Some h) → (slot_at h.index r.stack).len ≤ B
handed_short B st p h r (quiet s b n) e = absurd (no_both (takes r.said) (rw e) n)
handed_short B st p h r (dropped i g read src s b n) e = absurd (no_both (takes r.said) (rw e) n)
handed_short B st p h r (took i g t) e =
    let s = appended g.eom t.now t.issue (length (body_in p)) t.base in
    let at = ap (λ (l : List Reassembler). get_or l i blank_slot) t.slots ∙ get_or-set_same st.slots i s blank_slot t.found in
    subst (λ (k : ℕ). (slot_at k r.stack).len ≤ B) (index_is g.eom i t.issue h (sym t.said ∙ e))
    (subst (λ (x : Reassembler). x.len ≤ B) (sym at) (rw (parts g.eom t.now t.issue (length (body_in p)) t.base).len t.fits))

told_short : (B : ℕ) (p : List ℕ) (w : World) (h : ReceiveHandle) → performed B (receive p) w ≡ gives (handle_words h)
    → (slot_at h.index (step B (receive p) w).stack).len ≤ B
unfolding step
told_short B p w h e = handed_short B w.stack p h (receipt B p w) (receive_outcome B w.stack p (length w.pool)) (as_told (receipt B p w).said h e)

pub handed_held : (B : ℕ) (m : Message) (p : List ℕ) (w : World) (d : Hands B m p w) → Held B d.handle m (step B (receive p) w)
handed_held B m p w d =
    fetches_held B d.handle m (step B (receive p) w) (record { facts = d.facts; fetched = d.fetched; message = d.message }) (told_short B p w d.handle d.told)

-- a message that a receive has handed out is fetched, whatever calls come, until a finish, a return or a set cookie names its handle. Nothing is asked of the world
pub handed_stays : (B : ℕ) (m : Message) (p : List ℕ) (calls : List Call) (w : World) (d : Hands B m p w)
    → all_of (spares d.handle) calls ≡ true → Fetches B d.handle m (steps B calls (step B (receive p) w))
handed_stays B m p calls w d ok =
    let w₁ = step B (receive p) w in held_fetches B d.handle m (steps B calls w₁) (held_stays B d.handle m calls w₁ (handed_held B m p w d) ok)

-- ---- a cookie that is set

-- what a call under a good handle makes of its slot
pub handled_slot : (f : Reassembler → Reassembler) (h : ReceiveHandle) (st : Stack) → is_good h st ≡ true → slot_at h.index (handled f h st).stack ≡ f (slot_at h.index st)
unfolding handled
handled_slot f h st g =
    ap (λ (o : handles.Handled). slot_at h.index o.stack) (pick_true (is_good h st) _ _ g)
    ∙ get_or-set_same st.slots h.index (f (slot_at h.index st)) blank_slot
    (passes_in (handle_is h.issue) blank_slot refl st.slots h.index (sym (good_is h st) ∙ g))

-- setting a cookie under a good handle changes the message's cookie alone, and the handle stays good
pub cookie_set : (B : ℕ) (h : ReceiveHandle) (cookie : Option AppCookie) (w : World) → is_good h w.stack ≡ true
    → (is_good h (step B (set_cookie h cookie) w).stack ≡ true)
    × (message_at B h.index (step B (set_cookie h cookie) w) ≡ with_cookie cookie (message_at B h.index w))
unfolding step
cookie_set B h cookie w g =
    let e = handled_slot (with_slot_cookie cookie) h w.stack g in (
      good_is h (set_cookie_of h cookie w.stack).stack ∙ (ap (handle_is h.issue) e ∙ (sym (good_is h w.stack) ∙ g)),
      ap (λ (x : Reassembler). read_from w.pool (message_in B h.index x)) e,
    )

-- and so it is afterwards, whatever calls come but a finish, a return or another set cookie under that handle
pub cookie_stays : (B : ℕ) (h : ReceiveHandle) (cookie : Option AppCookie) (calls : List Call) (w : World)
    → is_good h w.stack ≡ true → (slot_at h.index w.stack).len ≤ B → all_of (spares h) calls ≡ true
    → let w' = steps B calls (step B (set_cookie h cookie) w) in
    (is_good h w'.stack ≡ true) × (message_at B h.index w' ≡ with_cookie cookie (message_at B h.index w))
cookie_stays B h cookie calls w g l ok =
    let c = set_cookie h cookie in
    let one = cookie_set B h cookie w g in
    let short = fate_short B c w.stack h.index (slot_at h.index (step B c w).stack) ((fates B c w).each h.index) l in
    let rest = message_stays B h calls (step B c w) one.0 short ok in
    (rest.0, rest.1 ∙ one.1)

-- the body that a fetch tells of lies in the pool that it was lent
pub fetch_inside : (B : ℕ) (h : ReceiveHandle) (st : Stack) (room : ℕ) (f : Facts) → fetch_of B h st room ≡ Ok f → (slot_at h.index st).len ≤ B
    → f.at + f.len ≤ room
fetch_inside B h st room f e l =
    let d = fetch_of_lem B h st room f e in
    let i = passes_in (handle_is h.issue) blank_slot refl st.slots h.index (sym (good_is h st) ∙ d.good) in
    subst (λ (x : Facts). x.at + x.len ≤ room) (sym d.facts) (omega (arith, slot_le B h.index (length st.slots) i, d.long))

-- from a new stack: number 0 is never good
pub fresh_some : (B i : ℕ) (z : Sizes) (own : Eid) (mtu clock : ℕ) (pool : List ℕ) (calls : List Call)
    → is_good (record { index = i; issue = 0 }) (steps B calls (record { stack = fresh_stack z own mtu clock; pool = pool })).stack ≡ false
fresh_some B i z own mtu clock pool calls =
    issue_some B i calls (record { stack = fresh_stack z own mtu clock; pool = pool })
    (good_is (record { index = i; issue = 0 }) (fresh_stack z own mtu clock) ∙ ap (handle_is 0) (fresh_slot z own mtu clock i))
