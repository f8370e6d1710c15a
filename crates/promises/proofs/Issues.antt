-- No handle has number 0: none that goes out has it, and none with it is ever good. So where an answer is 0, issue 0 in its row says "more is to come" or
-- "there is none", and nothing else does.
use Prim.Native.Nat.{ℕ}
use native.Mathlib.Omega.{arith}
use mathlib.Core.Path.{◌≡◌, sym, ap, ◌∙◌}
use mathlib.Core.Bool.{false}
use mathlib.Core.List.{List, [], ◌∷◌}
use borrow.Author.Tests.{ltb-false, ne_eqb}
use Rattle.std.specs.Prelude.{Ok, Some}
use Rattle.octets.specs.Pick.{pick_cases}
use Rattle.mctp.specs.declared.Eid.{Eid}
use Rattle.mctp.specs.declared.Tag.{Tag}
use Rattle.mctp.specs.Terms.{tag_of, is_owner}
use Rattle.slot.specs.declared.State.{State}
use Rattle.slot.specs.declared.Reassembler.{Reassembler}
use Rattle.slot.specs.Slot.{issue_is, kept_under, listed}
use Rattle.slot.specs.Search.{earliest}
use Rattle.state.specs.Stack.{Stack, slot_at}
use Rattle.slot.specs.declared.ReceiveHandle.{ReceiveHandle}
use Rattle.slot.specs.Handle.{next_issue}
use Rattle.receiving.specs.Receive.{receive_of}
use Rattle.handles.specs.Handles.{Lookup, is_good, take_of, by_source_of, by_cookie_of}
use Rattle.promises.specs.Calls.{Call, World, step, steps}
use Rattle.promises.proofs.Stale.{Renumbered, same, idle, fresh, numbers, receive_counted, good_is, idle_issue}

next_some : (n : ℕ) → next_issue n ≡ 0 → ⊥
unfolding next_issue
next_some n = pick_cases (λ (x : ℕ). x ≡ 0 → ⊥) (λ _ e. omega arith) (λ t e. omega (arith, ltb-false n 18446744073709551615 t))

-- ---- what goes out

-- a handle that goes out with a packet, whatever pool is lent
pub told_some : (B : ℕ) (st : Stack) (room : ℕ) (p : List ℕ) (h : ReceiveHandle) → (receive_of B st room p).said ≡ Ok (Some h) → h.issue ≡ 0 → ⊥
told_some B st room p h e z = next_some st.head.issue (sym ((receive_counted B st p room).next h e).0 ∙ z)

abbrev Numbered : Lookup → Type 0
Numbered r = (h : ReceiveHandle) → r.said ≡ Some h → h.issue ≡ 0 → ⊥

take_some : (i : ℕ) (st : Stack) → Numbered (take_of i st)
unfolding take_of
take_some i st =
    pick_cases Numbered
    (λ _ h e z. let y : record { index = i; issue = next_issue st.head.issue } ≡ h = cc in next_some st.head.issue (ap (λ (x : ReceiveHandle). x.issue) y ∙ z))
    (λ _ h e z. let y : ◌≡◌ {A = ℕ} 0 1 = cc in omega arith)

-- a handle that goes out with either lookup
pub source_some : (source : Eid) (tag : Tag) (st : Stack) → Numbered (by_source_of source tag st)
unfolding by_source_of
source_some source tag st =
    pick_cases Numbered (λ _ h e z. let y : ◌≡◌ {A = ℕ} 0 1 = cc in omega arith) (λ _. take_some (earliest (kept_under source (is_owner tag) (tag_of tag)) st.slots) st)

pub cookie_some : (cookies : List ℕ) (st : Stack) → Numbered (by_cookie_of cookies st)
cookie_some cookies st = take_some (earliest (λ (s : Reassembler). listed cookies s.cookie) st.slots) st

-- ---- what is good

state_some : (n : ℕ) (f f' : State) → Renumbered n f f' → issue_is 0 f ≡ false → issue_is 0 f' ≡ false
state_some n f f' (same e) x = ap (issue_is 0) e ∙ x
state_some n f f' (idle e) x = idle_issue 0 f' e
state_some n f f' (fresh e) x = ap (issue_is 0) e ∙ ne_eqb (next_issue n) 0 (next_some n)

-- number 0 is good in no slot, whatever calls come, if it is good in none to begin with; in a new stack, which holds no message, it is good in none
pub issue_some : (B i : ℕ) (calls : List Call) (w : World)
    → is_good (record { index = i; issue = 0 }) w.stack ≡ false → is_good (record { index = i; issue = 0 }) (steps B calls w).stack ≡ false
unfolding steps
issue_some B i [] w e = e
issue_some B i (c ∷ cs) w e =
    let h : ReceiveHandle = record { index = i; issue = 0 } in
    issue_some B i cs (step B c w)
    (good_is h (step B c w).stack
    ∙ state_some w.stack.head.issue (slot_at i w.stack).state (slot_at i (step B c w).stack).state ((numbers B c w).each i) (sym (good_is h w.stack) ∙ e))
