-- The premises of `joined_by_calls` can be met, by computation: two fresh stacks, such as `begin` leaves, and a message of two packets.
-- Nothing is left to assume but that the calls are made.
use Prim.Native.Nat.{ℕ, ◌≤◌}
use mathlib.Core.Path.{◌≡◌, refl, sym, ap, subst, ◌∙◌}
use mathlib.Core.Bool.{true, false}
use mathlib.Core.List.{List, [], ◌∷◌}
use lib.Dec.{lit≤}
use lib.ListN.{length}
use Rattle.std.specs.Prelude.{None, Ok, Result}
use Rattle.octets.specs.Pick.{pick}
use Rattle.octets.specs.Find.{find}
use Rattle.octets.specs.Bytes.{over, part}
use Rattle.mctp.specs.declared.Key.{Key}
use Rattle.mctp.specs.Terms.{key_under, tag_under, same_key, same_bool, same_eid, any_eid}
use Rattle.mctp.specs.Answer.{answer_no, row_after}
use Rattle.stamp.specs.Stamp.{next}
use Rattle.flows.specs.Tags.{bits_of, free_tag_of}
use Rattle.flows.specs.Table.{is_flow, new_flow, insert_flow, with_tag, fresh_flow, set_flow}
use Rattle.reassemble.specs.Enter.{is_local}
use Rattle.fragment.specs.Step.{new_of, step_of}
use Rattle.fragment.specs.Answers.{started_as}
use Rattle.state.specs.Stack.{Stack, stack_of, Becomes}
use Rattle.sending.specs.Sends.{owned_tag, tag_for, send_as, start_send_of}
use Rattle.estack.specs.Basics.{fresh_stack}
use Rattle.promises.specs.Calls.{start_send, permitted}
use Rattle.promises.specs.Delivery.{Message, ready, cookie_for, all_of}
use Rattle.rows.specs.Words.{cookie_from, send_tag_from, send_mtu_from, fragmenter_of, send_of}
use Rattle.board.specs.Board.{board}
use Rattle.performing.specs.Perform.{Performs, tells}
use Rattle.performing.specs.Trace.{Deed, Done, Fed, packets_of, gaps_of, Feeds, Answers}
use Rattle.performing.specs.Cuts.{Cut, CutRun, cut_packets, AllSent}
use Rattle.performing.proofs.CutRuns.{sent_key}
use Rattle.performing.proofs.Joined.{joined_by_calls}
use Rattle.mctp.specs.declared.Error.{Error}
use Rattle.fragment.specs.declared.Fragmenter.{Fragmenter}

-- EID 9, which sends with an MTU of 6, and EID 8
abbrev nine : Stack
nine = fresh_stack board (record { 0 = 9 }) 6 0

abbrev eight : Stack
eight = fresh_stack board (record { 0 = 8 }) 64 0

-- a send to EID 8 of type 1, under a fresh tag that does not expire, with no integrity check, the own MTU and no cookie
abbrev query : List ℕ
query = 8 ∷ 1 ∷ 0 ∷ 0 ∷ 0 ∷ 0 ∷ 0 ∷ 0 ∷ 0 ∷ 0 ∷ []

-- the row that its start leaves: tag 1, sequence 1
abbrev begun : List ℕ
begun = 9 ∷ 8 ∷ 1 ∷ 1 ∷ 1 ∷ 0 ∷ 1 ∷ 6 ∷ 1 ∷ 0 ∷ 0 ∷ 0 ∷ 0 ∷ []

abbrev body : List ℕ
body = 0xAA ∷ 0xBB ∷ 0xCC ∷ []

abbrev asks : Key
asks = record { source = record { 0 = 9 }; dest = record { 0 = 8 }; owner = true; tag = record { 0 = 1 } }

abbrev packets : List (List ℕ)
packets = (0x01 ∷ 0x08 ∷ 0x09 ∷ 0x99 ∷ 0x01 ∷ 0xAA ∷ []) ∷ (0x01 ∷ 0x08 ∷ 0x09 ∷ 0x69 ∷ 0xBB ∷ 0xCC ∷ []) ∷ []

-- a buffer of three bytes is too small; then two packets, and all is sent
abbrev cutting : List Cut
cutting =
    record { lent = 7 ∷ 7 ∷ 7 ∷ []; old = 5; left = 7 ∷ 7 ∷ 7 ∷ []; len = 5; row = begun; said = 2 }
    ∷ record {
      lent = 7 ∷ 7 ∷ 7 ∷ 7 ∷ 7 ∷ 7 ∷ 7 ∷ [];
      old = 5;
      left = 0x01 ∷ 0x08 ∷ 0x09 ∷ 0x99 ∷ 0x01 ∷ 0xAA ∷ 7 ∷ [];
      len = 6;
      row = 9 ∷ 8 ∷ 1 ∷ 1 ∷ 1 ∷ 0 ∷ 2 ∷ 6 ∷ 0 ∷ 0 ∷ 0 ∷ 0 ∷ 1 ∷ [];
      said = 0;
    }
    ∷ record {
      lent = 0 ∷ 0 ∷ 0 ∷ 0 ∷ 0 ∷ 0 ∷ [];
      old = 6;
      left = 0x01 ∷ 0x08 ∷ 0x09 ∷ 0x69 ∷ 0xBB ∷ 0xCC ∷ [];
      len = 6;
      row = 9 ∷ 8 ∷ 1 ∷ 1 ∷ 1 ∷ 0 ∷ 3 ∷ 6 ∷ 0 ∷ 1 ∷ 0 ∷ 0 ∷ 3 ∷ [];
      said = 0;
    }
    ∷ record { lent = []; old = 6; left = []; len = 0; row = 9 ∷ 8 ∷ 1 ∷ 1 ∷ 1 ∷ 0 ∷ 3 ∷ 6 ∷ 0 ∷ 1 ∷ 0 ∷ 0 ∷ 3 ∷ []; said = 0 }
    ∷ []

cutting_runs : CutRun cutting begun body
unfolding CutRun step_of pick part over tag_under
cutting_runs = (
  record { said = refl; len = refl; row = refl; left = refl },
  (
    record { said = refl; len = refl; row = refl; left = refl },
    (record { said = refl; len = refl; row = refl; left = refl }, (record { said = refl; len = refl; row = refl; left = refl }, tt)),
  ),
)

cutting_ends : AllSent cutting
unfolding AllSent
cutting_ends = (refl, refl)

-- what then lies in the buffers
pub cutting_packets : cut_packets cutting ≡ packets
unfolding cut_packets pick
cutting_packets = refl

-- ---- the start

started : (start_send_of (send_of query) nine).said ≡ Ok (fragmenter_of begun)
unfolding start_send_of send_as tag_for owned_tag set_flow fresh_flow with_tag insert_flow new_flow free_tag_of bits_of is_flow find next new_of pick send_tag_from tag_under
started = refl

-- a start on a fresh stack is answered 0, and leaves that row
begins : (b : List ℕ) (d : Deed) → stack_of board b ≡ nine → d.calls ≡ start_send (send_of query) ∷ [] → Done d b → (d.said ≡ 0) × (d.left.fragmenter ≡ begun)
unfolding tells pick tag_under
begins b d e o done =
    let g : Performs (start_send (send_of query) ∷ []) b d.after d.lent d.left d.said = rw o at done in
    let s : (start_send_of (send_of query) (stack_of board b)).said ≡ Ok (fragmenter_of begun) = ap (λ (st : Stack). (start_send_of (send_of query) st).said) e ∙ started in (
      g.said ∙ ap (λ (r : Result Fragmenter Error). answer_no (started_as r)) s,
      g.fragmenter ∙ ap (λ (r : Result Fragmenter Error). row_after 13 (started_as r) d.lent.fragmenter) s,
    )

-- ---- end to end

module _ (x y b₁ b₂ p : List ℕ) (from : Becomes board x b₁ nine) (to : Becomes board y b₂ eight) (room : 4128 ≤ length p) where
  -- EID 9 starts that send and cuts it so, and EID 8 receives the packets, with permitted calls between: the body is handed out
  pub joined_met : (d : Deed) → d.calls ≡ start_send (send_of query) ∷ [] → Done d b₁
      → (fs : List Fed) → packets_of fs ≡ packets → Feeds fs b₂ p → all_of (all_of (permitted asks 0)) (gaps_of fs) ≡ true
      → Answers (record { key = asks; typ = record { 0 = 1 }; ic = record { 0 = false }; body = body; cookie = None }) fs
  unfolding is_local find pick same_key same_bool tag_under
  joined_met d o done fs same feeds between =
      let r = begins b₁ d from.view o done in
      let key : sent_key query b₁ d ≡ asks =
      ap (λ (st : Stack). key_under st.head.own_eid (send_of query).dest (fragmenter_of d.left.fragmenter).tag) from.view
      ∙ ap (λ (w : List ℕ). key_under (record { 0 = 9 }) (send_of query).dest (fragmenter_of w).tag) r.1 in
      let run = subst (λ (w : List ℕ). CutRun cutting w body) (sym r.1) cutting_runs in
      let cookie : cookie_for (sent_key query b₁ d) (stack_of board b₂) ≡ None =
      ap (λ (k : Key). cookie_for k (stack_of board b₂)) key ∙ ap (cookie_for asks) to.view in
      subst (λ (m : Message). Answers m fs) (λ i. record { key = key i; typ = record { 0 = 1 }; ic = record { 0 = false }; body = body; cookie = cookie i })
      (joined_by_calls query b₁ d from.kept o done r.0 body cutting run cutting_ends fs (same ∙ sym cutting_packets) b₂ p to.kept feeds (lit≤ tt)
      (ap (λ (st : Stack). same_eid st.head.own_eid any_eid) from.view)
      (ap (λ (st : Stack). is_local st.head.own_eid (record { 0 = 8 })) to.view)
      (ap (λ (k : Key). ready k (stack_of board b₂)) key ∙ ap (ready asks) to.view)
      room
      (ap (λ (k : Key). all_of (all_of (permitted k (stack_of board b₂).head.now.clock)) (gaps_of fs)) key
      ∙ ap (λ (st : Stack). all_of (all_of (permitted asks st.head.now.clock)) (gaps_of fs)) to.view ∙ between))
