-- A message that is cut by calls: a send is started, and the row that it leaves is stepped until all is sent. The packets in the buffers carry the payload.
-- Leans on `cuts` of `fragment` for the steps, on the laws of `rows` for the row that is read back.
use Prim.Native.Nat.{ℕ, ◌≤◌, ◌<◌}
use native.Mathlib.Omega.{arith}
use mathlib.Core.Path.{◌≡◌, refl, sym, ap, subst, ◌∙◌}
use mathlib.Core.Bool.{Bool, true, false}
use mathlib.Core.List.{List, [], ◌∷◌, ◌++◌}
use lib.Dec.{eqb}
use lib.ListN.{length, take}
use borrow.Author.Tests.{ltb-false, ne_eqb}
use Rattle.std.specs.Prelude.{Err, None, Ok, Option, Result, Some}
use Rattle.octets.specs.Pick.{pick, pick_cases}
use Rattle.octets.specs.Bytes.{part, over}
use Rattle.octets.proofs.Part.{part_same}
use Rattle.mctp.specs.declared.Eid.{Eid}
use Rattle.mctp.specs.declared.Error.{Error}
use Rattle.mctp.specs.declared.Error.TheVariants.{InvalidInput, NoSpace}
use Rattle.mctp.specs.declared.Key.{Key}
use Rattle.mctp.specs.declared.Tag.{Tag}
use Rattle.mctp.specs.Terms.{key_under}
use Rattle.mctp.specs.Answer.{answer_no, row_after}
use Rattle.mctp.specs.Header.{lead}
use Rattle.mctp.proofs.Answers.{error_some}
use Rattle.fragment.specs.declared.Fragmenter.{Fragmenter}
use Rattle.fragment.specs.Step.{Step, Sound, step_of, new_of, fresh, refused, emitted, fitting, ends, packet_for, advanced_by, next_of}
use Rattle.fragment.specs.Answers.{words_of, started_as, output_as}
use Rattle.fragment.specs.Cutting.{Carries}
use Rattle.fragment.specs.Run.{wrote, written, after}
use Rattle.fragment.proofs.Steps.{finished}
use Rattle.fragment.proofs.Cuts.{new_is, step_sound, lead_most, packet_size, cuts}
use Rattle.state.specs.Stack.{Stack, stack_of, Kept}
use Rattle.state.proofs.StackLaws.{head_ok}
use Rattle.sending.specs.declared.Send.{Send}
use Rattle.sending.specs.Sends.{Sent, owned_tag, tag_for, send_as, send_tagged, start_send_of}
use Rattle.promises.specs.Calls.{start_send}
use Rattle.rows.specs.Words.{advanced_row, fragmenter_of, send_of}
use Rattle.rows.proofs.Laws.{words_back, row_moves}
use Rattle.rows.specs.Answers.{length_after, stepped_after}
use Rattle.board.specs.Board.{board}
use Rattle.performing.specs.Perform.{Performs, tells}
use Rattle.performing.specs.Trace.{Deed, Done}
use Rattle.performing.specs.Cuts.{Cut, Cuts, CutRun, packet_in, cut_packets, AllSent, step_in}
use Rattle.mctp.specs.declared.Tag.TheVariants.{Owned}
use Rattle.mctp.specs.declared.Tag.TheVariants.{Unowned}

-- ---- a send that starts

-- f is what `new` gives for the send q from that EID, under some tag, MTU and sequence
record New (q : Send) (own : Eid) (f : Fragmenter) : Type 0 where
  tag : Tag
  mtu : ℕ
  seq : ℕ
  new : new_of q.typ own q.dest tag mtu q.cookie q.ic seq ≡ Ok f

module _ (q : Send) (f : Fragmenter) where
  unstarted : {own : Eid} {err : Error} → Err err ≡ Ok f → New q own f
  unstarted e = let z : ◌≡◌ {A = ℕ} 0 1 = cc in absurd (omega arith)

  as_new : (c : Result Tag Error) (st : Stack) → (send_as q c st).said ≡ Ok f → New q st.head.own_eid f
  unfolding send_as
  as_new (Ok tag) st e = record { tag = tag; mtu = _; seq = _; new = e }
  as_new (Err err) st e = unstarted e

  -- a flow changes no own EID
  tag_own : (tag : Option Tag) (st : Stack) → (tag_for q.dest tag q.expires q.cookie st).stack.head.own_eid ≡ st.head.own_eid
  unfolding tag_for owned_tag
  tag_own None st = refl
  tag_own (Some (Owned tag)) st = refl
  tag_own (Some (Unowned tag)) st = refl

  tagged_new : (st : Stack) → (send_tagged q (tag_for q.dest q.tag q.expires q.cookie st)).said ≡ Ok f → New q st.head.own_eid f
  tagged_new st e =
      let t = tag_for q.dest q.tag q.expires q.cookie st in
      subst (λ (own : Eid). New q own f) (tag_own q.tag st) (as_new t.said t.stack e)

  started_new : (st : Stack) → (start_send_of q st).said ≡ Ok f → New q st.head.own_eid f
  unfolding start_send_of
  started_new st = pick_cases P (λ _. unstarted) (λ _. pick_cases P (λ _. unstarted) (λ _. tagged_new st))
    where
      P : Sent → Type 0
      P s = s.said ≡ Ok f → New q st.head.own_eid f

-- ---- the row

-- a row of thirteen words
data Row : List ℕ → Type 0 where
  row : (a b c d e f g h i j k l m : ℕ) → Row (a ∷ b ∷ c ∷ d ∷ e ∷ f ∷ g ∷ h ∷ i ∷ j ∷ k ∷ l ∷ m ∷ [])

row_next : {w : List ℕ} (x : Fragmenter) → Row w → Row (advanced_row x w)
row_next x (row a b c d e f g h i j k l m) = row _ _ _ _ _ _ _ _ _ _ _ _ _

row_read : {w : List ℕ} (n : ℕ) (eom : Bool) → Row w → fragmenter_of (advanced_row (advanced_by (fragmenter_of w) n eom) w) ≡ advanced_by (fragmenter_of w) n eom
row_read n eom (row a b c d e f g h i j k l m) = row_moves a b c d e f g h i j k l m n eom

-- the row of a new fragmenter is read back as that one
new_read : (q : Send) (own : Eid) (f : Fragmenter) → own.0 < 256 → q.dest.0 < 256 → New q own f → (fragmenter_of (words_of f) ≡ f) × Sound f
new_read q own f o d n =
    let i = new_is q.typ own q.dest n.tag n.mtu q.cookie q.ic n.seq n.new in
    let s = i.sound in
    subst (λ (g : Fragmenter). (fragmenter_of (words_of g) ≡ g) × Sound g) i.same (
      words_back (fresh q.typ own q.dest n.tag n.mtu q.cookie q.ic n.seq) o d (omega arith) (omega arith) (omega arith),
      s,
    )

-- ---- one step

-- the step s of the fragmenter in the row, as the caller sees it
record Shows (s : Step) (c : Cut) : Type 0 where
  packet : packet_in c ≡ wrote s.result.output s.bytes
  next : fragmenter_of c.row ≡ s.result.next
  row : Row c.row
  done : c.said ≡ 0 → c.len ≡ 0 → s.result.next.done ≡ true

module _ (w payload : List ℕ) (c : Cut) (r : Row w) where
  -- what `Cuts` says, of any step
  abbrev Seen : Step → Type 0
  Seen s =
      c.said ≡ answer_no (output_as s.result.output)
      → c.len ≡ length_after (output_as s.result.output) c.old
      → c.row ≡ stepped_after s.result.next s.result.output w
      → c.left ≡ over 0 s.bytes c.lent
      → Shows s c

  seen_done : (fragmenter_of w).done ≡ true → Seen (finished (fragmenter_of w))
  unfolding pick
  seen_done d said len same left = record {
    packet = rw (said, len);
    next = ap fragmenter_of same;
    row = subst Row (sym same) r;
    done = λ _ _. d;
  }

  seen_refused : (err : Error) → Seen (refused (fragmenter_of w) err)
  unfolding pick
  seen_refused err said len same left =
      let z : eqb c.said 0 ≡ false = ne_eqb c.said 0 (λ e. error_some err (sym said ∙ e)) in
      record {
        packet = rw z;
        next = ap fragmenter_of same;
        row = subst Row (sym same) r;
        done = λ e _. absurd (error_some err (sym said ∙ e));
      }

  seen_packet : Sound (fragmenter_of w) → (fragmenter_of w).done ≡ false → lead (fragmenter_of w).first ≤ length c.lent
      → (fragmenter_of w).payload_used ≤ length payload → Seen (emitted (fragmenter_of w) payload (length c.lent))
  unfolding pick part
  seen_packet sound going room used said len same left =
      let f = fragmenter_of w in
      let n = length c.lent in
      let l = packet_size f payload n (record { sound = sound; going = going; used = used }) room in
      let m = lead_most f.first in
      let some : c.len ≡ 0 → ⊥ = λ e. omega arith in
      let z : eqb c.len 0 ≡ false = ne_eqb c.len 0 some in
      let t : take c.len c.left ≡ packet_for f payload n =
      ap (take c.len) left ∙ part_same 0 c.len (packet_for f payload n) c.lent (l ∙ sym len) (omega arith) in
      record {
        packet = rw (said, z) (ap (λ (p : List ℕ). p ∷ []) t);
        next = ap fragmenter_of same ∙ row_read (fitting f (length payload) n) (ends f (length payload) n) r;
        row = subst Row (sym same) (row_next (next_of f (length payload) n) r);
        done = λ _ e. absurd (some e);
      }

  seen : Sound (fragmenter_of w) → Seen (step_in w payload c)
  unfolding step_of
  seen sound =
      pick_cases Seen seen_done (λ going. pick_cases Seen (λ _. seen_refused NoSpace) (λ room. pick_cases Seen (λ _. seen_refused InvalidInput) (λ used.
      seen_packet sound going (ltb-false (length c.lent) (lead (fragmenter_of w).first) room) (ltb-false (length payload) (fragmenter_of w).payload_used used))))

  shows : Sound (fragmenter_of w) → Cuts w payload c → Shows (step_in w payload c) c
  shows sound k = seen sound k.said k.len k.row k.left

-- ---- a run

-- the sizes of the buffers
unfoldable sizes : List Cut → List ℕ
sizes [] = []
sizes (c ∷ cs) = length c.lent ∷ sizes cs

-- the steps cs were made on the fragmenter f
record Ran (cs : List Cut) (f : Fragmenter) (payload : List ℕ) : Type 0 where
  packets : cut_packets cs ≡ written f payload (sizes cs)
  done : AllSent cs → (after f payload (sizes cs)).done ≡ true

-- all is sent by the first step, which is then the last, or by one after it
all_by : (c : Cut) (cs : List Cut) (g : Fragmenter) (payload : List ℕ) → (c.said ≡ 0 → c.len ≡ 0 → g.done ≡ true) → Ran cs g payload → AllSent (c ∷ cs) → (after g payload (sizes cs)).done ≡ true
unfolding AllSent after sizes
all_by c [] g payload h r a = h a.0 a.1
all_by c (d ∷ cs) g payload h r a = r.done a

ran_on : (c : Cut) (cs : List Cut) (w payload : List ℕ) → Shows (step_in w payload c) c → Ran cs (step_in w payload c).result.next payload → Ran (c ∷ cs) (fragmenter_of w) payload
unfolding cut_packets written after sizes
ran_on c cs w payload h r = record {
  packets =
      ap (λ (ps : List (List ℕ)). ps ++ cut_packets cs) h.packet
      ∙ ap (λ (ps : List (List ℕ)). wrote (step_in w payload c).result.output (step_in w payload c).bytes ++ ps) r.packets;
  done = all_by c cs (step_in w payload c).result.next payload h.done r;
}

ran : (cs : List Cut) (w payload : List ℕ) → Row w → Sound (fragmenter_of w) → CutRun cs w payload → Ran cs (fragmenter_of w) payload
unfolding CutRun cut_packets AllSent written sizes
ran [] w payload r s z = record { packets = refl; done = λ a. absurd a }
ran (c ∷ cs) w payload r s z =
    let h = shows w payload c r s z.0 in
    let t = subst Sound (sym h.next) (step_sound (fragmenter_of w) payload (length c.lent) s) in
    ran_on c cs w payload h (subst (λ (g : Fragmenter). Ran cs g payload) h.next (ran cs c.row payload h.row t z.1))

-- ---- from the start of the send

module _ (q : Send) (st : Stack) (payload : List ℕ) (cs : List Cut) where
  -- the packets carry the payload under the tag and within the MTU of g
  abbrev CarryAs : Fragmenter → Type 0
  CarryAs g = Carries (key_under st.head.own_eid q.dest g.tag) q.typ q.ic g.mtu payload (cut_packets cs)

  -- f came from the start, and its row was stepped
  new_carries : (f : Fragmenter) → st.head.own_eid.0 < 256 → q.dest.0 < 256 → New q st.head.own_eid f
      → CutRun cs (words_of f) payload → AllSent cs → CarryAs (fragmenter_of (words_of f))
  new_carries f own dest n run all =
      let e = new_read q st.head.own_eid f own dest n in
      let i = new_is q.typ st.head.own_eid q.dest n.tag n.mtu q.cookie q.ic n.seq n.new in
      let r = subst (λ (g : Fragmenter). Ran cs g payload) e.0 (ran cs (words_of f) payload (row _ _ _ _ _ _ _ _ _ _ _ _ _) (subst Sound (sym e.0) e.1) run) in
      let c : CarryAs (fresh q.typ st.head.own_eid q.dest n.tag n.mtu q.cookie q.ic n.seq) =
      rw r.packets (cuts q.typ st.head.own_eid q.dest n.tag n.mtu q.cookie q.ic n.seq payload (sizes cs) n.new (r.done all)) in
      subst CarryAs (i.same ∙ sym e.0) c

  -- what the start said decides
  start_carries : (s : Result Fragmenter Error) (old : List ℕ) → st.head.own_eid.0 < 256 → q.dest.0 < 256 → (start_send_of q st).said ≡ s → answer_no (started_as s) ≡ 0
      → CutRun cs (row_after 13 (started_as s) old) payload → AllSent cs → CarryAs (fragmenter_of (row_after 13 (started_as s) old))
  start_carries (Ok f) old own dest e z run all = new_carries f own dest (started_new q f st e) run all
  start_carries (Err err) old own dest e z run all = absurd (error_some err z)

-- the key of the message that the send w started: the own EID, the destination of the send, and the tag in the row that the start left
abbrev pub sent_key : List ℕ → List ℕ → Deed → Key
sent_key w b d = key_under (stack_of board b).head.own_eid (send_of w).dest (fragmenter_of d.left.fragmenter).tag

module _ (w b : List ℕ) (d : Deed) (k : Kept board b) (o : d.calls ≡ start_send (send_of w) ∷ []) (done : Done d b) (z : d.said ≡ 0) where
  -- A send was started and answered 0, and the row that it left was stepped until a step was answered 0 and length 0. Then the packets in the buffers carry the
  -- payload, under the tag and within the MTU that stand in that row
  pub cuts_by_calls : (payload : List ℕ) (cs : List Cut) → CutRun cs d.left.fragmenter payload → AllSent cs
      → Carries (sent_key w b d) (send_of w).typ (send_of w).ic (fragmenter_of d.left.fragmenter).mtu payload (cut_packets cs)
  unfolding tells
  cuts_by_calls payload cs run all =
      let g : Performs (start_send (send_of w) ∷ []) b d.after d.lent d.left d.said = rw o at done in
      let st = stack_of board b in
      subst (λ (r : List ℕ). CutRun cs r payload → CarryAs (send_of w) st payload cs (fragmenter_of r)) (sym g.fragmenter)
      (λ run. start_carries (send_of w) st payload cs (start_send_of (send_of w) st).said d.lent.fragmenter (head_ok board b k).own (omega arith) refl (sym g.said ∙ z) run all)
      run
