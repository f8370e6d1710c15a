-- Wrong stacks (docs/PROMISES.md, "Shut out"): for each there is a statement that no stack of these definitions is one. The one on the remaining time stands in `updating`.
use Prim.Native.Nat.{ℕ, ◌≤◌}
use mathlib.Core.Path.{◌≡◌, refl, sym, ap, ◌∙◌}
use mathlib.Core.Bool.{Bool, true, false}
use mathlib.Core.List.{List, [], ◌∷◌}
use lib.Dec.{ltb}
use lib.ListN.{length, get_or}
use lib.Seq.{get_or-set_same}
use borrow.Author.Tests.{le-ltb}
use Rattle.std.specs.Prelude.{Ok, Some}
use Rattle.octets.specs.Pick.{pick, pick_false}
use Rattle.mctp.specs.declared.Eid.{Eid}
use Rattle.mctp.specs.declared.Key.{Key}
use Rattle.mctp.specs.declared.MsgType.{MsgType}
use Rattle.mctp.specs.declared.MsgIC.{MsgIC}
use Rattle.mctp.specs.Answer.{answer_no}
use Rattle.mctp.specs.declared.Header.{Header}
use Rattle.mctp.specs.Header.{header_of, lead}
use Rattle.stamp.specs.declared.EventStamp.{EventStamp}
use Rattle.flows.specs.Tags.{count_free}
use Rattle.flows.proofs.TagLaws.{free_counts}
use Rattle.flows.specs.Table.{standing}
use Rattle.slot.specs.declared.Reassembler.{Reassembler}
use Rattle.slot.specs.Slot.{blank_slot, out_state}
use Rattle.reassemble.specs.Enter.{appended}
use Rattle.fragment.specs.declared.Fragmenter.{Fragmenter}
use Rattle.fragment.specs.Cutting.{body_in}
use Rattle.fragment.specs.Step.{Step, packet_for, emitted, step_of}
use Rattle.state.specs.Stack.{Stack, slot_at}
use Rattle.slot.specs.declared.ReceiveHandle.{ReceiveHandle}
use Rattle.receiving.specs.Conclude.{said_of}
use Rattle.receiving.specs.Receive.{Receipt, receive_of}
use Rattle.estack.specs.Basics.{free_tags_of}
use Rattle.promises.specs.Calls.{World, Call, receive, step, receipt}
use Rattle.promises.specs.Delivery.{Message, Delivers, Lawful}
use Rattle.promises.specs.History.{takes}
use Rattle.promises.proofs.Facts.{no_both}
use Rattle.promises.proofs.Gate.{lands_open}
use Rattle.promises.proofs.Outcome.{Took, Outcome, quiet, dropped, took, receive_outcome}
use Rattle.promises.proofs.Fetch.{zero-takes}
use Rattle.promises.proofs.HandOut.{hands_out, one_message}

-- ---- one that refuses all

-- the first packet of a lawful message is taken, and by `hands_out` so is every later one
pub not-refused : (B : ℕ) (K : Key) (typ : MsgType) (ic : MsgIC) (mtu : ℕ) (body p : List ℕ) (ps : List (List ℕ)) (gaps : List (List Call)) (w : World)
    → Lawful B K typ ic mtu body (p ∷ ps) gaps w → takes (receipt B p w).said ≡ true
unfolding Delivers
not-refused B K typ ic mtu body p [] gaps w law = zero-takes (receipt B p w).said (ap answer_no (hands_out B K typ ic mtu body (p ∷ []) gaps w law).told)
not-refused B K typ ic mtu body p (q ∷ ps) gaps w law = zero-takes (receipt B p w).said (ap answer_no (hands_out B K typ ic mtu body (p ∷ q ∷ ps) gaps w law).0)

-- ---- one that hands out the same message always

-- two lawful messages for which one and the same message is handed out are the same in key, type, IC and body
pub not_always_one : (B : ℕ) (K K' : Key) (typ typ' : MsgType) (ic ic' : MsgIC) (mtu mtu' : ℕ) (body body' : List ℕ) (ps ps' : List (List ℕ))
    (gaps gaps' : List (List Call)) (w w' : World)
    → Lawful B K typ ic mtu body ps gaps w → Lawful B K' typ' ic' mtu' body' ps' gaps' w'
    → (m : Message) → Delivers B m ps gaps w → Delivers B m ps' gaps' w'
    → (K ≡ K') × (typ ≡ typ') × (ic ≡ ic') × (body ≡ body')
not_always_one B K K' typ typ' ic ic' mtu mtu' body body' ps ps' gaps gaps' w w' law law' m d d' =
    let e = one_message B ps gaps w _ m (hands_out B K typ ic mtu body ps gaps w law) d
    ∙ one_message B ps' gaps' w' m _ d' (hands_out B K' typ' ic' mtu' body' ps' gaps' w' law') in
    (ap (λ (x : Message). x.key) e, ap (λ (x : Message). x.typ) e, ap (λ (x : Message). x.ic) e, ap (λ (x : Message). x.body) e)

-- ---- one that does nothing

-- a fragmenter that is not done, with room for its header and with its payload, writes its packet
pub writes : (f : Fragmenter) (payload : List ℕ) (n : ℕ) → f.done ≡ false → lead f.first ≤ n → f.payload_used ≤ length payload
    → (step_of f payload n).bytes ≡ packet_for f payload n
unfolding step_of
writes f payload n d r u =
    ap (λ (s : Step). s.bytes)
    (pick_false f.done _ _ d ∙ pick_false (ltb n (lead f.first)) _ _ (le-ltb n (lead f.first) r)
    ∙ pick_false (ltb (length payload) f.payload_used) _ (emitted f payload n) (le-ltb (length payload) f.payload_used u))

said_eom : (b : Bool) (i n : ℕ) (h : ReceiveHandle) → said_of b i n ≡ Ok (Some h) → b ≡ true
said_eom true i n h e = refl
said_eom false i n h e = let z : false ≡ true = cc in z

out_now : (b : Bool) (now : EventStamp) (issue n : ℕ) (s : Reassembler) → b ≡ true → out_state (appended b now issue n s).state ≡ true
unfolding pick
out_now b now issue n s e = rw e

module _ (B : ℕ) (st : Stack) (p : List ℕ) (h : ReceiveHandle) where
  message_took : (r : Receipt) → Outcome B st p r → r.said ≡ Ok (Some h) → (i : ℕ) × (g : Header) × Took B st p r i g
  message_took r (quiet s b n) e = absurd (no_both (takes r.said) (ap takes e) n)
  message_took r (dropped i g read src s b n) e = absurd (no_both (takes r.said) (ap takes e) n)
  message_took r (took i g t) e = (i, g, t)

-- a stack that hands out a message is changed by that
pub changes : (B : ℕ) (p : List ℕ) (w : World) (h : ReceiveHandle) → (receipt B p w).said ≡ Ok (Some h) → (step B (receive p) w).stack ≡ w.stack → ⊥
unfolding step
changes B p w h e same =
    let q = message_took B w.stack p h (receipt B p w) (receive_outcome B w.stack p (length w.pool)) e in
    let i = q.0 in
    let g = q.1 in
    let t : Took B w.stack p (receipt B p w) i g = q.2 in
    let s = appended g.eom t.now t.issue (length (body_in p)) t.base in
    let now : slot_at i w.stack ≡ s =
    ap (λ (x : Stack). slot_at i x) (sym same) ∙ ap (λ (l : List Reassembler). get_or l i blank_slot) t.slots ∙ get_or-set_same w.stack.slots i s blank_slot t.found in
    no_both (out_state (slot_at i w.stack).state)
    (ap (λ (x : Reassembler). out_state x.state) now ∙ out_now g.eom t.now t.issue (length (body_in p)) t.base (said_eom g.eom i t.issue h (sym t.said ∙ e)))
    (lands_open w.stack.slots i g t.source).1

-- ---- one that hands a message out at SOM and merely nods afterwards

-- a packet without EOM, with SOM or not, is never answered with a message, in whatever stack and with whatever pool
pub not_before_eom : (B : ℕ) (st : Stack) (room : ℕ) (p : List ℕ) (g : Header) → header_of p ≡ Some g → g.eom ≡ false
    → (h : ReceiveHandle) → (receive_of B st room p).said ≡ Ok (Some h) → ⊥
not_before_eom B st room p g read n h e =
    let q = message_took B st p h (receive_of B st room p) (receive_outcome B st p room) e in
    let t : Took B st p (receive_of B st room p) q.0 q.1 = q.2 in
    let z : Some g ≡ Some q.1 = sym read ∙ t.read in
    let x : g ≡ q.1 = cc in
    no_both g.eom (ap (λ (y : Header). y.eom) x ∙ said_eom q.1.eom q.0 t.issue h (sym t.said ∙ e)) n

-- ---- one that invents the free tags

-- the free tags that are told are as many as the tags under which no flow of that peer stands
pub told_free : (peer : Eid) (st : Stack) → free_tags_of peer st ≡ count_free (λ t. standing peer (record { 0 = t }) st.flows) 0 8
told_free peer st = free_counts peer st.flows
