-- Demand 3, first half: a lawful message is handed out, exactly, by its last fragment, and by none before it.
-- The first fragment finds a slot, permitted calls leave that slot, and each later fragment finds it again.
use Prim.Native.Nat.{ℕ, ◌+◌, ◌≤◌}
use native.Mathlib.Nat.{zero-add}
use native.Mathlib.Omega.{arith}
use mathlib.Core.Path.{◌≡◌, refl, sym, ap, ◌∙◌}
use mathlib.Core.Bool.{Bool, true, false, ◌&&◌, ◌||◌}
use mathlib.Core.List.{List, [], ◌∷◌, ◌++◌}
use lib.ListN.{length, get_or, length-append}
use Rattle.std.specs.Prelude.{None, Ok, Option, Result}
use Rattle.octets.specs.Pick.{pick}
use Rattle.octets.specs.Find.{find}
use Rattle.mctp.specs.declared.Key.{Key}
use Rattle.mctp.specs.declared.MsgType.{MsgType}
use Rattle.mctp.specs.declared.MsgIC.{MsgIC}
use Rattle.mctp.specs.Header.{type_of}
use Rattle.flows.specs.Table.{standing, flow_cookie}
use Rattle.slot.specs.Slot.{collects}
use Rattle.reassemble.specs.Enter.{opening, opened, gate_reply, gate_empty}
use Rattle.fragment.specs.Cutting.{PacketIs, InTurn, body_in, joined, kind_in}
use Rattle.state.specs.Stack.{slot_at}
use Rattle.handles.specs.Handles.{fetch_of}
use Rattle.handles.specs.declared.Message.{Message as Facts}
use Rattle.promises.specs.Calls.{World, Call, receive, step, steps}
use Rattle.promises.specs.Delivery.{Message, read_from, next_gap, later_gaps, Delivers, collecting, vacancy, cookie_for, Lawful}
use Rattle.promises.proofs.Facts.{no_true}
use Rattle.promises.proofs.Arrive.{Poised}
use Rattle.promises.proofs.Deliver.{headed, delivers_from}
use Rattle.promises.proofs.Begin.{again_poised, fresh_poised}
use Rattle.mctp.specs.declared.AppCookie.{AppCookie}
use Rattle.mctp.specs.declared.Error.{Error}

module _ (B : ℕ) (K : Key) (typ : MsgType) (ic : MsgIC) (mtu : ℕ) (body : List ℕ) (gaps : List (List Call)) (w : World) where
  message : Option AppCookie → Message
  message c = record { key = K; typ = typ; ic = ic; body = body; cookie = c }

  module _ (p : List ℕ) (ps : List (List ℕ)) (law : Lawful B K typ ic mtu body (p ∷ ps) gaps w) where
    number : ℕ
    number = law.carries.start

    small : length (body_in p) ≤ B
    unfolding joined
    small =
        let e : length (body_in p ++ joined ps) ≡ length body = ap length law.carries.body in
        let s : length (body_in p ++ joined ps) ≡ length (body_in p) + length (joined ps) = length-append (body_in p) (joined ps) in
        omega (arith, law.fits)

    kind_is : type_of (get_or p 4 0) ≡ record { typ = typ; ic = ic }
    unfolding kind_in
    kind_is = law.carries.kind

    -- from any slot in which the first fragment can begin
    from : (c : Option AppCookie) (j : ℕ) → ((eom : Bool) → PacketIs K mtu true eom number p → Poised B K typ ic c w.stack.head.now.clock j [] (headed K true eom number) p w)
        → Delivers B (message c) (p ∷ ps) gaps w
    unfolding message number
    from c j o =
        ap_message law.carries.body
        (delivers_from B K typ ic c w.stack.head.now.clock j ps p mtu true number [] gaps w law.carries.turn o (rw (law.carries.body, zero-add) law.fits) law.between)
      where
        ap_message : joined (p ∷ ps) ≡ body → Delivers B (record { key = K; typ = typ; ic = ic; body = joined (p ∷ ps); cookie = c }) (p ∷ ps) gaps w
            → Delivers B (record { key = K; typ = typ; ic = ic; body = body; cookie = c }) (p ∷ ps) gaps w
        ap_message e d = rw e at d

    again : collecting K w.stack ≡ true → Delivers B (message (slot_at (find (collects K) w.stack.slots) w.stack).cookie) (p ∷ ps) gaps w
    again e = from _ _ (λ eom is. again_poised B K typ ic mtu number eom p w is kind_is small law.pool e)

    fresh : collecting K w.stack ≡ false → vacancy w.stack ≡ true → (c : Option AppCookie)
        → ((eom : Bool) → pick K.owner (Ok (opened (headed K true eom number) None))
        (gate_reply (headed K true eom number) (standing K.source K.tag w.stack.flows) (flow_cookie K.source K.tag w.stack.flows))
        ≡ Ok (opened (headed K true eom number) c))
        → Delivers B (message c) (p ∷ ps) gaps w
    unfolding gate_empty gate_reply opening pick
    fresh e f c g = from c _ (λ eom is. fresh_poised B K typ ic mtu number eom p w is kind_is small law.pool e f c (rw (law.dest, law.source) (g eom)))

    out : Delivers B (message (cookie_for K w.stack)) (p ∷ ps) gaps w
    unfolding gate_reply pick
    out = go (collecting K w.stack) (vacancy w.stack) K.owner (standing K.source K.tag w.stack.flows) refl refl refl refl law.begins
      where
        old : Option AppCookie
        old = (slot_at (find (collects K) w.stack.slots) w.stack).cookie

        flow : Option AppCookie
        flow = flow_cookie K.source K.tag w.stack.flows

        go : (a b c d : Bool) → collecting K w.stack ≡ a → vacancy w.stack ≡ b → K.owner ≡ c → standing K.source K.tag w.stack.flows ≡ d
            → a || (b && (c || d)) ≡ true → Delivers B (message (pick a old (pick c None flow))) (p ∷ ps) gaps w
        go true b c d ea eb ec ed y = again ea
        go false false c d ea eb ec ed y = absurd (no_true y)
        go false true true d ea eb ec ed y = fresh ea eb None (λ eom. rw ec)
        go false true false true ea eb ec ed y = fresh ea eb flow (λ eom. rw (ec, ed))
        go false true false false ea eb ec ed y = absurd (no_true y)

-- Demand 3, first half, for every world: if the packets `ps` carry `body` as one message of key K, and the premises of `Lawful` hold at the first of them,
-- then each packet but the last is answered "more" and the last hands out key, type, IC, body and the cookie of rules 42 and 46
pub hands_out : (B : ℕ) (K : Key) (typ : MsgType) (ic : MsgIC) (mtu : ℕ) (body : List ℕ) (ps : List (List ℕ)) (gaps : List (List Call)) (w : World)
    → Lawful B K typ ic mtu body ps gaps w
    → Delivers B (record { key = K; typ = typ; ic = ic; body = body; cookie = cookie_for K w.stack }) ps gaps w
unfolding InTurn message
hands_out B K typ ic mtu body [] gaps w law = absurd law.carries.turn
hands_out B K typ ic mtu body (p ∷ ps) gaps w law = out B K typ ic mtu body gaps w p ps law

-- ---- the corollary

-- one run delivers one message
pub one_message : (B : ℕ) (ps : List (List ℕ)) (gaps : List (List Call)) (w : World) (m m' : Message) → Delivers B m ps gaps w → Delivers B m' ps gaps w → m ≡ m'
unfolding Delivers
one_message B [] gaps w m m' d d' = absurd d
one_message B (p ∷ []) gaps w m m' d d' =
    let e = sym d.told ∙ d'.told in
    let i : d.handle.index ≡ d'.handle.index = cc in
    let n : d.handle.issue ≡ d'.handle.issue = cc in
    let after = step B (receive p) w in
    let fetch : ℕ → ℕ → Result Facts Error = λ j k. fetch_of B (record { index = j; issue = k }) after.stack (length after.pool) in
    let f : Ok d.facts ≡ Ok d'.facts = sym d.fetched ∙ ap (λ (j : ℕ). fetch j d.handle.issue) i ∙ ap (fetch d'.handle.index) n ∙ d'.fetched in
    let g : d.facts ≡ d'.facts = cc in
    sym d.message ∙ ap (read_from after.pool) g ∙ d'.message
one_message B (p ∷ q ∷ ps) gaps w m m' d d' = one_message B (q ∷ ps) (later_gaps gaps) (steps B (next_gap gaps) (step B (receive p) w)) m m' d.1 d'.1

-- two runs of one message from one world, with different permitted calls between, hand out equal messages
pub same_message : (B : ℕ) (K : Key) (typ : MsgType) (ic : MsgIC) (mtu : ℕ) (body : List ℕ) (ps : List (List ℕ)) (gaps gaps' : List (List Call)) (w : World)
    → Lawful B K typ ic mtu body ps gaps w → Lawful B K typ ic mtu body ps gaps' w
    → (m m' : Message) → Delivers B m ps gaps w → Delivers B m' ps gaps' w → m ≡ m'
same_message B K typ ic mtu body ps gaps gaps' w law law' m m' d d' =
    one_message B ps gaps w m _ d (hands_out B K typ ic mtu body ps gaps w law) ∙ one_message B ps gaps' w _ m' (hands_out B K typ ic mtu body ps gaps' w law') d'
