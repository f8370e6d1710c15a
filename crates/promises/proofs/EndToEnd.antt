-- Cutting and joining end to end: what a fragmenter from `new` writes to its end, with packet buffers of any sizes and the body lent at every step, is handed
-- out as that message. `hands_out` holds for any packets that carry the body; `cuts` shows that the fragmenter's do.
use Prim.Native.Nat.{ℕ, ◌*◌, ◌≤◌}
use mathlib.Core.Path.{◌≡◌}
use mathlib.Core.Bool.{true, false}
use mathlib.Core.List.{List}
use lib.ListN.{length}
use Rattle.std.specs.Prelude.{Ok, Option}
use Rattle.mctp.specs.declared.Eid.{Eid}
use Rattle.mctp.specs.declared.MsgType.{MsgType}
use Rattle.mctp.specs.declared.MsgIC.{MsgIC}
use Rattle.mctp.specs.declared.Tag.{Tag}
use Rattle.mctp.specs.Terms.{key_under, same_eid, any_eid}
use Rattle.reassemble.specs.Enter.{is_local}
use Rattle.fragment.specs.declared.Fragmenter.{Fragmenter}
use Rattle.fragment.specs.Step.{new_of}
use Rattle.fragment.specs.Run.{written, after}
use Rattle.fragment.proofs.Cuts.{cuts}
use Rattle.promises.specs.Calls.{World, Call, permitted}
use Rattle.promises.specs.Delivery.{Delivers, ready, cookie_for, all_of}
use Rattle.promises.proofs.HandOut.{hands_out}
use Rattle.mctp.specs.declared.AppCookie.{AppCookie}

module _ (typ : MsgType) (src dest : Eid) (tag : Tag) (mtu : ℕ) (cookie : Option AppCookie) (ic : MsgIC) (seq : ℕ) where
  -- f comes from `new`, and the body is cut to its end. The source is not 255, the destination is 0 or the own EID, the body has at most B bytes, there is a
  -- slot for it, the pool is long enough, and only permitted calls come between
  pub cut_and-joined : (f : Fragmenter) → new_of typ src dest tag mtu cookie ic seq ≡ Ok f
      → (body buffers : List ℕ) → (after f body buffers).done ≡ true
      → (B : ℕ) (gaps : List (List Call)) (w : World)
      → length body ≤ B
      → same_eid src any_eid ≡ false
      → is_local w.stack.head.own_eid dest ≡ true
      → ready (key_under src dest tag) w.stack ≡ true
      → B * length w.stack.slots ≤ length w.pool
      → all_of (all_of (permitted (key_under src dest tag) w.stack.head.now.clock)) gaps ≡ true
      → Delivers B (record { key = key_under src dest tag; typ = typ; ic = ic; body = body; cookie = cookie_for (key_under src dest tag) w.stack })
      (written f body buffers) gaps w
  cut_and-joined f new body buffers done B gaps w fits source local begins pool between =
      hands_out B (key_under src dest tag) typ ic mtu body (written f body buffers) gaps w
      (record { carries = cuts typ src dest tag mtu cookie ic seq body buffers new done; fits = fits; source = source; dest = local; begins = begins; pool = pool; between = between })
