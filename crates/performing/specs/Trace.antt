-- Calls performed one after another on the same state and pool: each with what it was lent, what it left and what it answered.
-- And a message that is fed so, packet by packet, with other calls between: what is then answered.
-- Leans on `Perform` for one call, on `promises` for what a message is, on `staying` for calls that do not name a handle.
use Rattle.std.specs.Prelude.{ℕ, ◌+◌, ◌≤◌, ◌≡◌, true, List, [], ◌∷◌, ◌++◌, length}
use Rattle.slot.specs.declared.ReceiveHandle.{ReceiveHandle}
use Rattle.slot.specs.Handle.{handle_words}
use Rattle.handles.specs.declared.Message.{Message as Facts}
use Rattle.handles.specs.Handles.{message_words}
use Rattle.promises.specs.Calls.{Call, receive, fetch_message}
use Rattle.promises.specs.Delivery.{Message, read_from, all_of}
use Rattle.staying.specs.Staying.{spares}
use Rattle.performing.specs.Perform.{Lent, Performs}

-- a call as it was made (an empty list where the numbers name no call): what was lent, how it was left, the state's bytes afterwards, and what was answered
pub record Deed : Type 0 where
  pub calls : List Call
  pub lent : Lent
  pub left : Lent
  pub after : List ℕ
  pub said : ℕ

-- it was performed on the bytes b: this is what `perform` ensures of the calls that its numbers name
abbrev pub Done : Deed → List ℕ → Type 0
Done d b = Performs d.calls b d.after d.lent d.left d.said

-- each was performed on the bytes and the pool that the one before it left; the rows and the other buffer may be any
unfoldable pub Trace : List Deed → List ℕ → List ℕ → Type 0
Trace [] b p = Unit
Trace (d ∷ ds) b p = Done d b × ((d.lent.pool ≡ p) × Trace ds d.after d.left.pool)

-- the bytes and the pool at the end
unfoldable pub last_bytes : List Deed → List ℕ → List ℕ
last_bytes [] b = b
last_bytes (d ∷ ds) b = last_bytes ds d.after

unfoldable pub last_pool : List Deed → List ℕ → List ℕ
last_pool [] p = p
last_pool (d ∷ ds) p = last_pool ds d.left.pool

-- the calls of the model
unfoldable pub all_calls : List Deed → List Call
all_calls [] = []
all_calls (d ∷ ds) = d.calls ++ all_calls ds

-- ---- a message that is fed

-- a packet, its receive, and what was performed after it
pub record Fed : Type 0 where
  pub packet : List ℕ
  pub deed : Deed
  pub gap : List Deed

unfoldable pub packets_of : List Fed → List (List ℕ)
packets_of [] = []
packets_of (f ∷ fs) = f.packet ∷ packets_of fs

-- the calls between the packets; those after the last packet are not between
unfoldable pub gaps_of : List Fed → List (List Call)
gaps_of [] = []
gaps_of (f ∷ []) = []
gaps_of (f ∷ g ∷ fs) = all_calls f.gap ∷ gaps_of (g ∷ fs)

-- every packet was received, lent the pool; each call was performed on what the one before it left
unfoldable pub Feeds : List Fed → List ℕ → List ℕ → Type 0
Feeds [] b p = Unit
Feeds (f ∷ fs) b p =
    (f.deed.calls ≡ receive f.packet ∷ [])
    × (Done f.deed b
    × ((f.deed.lent.pool ≡ p)
    × (Trace f.gap f.deed.after f.deed.left.pool
    × Feeds fs (last_bytes f.gap f.deed.after) (last_pool f.gap f.deed.left.pool))))

-- a fetch that was performed is answered 0 and leaves the facts of m in its row; its body lies within the pool, at the place and of the length in the row
pub record Gives (m : Message) (pool : List ℕ) (d : Deed) : Type 0 where
  pub facts : Facts
  pub said : d.said ≡ 0
  pub told : d.left.message ≡ message_words facts
  pub inside : facts.at + facts.len ≤ length pool
  pub message : read_from pool facts ≡ m

-- a packet is answered 0, with a handle in the row whose number is not 0. A fetch with that handle, lent that pool, gives m: at once, and also after any calls
-- performed but a finish, a return or a set cookie under that very handle
pub record HandsOut (m : Message) (d : Deed) : Type 0 where
  pub handle : ReceiveHandle
  pub said : d.said ≡ 0
  pub told : d.left.handle ≡ handle_words handle
  pub number : handle.issue ≡ 0 → ⊥
  pub fetched : (ds : List Deed) → Trace ds d.after d.left.pool → all_of (spares handle) (all_calls ds) ≡ true
      → (e : Deed) → e.calls ≡ fetch_message handle (length (last_pool ds d.left.pool)) ∷ [] → Done e (last_bytes ds d.after)
      → Gives m (last_pool ds d.left.pool) e

-- every packet before the last is answered 0 and issue 0, and the last hands out m
unfoldable pub Answers : Message → List Fed → Type 0
Answers m [] = ⊥
Answers m (f ∷ []) = HandsOut m f.deed
Answers m (f ∷ g ∷ fs) = (f.deed.said ≡ 0) × ((f.deed.left.handle ≡ 0 ∷ 0 ∷ []) × Answers m (g ∷ fs))
