-- `find_collecting` looks for the number of its key: a slot has that number exactly where it collects under the key. No slot is kept under a tag above 7.
use mathlib.Core.Path.{◌≡◌, ap, ◌∙◌}
use mathlib.Core.Bool.{true}
use native.Mathlib.Omega.{arith}
use mathlib.Core.List.{List}
use Prim.Native.Nat.{ℕ, ◌<◌}
use lib.ListN.{get_or, length}
use Rattle.std.specs.Prelude.{None}
use Rattle.octets.specs.Find.{find, first}
use Rattle.octets.proofs.Bools.{fails}
use Rattle.octets.proofs.Finds.{first_ext, find_none, placed_none}
use Rattle.mctp.specs.declared.Key.{Key}
use Rattle.slot.specs.declared.Reassembler.{Reassembler}
use Rattle.slot.specs.Slot.{blank_slot, collects}
use Rattle.slot.proofs.States.{collects_key}
use Rattle.state.specs.declared.Sizes.{Sizes}
use Rattle.state.specs.Slot.{word_of, SlotOk}
use Rattle.state.specs.Stack.{stack_of, Kept}
use Rattle.state.proofs.StackLaws.{slot_ok}
use Rattle.state.proofs.Words.{KeyOk, word-collects}
use Rattle.slot_walks.specs.SlotWalks.{has_word}
use borrow.Author.Rules.{rules}
use Rattle.slot_walks.proofs.find_collecting.Goals as goal

other_tag : (B : ℕ) (s : Reassembler) (k : Key) → SlotOk B s → 7 < k.tag.0 → collects k s ≡ true → ⊥
other_tag B s k ok h e = let t = ok.tag in let q = ap (λ (x : Key). x.tag.0) (collects_key k s e) in omega arith

same-first : (z : Sizes) (b : List ℕ) (k : Key) → Kept z b → KeyOk k → first (has_word (word_of 1 k)) (stack_of z b).slots ≡ first (collects k) (stack_of z b).slots
same-first z b k kept ok =
    first_ext (has_word (word_of 1 k)) (collects k) (stack_of z b).slots blank_slot
    (λ i h. word-collects z.body (get_or (stack_of z b).slots i blank_slot) k (slot_ok z b kept i) ok)

no-such-tag : (z : Sizes) (b : List ℕ) (k : Key) → Kept z b → 7 < k.tag.0 → None ≡ first (collects k) (stack_of z b).slots
no-such-tag z b k kept h =
    let l = (stack_of z b).slots in
    let e = find_none (collects k) l blank_slot (λ i m. fails _ (λ e. other_tag z.body (get_or l i blank_slot) k (slot_ok z b kept i) h e)) in
    placed_none (length l) (find (collects k) l) (omega (arith, e))

pub returns-then-key-gt7 : goal.returns-then-key-gt7
returns-then-key-gt7 c =
    no-such-tag c.args.sizes c.args.state.now c.args.key c.requires c.if-key-gt7.true

pub returns : goal.returns
returns c =
    let z = c.args.sizes in
    let b = c.args.state.now in
    let k = c.args.key in
    let ok : KeyOk k = record { dest = search rules; source = search rules; tag = search rules } in
    c.find_word.ensures ∙ ap (λ (w : ℕ). first (has_word w) (stack_of z b).slots) c.word_of.ensures ∙ same-first z b k c.requires ok
