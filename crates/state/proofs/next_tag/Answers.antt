-- A store of one field in the head's bytes gives the bytes of the head with the next tag counter (`tag_bytes`).
use Prim.Native.Nat.{ℕ, ◌+◌, ◌%◌}
use native.Mathlib.Omega.{arith}
use mathlib.Core.Path.{ap, ◌∙◌}
use Rattle.octets.specs.Bytes.{le, lay}
use Rattle.state.specs.declared.Head.{Head}
use Rattle.state.specs.Head.{head_of, head_bytes}
use Rattle.state.specs.Stack.{stack_of}
use Rattle.state.proofs.HeadLaws.{tag_bytes, tag_ok}
use Rattle.state.proofs.StackLaws.{head_get, head_ok, head_store}
use Rattle.state.proofs.next_tag.Goals as goal

pub returns : goal.returns
unfolding head_of
returns c =
    let x = (stack_of c.args.sizes c.args.state.now).head in
    let e = c.get.ensures ∙ ap (λ (h : Head). h.next_tag) (head_get c.args.sizes c.args.state.now) in
    let n = c.get.result in
    (ap (λ (m : ℕ). (m % 8 + 1) % 8) e, head_store _ _ c.requires (lay 1 (le 1 ((n % 8 + 1) % 8))) _ _ (ap (λ (m : ℕ). lay 1 (le 1 ((m % 8 + 1) % 8)) (head_bytes x)) e ∙ tag_bytes ((x.next_tag % 8 + 1) % 8) x) (tag_ok ((x.next_tag % 8 + 1) % 8) x (omega arith) (head_ok _ _ c.requires)) c.put.ensures)
