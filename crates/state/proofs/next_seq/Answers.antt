-- A store of one field in the head's bytes gives the bytes of the head with the next sequence (`seq_bytes`).
use Prim.Native.Nat.{ℕ, ◌+◌, ◌%◌}
use mathlib.Core.Path.{ap, ◌∙◌}
use Rattle.octets.specs.Bytes.{le, lay}
use Rattle.state.specs.declared.Head.{Head}
use Rattle.state.specs.Head.{head_of, head_bytes}
use Rattle.state.specs.Stack.{stack_of}
use Rattle.state.proofs.HeadLaws.{seq_bytes, seq_ok}
use Rattle.state.proofs.StackLaws.{head_get, head_ok, head_store}
use Rattle.state.proofs.next_seq.Goals as goal

pub returns : goal.returns
unfolding head_of
returns c =
    let x = (stack_of c.args.sizes c.args.state.now).head in
    let e = c.get.ensures ∙ ap (λ (h : Head). h.next_seq) (head_get c.args.sizes c.args.state.now) in
    let n = c.get.result in
    (ap (λ (m : ℕ). (m % 4 + 1) % 4) e, head_store _ _ c.requires (lay 2 (le 2 ((n % 4 + 1) % 4))) _ _ (ap (λ (m : ℕ). lay 2 (le 2 ((m % 4 + 1) % 4)) (head_bytes x)) e ∙ seq_bytes x) (seq_ok x (head_ok _ _ c.requires)) c.put.ensures)
