-- A flow's first four bytes are whether it is used, its peer and its tag (`flow_word_lem`).
use native.Mathlib.Omega.{arith}
use mathlib.Core.Path.{sym, ap, ◌∙◌}
use Rattle.flows.specs.declared.Flow.{Flow}
use Rattle.flows.specs.Codec.{flow_word}
use Rattle.flows.proofs.CodecLaws.{flow_word_lem}
use Rattle.state.proofs.StackLaws.{flow_ok, flow_past, flow_field}
use Rattle.state.proofs.flow_word_at.Goals as goal

pub returns-then-i-ge-FLOWS : goal.returns-then-i-ge-FLOWS
returns-then-i-ge-FLOWS c =
    sym (ap (λ (x : Flow). flow_word x) (flow_past c.args.sizes c.args.state.now c.requires c.args.i (omega arith)))

pub returns : goal.returns
returns c =
    let i = c.args.i in
    c.get.ensures ∙ flow_field _ _ c.requires i 0 4 (omega arith) ∙ flow_word_lem _ (flow_ok _ _ c.requires i)
