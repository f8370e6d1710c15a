-- The flow is read and its tag is tested; written out again it equals the block exactly where the block holds a flow (`reheld`).
use mathlib.Core.Path.{refl, ◌∙◌}
use native.Mathlib.Omega.{arith}
use Rattle.octets.proofs.Froms.{from_read}
use Rattle.flows.specs.Table.{no_flow}
use Rattle.flows.specs.Codec.{flow_of, flow_codec, flow_width}
use Rattle.flows.proofs.CodecLaws.{flow_lawful}
use Rattle.kept.proofs.TellLaws.{says_no_lem, slices_tell}
use Rattle.kept.proofs.BlockLaws.{unheld, reheld}
use Rattle.kept.proofs.RangeLaws.{flow_ranged}
use borrow.Author.Rules.{rules}
use Rattle.kept.proofs.flow_holds.Goals as goal

pub returns-then-f-gt7 : goal.returns-then-f-gt7
returns-then-f-gt7 c =
    says_no_lem (unheld flow_codec c.args.at c.args.state.now (from_read flow_of no_flow c.args.at flow_width c.args.state.now c.requires c.flow_from-f.ensures) (λ ok. let t = ok.tag in omega arith))

pub returns : goal.returns
returns c =
    let e = from_read flow_of no_flow c.args.at flow_width c.args.state.now c.requires c.flow_from-f.ensures in
    let ok = flow_ranged c.args.at flow_width c.args.state.now c.type_inv.state e (search rules) in
    reheld flow_codec c.args.at c.args.state.now e flow_lawful ok _ _ refl (c.as_slice.ensures ∙ c.write_flow.ensures) (search slices_tell)
