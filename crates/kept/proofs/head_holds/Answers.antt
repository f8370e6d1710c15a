-- The head is read, and the ranges that its bytes do not give are tested; written out again it equals the block exactly where the block holds a head (`reheld`).
use mathlib.Core.Path.{refl, ◌∙◌}
use Rattle.state.specs.Head.{head_codec}
use Rattle.state.specs.Layout.{head_width}
use Rattle.state.proofs.HeadLaws.{head_lawful}
use Rattle.kept.proofs.TellLaws.{says_no_lem, refuted, shown, slices_tell}
use Rattle.kept.proofs.BlockLaws.{unheld, reheld}
use Rattle.kept.proofs.RangeLaws.{head_ranged, head_tested}
use Rattle.std.proofs.lemmas.Bool.{not_from_true, not_from_false}
use Rattle.kept.proofs.head_holds.Goals as goal

pub returns-then-not-head_ranges : goal.returns-then-not-head_ranges
returns-then-not-head_ranges c =
    says_no_lem (unheld head_codec 0 c.args.state.now c.read_head-h.ensures (λ ok. refuted c.head_ranges.ensures (not_from_false _ c.if-not-head_ranges.true) (head_tested _ ok)))

pub returns : goal.returns
returns c =
    let ok = head_ranged 0 head_width c.args.state.now c.type_inv.state c.read_head-h.ensures (shown c.head_ranges.ensures (not_from_true _ c.if-not-head_ranges.false)) in
    reheld head_codec 0 c.args.state.now c.read_head-h.ensures head_lawful ok _ _ refl (c.as_slice.ensures ∙ c.write_head.ensures) (search slices_tell)
