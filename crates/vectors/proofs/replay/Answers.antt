use mathlib.Core.Path.{sym, ◌∙◌}
use Rattle.board.proofs.New.{made_kept}
use Rattle.vectors.proofs.replay.Goals as goal

pub loop-calls-init : goal.loop-calls-init
loop-calls-init c =
    made_kept (record { 0 = 8 }) 64 0 c.args.state.now _ c.hyphaloom_new.ensures.stack (sym c.hyphaloom_new.ensures.said ∙ c.if-hyphaloom_new-ne0.false)
