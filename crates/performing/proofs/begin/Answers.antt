use Rattle.performing.proofs.Starts.{begin_link}
use Rattle.performing.proofs.begin.Goals as goal

pub returns : goal.returns
returns c =
    begin_link _ _ _ _ _ _ c.hyphaloom_new.ensures.said c.hyphaloom_new.ensures.stack
