use Rattle.messages.proofs.Stretches.{lent_part}
use Rattle.messages.proofs.stretch.Goals as goal

pub returns : goal.returns
returns c = lent_part c.args.at c.args.len c.args.bytes.now c.min.ensures c.min-2.ensures
