-- `copy_body` meets its contract: the lent body is copied over the front of the buffer, as far as it fits.
use Rattle.messages.proofs.Stretches.{front_copied}
use Rattle.messages.proofs.copy_body.Goals as goal

pub returns : goal.returns
returns c =
    let all = front_copied c.args.out.now c.lend_body-body.ensures c.min-n.ensures c.copy.ensures in
    record { count = all.0; bytes = all.1 }
