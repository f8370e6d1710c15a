-- `receive` tests SOM and the packet's length as the definition does, and hands the rest to `accept`. The plan is sound by the definition's own law.
use Rattle.octets.proofs.Tests.{picks}
use Rattle.reassemble.specs.Enter.{enter}
use Rattle.reassemble.proofs.Entries.{told_plan}
use Rattle.reassemble.proofs.receive.Goals as goal

pub returns-then-packet-lt5 : goal.returns-then-packet-lt5
unfolding enter
returns-then-packet-lt5 c = let all = told_plan _ _ _ _ _ c.args.packet.now _ (search picks) in
    record { value = all.0; planned = all.1 }

pub returns-then-h : goal.returns-then-h
unfolding enter
returns-then-h c = let all = told_plan _ _ _ _ _ c.args.packet.now _ (search (picks, c.accept.ensures, c.begin-begun.ensures)) in
    record { value = all.0; planned = all.1 }

pub returns : goal.returns
unfolding enter
returns c = let all = told_plan _ _ _ _ _ c.args.packet.now _ (search (picks, c.accept-2.ensures)) in
    record { value = all.0; planned = all.1 }
