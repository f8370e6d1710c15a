-- So far the first i flow places are regular; one that is not makes the answer no (`blocks_not`).
use Prim.Native.Nat.{◌≤◌}
use Rattle.config.specs.Config.{flow_count}
use Rattle.octets.specs.Region.{Regular}
use Rattle.flows.specs.Codec.{flow_codec}
use Rattle.state.specs.Layout.{flows_at}
use Rattle.kept.proofs.flows_hold.Given as goal

abbrev pub invariant-loop-i : goal.invariant-loop-i
invariant-loop-i l = (l.i ≤ flow_count) × Regular flow_codec l.i flows_at l.state
