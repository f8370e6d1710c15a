-- `receive` looks at the pool first, then at the header; a bad one writes nothing.
use Prim.Native.Nat.{ℕ, ◌*◌, ◌≤◌, ◌<◌}
use native.Mathlib.Omega.{arith}
use mathlib.Core.Path.{sym, subst, ◌∙◌}
use lib.ListN.{length}
use Rattle.std.specs.Prelude.{None, Some}
use Rattle.mctp.specs.declared.Error.TheVariants.{PoolShort}
use Rattle.state.specs.Stack.{stack_of}
use Rattle.state.proofs.StackLaws.{slots_length, stays}
use Rattle.receiving.proofs.Entered.{good_low}
use Rattle.state.proofs.SizeLaws.{pool_fits}
use Rattle.receiving.proofs.Receipts.{makes_as, refusal, bad_writes, short_pool, long_pool}
use Rattle.receiving.proofs.receive.Goals as goal

pub overflow_mul-sizes : goal.overflow_mul-sizes
overflow_mul-sizes c = record { fits = pool_fits c.args.sizes c.requires.sizes c.args.sizes.slots (omega arith) }

pub returns-then-pool-sizes : goal.returns-then-pool-sizes
returns-then-pool-sizes c =
    let st = stack_of c.args.sizes c.args.state.now in
    let room = length c.args.pool.now in
    let l = subst (λ (n : ℕ). room < c.args.sizes.body * n) (sym (slots_length c.args.sizes c.args.state.now)) c.if-pool-sizes.true in
    makes_as c.args.sizes _ (sym (short_pool c.args.sizes.body st c.args.packet.now room l)) (refusal c.args.sizes PoolShort c.args.pool.now st (stays c.args.sizes c.args.state.now c.requires))

pub receive_good-requires : goal.receive_good-requires
receive_good-requires c =
    let low = good_low c.args.packet.now c.in-Some.h (sym c.read_header.ensures ∙ c.in-Some.is) in
    (c.requires, low.tag, low.seq, low.long, c.if-pool-sizes.false)

pub receive_bad-requires : goal.receive_bad-requires
receive_bad-requires c = c.requires

pub returns-in-Some : goal.returns-in-Some
returns-in-Some c =
    let st = stack_of c.args.sizes c.args.state.now in
    let room = length c.args.pool.now in
    let l = subst (λ (n : ℕ). c.args.sizes.body * n ≤ room) (sym (slots_length c.args.sizes c.args.state.now)) c.if-pool-sizes.false in
    makes_as c.args.sizes c.receive_good.result (sym (long_pool c.args.sizes.body st c.args.packet.now room (Some c.in-Some.h) l (sym c.read_header.ensures ∙ c.in-Some.is))) c.receive_good.ensures

pub returns-in-None : goal.returns-in-None
returns-in-None c =
    let st = stack_of c.args.sizes c.args.state.now in
    let room = length c.args.pool.now in
    let l = subst (λ (n : ℕ). c.args.sizes.body * n ≤ room) (sym (slots_length c.args.sizes c.args.state.now)) c.if-pool-sizes.false in
    let q = long_pool c.args.sizes.body st c.args.packet.now room None l (sym c.read_header.ensures ∙ c.in-None.is) in
    makes_as c.args.sizes c.receive_bad.result (sym q) (record { said = c.receive_bad.ensures.0; stack = c.receive_bad.ensures.1; bytes = sym (bad_writes c.args.sizes.body st c.args.packet.now c.args.pool.now) })
