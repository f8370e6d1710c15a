-- `read_slot` reads each field where `slot_of` says that it lies.
use Rattle.state.specs.Slot.{slot_of}
use Rattle.state.proofs.read_slot.Goals as goal

pub returns : goal.returns
unfolding slot_of
returns c =
    rw (
      c.decode_type_ic-t.ensures,
      c.cookie_of-cookie.ensures,
      c.state_from-state.ensures,
      c.get-7.ensures,
      c.get-6.ensures,
      c.get-5.ensures,
      c.get-4.ensures,
      c.get-3.ensures,
      c.get-clock.ensures,
      c.get-counter.ensures,
      c.get-len.ensures,
      c.get-seq.ensures,
      c.get-o.ensures,
      c.get-2.ensures,
      c.get.ensures,
    )
