-- `write_slot` stores the slot's row, in two parts, over the front (`slot_rows`).
use Rattle.state.proofs.SlotLaws.{slot_rows}
use Rattle.state.proofs.write_slot.Goals as goal

pub returns : goal.returns
returns c =
    rw (
      c.write_rest.ensures,
      c.write_lead.ensures,
      c.issue_no.ensures,
      c.cookie_value.ensures,
      c.cookie_no.ensures.0,
      c.owner_tag.ensures,
      c.phase.ensures,
      c.encode_type_ic-kind.ensures,
    ) (slot_rows c.args.s c.args.b.now)
