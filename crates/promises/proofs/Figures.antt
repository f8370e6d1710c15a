-- The figures: the definitions give what docs/RULES.md, section 11, says, all by computation.
use mathlib.Core.Path.{refl}
use mathlib.Core.List.{[], ◌∷◌}
use Rattle.octets.specs.Pick.{pick}
use Rattle.octets.specs.Find.{find}
use Rattle.octets.specs.Bytes.{part, over}
use Rattle.mctp.specs.Terms.{same_key, same_bool}
use Rattle.mctp.specs.Header.{header_of}
use Rattle.stamp.specs.Stamp.{next, clocked, expired, timeout_of}
use Rattle.flows.specs.Tags.{bits_of, free_tag_of}
use Rattle.flows.specs.Table.{is_flow, new_flow, insert_flow, with_tag, fresh_flow, set_flow, faded_flow}
use Rattle.slot.specs.Slot.{faded_slot}
use Rattle.slot.specs.Search.{slot_for}
use Rattle.reassemble.specs.Enter.{is_local, opening, gate, gate_empty, enter, append}
use Rattle.fragment.specs.Step.{new_of, step_of}
use Rattle.fragment.specs.Run.{written}
use Rattle.stamp.specs.Checks.{least_left, any_expired}
use Rattle.slot.specs.Handle.{next_issue}
use Rattle.receiving.specs.Receive.{land, receive_at, receive_by, receive_of}
use Rattle.sending.specs.Sends.{owned_tag, tag_for, send_as, start_send_of}
use Rattle.updating.specs.Update.{checked, update_of}
use Rattle.promises.specs.Calls.{step}
use Rattle.promises.specs.Figures.{tags, table, four_lost, Given}

-- the definitions give every figure of the table
pub figures : Given table
unfolding tags pick find part over header_of next clocked expired timeout_of bits_of free_tag_of is_flow new_flow insert_flow with_tag fresh_flow set_flow faded_flow faded_slot slot_for is_local opening gate gate_empty enter append new_of step_of written least_left any_expired next_issue land receive_at receive_by receive_of send_as owned_tag tag_for start_send_of checked update_of step
figures = (refl, (refl, (refl, (refl, (refl, (refl, (refl, (refl, (refl, (refl, (refl, tt)))))))))))

-- and four lost packets are not noticed
pub loss_unseen : Given (four_lost ∷ [])
unfolding pick find part over header_of same_key same_bool next slot_for is_local opening gate gate_empty enter append next_issue land receive_at receive_by receive_of step
loss_unseen = (refl, tt)
