-- The last event's stamp stands in the head: its counter at byte 4, its clock at byte 8.
use mathlib.Core.Path.{◌≡◌, ap, ◌∙◌}
use Rattle.stamp.specs.declared.EventStamp.{EventStamp}
use Rattle.state.specs.declared.Head.{Head}
use Rattle.state.specs.Head.{head_of}
use Rattle.state.proofs.StackLaws.{lent_as, head_get}
use Rattle.state.specs.Layout.{head_width}
use Rattle.state.proofs.now_at.Goals as goal

pub returns : goal.returns
unfolding head_of
returns c =
    let b = c.args.state.now in
    let e : ◌≡◌ {A = EventStamp} (record { clock = c.get-clock.result; counter = c.get-counter.result }) (head_of (lent_as 0 head_width b)).now = cc in
    e ∙ ap (λ (h : Head). h.now) (head_get c.args.sizes b)
