-- The row and the length come first, by the plan, and then the packet: a plan that is carried out is the step.
use mathlib.Core.Path.{ap, ◌∙◌}
use lib.ListN.{length}
use Rattle.fragment.specs.declared.Fragmented.{Fragmented}
use Rattle.fragment.proofs.Plans.{step-told}
use Rattle.rows.specs.Words.{fragmenter_of}
use Rattle.mctp.specs.Answer.{answer_no}
use Rattle.fragment.specs.Answers.{output_as}
use Rattle.rows.specs.Answers.{length_after, stepped_after}
use Rattle.board.proofs.calls.hyphaloom_fragment.Goals as goal

pub returns : goal.returns
returns c =
    let e = step-told (fragmenter_of c.args.fragmenter.now) c.args.payload.now (length c.args.out.now) (rw c.fragmenter_of-f.ensures at c.plan-plan.ensures.plan) (rw c.fragmenter_of-f.ensures at c.next.ensures) c.output.ensures in record {
      said = c.put_step-said.ensures.value ∙ ap (λ (x : Fragmented). answer_no (output_as x.output)) e;
      length = c.put_step-said.ensures.len_after ∙ ap (λ (x : Fragmented). length_after (output_as x.output) c.args.len.now) e;
      fragmenter = c.put_step-said.ensures.fragmenter_after ∙ ap (λ (x : Fragmented). stepped_after x.next x.output c.args.fragmenter.now) e;
      packet = rw c.fragmenter_of-f.ensures at c.write.ensures;
    }
