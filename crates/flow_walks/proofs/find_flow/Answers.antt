-- `find_flow` meets its contract: the word of a place says whether the place belongs to that peer and tag.
use Rattle.flow_walks.proofs.FlowLaws.{word-place}
use native.Mathlib.Omega.{arith}
use mathlib.Core.Path.{◌∙◌}
use Rattle.flow_walks.proofs.find_flow.Goals as goal

pub returns : goal.returns
returns c =
    c.find_flow_word.ensures ∙ word-place c.args.sizes c.args.state.now c.requires c.args.peer c.args.tag (omega arith) (omega arith)
