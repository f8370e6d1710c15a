-- Laws of the walks over the flows: the word that tells which peer and tag a place belongs to, and the next event.
use Prim.Native.Nat.{◌+◌, ◌*◌, ◌<◌, ℕ}
use mathlib.Core.Path.{◌≡◌, sym, ◌∙◌}
use mathlib.Core.List.{List}
use borrow.Author.Tests.{eq-eqb, ne_eqb}
use lib.ListN.{get_or}
use Rattle.octets.specs.Find.{first}
use Rattle.octets.proofs.Bools.{no_both, bool_cases}
use Rattle.octets.proofs.Finds.{first_ext}
use Rattle.mctp.specs.declared.Eid.{Eid}
use Rattle.mctp.specs.declared.TagValue.{TagValue}
use Rattle.flows.specs.declared.Flow.{Flow}
use Rattle.flows.specs.Codec.{FlowOk, flow_word}
use Rattle.flows.specs.Table.{no_flow, is_flow}
use Rattle.flows.proofs.CodecLaws.{word_is, is_word}
use Rattle.state.specs.declared.Sizes.{Sizes}
use Rattle.state.specs.Stack.{Kept, stack_of}
use Rattle.state.proofs.StackLaws.{flow_ok}
use Rattle.flow_walks.specs.FlowWalks.{has_flow_word}

pub word_flow : (peer : Eid) (tag : TagValue) (f : Flow) → FlowOk f → peer.0 < 256 → tag.0 < 256
    → has_flow_word (1 + 256 * (peer.0 + 256 * tag.0)) f ≡ is_flow peer tag f
word_flow peer tag f ok p t =
    bool_cases (is_flow peer tag f)
    (λ y. eq-eqb (flow_word f) (1 + 256 * (peer.0 + 256 * tag.0)) (word_is peer tag f ok y) ∙ sym y)
    (λ n. ne_eqb (flow_word f) (1 + 256 * (peer.0 + 256 * tag.0)) (λ e. no_both (is_word peer tag f ok p t e) n) ∙ sym n)

module _ (z : Sizes) (b : List ℕ) (k : Kept z b) where
  pub word-place : (peer : Eid) (tag : TagValue) → peer.0 < 256 → tag.0 < 256
      → first (has_flow_word (1 + 256 * (peer.0 + 256 * tag.0))) (stack_of z b).flows ≡ first (is_flow peer tag) (stack_of z b).flows
  word-place peer tag p t =
      first_ext (has_flow_word (1 + 256 * (peer.0 + 256 * tag.0))) (is_flow peer tag) (stack_of z b).flows no_flow
      (λ i h. word_flow peer tag (get_or (stack_of z b).flows i no_flow) (flow_ok z b k i) p t)
