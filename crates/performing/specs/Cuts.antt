-- Steps of a fragmenter that the caller keeps as a row: calls of `hyphaloom_fragment`, one after another, with the payload lent at each, until the length is 0.
-- And the packets that then lie at the front of the buffers.
-- Leans on `fragment` for a step and its answer, on `rows` for the row.
use Rattle.std.specs.Prelude.{ℕ, ◌≡◌, List, [], ◌∷◌, ◌++◌, eqb, length, take}
use Rattle.octets.specs.Pick.{pick}
use Rattle.octets.specs.Bytes.{over}
use Rattle.mctp.specs.Answer.{answer_no}
use Rattle.fragment.specs.Step.{Step, step_of}
use Rattle.fragment.specs.Answers.{output_as}
use Rattle.rows.specs.Words.{fragmenter_of}
use Rattle.rows.specs.Answers.{length_after, stepped_after}

-- one step as it was made: the buffer and the word for the length that were lent, how they were left, the row afterwards, and what was answered
pub record Cut : Type 0 where
  pub lent : List ℕ
  pub old : ℕ
  pub left : List ℕ
  pub len : ℕ
  pub row : List ℕ
  pub said : ℕ

-- what the step makes of the row w
abbrev pub step_in : List ℕ → List ℕ → Cut → Step
step_in w payload c = step_of (fragmenter_of w) payload (length c.lent)

-- the step was made on the row w: this is what `cut` ensures, and `hyphaloom_fragment` under it
pub record Cuts (w payload : List ℕ) (c : Cut) : Type 0 where
  pub said : c.said ≡ answer_no (output_as (step_in w payload c).result.output)
  pub len : c.len ≡ length_after (output_as (step_in w payload c).result.output) c.old
  pub row : c.row ≡ stepped_after (step_in w payload c).result.next (step_in w payload c).result.output w
  pub left : c.left ≡ over 0 (step_in w payload c).bytes c.lent

-- each step was made on the row that the one before it left; the buffers may be any
unfoldable pub CutRun : List Cut → List ℕ → List ℕ → Type 0
CutRun [] w payload = Unit
CutRun (c ∷ cs) w payload = Cuts w payload c × CutRun cs c.row payload

-- the packet that a step left: where it is answered 0, as many bytes at the front of the buffer as the length says; there is none where the length is 0, and
-- none in a refusal
abbrev pub packet_in : Cut → List (List ℕ)
packet_in c = pick (eqb c.said 0) (pick (eqb c.len 0) [] (take c.len c.left ∷ [])) []

unfoldable pub cut_packets : List Cut → List (List ℕ)
cut_packets [] = []
cut_packets (c ∷ cs) = packet_in c ++ cut_packets cs

-- the last step is answered 0 and length 0: all is sent
unfoldable pub AllSent : List Cut → Type 0
AllSent [] = ⊥
AllSent (c ∷ []) = (c.said ≡ 0) × (c.len ≡ 0)
AllSent (c ∷ d ∷ cs) = AllSent (d ∷ cs)
