-- What a send's start and a step answer in numbers (docs/RULES.md 17); and a fragmenter as a row of numbers.
-- Leans on `mctp` for an answer.
use Rattle.std.specs.Prelude.{ℕ, List, [], ◌∷◌, Result}
use Rattle.mctp.specs.Terms.{error_no, tag_of, is_owner, cookie_no, cookie_value}
use Rattle.mctp.specs.Answer.{Answer, gives, refuses, answer_as, flag_word}
use Rattle.fragment.specs.declared.Fragmenter.{Fragmenter}
use Rattle.fragment.specs.declared.SendOutput.{SendOutput}
use Rattle.fragment.specs.declared.SendOutput.TheVariants.{Packet, Complete, Error as Failed}
use Rattle.mctp.specs.declared.Error.{Error}

-- a fragmenter in numbers: source, destination, type, TO, tag, IC, sequence, MTU, first, done, has a cookie, cookie, bytes sent
abbrev pub words_of : Fragmenter → List ℕ
words_of f =
    f.src.0
    ∷ f.dest.0
    ∷ f.typ.0
    ∷ flag_word (is_owner f.tag)
    ∷ (tag_of f.tag).0
    ∷ flag_word f.ic.0
    ∷ f.seq
    ∷ f.mtu
    ∷ flag_word f.first
    ∷ flag_word f.done
    ∷ cookie_no f.cookie
    ∷ cookie_value f.cookie
    ∷ f.payload_used
    ∷ []

abbrev pub started_as : Result Fragmenter Error → Answer
started_as = answer_as words_of

-- for a packet, 0 and its length; when all is sent, 0, length 0, the tag and the cookie; for a refusal, its number and the cookie. A packet has at least its
-- header's four bytes, so length 0 says that all is sent
abbrev pub output_as : SendOutput → Answer
output_as (Packet n) = gives (n ∷ [])
output_as (Complete tag cookie) = gives (0 ∷ flag_word (is_owner tag) ∷ (tag_of tag).0 ∷ cookie_no cookie ∷ cookie_value cookie ∷ [])
output_as (Failed err cookie) = refuses (error_no err) (cookie_no cookie ∷ cookie_value cookie ∷ [])
