-- What a fragment step leaves in the words that it is lent: the length of its packet, and the fragmenter's row.
-- What every other call leaves is `row_after` of its answer (mctp, Answer); the answers stand in the crates of the calls (`received_as`, `updated_as`, ..).
-- Leans on `mctp` for an answer, on `fragment` for a step's answer, on `Words` for the row after a packet.
use Rattle.std.specs.Prelude.{ℕ, List}
use Rattle.mctp.specs.Answer.{Answer, gives, refuses}
use Rattle.fragment.specs.declared.Fragmenter.{Fragmenter}
use Rattle.fragment.specs.declared.SendOutput.{SendOutput}
use Rattle.fragment.specs.declared.SendOutput.TheVariants.{Packet, Complete, Error as Failed}
use Rattle.rows.specs.Words.{word, advanced_row}

-- the length is the answer's first value; a refusal leaves it as it was
abbrev pub length_after : Answer → ℕ → ℕ
length_after (gives values) old = word 0 values
length_after (refuses n values) old = old

-- only a packet changes the fragmenter's row, and only the words that a packet moves
abbrev pub stepped_after : Fragmenter → SendOutput → List ℕ → List ℕ
stepped_after next (Packet n) old = advanced_row next old
stepped_after next (Complete tag cookie) old = old
stepped_after next (Failed err cookie) old = old
