-- The board's sizes, and a send as the exported call reads it from a row.
-- What the other calls do and answer is defined in `estack` and the crates whose calls it passes on.
-- Leans on `sending` for the send, on `rows` for its row, on `state` for sizes and stack.
use Rattle.std.specs.Prelude.{List, ℕ, Err}
use Rattle.config.specs.Config.{slot_count, max_payload}
use Rattle.octets.specs.Pick.{pick}
use Rattle.mctp.specs.declared.Error.TheVariants.{InvalidInput}
use Rattle.state.specs.declared.Sizes.{Sizes}
use Rattle.state.specs.Stack.{Stack}
use Rattle.sending.specs.Sends.{Sent, unsent, start_send_of}
use Rattle.rows.specs.Words.{good_send, send_of}

-- the board has four slots, and bodies of at most 1,032 bytes
abbrev pub board : Sizes
board = record { slots = slot_count; body = max_payload }

-- a row that is not a good send is InvalidInput, and nothing changes
unfoldable pub start_of : List ℕ → Stack → Sent
start_of w st = pick (good_send w) (start_send_of (send_of w) st) (unsent st (Err InvalidInput))
