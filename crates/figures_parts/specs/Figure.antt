-- A figure's fresh stack: own EID 8, clock 0, with no slot taken and no flow; and the message that a figure sends: type 1 under a fresh tag.
-- What a figure writes is compared with the program's file `stdout`; what it does to the stack's bytes stands in the contracts.
-- Leans on `estack` for a new stack, on `sending` for a send, on `board` for the sizes.
use Rattle.std.specs.Prelude.{ℕ, true, false, None, Option}
use Rattle.state.specs.Stack.{Stack}
use Rattle.sending.specs.declared.Send.{Send}
use Rattle.estack.specs.Basics.{fresh_stack}
use Rattle.board.specs.Board.{board}

abbrev pub bay_stack : ℕ → Stack
bay_stack mtu = fresh_stack board (record { 0 = 8 }) mtu 0

abbrev pub asked : ℕ → Option ℕ → Send
asked peer mtu = record {
  dest = record { 0 = peer };
  typ = record { 0 = 1 };
  tag = None;
  expires = true;
  ic = record { 0 = false };
  mtu = mtu;
  cookie = None;
}
