-- The count of the handles that have gone out, which the theorem that a stale handle stays stale asks about.
-- It goes up until it comes to 2^64 - 1; there it stays, and the last number goes out again.
-- Leans on `state` for the stack.
use Rattle.std.specs.Prelude.{◌<◌}
use Rattle.state.specs.Stack.{Stack}

-- the count has not come to its end
abbrev pub counting : Stack → Type 0
counting st = st.head.issue < 18446744073709551615
