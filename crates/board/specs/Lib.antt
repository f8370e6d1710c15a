-- The definitions that the exported calls' contracts cite, beside those of `rows`, `estack`, `receiving` and `fragment`.
-- Board: the sizes, and a send read from a row.
-- Leans on `state` for sizes and stack, on `sending` for the send, on `rows` for its row.
pub mod Board
