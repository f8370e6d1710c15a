-- The definitions that the contracts of `flows` cite.
-- Tags: bits of a byte, and the search. Table: docs/RULES.md 52 to 58. Codec: a flow in bytes.
-- Leans on `octets`, `mctp` and `stamp`.
pub mod Tags
pub mod Table
pub mod Codec
