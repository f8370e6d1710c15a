-- The definitions that the contracts of `kept` cite, beside those of `state`.
-- Tells: a test that answers a question exactly. Ranges: those of a head and of a slot that the widths of the fields do not give.
-- Leans on `state` and `slot`.
pub mod Tells
pub mod Ranges
