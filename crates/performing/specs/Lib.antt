-- The definitions that the contracts of `performing` cite.
-- Perform: a call in numbers and bytes, and what performing it makes of what is lent. Trace: many, one after another. Cuts: steps of a fragmenter's row.
-- Leans on `promises` for a call, its step and its answer.
pub mod Perform
pub mod Trace
pub mod Cuts
