-- The definitions that the contracts of `slot_walks` cite, beside those of `slot` and `state`.
-- SlotWalks: a cancel's sweep, the better of two, what a test computes.
-- Leans on `slot` and `state`.
pub mod SlotWalks
