-- The definitions that the contracts of `estack` cite (docs/RULES.md 59 to 62, 74 and 75).
-- Basics: `new`, EIDs, `cancel_flow`, `free_tags`.
-- Leans on `state` for the stack, on `slot_walks` for a cancel's walk, on `handles` for what a call says.
pub mod Basics
