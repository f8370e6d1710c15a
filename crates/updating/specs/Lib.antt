-- The definitions that the contracts of `updating` cite.
-- Update: docs/RULES.md 69 to 71.
-- Leans on `state` for the clock and the remaining times, on `stamp` for what a check finds.
pub mod Update
