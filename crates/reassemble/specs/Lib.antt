-- The definitions that the contracts of `reassemble` cite.
-- Enter: docs/RULES.md 40 to 51.
-- Leans on `slot` for a slot, on `mctp` for headers and refusals.
pub mod Enter
