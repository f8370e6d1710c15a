-- The definitions that the contracts of `handles` cite.
-- Handles: docs/RULES.md 76 and 78 to 82, and the deferred lookups, 72 and 73.
-- Leans on `slot` for a slot and the count of handles, on `state` for the stack.
pub mod Handles
