-- The definitions that the contracts of `sending` cite.
-- Sends: docs/RULES.md 65 to 68, `start_send`.
-- Leans on `flows`, `fragment`, `state` and `flow_walks`.
pub mod Sends
