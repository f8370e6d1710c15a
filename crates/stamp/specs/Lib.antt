-- The definitions that the contracts of `stamp` cite.
-- Stamp: events, their order, age and timeouts. Checks: what a check of time finds.
-- Leans on `octets` for `pick`.
pub mod Stamp
pub mod Checks
