-- The definitions that the contracts of `slot` cite.
-- Slot: a slot's states and time. Search: which slot of a list. Handle: the number under which a handle goes out.
-- Leans on `mctp` for headers and keys, on `stamp` for time.
pub mod Slot
pub mod Search
pub mod Handle
