-- The definitions of the state in lent bytes.
-- Layout: where each part lies. Head, Slot: their codecs. Stack: what the bytes hold, the premise `Kept`, a store's `Becomes`. Times: what time its records have.
-- Leans on `octets` for blocks, on `flows` and `slot` for the records.
pub mod Layout
pub mod Head
pub mod Slot
pub mod Stack
pub mod Times
