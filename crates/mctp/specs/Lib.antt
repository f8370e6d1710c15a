-- The definitions that the contracts of `mctp` cite.
-- Terms: EIDs, tags, keys, the refusals' numbers. Answer: a call's answer in numbers. Header: the packet on the wire.
-- Leans on `octets` for `pick`.
pub mod Terms
pub mod Answer
pub mod Header
