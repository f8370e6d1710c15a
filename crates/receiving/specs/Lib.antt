-- The definitions that the contract of receive cites.
-- Conclude: what is said of a packet that its slot takes, and what becomes of the flow. Receive: docs/RULES.md 38 to 51 over the whole stack, in their order.
-- Leans on `reassemble` for one slot's part, on `flows` for a reply's flow, on `state` for events.
pub mod Conclude
pub mod Receive
