-- What the theorems speak of, beside the definitions of `promises`.
-- Staying: which calls name a handle, which end a message that has none out, the flows of a peer and tag, the pool. Packets: the packets of a history.
-- Leans on `promises` for calls and worlds.
pub mod Staying
pub mod Packets
