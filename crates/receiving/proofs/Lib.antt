-- The laws that receive's proofs share, and that receive has only one outcome.
pub mod Entered
pub mod Receipts
pub mod MiddleLaws
pub mod Pinned
pub mod Ends
