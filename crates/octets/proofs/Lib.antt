-- The laws that the proofs of all crates cite.
pub mod Tests
pub mod Bools
pub mod Finds
pub mod Each
pub mod Part
pub mod Froms
pub mod Number
pub mod Region
