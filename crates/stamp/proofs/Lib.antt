-- The laws that other crates cite.
pub mod Order
pub mod Least
