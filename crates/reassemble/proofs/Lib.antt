-- The laws that callers cite.
pub mod Entries
pub mod Figures
