-- The laws that callers cite.
pub mod States
pub mod Searches
pub mod HandleLaws
