-- The laws of the walks: a search step by step, and a sweep step by step.
pub mod SlotSearch
pub mod SlotChecks
