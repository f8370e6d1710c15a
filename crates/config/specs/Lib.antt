-- The definitions that the contracts of every crate cite for sizes and times.
-- Config: the numbers.
-- Leans on nothing.
pub mod Config
