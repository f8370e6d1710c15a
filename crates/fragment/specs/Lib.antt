-- The definitions that the contracts and theorems of `fragment` cite.
-- Step: docs/RULES.md 25 to 36, one step. Answers: what it answers in numbers. Cutting: what DSP0236 calls a message in packets. Run: steps until all is sent.
-- Leans on `mctp` for headers.
pub mod Step
pub mod Answers
pub mod Cutting
pub mod Run
