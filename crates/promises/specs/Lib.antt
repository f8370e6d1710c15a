-- What the theorems speak of, beside the definitions that the contracts cite.
-- Calls: a world and a call in it. Delivery, History: demand 3's two halves. Figures: the table of docs/RULES.md, section 11. Refusals, RefusalTable: when each
-- is given, what it leaves, and that each is met. Stale: the count of handles.
-- Leans on the definitions of `estack`, `receiving` and `fragment`.
pub mod Calls
pub mod Delivery
pub mod History
pub mod Figures
pub mod Stale
pub mod Refusals
pub mod RefusalTable
