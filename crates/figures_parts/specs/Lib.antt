-- The definitions that the contracts of `figures_parts` cite.
-- Figure: a figure's fresh stack, and what a figure sends.
-- Leans on `estack`, `sending` and `board`.
pub mod Figure
