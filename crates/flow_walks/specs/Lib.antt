-- The definitions that the contracts of `flow_walks` cite, beside those of `flows` and `state`.
-- FlowWalks: the table that a send looks at, in the stack.
-- Leans on `flows` and `state`.
pub mod FlowWalks
