-- The laws of the walks: which peer and tag a place belongs to, and the parts of a send's flow.
pub mod FlowLaws
pub mod FlowSends
