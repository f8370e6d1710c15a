-- The link between each call and its step, and the theorems of `promises` for what is performed.
-- Links: call by call. Named: the table of numbers. Traced: many calls are `steps`. Handed, Exact: demand 3's two halves and stale handles. CutRuns: a message
-- cut by calls. Joined: end to end. Starts: from `new`. Instances: the premises can be met.
pub mod Links
pub mod Named
pub mod Traced
pub mod Handed
pub mod CutRuns
pub mod Joined
pub mod Exact
pub mod Starts
pub mod Instances
