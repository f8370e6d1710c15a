-- What is shown about the definitions.
pub mod Pinned
