-- The laws that callers cite.
pub mod SlotLaws
pub mod HeadLaws
pub mod StackLaws
pub mod Words
pub mod Fresh
pub mod Steps
pub mod SizeLaws
pub mod PartLoops
pub mod Cookies
