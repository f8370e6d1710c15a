-- Laws of a test that answers exactly, of a block that is read and written out again, of the ranges that bytes give, and of all blocks of a region.
pub mod TellLaws
pub mod BlockLaws
pub mod RangeLaws
