pub mod Bits
pub mod TagLaws
pub mod TableLaws
pub mod CodecLaws
pub mod Figures
