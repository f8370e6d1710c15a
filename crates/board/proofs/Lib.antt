-- The laws that programs over the exported calls cite.
pub mod New
