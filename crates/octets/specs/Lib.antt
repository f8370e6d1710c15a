-- The definitions that the contracts and theorems of all crates cite.
-- Pick: a choice by a test. Find: the first that passes. Bytes: numbers and parts. Region: blocks of equal width.
-- Leans on the toolchain's library alone.
pub mod Pick
pub mod Find
pub mod Bytes
pub mod Region
