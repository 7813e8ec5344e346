pub mod Syntax
pub mod Tag
