pub mod Within
pub mod Going
pub mod Between
pub mod Agrees
