pub mod Laws
pub mod Fonts
pub mod Options
pub mod Whole
pub mod Accepted
pub mod Answer
