pub mod Laws
pub mod Tells
