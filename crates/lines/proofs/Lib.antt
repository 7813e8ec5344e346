pub mod Lists
pub mod Feet
pub mod Laws
