pub mod Laws
pub mod Bridge
pub mod Groups
