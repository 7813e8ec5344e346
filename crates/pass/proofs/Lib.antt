pub mod Items
pub mod Groups
pub mod Laws
pub mod Read
