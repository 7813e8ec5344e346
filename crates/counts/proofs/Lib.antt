pub mod Laws
pub mod Page
