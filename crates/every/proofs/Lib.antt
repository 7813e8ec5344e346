pub mod Calls
pub mod Few
pub mod Laws
