pub mod All
pub mod Calls
pub mod Examples
pub mod Walk
