pub mod Sign
pub mod Given
pub mod Reading
pub mod Accepted
pub mod Examples
