pub mod Placing
pub mod Laws
pub mod Answers
pub mod Boards
