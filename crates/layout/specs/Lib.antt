pub mod Types
pub mod Fonts
pub mod Read
pub mod Placing
pub mod Listing
pub mod Demand
pub mod Bounds
pub mod Boards
