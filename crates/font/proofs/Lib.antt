pub mod Laws
pub mod Tables
pub mod Filled
pub mod StandIns
pub mod Texts
pub mod Counts
