pub mod Kinds
pub mod Phases
pub mod Text
