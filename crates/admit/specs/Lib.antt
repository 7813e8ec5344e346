pub mod Admission
pub mod Handed
