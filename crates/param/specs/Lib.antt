pub mod Param
