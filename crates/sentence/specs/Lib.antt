pub mod Words
pub mod Sentence
pub mod Recovered
pub mod Examples
