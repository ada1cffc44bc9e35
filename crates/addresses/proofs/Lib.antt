pub mod Lengths
pub mod Words
