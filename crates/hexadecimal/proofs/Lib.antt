pub mod Filling
pub mod Digits
