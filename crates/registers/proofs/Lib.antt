pub mod Outcomes
pub mod Fits
