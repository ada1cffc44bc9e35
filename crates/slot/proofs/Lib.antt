pub mod Fetching
pub mod Taking
pub mod Completing
