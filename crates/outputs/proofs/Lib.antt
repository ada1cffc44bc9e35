pub mod Search
pub mod Writing
pub mod Outputs
pub mod Resolving
