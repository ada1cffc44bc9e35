pub mod Sizes
pub mod Distances
