pub mod Shapes
pub mod Outcomes
